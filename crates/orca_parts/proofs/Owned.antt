-- The blocks of the objects of actors.
use Rattle.std.proofs.Common.{arith, ne_eqb, ◌≡◌, ℕ, zero, suc, ◌<◌, Bool, true, false, cond, eq-eqb, eqb-true, List, [], ◌∷◌, Option, Some, None, IsSome, refl, sym, ap, subst, ◌∙◌, inl}
use Rattle.std.specs.Prelude.{◌==◌, ◌||◌, filter, is_some, option_map, slice_get}
use Rattle.std.specs.Option.{option_map_or}
use Rattle.std.specs.List.Sorted.{IsStrictlySortedBy}
use Rattle.std.specs.Ordering.{nat_cmp}
use Rattle.std.proofs.lemmas.Bool.Decides.{nat_tests}
use Rattle.detector_tokens.proofs.RisingLemmas.{AllAbove, first_above}
use Rattle.letter_kinds.specs.Detector.{has}
use Rattle.std.specs.FinMap as m
use Rattle.std.proofs.lemmas.Cmp.{nat_cmp_total}
use Rattle.std.proofs.lemmas.List.{length-map}
use Rattle.std.proofs.lemmas.Option.{slice_get-map}
use Rattle.plain_list.proofs.Rising.{value_at_place}
use Rattle.orca_names.specs.declared.names.ObjName.{ObjName}
use Rattle.orca_names.specs.declared.names.Thing.{Thing}
use Rattle.orca_names.specs.declared.names.Thing.TheVariants.{Obj}
use Rattle.orca_names.specs.declared.trace.Trace.{Trace}
use Rattle.block_table.specs.Blocks.{Blocks}
use Rattle.letter_kinds.specs.Holdings.{Row, has_own}
use Rattle.machine_rules.specs.Actors.{Seat, seat_at}
use Rattle.object_heap.specs.Heap.{Has, Heap, block_at, own_block, own_row}
use Rattle.actor_cell.specs.Tells.{AllIn}
use Rattle.local_sweep.specs.Plan.{free_of, is_freed, object_named}
use Rattle.row_blocks.specs.Blocks.{free_if, without}
use Rattle.actor_cell.specs.declared.cell.Cell.{Cell}
use Rattle.actor_cell.specs.Cells.{as_cell}
use Rattle.actor_table.specs.declared.slot.Place.TheVariants.{Home}
use Rattle.actor_table.specs.declared.slot.Slot.{Slot}
use Rattle.actor_table.specs.Slots.{actors_of, slot_at}
use Rattle.actor_table.specs.Telling.{PlaceLies, PlaceTells, TableTells}
use Rattle.orca_parts.specs.Blocks.{BlocksFit, OwnFit}
use Rattle.orca_parts.proofs.Giving.{seat_here}

-- ---- the cell of an actor at home

-- it tells of its own objects
told_own : (slots : List Slot) (a : ℕ) (c : Cell) → (slot_at slots a).place ≡ Home c → (n : ObjName) (row : Row) (block : ℕ)
    → own_row c.heap n ≡ Some row → own_block c.heap n ≡ Some block → TableTells slots n row block
told_own slots a c home n row block its lies = (a, inl (subst (λ p. PlaceTells p n row block) (sym home) (inl (its, lies))))

-- an object of its that is left has its row there
own_there : (c : Cell) (n : ObjName) → n.owner ≡ c.heap.owner → has_own (as_cell c).holdings (Obj n) ≡ true → IsSome (own_row c.heap n)
unfolding has_own
own_there c n mine left =
    subst (λ t. IsSome (cond t (option_map (λ e. e.0) (m.get c.heap.rows n.serial)) None)) (sym (eq-eqb n.owner c.heap.owner mine)) (by (m.get c.heap.rows n.serial) left)
  where
    by : (o : Option (Row × ℕ)) → is_some o ≡ true → IsSome (option_map (λ e. e.0) o)
    by None some = some
    by (Some e) some = refl

-- where all of them lie in blocks, each does
all_lie : (c : Cell) → AllIn c.heap → (n : ObjName) (row : Row) → own_row c.heap n ≡ Some row → IsSome (own_block c.heap n)
all_lie c all n row = by (n.owner == c.heap.owner)
  where
    there : (o : Option (Row × ℕ)) → option_map (λ e. e.0) o ≡ Some row → IsSome o
    there None is = cc
    there (Some e) is = refl

    by : (t : Bool) → cond t (option_map (λ e. e.0) (m.get c.heap.rows n.serial)) None ≡ Some row → IsSome (cond t (block_at c.heap.blocks n.serial) None)
    by true is = all n.serial (there (m.get c.heap.rows n.serial) is)
    by false is = cc

-- so its rows lie in the blocks of its objects
pub own_fit : (trace : Trace) (blocks : Blocks) (slots : List Slot) (a : ℕ) (c : Cell) → BlocksFit trace blocks slots
    → (slot_at slots a).place ≡ Home c → c.heap.owner ≡ a → OwnFit blocks c
own_fit trace blocks slots a c fit home its = record {
  lie = λ some. record {
    lie = all_lie c (subst PlaceLies home (fit.lie some a));
    kept = λ n row block here lies. fit.kept n row block (told_own slots a c home n row block here lies);
    once = fit.once;
  };
  there = λ k n has mine.
      let left = fit.left k n has in
      let seat = sym left.present ∙ ap (λ b. seat_at (actors_of slots) b) (mine ∙ its) ∙ seat_here slots a c home in
      own_there c n mine (subst (λ (x : Seat). has_own x.cell.holdings (Obj n) ≡ true)
      (ap (λ o. option_map_or (λ (x : Seat). x) o left.seat) seat) left.kept);
}

-- ---- once other blocks were given back

-- who has a block then had it before, and does not go
pub had_block : (gone : ObjName → Bool) (blocks : Blocks) (k : ℕ) (n : ObjName) → slice_get (without gone blocks) k ≡ Some (Some n)
    → (slice_get blocks k ≡ Some (Some n)) × (gone n ≡ false)
had_block gone blocks k n has = by (slice_get blocks k) (sym (slice_get-map (free_if gone) blocks k) ∙ has)
  where
    which : (x : ObjName) (t : Bool) → gone x ≡ t → cond t None (Some x) ≡ Some n → (x ≡ n) × (gone x ≡ false)
    which x true goes is = cc
    which x false stays is = (cc, stays)

    by : (o : Option (Option ObjName)) → option_map (free_if gone) o ≡ Some (Some n) → (o ≡ Some (Some n)) × (gone n ≡ false)
    by None is = cc
    by (Some None) is = cc
    by (Some (Some x)) is =
        let its = which x (gone x) refl cc in
        ((λ i. Some (Some (its.0 i))), sym (ap gone its.0) ∙ its.1)

-- who does not go keeps its block
pub keeps_block : (gone : ObjName → Bool) (blocks : Blocks) (k : ℕ) (n : ObjName) → slice_get blocks k ≡ Some (Some n) → gone n ≡ false
    → slice_get (without gone blocks) k ≡ Some (Some n)
keeps_block gone blocks k n has stays =
    slice_get-map (free_if gone) blocks k ∙ ap (option_map (free_if gone)) has ∙ ap (λ t. Some (cond t None (Some n))) stays

-- so do the objects of another actor
pub still_own : (gone : ObjName → Bool) (blocks : Blocks) (c : Cell) → OwnFit blocks c → ((n : ObjName) → n.owner ≡ c.heap.owner → gone n ≡ false)
    → OwnFit (without gone blocks) c
still_own gone blocks c fit stays = record {
  lie = λ some.
      let own = fit.lie (subst (λ n. 0 < n) (length-map blocks (free_if gone)) some) in
      record {
        lie = own.lie;
        kept = λ n row block here lies. keeps_block gone blocks block n (own.kept n row block here lies) (stays n (mine n row here));
        once = λ j k n one two. own.once j k n (had_block gone blocks j n one).0 (had_block gone blocks k n two).0;
      };
  there = λ k n has its. fit.there k n (had_block gone blocks k n has).0 its;
}
  where
    mine : (n : ObjName) (row : Row) → own_row c.heap n ≡ Some row → n.owner ≡ c.heap.owner
    mine n row = by (n.owner == c.heap.owner) refl
      where
        by : (t : Bool) → (n.owner == c.heap.owner) ≡ t → cond t (option_map (λ e. e.0) (m.get c.heap.rows n.serial)) None ≡ Some row → n.owner ≡ c.heap.owner
        by true is here = eqb-true n.owner c.heap.owner is
        by false is here = cc

-- ---- the blocks of several that go

-- none
pub without_none : (gone : ObjName → Bool) (blocks : Blocks) → ((n : ObjName) → gone n ≡ false) → without gone blocks ≡ blocks
without_none gone [] none = refl
without_none gone (None ∷ blocks) none = ap (λ later. None ∷ later) (without_none gone blocks none)
without_none gone (Some n ∷ blocks) none = λ i. cond (none n i) None (Some n) ∷ without_none gone blocks none i

-- these, and then those
pub without_then : (one two both : ObjName → Bool) (blocks : Blocks) → ((n : ObjName) → both n ≡ (one n || two n))
    → without two (without one blocks) ≡ without both blocks
without_then one two both [] is = refl
without_then one two both (None ∷ blocks) is = ap (λ later. None ∷ later) (without_then one two both blocks is)
without_then one two both (Some n ∷ blocks) is = λ i. by (one n) (two n) (both n) refl (is n) i ∷ without_then one two both blocks is i
  where
    by : (p q r : Bool) → two n ≡ q → r ≡ (p || q) → free_if two (cond p None (Some n)) ≡ cond r None (Some n)
    by true q r its e = sym (ap (λ t. cond t None (Some n)) e)
    by false q r its e = ap (λ t. cond t None (Some n)) (its ∙ sym e)

-- ---- the objects that a sweep frees

-- one that is left by a filter was there
filtered : {X : Type 0} (p : X → Bool) (xs : List X) (i : ℕ) (x : X) → slice_get (filter p xs) i ≡ Some x → (j : ℕ) × (slice_get xs j ≡ Some x)
filtered p [] i x is = cc
filtered p (y ∷ xs) i x is = by (p y) i (λ k here. filtered p xs k x here) is
  where
    by : (t : Bool) (k : ℕ) → ((k : ℕ) → slice_get (filter p xs) k ≡ Some x → (j : ℕ) × (slice_get xs j ≡ Some x))
        → slice_get (cond t (y ∷ filter p xs) (filter p xs)) k ≡ Some x → (j : ℕ) × (slice_get (y ∷ xs) j ≡ Some x)
    by true zero later here = (0, here)
    by true (suc k) later here = let found = later k here in (suc found.0, found.1)
    by false k later here = let found = later k here in (suc found.0, found.1)

-- they are own objects
pub freed_there : (marked : Thing → Bool) (heap : Heap) (i : ℕ) (n : ObjName) → slice_get (free_of marked heap) i ≡ Some n → Has heap n
freed_there marked heap i n is = by (slice_get (filter (is_freed marked heap.owner) (m.entries heap.rows)) i) refl
    (sym (slice_get-map (λ e. object_named heap.owner e.0) (filter (is_freed marked heap.owner) (m.entries heap.rows)) i) ∙ is)
  where
    by : (o : Option (ℕ × (Row × ℕ))) → slice_get (filter (is_freed marked heap.owner) (m.entries heap.rows)) i ≡ o
        → option_map (λ e. object_named heap.owner e.0) o ≡ Some n → Has heap n
    by None at its = cc
    by (Some e) at its =
        let found = filtered (is_freed marked heap.owner) (m.entries heap.rows) i e at in
        let name : object_named heap.owner e.0 ≡ n = cc in
        subst (Has heap) name (record { owner = refl; there = subst IsSome (sym (value_at_place nat_cmp_total heap.rows found.0 e found.1)) refl })

-- ---- one member after another

pub first_member : (m : ℕ) (later : List ℕ) → has (m ∷ later) m ≡ true
first_member m later = ap (λ t. t || has later m) (eq-eqb m m refl)

pub later_member : (m : ℕ) (later : List ℕ) (a : ℕ) → has later a ≡ true → has (m ∷ later) a ≡ true
later_member m later a among = by (m == a) (has later a) among
  where
    by : (p q : Bool) → q ≡ true → (p || q) ≡ true
    by true q is = refl
    by false q is = is

-- the objects of the first go, and then those of the others
pub member_given : (m : ℕ) (later : List ℕ) (blocks : Blocks)
    → without (λ n. has later n.owner) (without (λ n. n.owner == m) blocks) ≡ without (λ n. has (m ∷ later) n.owner) blocks
member_given m later blocks =
    without_then (λ n. n.owner == m) (λ n. has later n.owner) (λ n. has (m ∷ later) n.owner) blocks (λ n. ap (λ t. t || has later n.owner) (same m n.owner))
  where
    same : (a b : ℕ) → (a == b) ≡ (b == a)
    same a b = grind (arith, nat_tests)

-- nobody's go at the end
pub all_given : (members : List ℕ) (blocks : Blocks) → members ≡ [] → without (λ n. has members n.owner) blocks ≡ blocks
all_given members blocks none = without_none (λ n. has members n.owner) blocks (λ n. ap (λ ms. has ms n.owner) none)

-- those behind the first are above it
above_has : (m a : ℕ) (later : List ℕ) → AllAbove m later → has later a ≡ true → m < a
above_has m a [] above among = cc
above_has m a (x ∷ later) above among = by (x == a) refl (λ one. above_has m a later above.1 one) among
  where
    by : (t : Bool) → (x == a) ≡ t → (has later a ≡ true → m < a) → (t || has later a) ≡ true → m < a
    by true is below one = let same = eqb-true x a is in let first : m < x = above.0 in omega arith
    by false is below one = below one

-- the rows of the others lie in blocks still
pub others_fit : (m : ℕ) (later : List ℕ) (a : ℕ) (blocks : Blocks) (c : Cell) → IsStrictlySortedBy nat_cmp (m ∷ later) → has later a ≡ true
    → c.heap.owner ≡ a → OwnFit blocks c → OwnFit (without (λ n. n.owner == m) blocks) c
others_fit m later a blocks c rising among its fit =
    still_own (λ n. n.owner == m) blocks c fit (λ n mine. ne_eqb n.owner m (λ same.
    let above = above_has m a later (first_above m later rising) among in
    omega (arith, same, mine ∙ its)))
