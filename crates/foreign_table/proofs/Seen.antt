-- Entries as they are kept, and as they are seen: rows in blocks are those that are remembered.
use Rattle.std.proofs.Common.{◌≡◌, ◌≢◌, ℕ, zero, suc, ◌+◌, ◌-◌, ◌<◌, ◌≤◌, Bool, true, false, cond, List, [], ◌∷◌, length, get_or, map, take, drop, Option, Some, None, IsSome, refl, sym, ap, subst, ◌∙◌, arith}
use Rattle.std.specs.Prelude.{is_some, not, option_and_then, option_map}
use Rattle.std.specs.Cmp.{eq_by_cmp_equiv}
use Rattle.std.specs.declared.cmp.Ordering.TheVariants.{Equal}
use Rattle.std.specs.List.{sum_by}
use Rattle.std.specs.FinMap as m
use Rattle.std.proofs.lemmas.Bool.{false≢true}
use Rattle.std.proofs.lemmas.List.{get_or_default, length-drop, length-take-le}
use Rattle.std.proofs.lemmas.List.Sums.{sum_by-cons}
use Rattle.letter_kinds.specs.Counting.{Amount}
use Rattle.letter_kinds.specs.Holdings.{Row, entry_count, entry_row}
use Rattle.orca_names.specs.Names.{is_thing, thing_cmp}
use Rattle.orca_names.specs.declared.names.ObjName.{ObjName}
use Rattle.orca_names.specs.declared.names.Thing.{Thing}
use Rattle.orca_names.specs.declared.names.Thing.TheVariants.{Actor, Obj}
use Rattle.orca_names.specs.declared.names.Value.{Value}
use Rattle.orca_names.proofs.ThingOrder.{is_same, thing_exact, thing_total}
use Rattle.plain_list.proofs.Rising.{value_at_place}
use Rattle.row_store.specs.Lent.{IsLent}
use Rattle.row_store.specs.Standing.{AreRemembered}
use Rattle.row_store.specs.declared.lent.Lent.{Lent}
use Rattle.row_store.specs.Told.{Lying, thing_row}
use Rattle.foreign_table.specs.Back.{given_up, goes_back, with_kept}
use Rattle.foreign_table.specs.Entry.{FollowFrom, block_in, len_in, len_of, lies_in, lying_of, pair_of}
use Rattle.foreign_table.specs.Mapped.{mapped}
use Rattle.foreign_table.specs.Table.{AllHere, AreRecalled, DoRise, IsSame, Kept, Table, block_at, block_seen, count_on, count_values, counted, entered, kept_in, known_block, known_row, length_aside, no_table, on_actor, on_actors, row_seen, seen, seen_by, values_at, without}
use Rattle.foreign_table.specs.declared.search.Entry.{Entry}
use Rattle.foreign_table.specs.declared.search.Place.{Place}
use Rattle.foreign_table.specs.declared.search.Place.TheVariants.{Here, In}
use Rattle.foreign_table.proofs.Entries.{as_row_length, entry_here, keys_here}
use Rattle.foreign_table.proofs.Mapped.{get-mapped, insert_same, keys-mapped, len-mapped, mapped-empty, mapped-insert, mapped-kept, mapped-more, mapped-remove}
use Rattle.foreign_table.proofs.Rows.{all_of, lengths}

-- ---- of one thing

module _ (memory : ObjName → Option Row) (a b : ℕ) (kept : Kept) (x : Thing) where
  module _ (v : ℕ × Lying) (there : m.get kept x ≡ Some v) where
    pub entry_seen : m.get (mapped (seen memory) kept) x ≡ Some (v.0, row_seen memory x v.1)
    entry_seen = get-mapped (seen memory) kept x ∙ ap (option_map (seen memory x)) there

    pub place_seen : block_at (mapped block_seen kept) x ≡ v.1.block
    place_seen = ap (option_and_then (λ o. o)) (get-mapped block_seen kept x ∙ ap (option_map (block_seen x)) there)

    pub count_seen : count_on (seen_by memory a b kept) x ≡ v.0
    count_seen = ap entry_count entry_seen

    pub values_seen : values_at (seen_by memory a b kept) x ≡ length_aside (row_seen memory x v.1) v.1.block
    values_seen = (λ j. length_aside (entry_row (entry_seen j)) (place_seen j))

  module _ (none : m.get kept x ≡ None) where
    pub entry_none : m.get (mapped (seen memory) kept) x ≡ None
    entry_none = get-mapped (seen memory) kept x ∙ ap (option_map (seen memory x)) none

    pub place_none : block_at (mapped block_seen kept) x ≡ None
    place_none = ap (option_and_then (λ o. o)) (get-mapped block_seen kept x ∙ ap (option_map (block_seen x)) none)

    pub values_none : values_at (seen_by memory a b kept) x ≡ 0
    values_none = (λ j. length_aside (entry_row (entry_none j)) (place_none j))

-- the values of a row that lie aside are those of its entry
aside_at : (memory : ObjName → Option Row) (x : Thing) (vs : List Value) (first : ℕ) (place : Place) → first + len_in place ≤ length vs
    → length_aside (row_seen memory x (lying_of (take (len_in place) (drop first vs)) (block_in place))) (block_in place) ≡ len_in place
aside_at memory x vs first (Here n) within = as_row_length (take n (drop first vs)) ∙ length-take-le n (drop first vs) (omega (arith, within, length-drop first vs))
aside_at memory x vs first (In block) within = refl

-- an entry that stands at its place
module _ (memory : ObjName → Option Row) (a b : ℕ) (vs : List Value) (es : List Entry) (h : DoRise es) (x : Thing) (e : Entry) (there : m.get (kept_in vs es) x ≡ Some (e.count, lies_in vs e)) where
  pub values_there : e.first + len_of e ≤ length vs → values_at (seen_by memory a b (kept_in vs es)) x ≡ len_of e
  values_there within = values_seen memory a b (kept_in vs es) x (e.count, lies_in vs e) there ∙ aside_at memory x vs e.first e.place within

-- its row, as it is lent
pub lent_seen : (memory : ObjName → Option Row) (vs values : List Value) (e : Entry) (x : Thing) → values ≡ vs → e.thing ≡ x → (lent : Lent)
    → ((IsSome (block_in e.place) → IsSome (thing_row memory e.thing)) → IsLent (row_seen memory e.thing (lies_in values e)) (block_in e.place) lent)
    → (IsSome (block_in e.place) → IsSome (thing_row memory x))
    → IsLent (row_seen memory x (lies_in vs e)) (block_in e.place) lent
lent_seen memory vs values e x same key lent its there =
    subst (λ (p : Thing × List Value). IsLent (row_seen memory p.0 (lies_in p.1 e)) (block_in e.place) lent) (λ j. (key j, same j))
    (its (subst (λ y. IsSome (block_in e.place) → IsSome (thing_row memory y)) (sym key) there))

-- ---- the values of all rows

summed : (f : Thing → ℕ) (es : List Entry) → ((i : ℕ) (d : Entry) → i < length es → f (get_or es i d).thing ≡ len_of (get_or es i d)) → sum_by f (map (λ (e : Entry). e.thing) es) ≡ lengths es
summed f [] each = refl
summed f (e ∷ es) each =
    let first = each 0 e (omega arith) in
    let rest = summed f es (λ i d l. each (suc i) d (omega arith)) in
    omega (arith, first, rest, sum_by-cons f e.thing (map (λ (e : Entry). e.thing) es), sum_by-cons len_of e es)

within_all : (at end : ℕ) (es : List Entry) → FollowFrom at es end → (i : ℕ) (d : Entry) → i < length es → (get_or es i d).first + len_of (get_or es i d) ≤ end
within_all at end [] f i d l = absurd (omega arith)
within_all at end (e ∷ es) f zero d l = omega (arith, f.0, all_of (at + len_of e) end es f.2)
within_all at end (e ∷ es) f (suc i) d l = within_all (at + len_of e) end es f.2 i d (omega arith)

module _ (memory : ObjName → Option Row) (a b : ℕ) (vs : List Value) (es : List Entry) (h : DoRise es) (f : FollowFrom 0 es (length vs)) where
  each_counted : (i : ℕ) (d : Entry) → i < length es → values_at (seen_by memory a b (kept_in vs es)) (get_or es i d).thing ≡ len_of (get_or es i d)
  each_counted i d l =
      let e = get_or es i d in
      let there = value_at_place thing_total (kept_in vs es) i (pair_of vs e) (entry_here vs es h i e l (get_or_default es i d e l)) in
      values_there memory a b vs es h e.thing e there (within_all 0 (length vs) es f i d l)

  -- they are those that are there
  pub all_counted : count_values (seen_by memory a b (kept_in vs es)) ≡ length vs
  all_counted =
      let whole = all_of 0 (length vs) es f in
      let all : lengths es ≡ length vs = omega arith in
      ap (sum_by (values_at (seen_by memory a b (kept_in vs es)))) (keys-mapped (seen memory) (kept_in vs es) ∙ keys_here vs es h)
      ∙ summed (values_at (seen_by memory a b (kept_in vs es))) es each_counted ∙ all

-- ---- what is written, as it is seen

module _ (memory later : ObjName → Option Row) (x : Thing) (others : (q : Thing) → q ≢ x → thing_row later q ≡ thing_row memory q)
    (a b c d : ℕ) (kept now : Kept) where
  same_seen : (q : Thing) → q ≢ x → (w : ℕ × Lying) → seen later q w ≡ seen memory q w
  same_seen q apart w = ap (λ (row : Option Row). (w.0, cond (is_some w.1.block) row w.1.row)) (others q apart)

  module _ (n : ℕ) (row : Option Row) (block : Option ℕ) (l : Lying) (row_is : row_seen later x l ≡ row) (block_is : l.block ≡ block) (put : now ≡ m.insert kept x (n, l)) where
    entries_put : mapped (seen later) now ≡ m.insert (mapped (seen memory) kept) x (n, row)
    entries_put = ap (mapped (seen later)) put ∙ mapped-more (seen memory) (seen later) kept x (n, l) same_seen ∙ ap (λ r. m.insert (mapped (seen memory) kept) x (n, r)) row_is

    blocks_put : mapped block_seen now ≡ m.insert (mapped block_seen kept) x block
    blocks_put = ap (mapped block_seen) put ∙ mapped-insert block_seen kept x (n, l) ∙ ap (m.insert (mapped block_seen kept) x) block_is

  -- where there was an entry
  module _ (change : ℕ → ℕ) (row : Option Row) (block : Option ℕ) (l : Lying) (row_is : row_seen later x l ≡ row) (block_is : l.block ≡ block) where
    pub entered_present : (v : ℕ × Lying) → m.get kept x ≡ Some v → now ≡ m.insert kept x (change v.0, l)
        → c ≡ a → d ≡ b + values_at (seen_by memory a b kept) x - length_aside row block
        → seen_by later c d now ≡ entered change x row block (seen_by memory a b kept)
    entered_present v there put spare values =
        let seen_there : is_some (m.get (mapped (seen memory) kept) x) ≡ true = ap is_some (entry_seen memory a b kept x v there) in
        let room : c ≡ a - cond (is_some (m.get (mapped (seen memory) kept) x)) 0 1 = (let zero : c ≡ a - 0 = omega (arith, spare) in zero) ∙ ap (λ e. a - cond e 0 1) (sym seen_there) in
        let entries = entries_put (change v.0) row block l row_is block_is put ∙ ap (λ n. m.insert (mapped (seen memory) kept) x (change n, row)) (sym (count_seen memory a b kept x v there)) in
        let blocks = blocks_put (change v.0) row block l row_is block_is put in
        λ j. record { spare = room j; spare_values = values j; entries = entries j; blocks = blocks j }

    -- and where there was none
    pub entered_absent : m.get kept x ≡ None → now ≡ m.insert kept x (change 0, l)
        → c ≡ a - 1 → d ≡ b - length_aside row block
        → seen_by later c d now ≡ entered change x row block (seen_by memory a b kept)
    entered_absent none put spare values =
        let seen_none = entry_none memory a b kept x none in
        let room : c ≡ a - cond (is_some (m.get (mapped (seen memory) kept) x)) 0 1 = spare ∙ ap (λ o. a - cond (is_some o) 0 1) (sym seen_none) in
        let aside : d ≡ b + values_at (seen_by memory a b kept) x - length_aside row block = omega (arith, values, values_none memory a b kept x none) in
        let entries = entries_put (change 0) row block l row_is block_is put ∙ ap (λ o. m.insert (mapped (seen memory) kept) x (change (entry_count o), row)) (sym seen_none) in
        let blocks = blocks_put (change 0) row block l row_is block_is put in
        λ j. record { spare = room j; spare_values = aside j; entries = entries j; blocks = blocks j }

  -- what lies in blocks stays remembered
  pub put_recalled : (n : ℕ) (l : Lying) → now ≡ m.insert kept x (n, l) → AreRecalled memory kept → (IsSome l.block → IsSome (thing_row later x)) → AreRecalled later now
  put_recalled n l put recalled its q v there lies = either (is_thing q x) (is_same q x) (λ other e. false≢true (sym other ∙ ap (λ y. is_thing q y) (sym e) ∙ (eq_by_cmp_equiv thing_total).refl q))
      (sym (m.get-insert thing_total kept x (n, l) q) ∙ ap (λ k. m.get k q) (sym put) ∙ there)
    where
      either : (e : Bool) → (e ≡ true → q ≡ x) → (e ≡ false → q ≢ x) → cond e (Some (n, l)) (m.get kept q) ≡ Some v → IsSome (thing_row later q)
      either true same_one other is =
          let same : (n, l) ≡ v = cc in
          subst (λ y. IsSome (thing_row later y)) (sym (same_one refl)) (its (subst (λ (w : ℕ × Lying). IsSome w.1.block) (sym same) lies))
      either false same_one other is = subst IsSome (sym (others q (other refl))) (recalled q v is lies)

-- the count alone is changed
module _ (memory : ObjName → Option Row) (change : ℕ → ℕ) (x : Thing) (a b : ℕ) (kept now : Kept) (v : ℕ × Lying) (there : m.get kept x ≡ Some v) (put : now ≡ m.insert kept x (change v.0, v.1)) where
  block_there : m.get (mapped block_seen kept) x ≡ Some v.1.block
  block_there = get-mapped block_seen kept x ∙ ap (option_map (block_seen x)) there

  entries_counted : mapped (seen memory) now ≡ m.insert (mapped (seen memory) kept) x (change v.0, row_seen memory x v.1)
  entries_counted = ap (mapped (seen memory)) put ∙ mapped-insert (seen memory) kept x (change v.0, v.1)

  blocks_counted : mapped block_seen now ≡ mapped block_seen kept
  blocks_counted = ap (mapped block_seen) put ∙ mapped-insert block_seen kept x (change v.0, v.1) ∙ insert_same (mapped block_seen kept) x v.1.block block_there

  pub counted_seen : seen_by memory a b now ≡ counted change x (seen_by memory a b kept)
  counted_seen =
      let is = entry_seen memory a b kept x v there in
      let entries = entries_counted ∙ (λ j. m.insert (mapped (seen memory) kept) x (change (entry_count (sym is j)), entry_row (sym is j))) in
      λ j. record { spare = a; spare_values = b; entries = entries j; blocks = blocks_counted j }

  -- and its row and block are as they were
  pub counted_entered : seen_by memory a b now ≡ (let t = seen_by memory a b kept in entered change x (entry_row (m.get t.entries x)) (block_at t.blocks x) t)
  counted_entered =
      let t = seen_by memory a b kept in
      let is = entry_seen memory a b kept x v there in
      let spare : a ≡ a - cond (is_some (m.get (mapped (seen memory) kept) x)) 0 1 = (let zero : a ≡ a - 0 = omega arith in zero) ∙ ap (λ o. a - cond (is_some o) 0 1) (sym is) in
      let values : b ≡ b + values_at t x - values_at t x = omega arith in
      let entries = entries_counted ∙ (λ j. m.insert (mapped (seen memory) kept) x (change (entry_count (sym is j)), entry_row (sym is j))) in
      let blocks = blocks_counted ∙ sym (insert_same (mapped block_seen kept) x v.1.block block_there) ∙ ap (m.insert (mapped block_seen kept) x) (sym (place_seen memory a b kept x v there)) in
      λ j. record { spare = spare j; spare_values = values j; entries = entries j; blocks = blocks j }

-- ---- what goes

module _ (memory : ObjName → Option Row) (a b c d : ℕ) (kept now : Kept) where
  pub without_seen : (x : Thing) → now ≡ m.remove kept x → c ≡ a + 1 → d ≡ b + values_at (seen_by memory a b kept) x → seen_by memory c d now ≡ without x (seen_by memory a b kept)
  without_seen x less spare values =
      let entries = ap (mapped (seen memory)) less ∙ mapped-remove (seen memory) kept x in
      let blocks = ap (mapped block_seen) less ∙ mapped-remove block_seen kept x in
      λ j. record { spare = spare j; spare_values = values j; entries = entries j; blocks = blocks j }

  pub less_recalled : (x : Thing) → now ≡ m.remove kept x → AreRecalled memory kept → AreRecalled memory now
  less_recalled x less recalled q v there lies = either (is_thing q x) (sym (m.get-remove thing_total kept x q) ∙ ap (λ k. m.get k q) (sym less) ∙ there)
    where
      either : (e : Bool) → cond e None (m.get kept q) ≡ Some v → IsSome (thing_row memory q)
      either true is = cc
      either false is = recalled q v is lies

  module _ (p : Thing → Bool) (stay : now ≡ m.retain_keys kept p) where
    alike : (q x : Thing) → thing_cmp q x ≡ Equal → p x ≡ p q
    alike q x e = ap p (sym (thing_exact q x e))

    pub stay_recalled : AreRecalled memory kept → AreRecalled memory now
    stay_recalled recalled q v there lies = either (p q) (sym (m.get-retain_keys kept p q (alike q)) ∙ ap (λ k. m.get k q) (sym stay) ∙ there)
      where
        either : (e : Bool) → cond e (m.get kept q) None ≡ Some v → IsSome (thing_row memory q)
        either true is = recalled q v is lies
        either false is = cc

  module _ (back : List (ℕ × List Amount)) (stay : now ≡ m.retain_keys kept (λ x. not (goes_back back x))) where
    pub kept_is : (e f : ℕ) → seen_by memory e f now ≡ with_kept back (seen_by memory e f kept)
    kept_is e f =
        let entries = ap (mapped (seen memory)) stay ∙ mapped-kept (seen memory) kept (λ x. not (goes_back back x)) in
        let blocks = ap (mapped block_seen) stay ∙ mapped-kept block_seen kept (λ x. not (goes_back back x)) in
        λ j. record { spare = e; spare_values = f; entries = entries j; blocks = blocks j }

    pub given_seen : c ≡ a + (m.len kept - m.len now) → d ≡ b + (count_values (seen_by memory a b kept) - count_values (seen_by memory a b now))
        → seen_by memory c d now ≡ given_up back (seen_by memory a b kept)
    given_seen spare values =
        let t = seen_by memory a b kept in
        let room : c ≡ a + (m.len (mapped (seen memory) kept) - m.len (mapped (seen memory) now)) = omega (arith, spare, len-mapped (seen memory) kept, len-mapped (seen memory) now) in
        (λ j. record { spare = room j; spare_values = values j; entries = mapped (seen memory) now; blocks = mapped block_seen now })
        ∙ ap (λ (k : Table). record k { spare = t.spare + (m.len t.entries - m.len k.entries); spare_values = t.spare_values + (count_values t - count_values k) }) (kept_is a b)

-- ---- of all

pub no_kept : (memory : ObjName → Option Row) (a b : ℕ) (kept : Kept) → kept ≡ m.empty → a ≡ 0 → b ≡ 0 → seen_by memory a b kept ≡ no_table
no_kept memory a b kept none spare values =
    let entries = ap (mapped (seen memory)) none ∙ mapped-empty (seen memory) in
    let blocks = ap (mapped block_seen) none ∙ mapped-empty block_seen in
    λ j. record { spare = spare j; spare_values = values j; entries = entries j; blocks = blocks j }

pub none_recalled : (memory : ObjName → Option Row) (kept : Kept) → kept ≡ m.empty → AreRecalled memory kept
none_recalled memory kept none x v there lies = absurd (false≢true (ap is_some (sym (ap (λ k. m.get k x) none ∙ m.get-empty thing_cmp x) ∙ there)))

pub actors_seen : (memory : ObjName → Option Row) (ps : List (Thing × (ℕ × Lying))) → on_actors (map (λ (e : Thing × (ℕ × Lying)). (e.0, seen memory e.0 e.1)) ps) ≡ on_actors ps
actors_seen memory [] = refl
actors_seen memory (e ∷ ps) = ap (on_actor e.0 e.1.0) (actors_seen memory ps)

-- rows that lie in blocks are remembered
module _ (memory : ObjName → Option Row) (a b : ℕ) (kept : Kept) (recalled : AreRecalled memory kept) where
  both : (n : ObjName) (o : Option (ℕ × Lying)) → m.get kept (Obj n) ≡ o
      → IsSome (option_and_then (λ p. p) (option_map (block_seen (Obj n)) o))
      → IsSome (entry_row (option_map (seen memory (Obj n)) o)) × (memory n ≡ entry_row (option_map (seen memory (Obj n)) o))
  both n None is lies = absurd (false≢true lies)
  both n (Some v) is lies =
      let row : row_seen memory (Obj n) v.1 ≡ memory n = ap (λ e. cond e (memory n) v.1.row) lies in
      (subst IsSome (sym row) (recalled (Obj n) v is lies), sym row)

  row_of : (n : ObjName) → known_row (seen_by memory a b kept) n ≡ entry_row (option_map (seen memory (Obj n)) (m.get kept (Obj n)))
  row_of n = ap entry_row (get-mapped (seen memory) kept (Obj n))

  block_of : (n : ObjName) → known_block (seen_by memory a b kept) n ≡ option_and_then (λ p. p) (option_map (block_seen (Obj n)) (m.get kept (Obj n)))
  block_of n = ap (option_and_then (λ p. p)) (get-mapped block_seen kept (Obj n))

  pub are_remembered : AreRemembered (known_row (seen_by memory a b kept)) (known_block (seen_by memory a b kept)) memory
  are_remembered = record {
    there = λ n lies. subst IsSome (sym (row_of n)) (both n (m.get kept (Obj n)) refl (subst IsSome (block_of n) lies)).0;
    same = λ n lies. (both n (m.get kept (Obj n)) refl (subst IsSome (block_of n) lies)).1 ∙ sym (row_of n);
  }

  -- an actor has no row, and so none that lies in a block
  actor_here : (q : ℕ) (o : Option (ℕ × Lying)) → m.get kept (Actor q) ≡ o → option_and_then (λ p. p) (option_map (block_seen (Actor q)) o) ≡ None
  actor_here q None is = refl
  actor_here q (Some v) is = by v.1.block refl
    where
      by : (block : Option ℕ) → v.1.block ≡ block → block ≡ None
      by None lies = refl
      by (Some block) lies = absurd (false≢true (recalled (Actor q) v is (subst IsSome (sym lies) refl)))

  -- where nothing tells of a row that it lies in a block, none does
  pub untold_here : ((n : ObjName) (row : Row) (block : ℕ)
      → (known_row (seen_by memory a b kept) n ≡ Some row) × (known_block (seen_by memory a b kept) n ≡ Some block) → ⊥)
      → AllHere (seen_by memory a b kept)
  untold_here nothing (Actor q) = ap (option_and_then (λ p. p)) (get-mapped block_seen kept (Actor q)) ∙ actor_here q (m.get kept (Actor q)) refl
  untold_here nothing (Obj n) = by (known_block (seen_by memory a b kept) n) refl
    where
      told : (block : ℕ) → known_block (seen_by memory a b kept) n ≡ Some block → (r : Option Row) → known_row (seen_by memory a b kept) n ≡ r → IsSome r → ⊥
      told block lies None is some = false≢true some
      told block lies (Some row) is some = nothing n row block (is, lies)

      by : (o : Option ℕ) → known_block (seen_by memory a b kept) n ≡ o → o ≡ None
      by None lies = refl
      by (Some block) lies = absurd (told block lies (known_row (seen_by memory a b kept) n) refl (are_remembered.there n (subst IsSome (sym lies) refl)))

-- ---- tables none of whose rows lies in a block

here_of : (x : Thing) (o : Option (ℕ × Lying)) → option_and_then (λ p. p) (option_map (block_seen x) o) ≡ None → (v : ℕ × Lying) → o ≡ Some v → v.1.block ≡ None
here_of x None none v is = cc
here_of x (Some w) none v is = let same : w ≡ v = cc in ap (λ (u : ℕ × Lying). u.1.block) (sym same) ∙ none

module _ (memory later : ObjName → Option Row) (a b c d : ℕ) (kept others : Kept) (here : AllHere (seen_by memory a b kept)) where
  kept_here : (x : Thing) (v : ℕ × Lying) → m.get kept x ≡ Some v → v.1.block ≡ None
  kept_here x v there = here_of x (m.get kept x) (sym (ap (option_and_then (λ p. p)) (get-mapped block_seen kept x)) ∙ here x) v there

  -- it does not matter what is remembered
  either : (x : Thing) (o : Option (ℕ × Lying)) → ((v : ℕ × Lying) → o ≡ Some v → v.1.block ≡ None) → option_map (seen memory x) o ≡ option_map (seen later x) o
  either x None none = refl
  either x (Some v) none = let b = none v refl in (λ j. Some (v.0, cond (is_some (b j)) (thing_row memory x) v.1.row)) ∙ (λ j. Some (v.0, cond (is_some (sym b j)) (thing_row later x) v.1.row))

  pub same_seen_here : kept ≡ others → IsSame (seen_by memory a b kept) (seen_by later c d others)
  same_seen_here same = (
    m.same_map thing_total thing_exact _ _ (λ q. get-mapped (seen memory) kept q ∙ either q (m.get kept q) (kept_here q) ∙ sym (get-mapped (seen later) kept q)) ∙ ap (mapped (seen later)) same,
    ap (mapped block_seen) same,
  )

  -- what is seen tells what is kept
  back_again : (x : Thing) (o p : Option (ℕ × Lying)) → ((v : ℕ × Lying) → o ≡ Some v → v.1.block ≡ None)
      → option_map (seen memory x) o ≡ option_map (seen later x) p → option_map (block_seen x) o ≡ option_map (block_seen x) p → o ≡ p
  back_again x None None none e f = refl
  back_again x None (Some w) none e f = cc
  back_again x (Some v) None none e f = cc
  back_again x (Some v) (Some w) none e f =
      let one : v.1.block ≡ None = none v refl in
      let blocks : v.1.block ≡ w.1.block = cc in
      let other : w.1.block ≡ None = sym blocks ∙ one in
      let both : seen memory x v ≡ seen later x w = cc in
      let count : v.0 ≡ w.0 = ap (λ (u : ℕ × Option Row). u.0) both in
      let row : v.1.row ≡ w.1.row = (λ j. cond (is_some (sym one j)) (thing_row memory x) v.1.row) ∙ ap (λ (u : ℕ × Option Row). u.1) both ∙ (λ j. cond (is_some (other j)) (thing_row later x) w.1.row) in
      λ j. Some (count j, record { row = row j; block = blocks j })

  pub same_kept_here : IsSame (seen_by memory a b kept) (seen_by later c d others) → kept ≡ others
  same_kept_here same = m.same_map thing_total thing_exact _ _ (λ q. back_again q (m.get kept q) (m.get others q) (kept_here q)
      (sym (get-mapped (seen memory) kept q) ∙ ap (λ t. m.get t q) same.0 ∙ get-mapped (seen later) others q)
      (sym (get-mapped block_seen kept q) ∙ ap (λ t. m.get t q) same.1 ∙ get-mapped block_seen others q))

-- where no row lies in a block, the blocks follow from the entries
module _ (memory : ObjName → Option Row) (a b : ℕ) (kept : Kept) (here : AllHere (seen_by memory a b kept)) where
  nowhere : (x : Thing) (o : Option (ℕ × Lying)) → ((v : ℕ × Lying) → o ≡ Some v → v.1.block ≡ None)
      → ◌≡◌ {A = Option (Option ℕ)} (option_map (block_seen x) o) (option_map (λ e. None) (option_map (seen memory x) o))
  nowhere x None none = refl
  nowhere x (Some v) none = ap Some (none v refl)

  pub blocks_follow : (x : Thing) → m.get (mapped block_seen kept) x ≡ option_map (λ e. None) (m.get (mapped (seen memory) kept) x)
  blocks_follow x = get-mapped block_seen kept x
      ∙ nowhere x (m.get kept x) (kept_here memory memory a b a b kept kept here x)
      ∙ ap (option_map (λ e. None)) (sym (get-mapped (seen memory) kept x))

pub blocks_alike : (memory later : ObjName → Option Row) (a b c d : ℕ) (kept others : Kept)
    → AllHere (seen_by memory a b kept) → AllHere (seen_by later c d others)
    → mapped (seen memory) kept ≡ mapped (seen later) others → mapped block_seen kept ≡ mapped block_seen others
blocks_alike memory later a b c d kept others here there same = m.same_map thing_total thing_exact _ _ (λ x.
    blocks_follow memory a b kept here x
    ∙ ap (λ es. option_map (λ e. None) (m.get es x)) same
    ∙ sym (blocks_follow later c d others there x))
