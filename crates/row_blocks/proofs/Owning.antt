-- The objects of a heap, by their names.
use Rattle.std.proofs.Common.{◌≡◌, ℕ, zero, suc, ◌<◌, Bool, true, false, cond, ◌&&◌, ◌||◌, List, [], ◌∷◌, length, get_or, map, slice_get, Option, Some, None, IsSome, refl, sym, ap, subst, ◌∙◌, arith}
use Rattle.std.specs.Prelude.{◌==◌, option_map}
use Rattle.std.specs.FinMap as m
use Rattle.std.specs.FinMap.Entries.{find}
use Rattle.std.specs.Ordering.{eq_by_cmp, nat_cmp}
use Rattle.std.specs.Cmp.{nat_cmp_total}
use Rattle.std.specs.declared.cmp.Ordering.TheVariants.{Less}
use Rattle.std.proofs.lemmas.Bool.{eq-eqb, eqb-true}
use Rattle.std.proofs.lemmas.Bool.Decides.{nat_tests}
use Rattle.std.proofs.lemmas.List.{get_or-map, length-map}
use Rattle.std.proofs.lemmas.Option.{slice_get-map}
use Rattle.plain_list.proofs.Rising.{rises, value_at_place}
use Rattle.orca_names.specs.declared.names.ObjName.{ObjName}
use Rattle.block_table.specs.Blocks.{Blocks}
use Rattle.letter_kinds.specs.Holdings.{Row}
use Rattle.object_heap.specs.Entry.{Item}
use Rattle.object_heap.specs.Free.{SerialsRise}
use Rattle.object_heap.specs.Heap.{Has, Heap, block_at, own_block, own_object, own_objects, own_row}
use Rattle.row_store.specs.Memory.{is_object}
use Rattle.row_store.specs.Told.{told_block}
use Rattle.row_store.proofs.Telling.{block_told, is_itself}
use Rattle.row_blocks.specs.Blocks.{OwnLie, is_one_of}
use Rattle.row_blocks.proofs.GivenBack.{Gives}

abbrev pub Own : Type 0
Own = ℕ × (Row × ℕ)

abbrev pub named : ℕ → Own → ObjName
named owner e = record { owner = owner; serial = e.0 }

-- the names of the own objects
abbrev pub own_names : Heap → List ObjName
own_names heap = map (named heap.owner) (m.entries heap.rows)

-- the row of each of these is there
abbrev pub AreThere : Heap → List ObjName → Type 0
AreThere heap names = (j : ℕ) (n : ObjName) → slice_get names j ≡ Some n → (row : Row) × (own_row heap n ≡ Some row)

-- ---- names that are found

same_serial : (a b : ℕ) → eq_by_cmp nat_cmp a b ≡ true → a ≡ b
same_serial a b e = grind (arith, nat_tests)

found_at : (owner serial : ℕ) (es : List Own) (v : Row × ℕ) → find nat_cmp serial es ≡ Some v
    → (j : ℕ) × (slice_get (map (named owner) es) j ≡ Some (record { owner = owner; serial = serial }))
found_at owner serial [] v e = cc
found_at owner serial (x ∷ es) v e = by (eq_by_cmp nat_cmp serial x.0) (found_at owner serial es v) refl e
  where
    by : (b : Bool)
        → (find nat_cmp serial es ≡ Some v → (j : ℕ) × (slice_get (map (named owner) es) j ≡ Some (record { owner = owner; serial = serial })))
        → eq_by_cmp nat_cmp serial x.0 ≡ b → cond b (Some x.1) (find nat_cmp serial es) ≡ Some v
        → (j : ℕ) × (slice_get (map (named owner) (x ∷ es)) j ≡ Some (record { owner = owner; serial = serial }))
    by true behind same h = (0, ap (λ q. Some (record { owner = owner; serial = q })) (sym (same_serial serial x.0 same)))
    by false behind other h = let found = behind h in (suc found.0, found.1)

some_value : (o : Option (Row × ℕ)) → IsSome (option_map (λ e. e.0) o) → (v : Row × ℕ) × (o ≡ Some v)
some_value None some = cc
some_value (Some v) some = (v, refl)

module _ (heap : Heap) where
  -- an object whose row is there is one of them
  pub found_own : (n : ObjName) → n.owner ≡ heap.owner → IsSome (own_row heap n)
      → (j : ℕ) × (slice_get (own_names heap) j ≡ Some n)
  found_own n mine some =
      let row = ap (λ b. cond b (option_map (λ e. e.0) (m.get heap.rows n.serial)) None) (eq-eqb n.owner heap.owner mine) in
      let v = some_value (m.get heap.rows n.serial) (subst IsSome row some) in
      let found = found_at heap.owner n.serial (m.entries heap.rows) v.0 (sym (m.get-entries heap.rows n.serial) ∙ v.1) in
      (found.0, found.1 ∙ λ i. Some (record { owner = sym mine i; serial = n.serial }))

  -- its row and its block, where it stands in the order of serials
  module _ (j : ℕ) (e : Own) (at : slice_get (m.entries heap.rows) j ≡ Some e) where
    pub row_at : own_row heap (named heap.owner e) ≡ Some e.1.0
    row_at =
        ap (λ b. cond b (option_map (λ x. x.0) (m.get heap.rows e.0)) None) (eq-eqb heap.owner heap.owner refl)
        ∙ ap (option_map (λ x. x.0)) (value_at_place nat_cmp_total heap.rows j e at)

    pub block_of_it : own_block heap (named heap.owner e) ≡ told_block (own_object heap.owner heap.blocks e).1
    block_of_it =
        ap (λ b. cond b (block_at heap.blocks e.0) None) (eq-eqb heap.owner heap.owner refl)
        ∙ sym (block_told e.1.0 (block_at heap.blocks e.0))

    pub name_at : slice_get (own_names heap) j ≡ Some (named heap.owner e)
    name_at = slice_get-map (named heap.owner) (m.entries heap.rows) j ∙ ap (option_map (named heap.owner)) at

  -- an own object, as a load has it
  pub entry_at : (j : ℕ) (x : Item) → slice_get (own_objects heap) j ≡ Some x
      → (e : Own) × (slice_get (m.entries heap.rows) j ≡ Some e) × (own_object heap.owner heap.blocks e ≡ x)
  entry_at j x at =
      there (slice_get (m.entries heap.rows) j) refl
      (sym (slice_get-map (own_object heap.owner heap.blocks) (m.entries heap.rows) j) ∙ at)
    where
      there : (o : Option Own) → slice_get (m.entries heap.rows) j ≡ o → option_map (own_object heap.owner heap.blocks) o ≡ Some x
          → (e : Own) × (slice_get (m.entries heap.rows) j ≡ Some e) × (own_object heap.owner heap.blocks e ≡ x)
      there None is e = cc
      there (Some y) is e = (y, is, some_one (own_object heap.owner heap.blocks y) x e)
        where
          some_one : (a b : Item) → Some a ≡ Some b → a ≡ b
          some_one a b e = cc

  pub names_there : AreThere heap (own_names heap)
  names_there j n at =
      there (slice_get (m.entries heap.rows) j) refl (sym (slice_get-map (named heap.owner) (m.entries heap.rows) j) ∙ at)
    where
      there : (o : Option Own) → slice_get (m.entries heap.rows) j ≡ o → option_map (named heap.owner) o ≡ Some n
          → (row : Row) × (own_row heap n ≡ Some row)
      there None is e = cc
      there (Some y) is e =
          let name : named heap.owner y ≡ n = cc in
          (y.1.0, ap (own_row heap) (sym name) ∙ row_at j y is)

  -- serials rise in their order
  pub names_rise : SerialsRise (own_names heap)
  names_rise i j d l within =
      let es = m.entries heap.rows in
      let e : Own = (0, ([], 0)) in
      let long = length-map es (named heap.owner) in
      let low = ap (λ (x : ObjName). x.serial) (get_or-map (named heap.owner) es i e d (omega arith)) in
      let high = ap (λ (x : ObjName). x.serial) (get_or-map (named heap.owner) es j e d (omega arith)) in
      let rise = less (get_or es i e).0 (get_or es j e).0 (rises nat_cmp_total es (m.entries_sorted heap.rows) i j e l (omega arith)) in
      omega arith
    where
      less : (a b : ℕ) → nat_cmp a b ≡ Less → a < b
      less a b e = grind (arith, nat_tests)

-- ---- names that are given

object_same : (n k : ObjName) → is_object n k ≡ true → n ≡ k
object_same n k e = by (n.owner == k.owner) (n.serial == k.serial) refl refl e
  where
    by : (b c : Bool) → (n.owner == k.owner) ≡ b → (n.serial == k.serial) ≡ c → b && c ≡ true → n ≡ k
    by true true p q e = λ i. record { owner = eqb-true n.owner k.owner p i; serial = eqb-true n.serial k.serial q i }
    by true false p q e = cc
    by false c p q e = cc

pub one_at : (names : List ObjName) (n : ObjName) → is_one_of names n ≡ true → (j : ℕ) × (slice_get names j ≡ Some n)
one_at [] n e = cc
one_at (x ∷ names) n e = by (is_object x n) (one_at names n) refl e
  where
    by : (b : Bool) → (is_one_of names n ≡ true → (j : ℕ) × (slice_get names j ≡ Some n)) → is_object x n ≡ b → b || is_one_of names n ≡ true → (j : ℕ) × (slice_get (x ∷ names) j ≡ Some n)
    by true behind same h = (0, ap Some (object_same x n same))
    by false behind other h = let found = behind h in (suc found.0, found.1)

pub at_one : (names : List ObjName) (j : ℕ) (n : ObjName) → slice_get names j ≡ Some n → is_one_of names n ≡ true
at_one [] j n e = cc
at_one (x ∷ names) zero n e =
    let same : x ≡ n = cc in
    ap (λ b. b || is_one_of names n) (ap (λ y. is_object y n) same ∙ is_itself n)
at_one (x ∷ names) (suc j) n e = either (is_object x n) (at_one names j n e)
  where
    either : (b : Bool) → is_one_of names n ≡ true → b || is_one_of names n ≡ true
    either true h = refl
    either false h = h

pub given_there : (heap : Heap) (n : ObjName) → Has heap n → (row : Row) × (own_row heap n ≡ Some row)
given_there heap n has =
    let v = there (m.get heap.rows n.serial) has.there in (
      v.0.0,
      ap (λ b. cond b (option_map (λ e. e.0) (m.get heap.rows n.serial)) None) (eq-eqb n.owner heap.owner has.owner)
          ∙ ap (option_map (λ e. e.0)) v.1,
    )
  where
    there : (o : Option (Row × ℕ)) → IsSome o → (v : Row × ℕ) × (o ≡ Some v)
    there None some = cc
    there (Some v) some = (v, refl)

-- ---- at the beginning all are still to be given back

pub begin : (gone : ObjName → Bool) (names : List ObjName) (heap : Heap) (bs : Blocks) → OwnLie heap bs → AreThere heap names
    → ((k : ℕ) (n : ObjName) → slice_get bs k ≡ Some (Some n) → gone n ≡ true → (j : ℕ) × (slice_get names j ≡ Some n))
    → Gives gone names (own_block heap) bs bs 0
begin gone names heap bs lie there left = record {
  same = refl;
  once = lie.once;
  kept = λ j n k l e f. let its = there j n e in lie.kept n its.0 k its.1 f;
  left = λ k n e g. let found = left k n e g in (found.0, omega arith, found.1);
}

-- ---- what a loop over the objects sees

module _ (heap : Heap) (bs : Blocks) (lie : OwnLie heap bs) (j : ℕ) (x : Item) (at : slice_get (own_objects heap) j ≡ Some x) where
  pub its : (e : Own) × (slice_get (m.entries heap.rows) j ≡ Some e) × (own_object heap.owner heap.blocks e ≡ x)
  its = entry_at heap j x at

  its_block : own_block heap (named heap.owner its.0) ≡ told_block x.1
  its_block = block_of_it heap j its.0 its.1 ∙ ap (λ (y : Item). told_block y.1) its.2

  -- its block is told
  pub lies_told : told_block x.1 ≡ None → ⊥
  lies_told none =
      let some = lie.lie (named heap.owner its.0) its.0.1.0 (row_at heap j its.0 its.1) in
      let told = subst IsSome (its_block ∙ none) some in cc

  abbrev pub seen : ObjName
  seen = named heap.owner its.0

  pub seen_name : slice_get (own_names heap) j ≡ Some seen
  seen_name = name_at heap j its.0 its.1

  pub seen_block : (k : ℕ) → told_block x.1 ≡ Some k → own_block heap seen ≡ Some k
  seen_block k told = its_block ∙ told

pub as_many : (heap : Heap) → length (own_objects heap) ≡ length (own_names heap)
as_many heap =
    length-map (m.entries heap.rows) (own_object heap.owner heap.blocks)
    ∙ sym (length-map (m.entries heap.rows) (named heap.owner))

-- a row that is lent lies in a block
pub lent_lies : (heap : Heap) (bs : Blocks) (n : ObjName) → OwnLie heap bs → Has heap n → own_block heap n ≡ None → ⊥
lent_lies heap bs n lie has none =
    let row = given_there heap n has in
    let some = subst IsSome none (lie.lie n row.0 row.1) in cc
