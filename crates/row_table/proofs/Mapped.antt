-- Rows as entries of count 0.
use Rattle.std.proofs.Common.{◌≡◌, ℕ, ◌+◌, ◌-◌, arith, Bool, true, false, ◌||◌, cond, [], Option, Some, None, IsSome, refl, sym, ap, ◌∙◌}
use Rattle.std.specs.Prelude.{is_some, option_map}
use Rattle.std.specs.FinMap as m
use Rattle.std.specs.Option.{option_map_or}
use Rattle.std.proofs.lemmas.Bool.{false≢true}
use Rattle.std.proofs.lemmas.List.{nil_from_length}
use Rattle.orca_names.specs.Names.{thing_cmp}
use Rattle.orca_names.specs.declared.names.ObjName.{ObjName}
use Rattle.orca_names.specs.declared.names.Thing.{Thing}
use Rattle.orca_names.specs.declared.names.Thing.TheVariants.{Obj}
use Rattle.orca_names.proofs.ThingOrder.{thing_exact, thing_total}
use Rattle.letter_kinds.specs.Holdings.{Entries, Row, entry_count, entry_row}
use Rattle.row_store.specs.Told.{row_here, told_block, told_row}
use Rattle.row_store.specs.declared.told.Told.{Told}
use Rattle.row_store.specs.declared.told.Told.TheVariants.{Nothing, Here, In}
use Rattle.foreign_table.specs.Table.{AllHere, Table, block_at, entered, known_block, known_row, length_aside, no_table, values_at}
use Rattle.foreign_table.proofs.Mapped.{alike, get-mapped, mapped-empty, mapped-insert, mapped-kept}
use Rattle.row_table.specs.Table.{IsUncounted, KnownRows, Rows, as_held, bare_entry, known_by, learnt, nothing_known, row_in, rows_in, uncounted}

-- of no rows none are kept
pub none_kept : {X : Type 0} (rows : m.FinMap thing_cmp X) → rows ≡ m.empty → (p : Thing → Bool) → rows ≡ m.retain_keys rows p
none_kept {X} rows none p = m.same_map thing_total thing_exact _ _ (λ q.
    let e : m.get rows q ≡ None = ap (λ t. m.get t q) none ∙ m.get-empty thing_cmp q in
    e ∙ either (p q) ∙ ap (λ o. cond (p q) o None) (sym e) ∙ sym (m.get-retain_keys rows p q (alike p q)))
  where
    either : (b : Bool) → ◌≡◌ {A = Option X} None (cond b None None)
    either true = refl
    either false = refl

-- rows that come back from their entries are the same
pub rows_back : (rows : Rows) → rows_in (uncounted rows) ≡ rows
rows_back rows = m.same_map thing_total thing_exact _ _ (λ q.
    get-mapped (λ x. row_in) (uncounted rows) q ∙ ap (option_map row_in) (get-mapped (λ x. bare_entry) rows q) ∙ twice (m.get rows q))
  where
    twice : (o : Option Row) → option_map row_in (option_map bare_entry o) ≡ o
    twice None = refl
    twice (Some row) = refl

-- no entry is counted
pub none_counted : (rows : Rows) (x : Thing) → entry_count (m.get (uncounted rows) x) ≡ 0
none_counted rows x = ap entry_count (get-mapped (λ x. bare_entry) rows x) ∙ zero_in (m.get rows x)
  where
    zero_in : (o : Option Row) → entry_count (option_map bare_entry o) ≡ 0
    zero_in None = refl
    zero_in (Some row) = refl

-- ---- entries that are those of rows, and stay so

pub none_listed : {X : Type 0} (t : m.FinMap thing_cmp X) → t ≡ m.empty → m.entries t ≡ []
none_listed {X} t none = nil_from_length (m.entries t) (sym (m.len-entries t) ∙ ap m.len none ∙ m.len-empty thing_cmp X)

pub held_none : (t : KnownRows) → t.rows ≡ m.empty → (as_held t).entries ≡ m.empty
held_none t none = ap uncounted none ∙ mapped-empty (λ x. bare_entry)

pub none_held : (t : Table) → t ≡ no_table → t ≡ as_held nothing_known
none_held t is = is ∙ (λ i. record { spare = 0; spare_values = 0; entries = sym (mapped-empty (λ x. bare_entry)) i; blocks = m.empty })

pub none_uncounted : (t : Table) → t.entries ≡ m.empty → IsUncounted t
none_uncounted t none = ap (λ es. uncounted (rows_in es)) none ∙ ap uncounted (mapped-empty (λ x. row_in)) ∙ mapped-empty (λ x. bare_entry) ∙ sym none

pub known_again : (t : KnownRows) → known_by (as_held t) ≡ t
known_again t = λ i. record { spare = t.spare; spare_values = t.spare_values; rows = rows_back t.rows i; blocks = t.blocks }

-- a table of no entries knows nothing, and no other does
module _ (t : Table) (own : IsUncounted t) where
  pub knows_none : m.len t.entries ≡ 0 → (known_by t).rows ≡ m.empty
  knows_none none = ap rows_in (m.empty_of_len t.entries none) ∙ mapped-empty (λ x. row_in)

  pub none_known : (known_by t).rows ≡ m.empty → m.len t.entries ≡ 0
  none_known none = ap m.len (sym own ∙ held_none (known_by t) none) ∙ m.len-empty thing_cmp (ℕ × Option Row)

module _ (before : Entries) (own : uncounted (rows_in before) ≡ before) where
  -- some fewer
  pub kept : (p : Thing → Bool) → m.retain_keys before p ≡ uncounted (m.retain_keys (rows_in before) p)
  kept p = ap (λ es. m.retain_keys es p) (sym own) ∙ sym (mapped-kept (λ x. bare_entry) (rows_in before) p)

  pub not_counted : (x : Thing) → entry_count (m.get before x) ≡ 0
  not_counted x = ap (λ es. entry_count (m.get es x)) (sym own) ∙ none_counted (rows_in before) x

  -- as often there
  pub as_often : (x : Thing) → is_some (m.get before x) ≡ is_some (m.get (rows_in before) x)
  as_often x = ap (λ es. is_some (m.get es x)) (sym own) ∙ ap is_some (get-mapped (λ x. bare_entry) (rows_in before) x) ∙ same (m.get (rows_in before) x)
    where
      same : (o : Option Row) → is_some (option_map bare_entry o) ≡ is_some o
      same None = refl
      same (Some row) = refl

-- one row more
pub told : (before : Table) → IsUncounted before → (x : Thing) (o : Option Row) (block : Option ℕ) → IsSome o → entered (λ n. n + 0) x o block before ≡ as_held (learnt x o block (known_by before))
told before own x None block some = cc
told before own x (Some row) block some =
    let zero : entry_count (m.get before.entries x) + 0 ≡ 0 = (let z = not_counted before.entries own x in omega arith) in
    λ i. record {
      spare = before.spare - cond (as_often before.entries own x i) 0 1;
      spare_values = before.spare_values + values_at (record before { entries = sym own i }) x - length_aside (Some row) block;
      entries = ((λ j. m.insert (sym own j) x (zero j, Some row)) ∙ sym (mapped-insert (λ x. bare_entry) (rows_in before.entries) x row)) i;
      blocks = m.insert before.blocks x block;
    }

module _ (es : Entries) (rows : Rows) (is : es ≡ uncounted rows) where
  pub rows_are : rows_in es ≡ rows
  rows_are = ap rows_in is ∙ rows_back rows

  pub again : uncounted (rows_in es) ≡ es
  again = ap uncounted rows_are ∙ sym is

-- where a row is told there is one
pub row_some : (from : ObjName → Option Row) (x : Thing) (told : Told) → is_some (row_here told) || is_some (told_block told) ≡ true
    → (IsSome (told_block told) → IsSome (told_row from x told)) → IsSome (told_row from x told)
row_some from x Nothing some whole = absurd (false≢true some)
row_some from x (Here row) some whole = refl
row_some from x (In block) some whole = whole refl

-- the row of an entry is that of its thing
row_told : (o : Option (ℕ × Option Row)) (row : Row) → entry_row o ≡ Some row → option_map row_in o ≡ Some row
row_told None row is = cc
row_told (Some e) row is = ap (λ o. Some (option_map_or (λ r. r) o [])) is

-- where nothing tells of a row that it lies in a block, none does
pub untold_here : (t : Table)
    → (((n : ObjName) (row : Row) (block : ℕ) → (known_row t n ≡ Some row) × (known_block t n ≡ Some block) → ⊥) → AllHere t)
    → ((n : ObjName) (row : Row) (block : ℕ) → (m.get (known_by t).rows (Obj n) ≡ Some row) × (block_at t.blocks (Obj n) ≡ Some block) → ⊥)
    → AllHere t
untold_here t here nothing = here (λ n row block told.
    nothing n row block (get-mapped (λ x. row_in) t.entries (Obj n) ∙ row_told (m.get t.entries (Obj n)) row told.0, told.1))
