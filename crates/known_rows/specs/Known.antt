-- The rows that an actor has.
use Rattle.std.specs.Prelude.{ℕ, ◌≡◌, ◌==◌, Bool, true, false, cond, if◌then◌else◌, List, ◌++◌, Option, Some, None, Contains, option_map, map, is_some, refl}
use Rattle.std.proofs.Common.{arith, sym, ap, ◌∙◌, subst, ◌<◌}
use Rattle.std.specs.Ordering.{nat_cmp, eq_by_cmp}
use Rattle.std.specs.FinMap as m
use Rattle.std.proofs.lemmas.Bool.{eqb-true}
use Rattle.std.proofs.lemmas.Bool.Decides.{nat_tests}
use Rattle.std.proofs.lemmas.List.{get_or-map, length-map}
use Rattle.std.proofs.lemmas.List.Elements.{Contains-append_left, Contains-append_right}
use Rattle.std.proofs.lemmas.Map.Views.{Contains-from_any}
use Rattle.orca_names.specs.declared.names.ObjName.{ObjName}
use Rattle.letter_kinds.specs.Holdings.{Row, OwnRows, row_of}
use Rattle.object_heap.specs.Heap.{Heap, own_block, own_row}
use Rattle.foreign_table.specs.Table.{Table, known_block, known_row}
use Rattle.known_rows.specs.Holdings.{holdings_of}
use Rattle.foreign_table.specs.Named.{objects, known_within}

-- its own, or one that came with what it holds
abbrev pub row_known : Heap → Table → ObjName → Option Row
row_known heap foreign n = if n.owner == heap.owner then own_row heap n else known_row foreign n

-- the block in which that row lies, if it does
abbrev pub block_known : Heap → Table → ObjName → Option ℕ
block_known heap foreign n = if n.owner == heap.owner then own_block heap n else known_block foreign n

-- the objects of which it may have a row
abbrev pub names_known : Heap → Table → List ObjName
names_known heap foreign =
    map (λ (serial : ℕ). record { owner = heap.owner; serial = serial }) (m.keys heap.rows)
    ++ objects foreign

same_number : (a b : ℕ) → eq_by_cmp nat_cmp a b ≡ true → a ≡ b
same_number a b e = grind (arith, nat_tests)

-- a serial that has an entry is one of the keys
pub own_key : (rows : OwnRows) (k : ℕ) (e : Row × ℕ) → m.get rows k ≡ Some e
    → Contains (m.keys rows) k
own_key rows k e f =
    Contains-from_any {eq = eq_by_cmp nat_cmp} same_number k (m.keys rows)
    (sym (m.contains_key-keys rows k) ∙ ap is_some f)

from_own : (heap : Heap) (foreign : Table) (n : ObjName) (row : Row) (o : Option (Row × ℕ))
    → n.owner ≡ heap.owner → m.get heap.rows n.serial ≡ o → option_map (λ e. e.0) o ≡ Some row
    → Contains (names_known heap foreign) n
from_own heap foreign n row None owner e f = cc
from_own heap foreign n row (Some v) owner e f =
    let c = own_key heap.rows n.serial v e in
    let name : ℕ → ObjName = λ serial. record { owner = heap.owner; serial = serial } in
    Contains-append_left (map name (m.keys heap.rows)) (objects foreign) n (
      c.0,
      subst (λ l. c.0 < l) (sym (length-map (m.keys heap.rows) name)) c.1,
      get_or-map name (m.keys heap.rows) c.0 n.serial n c.1 ∙ ap name c.2
          ∙ (λ i. record { owner = sym owner i; serial = n.serial }),
    )

by_owner : (b : Bool) (heap : Heap) (foreign : Table) (n : ObjName) (row : Row)
    → (n.owner == heap.owner) ≡ b
    → cond b (cond b (option_map (λ e. e.0) (m.get heap.rows n.serial)) None) (known_row foreign n)
    ≡ Some row
    → Contains (names_known heap foreign) n
by_owner true heap foreign n row is e =
    from_own heap foreign n row (m.get heap.rows n.serial) (eqb-true n.owner heap.owner is) refl e
by_owner false heap foreign n row is e =
    let name : ℕ → ObjName = λ serial. record { owner = heap.owner; serial = serial } in
    Contains-append_right (map name (m.keys heap.rows)) (objects foreign) n
    (known_within foreign n row e)

-- a row that it has is that of one of these
pub row_known-within : (heap : Heap) (foreign : Table) (n : ObjName) (row : Row)
    → row_known heap foreign n ≡ Some row → Contains (names_known heap foreign) n
row_known-within heap foreign n row e =
    by_owner (n.owner == heap.owner) heap foreign n row refl e

-- they are the rows that its holdings have
abbrev pub RowsAreOfHoldings : Type 0
RowsAreOfHoldings =
    (count : ℕ) (heap : Heap) (foreign : Table) (n : ObjName)
    → row_known heap foreign n ≡ row_of heap.owner (holdings_of count heap foreign) n

tested_twice : {A : Type 0} (b : Bool) (x y : Option A) → cond b (cond b x None) y ≡ cond b x y
tested_twice true x y = refl
tested_twice false x y = refl

pub row_known-row_of : RowsAreOfHoldings
unfolding row_of
row_known-row_of count heap foreign n =
    tested_twice (n.owner == heap.owner) (option_map (λ e. e.0) (m.get heap.rows n.serial))
    (known_row foreign n)
