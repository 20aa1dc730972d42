-- Objects that a turn made, behind those of before.
use Rattle.std.proofs.Common.{◌≡◌, ◌≢◌, inl, inr, ℕ, zero, suc, ◌+◌, ◌-◌, ◌<◌, ◌≤◌, ◌==◌, ◌&&◌, nat_le, Bool, true, false, cond, List, [], ◌∷◌, ◌++◌, length, get_or, map, slice_get, Option, Some, None, refl, sym, ap, subst, ◌∙◌, arith, length-append}
use Rattle.std.specs.Prelude.{if◌then◌else◌, is_some, nat_lt, position}
use Rattle.std.specs.Ordering.{nat_cmp}
use Rattle.std.specs.Cmp.{nat_cmp_total}
use Rattle.std.specs.declared.cmp.Ordering.TheVariants.{Greater, Less}
use Rattle.std.specs.FinMap as m
use Rattle.std.proofs.lemmas.Bool.{cases_lt, eq-eqb, eqb-true}
use Rattle.std.proofs.lemmas.Bool.Decides.{nat_tests}
use Rattle.std.proofs.lemmas.List.{append_assoc, get_or-append_right, get_or-map, get_or_append_left, length-map, map-append}
use Rattle.std.proofs.lemmas.List.Edits.{insert_end}
use Rattle.std.proofs.lemmas.Option.{get_or_from_slice_get, none-some, slice_get-get_or, slice_get_within}
use Rattle.orca_names.specs.Names.{is_thing}
use Rattle.orca_names.specs.declared.names.ObjName.{ObjName}
use Rattle.orca_names.specs.declared.names.Thing.{Thing}
use Rattle.orca_names.specs.declared.names.Thing.TheVariants.{Actor, Obj}
use Rattle.row_store.specs.Told.{Lying, thing_lies}
use Rattle.letter_kinds.specs.Holdings.{OwnRows, Row, add_rows, row_of, with_made}
use Rattle.plain_list.specs.Rising.{IsGap}
use Rattle.plain_list.proofs.Rising.{put_gap, rises}
use Rattle.object_heap.specs.Heap.{Heap, with_new}
use Rattle.foreign_table.specs.Table.{Table}
use Rattle.known_rows.specs.Holdings.{holdings_of}
use Rattle.known_rows.specs.InOrder.{AreInOrder}
use Rattle.known_rows.specs.Known.{block_known, row_known, row_known-row_of}
use Rattle.known_rows.specs.PlaceLaws.{placed_in_order}
use Rattle.known_rows.specs.Places.{held_above, held_below, own_things, place_in, placed_things}
use Rattle.known_rows.specs.InTurn.{ComeLater, made_in_turn, made_thing, turn_block}
use Rattle.known_rows.proofs.Between.{has_none, more, place_kept, place_moved, place_new}
use Rattle.known_rows.proofs.Made.{or_before, row_of-made}

-- so many serials from this one on
from_on : ℕ → List Row → List ℕ
from_on n [] = []
from_on n (row ∷ made) = n ∷ from_on (suc n) made

from_on-length : (n : ℕ) (made : List Row) → length (from_on n made) ≡ length made
unfolding from_on
from_on-length n [] = refl
from_on-length n (row ∷ made) = ap suc (from_on-length (suc n) made)

from_on-at : (n : ℕ) (made : List Row) (i d : ℕ) → i < length made → get_or (from_on n made) i d ≡ n + i
unfolding from_on
from_on-at n [] i d l = absurd (omega arith)
from_on-at n (row ∷ made) zero d l = omega arith
from_on-at n (row ∷ made) (suc i) d l = let here = from_on-at (suc n) made i d (omega arith) in omega arith

abbrev AllBelow : ℕ → OwnRows → Type 0
AllBelow n rows = (i d : ℕ) → i < length (m.keys rows) → get_or (m.keys rows) i d < n

is_less : (a b : ℕ) → nat_cmp a b ≡ Less → a < b
is_less a b e = grind (arith, nat_tests)

-- serials rise, so that all are below where the last one is
pub last_below : (n : ℕ) (rows : OwnRows) (k : ℕ) (last : ℕ × (Row × ℕ)) → k + 1 ≡ m.len rows → slice_get (m.entries rows) k ≡ Some last → last.0 < n → AllBelow n rows
last_below n rows k last count there low i d l =
    let none : Row × ℕ = ([], 0) in
    let inside : i < length (m.entries rows) = omega (arith, length-map (m.entries rows) (λ (e : ℕ × (Row × ℕ)). e.0)) in
    let key = get_or-map (λ (e : ℕ × (Row × ℕ)). e.0) (m.entries rows) i (d, none) d inside in
    let here = ap (λ (e : ℕ × (Row × ℕ)). e.0) (get_or_from_slice_get (m.entries rows) k last (d, none) there) in
    elim (cases_lt i k) as (λ _. get_or (m.keys rows) i d < n) [
      | inl a ↦
          let rise = is_less (get_or (m.entries rows) i (d, none)).0 (get_or (m.entries rows) k (d, none)).0
          (rises nat_cmp_total (m.entries rows) (m.entries_sorted rows) i k (d, none) a (slice_get_within (m.entries rows) k last there)) in
          omega arith
      | inr a ↦
          let same : i ≡ k = omega (arith, m.len-entries rows) in
          let at = ap (λ j. (get_or (m.entries rows) j (d, none)).0) same in
          omega arith
    ]

pub is_below : (a b : ℕ) → nat_lt a b ≡ true → a < b
is_below a b e = grind (arith, nat_tests)

-- ---- one more

above : (a b : ℕ) → b < a → nat_cmp a b ≡ Greater
above a b l = grind (arith, nat_tests)

end_gap : (n : ℕ) (rows : OwnRows) → AllBelow n rows → IsGap nat_cmp (m.entries rows) n (length (m.entries rows))
end_gap n rows below = record {
  in_range = omega arith;
  before = λ j d l.
      let here = get_or-map (λ (e : ℕ × (Row × ℕ)). e.0) (m.entries rows) j d d.0 l in
      let low = below j d.0 (omega (arith, length-map (m.entries rows) (λ (e : ℕ × (Row × ℕ)). e.0))) in
      above n (get_or (m.entries rows) j d).0 (subst (λ k. k < n) here low);
  after = λ j d l k. absurd (omega arith);
}

key_added : (n : ℕ) (v : Row × ℕ) (rows : OwnRows) → AllBelow n rows → m.keys (m.insert rows n v) ≡ m.keys rows ++ n ∷ []
key_added n v rows below =
    ap (map (λ e. e.0)) (m.entries-insert nat_cmp_total rows n v
    ∙ put_gap nat_cmp_total (m.entries rows) n v (length (m.entries rows)) (end_gap n rows below) ∙ insert_end (m.entries rows) (n, v))
    ∙ map-append (λ e. e.0) (m.entries rows) ((n, v) ∷ [])

added_below : (n : ℕ) (ks : List ℕ) → ((i d : ℕ) → i < length ks → get_or ks i d < n) → (i d : ℕ) → i < length (ks ++ n ∷ []) → get_or (ks ++ n ∷ []) i d < suc n
added_below n ks below i d l = elim (cases_lt i (length ks)) as (λ _. get_or (ks ++ n ∷ []) i d < suc n) [
  | inl k ↦ let low = below i d k in let same = get_or_append_left ks (n ∷ []) d i k in omega arith
  | inr k ↦
      let none : i - length ks ≡ 0 = omega (arith, length-append ks (n ∷ [])) in
      let same = get_or-append_right ks (n ∷ []) (length ks) i d refl k ∙ ap (λ j. get_or (n ∷ []) j d) none in
      omega arith
]

-- ---- all of them

keys_added : (n : ℕ) (made : List Row) (rows : OwnRows) → AllBelow n rows → m.keys (add_rows n made rows) ≡ m.keys rows ++ from_on n made
unfolding add_rows from_on
keys_added n [] rows below = sym (append_none (m.keys rows))
  where
    append_none : (ks : List ℕ) → ks ++ [] ≡ ks
    append_none [] = refl
    append_none (k ∷ ks) = ap (λ xs. k ∷ xs) (append_none ks)
keys_added n (row ∷ made) rows below =
    let added = key_added n (row, 0) rows below in
    keys_added (suc n) made (m.insert rows n (row, 0)) (subst (λ ks. (i d : ℕ) → i < length ks → get_or ks i d < suc n) (sym added) (added_below n (m.keys rows) below))
    ∙ ap (λ ks. ks ++ from_on (suc n) made) added ∙ append_assoc (m.keys rows) (n ∷ []) (from_on (suc n) made)

-- ---- places

module _ (heap : Heap) (foreign : Table) (made : List Row) (come : ComeLater heap made) where
  -- what it knew before, up to its own objects
  abbrev pub lower : List Thing
  lower = held_below heap foreign ++ Actor heap.owner ∷ own_things heap

  abbrev upper : List Thing
  upper = held_above heap foreign

  abbrev object : ℕ → Thing
  object serial = Obj (record { owner = heap.owner; serial = serial })

  -- what the turn made
  abbrev new_things : List Thing
  new_things = map object (from_on heap.next made)

  new_count : length new_things ≡ length made
  new_count = length-map (from_on heap.next made) object ∙ from_on-length heap.next made

  new_at : (i : ℕ) (d : Thing) → i < length made → get_or new_things i d ≡ made_thing heap i
  new_at i d l =
      get_or-map object (from_on heap.next made) i 0 d (omega (arith, from_on-length heap.next made)) ∙ ap object (from_on-at heap.next made i 0 l)

  placed_added : placed_things (with_new made [] heap) foreign ≡ (lower ++ new_things) ++ upper
  placed_added =
      ap (λ xs. (held_below heap foreign ++ Actor heap.owner ∷ xs) ++ upper) (ap (map object) (keys_added heap.next made heap.rows come.later) ∙ map-append object (m.keys heap.rows) (from_on heap.next made))
      ∙ ap (λ xs. xs ++ upper) (sym (append_assoc (held_below heap foreign) (Actor heap.owner ∷ own_things heap) new_things))

  before : AreInOrder (lower ++ upper)
  before = placed_in_order heap foreign

  after : AreInOrder ((lower ++ new_things) ++ upper)
  after = subst AreInOrder placed_added (placed_in_order (with_new made [] heap) foreign)

  pub lower_within : length lower ≤ length (placed_things heap foreign)
  lower_within = omega (arith, length-append lower upper)

  -- the place of a thing in the turn
  abbrev pub turn_place : Thing → Option ℕ
  turn_place x = place_in (with_new made [] heap) foreign x

  turned : (x : Thing) → turn_place x ≡ position (is_thing x) ((lower ++ new_things) ++ upper)
  turned x = ap (position (is_thing x)) placed_added

  pub turn_count : length (placed_things (with_new made [] heap) foreign) ≡ length (placed_things heap foreign) + length made
  turn_count = ap length placed_added ∙ more lower new_things upper before after ∙ ap (λ n. length (lower ++ upper) + n) new_count

  pub turn_kept : (x : Thing) (p : ℕ) → place_in heap foreign x ≡ Some p → p < length lower → turn_place x ≡ Some p
  turn_kept x p e l = turned x ∙ place_kept lower new_things upper before after x p e l

  pub turn_moved : (x : Thing) (p : ℕ) → place_in heap foreign x ≡ Some p → length lower ≤ p → turn_place x ≡ Some (p + length made)
  turn_moved x p e l = turned x ∙ place_moved lower new_things upper before after x p e l ∙ ap (λ n. Some (p + n)) new_count

  pub turn_new : (i : ℕ) → i < length made → turn_place (made_thing heap i) ≡ Some (length lower + i)
  turn_new i l =
      turned (made_thing heap i) ∙ place_new lower new_things upper before after (made_thing heap i) i (omega (arith, new_count)) (new_at i (made_thing heap i) l)

  pub turn_none : (x : Thing) → place_in heap foreign x ≡ None → ((i : ℕ) → i < length made → x ≢ made_thing heap i) → turn_place x ≡ None
  turn_none x none other =
      turned x ∙ has_none lower new_things upper before after x none
      (λ i l e. let m : i < length made = omega (arith, new_count) in other i m (sym e ∙ new_at i x m))

  -- ---- rows

  abbrev pub turn_row : ObjName → Option Row
  turn_row n = row_of heap.owner (with_made made (holdings_of 0 heap foreign)) n

  abbrev pub made_row : ObjName → Option Row
  made_row n = made_in_turn heap.owner heap.next made n

  turn_row_is : (n : ObjName) (o : Option Row) → made_row n ≡ o → turn_row n ≡ or_before o (row_known heap foreign n)
  turn_row_is n o e =
      row_of-made heap.owner made (holdings_of 0 heap foreign) n ∙ (λ i. or_before (e i) (sym (row_known-row_of 0 heap foreign n) i))

  -- a row that was made is that of an object that was made
  of_made : (n : ObjName) (row : Row) (mine : Bool) → (n.owner == heap.owner) ≡ mine → (from : Bool) → nat_le heap.next n.serial ≡ from
      → cond (mine && from) (slice_get made (n.serial - heap.next)) None ≡ Some row → (i : ℕ) × (i < length made) × (Obj n ≡ made_thing heap i)
  of_made n row true e true f is =
      let same = eqb-true n.owner heap.owner e in
      let low : heap.next ≤ n.serial = grind (arith, nat_tests) in
      let sum : n.serial ≡ heap.next + (n.serial - heap.next) = omega arith in
      (n.serial - heap.next, slice_get_within made (n.serial - heap.next) row is, λ j. Obj (record { owner = same j; serial = sum j }))
  of_made n row true e false f is = absurd (none-some row is)
  of_made n row false e from f is = absurd (none-some row is)

  -- how the rows lie in the turn, and before it
  abbrev pub turn_lies : Thing → Lying
  turn_lies x = thing_lies turn_row (turn_block made heap foreign) x

  abbrev pub before_lies : Thing → Lying
  before_lies x = thing_lies (row_known heap foreign) (block_known heap foreign) x

  turn_block_is : (n : ObjName) (o : Option Row) → made_row n ≡ o → turn_block made heap foreign n ≡ (if is_some o then None else block_known heap foreign n)
  turn_block_is n o e = ap (λ r. if is_some r then None else block_known heap foreign n) e

  -- the row of what was not made lies as before
  lies_as_before : (x : Thing) → ((i : ℕ) → i < length made → x ≢ made_thing heap i) → turn_lies x ≡ before_lies x
  lies_as_before (Actor a) other = refl
  lies_as_before (Obj n) other = by_row (made_row n) refl
    where
      by_row : (o : Option Row) → made_row n ≡ o → turn_lies (Obj n) ≡ before_lies (Obj n)
      by_row None e = λ j. record { row = turn_row_is n None e j; block = turn_block_is n None e j }
      by_row (Some row) e = let it = of_made n row (n.owner == heap.owner) refl (nat_le heap.next n.serial) refl e in absurd (other it.0 it.1 it.2)

  -- the row of what was made is its own, and at hand
  pub made_lies : (x : Thing) (i : ℕ) → i < length made → x ≡ made_thing heap i → turn_lies x ≡ record { row = Some (get_or made i []); block = None }
  made_lies x i l e = ap turn_lies e ∙ (λ j. record { row = turn_row_is name (Some (get_or made i [])) found j; block = turn_block_is name (Some (get_or made i [])) found j })
    where
      name : ObjName
      name = record { owner = heap.owner; serial = heap.next + i }

      from : nat_le heap.next (heap.next + i) ≡ true
      from = let low : heap.next ≤ heap.next + i = omega arith in grind (arith, nat_tests)

      back : heap.next + i - heap.next ≡ i
      back = omega arith

      is : (mine : Bool) → mine ≡ true → (late : Bool) → late ≡ true → cond (mine && late) (slice_get made (heap.next + i - heap.next)) None ≡ Some (get_or made i [])
      is mine e late f = (λ j. cond (e j && f j) (slice_get made (back j)) None) ∙ slice_get-get_or made i [] l

      found : made_row name ≡ Some (get_or made i [])
      found = is (heap.owner == heap.owner) (eq-eqb heap.owner heap.owner refl) (nat_le heap.next (heap.next + i)) from

  -- what has another place than those that were made was not made
  pub not_made : (x : Thing) (p : ℕ) → turn_place x ≡ Some p → ((i : ℕ) → i < length made → p ≢ length lower + i) → turn_lies x ≡ before_lies x
  not_made x p e other = lies_as_before x (λ i l same. let both : Some p ≡ Some (length lower + i) = sym e ∙ ap turn_place same ∙ turn_new i l in other i l (let it : p ≡ length lower + i = cc in it))
