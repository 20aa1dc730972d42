-- The own objects stand together among the places.
use Rattle.std.proofs.Common.{◌≡◌, ℕ, ◌+◌, ◌<◌, ◌^◌, true, List, Some, length, slice_get, refl, sym, ap, subst, ◌∙◌, arith}
use Rattle.std.specs.Prelude.{option_map}
use Rattle.std.specs.FinMap as m
use Rattle.std.proofs.lemmas.List.{length-map}
use Rattle.std.proofs.lemmas.Option.{slice_get-map}
use Rattle.orca_names.specs.Names.{owner_of}
use Rattle.orca_names.specs.declared.names.ObjName.{ObjName}
use Rattle.orca_names.specs.declared.names.Thing.{Thing}
use Rattle.orca_names.specs.declared.names.Thing.TheVariants.{Obj}
use Rattle.row_store.specs.Told.{Lying, lie_as, lies_as, thing_lies}
use Rattle.row_store.proofs.Telling.{block_told, row_told}
use Rattle.letter_kinds.specs.Holdings.{Row}
use Rattle.object_heap.specs.Entry.{FollowOn, first_of}
use Rattle.object_heap.specs.Heap.{Heap, block_at, own_object, own_objects}
use Rattle.foreign_table.specs.Span.{IsSpan}
use Rattle.foreign_table.specs.Table.{Table}
use Rattle.reach_walk.specs.Dense.{StandTogether}
use Rattle.reach_walk.specs.declared.dense.Dense.{Dense}
use Rattle.reach_walk.proofs.Together.{from_map, stand_alike}
use Rattle.known_rows.specs.InTurn.{ComeLater, turn_block}
use Rattle.known_rows.specs.Known.{block_known, row_known}
use Rattle.known_rows.specs.Places.{place_in}
use Rattle.known_rows.proofs.Later.{lower, not_made, turn_kept, turn_place, turn_row}
use Rattle.known_rows.proofs.Placed.{blocked_own, place_own, rowed_own}

-- how many own objects there are
pub objects_count : (heap : Heap) → length (own_objects heap) ≡ m.len heap.rows
objects_count heap = length-map (m.entries heap.rows) (own_object heap.owner heap.blocks) ∙ sym (m.len-entries heap.rows)

module _ (heap : Heap) (foreign : Table) (first end : ℕ) (span : IsSpan heap.owner (m.keys foreign.entries) first end) where
  -- an own object, by its place among these
  abbrev named : ℕ → ObjName
  named serial = record { owner = heap.owner; serial = serial }

  abbrev lies : Thing → Lying
  lies x = thing_lies (row_known heap foreign) (block_known heap foreign) x

  abbrev told : Heap → ℕ × (Row × ℕ) → Thing × Lying
  told its e = lies_as (row_known heap foreign) (own_object its.owner its.blocks e)

  -- each has its place, and its row lies as it is told
  abbrev Stands : ℕ → Thing × Lying → Type 0
  Stands i e = (place_in heap foreign e.0 ≡ Some (first + 1 + i)) × (e.1 ≡ lies e.0)

  own_lies : (i : ℕ) (e : ℕ × (Row × ℕ)) → slice_get (m.entries heap.rows) i ≡ Some e → (told heap e).1 ≡ lies (Obj (named e.0))
  own_lies i e there =
      let n = named e.0 in
      let block = block_at heap.blocks e.0 in
      let row = rowed_own heap foreign n i e.1.0 e.1.1 refl there in
      λ j. record { row = (row_told (row_known heap foreign) n e.1.0 block (λ _. sym row) ∙ row) j; block = (block_told e.1.0 block ∙ blocked_own heap foreign n refl) j }

  -- its serial is that at its place
  own_stands : (i : ℕ) (e : Thing × Lying) → slice_get (lie_as (row_known heap foreign) (own_objects heap)) i ≡ Some e → (serial : ℕ) × (slice_get (m.keys heap.rows) i ≡ Some serial) × (Obj (named serial) ≡ e.0) × Stands i e
  own_stands i e there =
      let kept = from_map (lies_as (row_known heap foreign)) (own_objects heap) i e there in
      let its = from_map (own_object heap.owner heap.blocks) (m.entries heap.rows) i kept.0 kept.1 in
      let same : told heap its.0 ≡ e = ap (lies_as (row_known heap foreign)) its.2 ∙ kept.2 in
      let key : slice_get (m.keys heap.rows) i ≡ Some its.0.0 = slice_get-map (λ x. x.0) (m.entries heap.rows) i ∙ ap (option_map (λ x. x.0)) its.1 in
      (its.0.0, key, ap (λ x. x.0) same, subst (Stands i) same (place_own heap foreign first end span i its.0.0 key, own_lies i its.0 its.1))

  pub own_together : (dense : Dense) → dense.base ≡ first + 1 → dense.first ≡ first_of (m.keys heap.rows) → (dense.whole ≡ true → FollowOn (m.keys heap.rows)) → dense.owner ≡ heap.owner → dense.items.now ≡ own_objects heap → first + 1 + m.len heap.rows < 2 ^ 64
      → StandTogether (place_in heap foreign) (row_known heap foreign) (block_known heap foreign) dense
  own_together dense base first_is follow owner items fits =
      let rows = row_known heap foreign in
      let its : (i : ℕ) (e : Thing × Lying) → slice_get (lie_as rows dense.items.now) i ≡ Some e → slice_get (lie_as rows (own_objects heap)) i ≡ Some e = λ i e there. ap (λ es. slice_get (lie_as rows es) i) (sym items) ∙ there in
      record {
        placed = λ i e there.
            let stands = (own_stands i e (its i e there)).3 in
            (stands.0 ∙ ap (λ k. Some (k + i)) (sym base), stands.1);
        owned = λ i e there. sym (ap owner_of (own_stands i e (its i e there)).2) ∙ sym owner;
        whole = λ whole i e n there mine serial.
            let own = own_stands i e (its i e there) in
            let same : own.0 ≡ n.serial = follow whole i own.0 own.1 ∙ ap (λ k. k + i) (sym first_is) ∙ sym serial in
            sym own.2 ∙ (λ j. Obj (record { owner = (sym owner ∙ sym mine) j; serial = same j }));
        fits = omega (arith, base, ap length items, objects_count heap, fits);
      }

-- in a turn they stand as before
pub turn_together : (heap : Heap) (foreign : Table) (made : List Row) (come : ComeLater heap made) (dense : Dense) → StandTogether (place_in heap foreign) (row_known heap foreign) (block_known heap foreign) dense → dense.base + length dense.items.now ≡ length (lower heap foreign made come)
    → StandTogether (turn_place heap foreign made come) (turn_row heap foreign made come) (turn_block made heap foreign) dense
turn_together heap foreign made come dense together end =
    stand_alike (place_in heap foreign) (turn_place heap foreign made come) (row_known heap foreign) (turn_row heap foreign made come) (block_known heap foreign) (turn_block made heap foreign) dense together
    (λ i x inside mine here.
    let kept = turn_kept heap foreign made come x (dense.base + i) here (omega (arith, inside, end)) in
    (kept, not_made heap foreign made come x (dense.base + i) kept (λ j l same. omega (arith, inside, end, same))))
