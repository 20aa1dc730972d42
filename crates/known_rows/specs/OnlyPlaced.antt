-- An object without a place has no row.
use Rattle.std.specs.Prelude.{ℕ, ◌≡◌, ◌≢◌, ◌==◌, Bool, true, false, cond, nat_lt, is_some, List, [], ◌∷◌, ◌++◌, Option, Some, None, Contains, filter, option_map, refl}
use Rattle.std.proofs.Common.{inl, inr, sym, ap, subst, ◌∙◌, arith}
use Rattle.std.specs.FinMap as m
use Rattle.std.proofs.lemmas.Bool.{cases_lt, eq-eqb, eqb-true, false≢true, lt-ltb}
use Rattle.std.proofs.lemmas.Option.{none-some}
use Rattle.std.proofs.lemmas.List.Elements.{Contains-append_left, Contains-append_right}
use Rattle.std.proofs.lemmas.Map.Views.{Contains-from_any}
use Rattle.orca_names.specs.Names.{is_thing, owner_of}
use Rattle.orca_names.specs.declared.names.ObjName.{ObjName}
use Rattle.orca_names.specs.declared.names.Thing.{Thing}
use Rattle.orca_names.specs.declared.names.Thing.TheVariants.{Actor, Obj}
use Rattle.orca_names.proofs.ThingOrder.{is_same}
use Rattle.letter_kinds.specs.Holdings.{Row, entry_row}
use Rattle.object_heap.specs.Heap.{Heap, own_row}
use Rattle.foreign_table.specs.Table.{Table, known_row}
use Rattle.reach_walk.specs.Rows.{Contains-map}
use Rattle.reach_walk.proofs.Elements.{Contains-head, Contains-later, Contains-cons_cases, none_in_nil}
use Rattle.known_rows.specs.InOrder.{place_there}
use Rattle.known_rows.specs.Known.{own_key, row_known}
use Rattle.known_rows.specs.PlaceLaws.{placed_in_order}
use Rattle.known_rows.specs.Places.{held_above, held_below, own_things, place_in, placed_things}

-- what passes is among those that pass
Contains-filter : (p : Thing → Bool) (xs : List Thing) (x : Thing) → Contains xs x → p x ≡ true
    → Contains (filter p xs) x
Contains-filter p [] x c e = none_in_nil x _ c
Contains-filter p (y ∷ ys) x c e =
    elim (Contains-cons_cases y ys x c) as (λ _. Contains (filter p (y ∷ ys)) x) [
      | inl same ↦
          subst (λ b. Contains (cond b (y ∷ filter p ys) (filter p ys)) x) (sym (ap p same ∙ e))
          (subst (Contains (y ∷ filter p ys)) same (Contains-head y (filter p ys)))
      | inr d ↦ elim (p y) as (λ b. Contains (cond b (y ∷ filter p ys) (filter p ys)) x) [
        | true ↦ Contains-later y (filter p ys) x (Contains-filter p ys x d e)
        | false ↦ Contains-filter p ys x d e
      ]
    ]

module _ (heap : Heap) (foreign : Table) where
  abbrev own : List Thing
  own = Actor heap.owner ∷ own_things heap

  -- a held thing of another actor has a place
  held_placed : (x : Thing) → owner_of x ≢ heap.owner → Contains (m.keys foreign.entries) x
      → Contains (placed_things heap foreign) x
  held_placed x other c =
      elim (cases_lt (owner_of x) heap.owner) as (λ _. Contains (placed_things heap foreign) x) [
        | inl l ↦
            let its : Contains (held_below heap foreign) x =
            Contains-filter (λ y. nat_lt (owner_of y) heap.owner) (m.keys foreign.entries) x c
            (lt-ltb (owner_of x) heap.owner l) in
            Contains-append_left (held_below heap foreign ++ own) (held_above heap foreign) x
            (Contains-append_left (held_below heap foreign) own x its)
        | inr l ↦
            Contains-append_right (held_below heap foreign ++ own) (held_above heap foreign) x
            (Contains-filter (λ y. nat_lt heap.owner (owner_of y)) (m.keys foreign.entries) x c
            (lt-ltb heap.owner (owner_of x) (omega (arith, other))))
      ]

  -- an own object has a place
  own_placed : (n : ObjName) → n.owner ≡ heap.owner → Contains (m.keys heap.rows) n.serial
      → Contains (placed_things heap foreign) (Obj n)
  own_placed n same c =
      let named : ℕ → Thing = λ serial. Obj (record { owner = heap.owner; serial = serial }) in
      let its : Contains (own_things heap) (Obj n) =
      subst (Contains (own_things heap))
      (λ i. Obj (record { owner = sym same i; serial = n.serial }))
      (Contains-map named (m.keys heap.rows) n.serial c) in
      Contains-append_left (held_below heap foreign ++ own) (held_above heap foreign) (Obj n)
      (Contains-append_right (held_below heap foreign) own (Obj n)
      (Contains-later (Actor heap.owner) (own_things heap) (Obj n) its))

  -- what stands among the things with places has one
  no_place_absent : (x : Thing) → place_in heap foreign x ≡ None
      → Contains (placed_things heap foreign) x → ⊥
  no_place_absent x none c =
      let things = placed_things heap foreign in
      none-some c.0 (sym none
      ∙ place_there things x c.0 (placed_in_order heap foreign) c.1 c.2)

  own_part : (n : ObjName) → place_in heap foreign (Obj n) ≡ None → n.owner ≡ heap.owner
      → (o : Option (Row × ℕ)) → m.get heap.rows n.serial ≡ o → own_row heap n ≡ None
  own_part n none same None e =
      ap (λ b. cond b (option_map (λ x. x.0) (m.get heap.rows n.serial)) None)
      (eq-eqb n.owner heap.owner same) ∙ ap (option_map (λ x. x.0)) e
  own_part n none same (Some v) e =
      absurd (no_place_absent (Obj n) none (own_placed n same (own_key heap.rows n.serial v e)))

  held_part : (n : ObjName) → place_in heap foreign (Obj n) ≡ None → n.owner ≢ heap.owner
      → (o : Option (ℕ × Option Row)) → m.get foreign.entries (Obj n) ≡ o
      → known_row foreign n ≡ None
  held_part n none other None e = ap entry_row e
  held_part n none other (Some v) e =
      let key = sym (m.contains_key-keys foreign.entries (Obj n)) ∙ ap is_some e in
      let held = Contains-from_any {eq = is_thing} is_same (Obj n) (m.keys foreign.entries) key in
      absurd (no_place_absent (Obj n) none (held_placed (Obj n) other held))

-- an object without a place has no row
pub rows_have_places : (heap : Heap) (foreign : Table) (n : ObjName)
    → place_in heap foreign (Obj n) ≡ None → row_known heap foreign n ≡ None
rows_have_places heap foreign n none =
    elim (n.owner == heap.owner) as (λ b. (n.owner == heap.owner) ≡ b
    → cond b (own_row heap n) (known_row foreign n) ≡ None) [
      | true ↦ λ t.
          let same = eqb-true n.owner heap.owner t in
          own_part heap foreign n none same (m.get heap.rows n.serial) refl
      | false ↦ λ t.
          let other : n.owner ≢ heap.owner =
          λ same. false≢true (sym t ∙ eq-eqb n.owner heap.owner same) in
          held_part heap foreign n none other (m.get foreign.entries (Obj n)) refl
    ] refl
