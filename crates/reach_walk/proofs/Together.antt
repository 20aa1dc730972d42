-- Objects that stand together: which of them a name tells, and runs of them.
use Rattle.std.proofs.Common.{◌≡◌, ℕ, ◌+◌, ◌-◌, ◌<◌, ◌≤◌, inl, inr, zero, suc, Bool, ◌==◌, not, false, true, Option, Some, List, [], ◌∷◌, ◌++◌, length, drop, map, get_or, refl, sym, ap, subst, ◌∙◌, arith}
use Rattle.std.specs.Prelude.{option_map, slice_get, slice_range}
use Rattle.std.specs.Ordering.{nat_cmp}
use Rattle.std.proofs.lemmas.Bool.{cases_lt, eqb-true, not-false}
use Rattle.std.proofs.lemmas.List.{append_assoc, append-nil, map-append, length-map, length-take-le, length-drop, get_or-take, get_or-drop}
use Rattle.std.proofs.lemmas.Option.{slice_get_within, slice_get-get_or, slice_get_cases, slice_get-map, same_Some, get_or_from_slice_get}
use Rattle.orca_names.specs.Names.{owner_of, thing_cmp}
use Rattle.orca_names.specs.declared.names.ObjName.{ObjName}
use Rattle.orca_names.specs.declared.names.Thing.{Thing}
use Rattle.orca_names.specs.declared.names.Thing.TheVariants.{Obj}
use Rattle.orca_names.specs.declared.names.Value.{Value}
use Rattle.row_store.specs.Told.{Lying, lie_as, lies_as, thing_lies, thing_row, told_block, told_row}
use Rattle.row_store.specs.declared.told.Told.{Told}
use Rattle.row_store.specs.declared.told.Told.TheVariants.{Nothing, Here, In}
use Rattle.ready_set.specs.Next.{AreOn, IsNext}
use Rattle.reach_walk.specs.Dense.{StandFrom, StandTogether}
use Rattle.reach_walk.specs.declared.dense.Dense.{Dense}
use Rattle.reach_walk.proofs.ByPlaces.{one_thing}
use Rattle.reach_walk.proofs.Placed.{ListsBelow, lists-next}

-- a thing with how its row lies
abbrev Item : Type 0
Item = Thing × Lying

-- numbers that do not differ
pub alike : (a b : ℕ) → not (a == b) ≡ false → a ≡ b
alike a b e = eqb-true a b (not-false (a == b) e)

-- an element of a list that was mapped comes from one
pub from_map : {X Y : Type 0} (f : X → Y) (xs : List X) (i : ℕ) (y : Y) → slice_get (map f xs) i ≡ Some y → (x : X) × (slice_get xs i ≡ Some x) × (f x ≡ y)
from_map f [] i y e = cc
from_map f (x ∷ xs) zero y e = (x, refl, same_Some (f x) y e)
from_map f (x ∷ xs) (suc i) y e = from_map f xs i y e

-- what is read of a load
pub told_at : (rows : ObjName → Option (List Value)) (items : List (Thing × Told)) (i : ℕ) (d : Thing × Told) → i < length items → slice_get (lie_as rows items) i ≡ Some (lies_as rows (get_or items i d))
told_at rows items i d inside = slice_get-map (lies_as rows) items i ∙ ap (option_map (lies_as rows)) (slice_get-get_or items i d inside)

module _ (place : Thing → Option ℕ) (rows : ObjName → Option (List Value)) (blocks : ObjName → Option ℕ) where
  abbrev lies : Thing → Lying
  lies = thing_lies rows blocks

  -- one of those that stand together, by its name
  pub named_there : (dense : Dense) (n : ObjName) (i : ℕ) (e : Item) → StandTogether place rows blocks dense → slice_get (lie_as rows dense.items.now) i ≡ Some e → e.0 ≡ Obj n → place (Obj n) ≡ Some (dense.base + i)
  named_there dense n i e together there same = subst (λ x. place x ≡ Some (dense.base + i)) same (together.placed i e there).0

  -- where none is missing, the one that a serial tells
  pub named_whole : (dense : Dense) (n : ObjName) (i : ℕ) → StandTogether place rows blocks dense → dense.whole ≡ true → i < length dense.items.now → n.owner ≡ dense.owner → n.serial ≡ dense.first + i → place (Obj n) ≡ Some (dense.base + i)
  named_whole dense n i together whole within owner serial = elim ((slice_get_cases (lie_as rows dense.items.now) i).1) as (λ _. place (Obj n) ≡ Some (dense.base + i)) [
    | inl there ↦ named_there dense n i there.0 together there.2 (together.whole whole i there.0 n there.2 owner serial)
    | inr past ↦ absurd (omega (arith, past.0, within, length-map dense.items.now (lies_as rows)))
  ]

  -- the object at the place of one of them has its row, and their owner
  pub stands_there : ((x y : Thing) (p q : ℕ) → place x ≡ Some p → place y ≡ Some q → thing_cmp x y ≡ nat_cmp p q) → (dense : Dense) (n : ObjName) (i : ℕ) (e : Item) → StandTogether place rows blocks dense → slice_get (lie_as rows dense.items.now) i ≡ Some e → place (Obj n) ≡ Some (dense.base + i)
      → (e.1.row ≡ rows n) × (n.owner ≡ dense.owner)
  stands_there in_order dense n i e together there here =
      let its = together.placed i e there in
      let same : e.0 ≡ Obj n = one_thing place in_order e.0 (Obj n) (dense.base + i) its.0 here in
      (ap (λ l. l.row) its.1 ∙ ap (thing_row rows) same, sym (ap owner_of same) ∙ together.owned i e there)

  -- a part of what stands from a place on
  pub part_stands : (items : List (Thing × Told)) (base from end : ℕ) → end ≤ length items → StandFrom place lies base (lie_as rows items) → StandFrom place lies (base + from) (lie_as rows (slice_range items from end))
  part_stands items base from end within stand i e there =
      let part = slice_range items from end in
      let x = from_map (lies_as rows) part i e there in
      let short : i < end - from = elim (cases_lt (length (drop from items)) (end - from)) as (λ _. i < end - from) [
        | inl h ↦ absurd (omega (arith, h, length-drop from items, within))
        | inr h ↦ omega (arith, slice_get_within part i x.0 x.1, length-take-le (end - from) (drop from items) h)
      ] in
      let read : get_or items (from + i) x.0 ≡ x.0 = sym (get_or-drop from items i x.0) ∙ sym (get_or-take (end - from) (drop from items) i x.0 short) ∙ get_or_from_slice_get part i x.0 x.0 x.1 in
      let inside : from + i < length items = omega (arith, short, within) in
      let its = stand (from + i) e (told_at rows items (from + i) x.0 inside ∙ ap Some (ap (lies_as rows) read ∙ x.2)) in
      let same : base + (from + i) ≡ base + from + i = omega arith in
      (its.0 ∙ ap Some same, its.1)

  -- behind the first of a run
  rest_stands : (e : Item) (run : List Item) (at : ℕ) → StandFrom place lies at (e ∷ run) → StandFrom place lies (at + 1) run
  rest_stands e run at stand i d there =
      let its = stand (suc i) d there in
      let same : at + suc i ≡ at + 1 + i = omega arith in
      (its.0 ∙ ap Some same, its.1)

  -- one thing stands at its place
  pub one_stands : (x : Thing) (at : ℕ) → place x ≡ Some at → StandFrom place lies at ((x, lies x) ∷ [])
  one_stands x at here zero e there =
      let same : (x, lies x) ≡ e = same_Some (x, lies x) e there in
      let begin : at ≡ at + 0 = omega arith in
      (subst (λ (d : Item). place d.0 ≡ Some (at + 0)) same (here ∙ ap Some begin), subst (λ (d : Item). d.1 ≡ lies d.0) same refl)
  one_stands x at here (suc i) e there = cc

  -- a run tells how the rows of its things lie
  pub run_rows : (run : List Item) (at : ℕ) → StandFrom place lies at run → run ≡ map (λ x. (x, lies x)) (map (λ e. e.0) run)
  run_rows [] at stand = refl
  run_rows (e ∷ run) at stand =
      let row : e ≡ (e.0, lies e.0) = ap (λ r. (e.0, r)) (stand 0 e refl).1 in
      ap (λ d. d ∷ run) row ∙ ap (λ es. (e.0, lies e.0) ∷ es) (run_rows run (at + 1) (rest_stands e run at stand))

  module _ (bits : List Bool) (in_order : (x y : Thing) (p q : ℕ) → place x ≡ Some p → place y ≡ Some q → thing_cmp x y ≡ nat_cmp p q) where
    -- the things of a run whose places are all on
    pub lists-run : (run : List Item) (things : List Thing) (at : ℕ) → ListsBelow place bits at things → StandFrom place lies at run → AreOn bits at (at + length run) → ListsBelow place bits (at + length run) (things ++ map (λ e. e.0) run)
    lists-run [] things at lists stand on =
        let same : at ≡ at + 0 = omega arith in
        subst (λ (k : ℕ). ListsBelow place bits k (things ++ [])) same (subst (ListsBelow place bits at) (sym (append-nil things)) lists)
    lists-run (e ∷ run) things at lists stand on =
        let next : IsNext bits at (Some at) = (omega arith, on at (omega arith) (omega arith), λ k after before. absurd (omega arith)) in
        let first = lists-next place bits in_order things at at e.0 lists next (at_first (stand 0 e refl).0) in
        let same : at + 1 + length run ≡ at + length (e ∷ run) = omega arith in
        subst (λ (k : ℕ). ListsBelow place bits k (things ++ map (λ d. d.0) (e ∷ run))) same
        (subst (ListsBelow place bits (at + 1 + length run)) (append_assoc things (e.0 ∷ []) (map (λ d. d.0) run))
        (lists-run run (things ++ e.0 ∷ []) (at + 1) first (rest_stands e run at stand) (λ k after before. on k (omega arith) (omega (arith, same)))))
      where
        at_first : place e.0 ≡ Some (at + 0) → place e.0 ≡ Some at
        at_first h = let same : at + 0 ≡ at = omega arith in h ∙ ap Some same

-- so many more with their rows
pub rows_run : {X Y : Type 0} (row : X → Y) (load now run : List (X × Y)) (things more : List X) → load ≡ map (λ z. (z, row z)) things → run ≡ map (λ z. (z, row z)) more → now ≡ load ++ run → now ≡ map (λ z. (z, row z)) (things ++ more)
rows_run row load now run things more so_far its last = last ∙ ap (λ es. es ++ run) so_far ∙ ap (λ es. map (λ z. (z, row z)) things ++ es) its ∙ sym (map-append (λ z. (z, row z)) things more)

-- ---- the same objects, by other rows

told_same : (rows its : ObjName → Option (List Value)) (x : Thing) (t : Told) → thing_row its x ≡ thing_row rows x → told_row its x t ≡ told_row rows x t
told_same rows its x Nothing same = refl
told_same rows its x (Here row) same = refl
told_same rows its x (In block) same = same

module _ (place now : Thing → Option ℕ) (rows its : ObjName → Option (List Value)) (blocks lie : ObjName → Option ℕ) (dense : Dense) (together : StandTogether place rows blocks dense)
    (same : (i : ℕ) (x : Thing) → i < length dense.items.now → owner_of x ≡ dense.owner → place x ≡ Some (dense.base + i) → (now x ≡ Some (dense.base + i)) × (thing_lies its lie x ≡ thing_lies rows blocks x)) where
  item : (i : ℕ) (e : Item) → slice_get (lie_as its dense.items.now) i ≡ Some e → (x : Thing × Told) × (slice_get dense.items.now i ≡ Some x) × (lies_as its x ≡ e)
  item i e there = from_map (lies_as its) dense.items.now i e there

  was : (i : ℕ) (x : Thing × Told) → slice_get dense.items.now i ≡ Some x → slice_get (lie_as rows dense.items.now) i ≡ Some (lies_as rows x)
  was i x there = slice_get-map (lies_as rows) dense.items.now i ∙ ap (option_map (lies_as rows)) there

  -- where each keeps its place, and its row lies as before, they stand together as before
  pub stand_alike : StandTogether now its lie dense
  stand_alike = record {
    placed = λ i e there.
        let x = item i e there in
        let old = was i x.0 x.1 in
        let stood = together.placed i (lies_as rows x.0) old in
        let here = same i x.0.0 (slice_get_within dense.items.now i x.0 x.1) (together.owned i (lies_as rows x.0) old) stood.0 in
        let row = told_same rows its x.0.0 x.0.1 (ap (λ l. l.row) here.1) in
        subst (λ (d : Item). (now d.0 ≡ Some (dense.base + i)) × (d.1 ≡ thing_lies its lie d.0)) x.2
        (here.0, (λ j. record { row = row j; block = told_block x.0.1 }) ∙ stood.1 ∙ sym here.1);
    owned = λ i e there.
        let x = item i e there in
        sym (ap (λ (d : Item). owner_of d.0) x.2) ∙ together.owned i (lies_as rows x.0) (was i x.0 x.1);
    whole = λ whole i e n there mine serial.
        let x = item i e there in
        sym (ap (λ (d : Item). d.0) x.2) ∙ together.whole whole i (lies_as rows x.0) n (was i x.0 x.1) mine serial;
    fits = together.fits;
  }
