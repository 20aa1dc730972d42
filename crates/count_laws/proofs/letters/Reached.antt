-- What an actor reaches through the rows that it has is left; with root-only tracing, so is all that rows name.
use Rattle.std.proofs.Common.{◌≡◌, ℕ, ◌<◌, Contains, Option, Some, List, [], ◌∷◌, ap, sym, ◌∙◌, subst, arith, ⊎_elim}
use Rattle.std.specs.Prelude.{sum_by}
use Rattle.std.proofs.lemmas.Bool.{cases_eq}
use Rattle.std.proofs.lemmas.List.Elements.{Contains-append_cases}
use Rattle.std.proofs.lemmas.List.Sums.{sum_by-cons}
use Rattle.orca_names.specs.declared.names.ObjName.{ObjName}
use Rattle.orca_names.specs.declared.names.Thing.{Thing}
use Rattle.orca_names.specs.declared.names.Thing.TheVariants.{Obj}
use Rattle.reach_walk.proofs.Elements.{Contains-cons_cases, none_in_nil}
use Rattle.reach_walk.specs.Reach.{owned, root, thing_row}
use Rattle.letter_kinds.proofs.Counts.{loaded-same, loaded_more}
use Rattle.letter_kinds.specs.Counting.{Loaded}
use Rattle.letter_kinds.specs.Holdings.{Row}
use Rattle.letter_kinds.specs.Sums.{brought_by, load_count, times_loaded}
use Rattle.letter_kinds.specs.Letters.{Letter, App, Inc, Dec, Confirm}
use Rattle.machine_rules.specs.Actors.{Actors, seat, seat_at}
use Rattle.machine_rules.specs.Cell.{Cell, row_by_roots}
use Rattle.machine_rules.specs.Left.{IsLeft}
use Rattle.orca_names.specs.declared.trace.Trace.{Trace}
use Rattle.orca_names.specs.declared.trace.Trace.TheVariants.{Deep}
use Rattle.orca_names.specs.declared.trace.Trace.TheVariants as options
use Rattle.count_laws.proofs.balance.InHand.{Balanced, in_hand}
use Rattle.count_laws.proofs.balance.SeatReads.{letter_App}
use Rattle.count_laws.proofs.events.EitherMode as either
use Rattle.count_laws.proofs.knowledge.Paths.{along_row, reach_into}
use Rattle.count_laws.proofs.roots.Left.{along_left, known_left, loaded_left, owner_left, walk_left}
use Rattle.count_laws.proofs.roots.Rows.{by_brought, by_own, rows_sound}
use Rattle.count_laws.proofs.roots.Same.{own_row_has}
use Rattle.count_laws.specs.Agreement.{Person}
use Rattle.count_laws.specs.Facts.{KeepsCounts}
use Rattle.count_laws.specs.Known.{Names, ReachesThrough, StartsWalks, RowsAreIn, row_at}
use Rattle.count_laws.specs.KnownByRoots.{AreRootLetters, IsRootsAt, stands}
use Rattle.count_laws.specs.Named.{IsInRowsOf, ReachesNothingFreed, RowsNameNothingFreed, brought, has_row, in_brought, in_row}

-- ---- entries of a list of rows

entry_loaded : (x : Thing) (row : Option Row) (es : List Loaded) → Contains es (x, row) → 0 < times_loaded x es
entry_loaded x row [] c = none_in_nil (x, row) _ c
entry_loaded x row (e ∷ es) c = ⊎_elim
    (λ same. let z = loaded-same x e es (ap (λ (f : Loaded). f.0) (sym same)) in omega arith)
    (λ later. loaded_more x e es (entry_loaded x row es later))
    (Contains-cons_cases e es (x, row) c)

entry_true : (all : Thing → Option Row) (x : Thing) (row : Option Row) (es : List Loaded) → RowsAreIn all es → Contains es (x, row) → row ≡ all x
entry_true all x row [] are c = none_in_nil (x, row) _ c
entry_true all x row (e ∷ es) are c = ⊎_elim
    (λ (same : e ≡ (x, row)). subst (λ (f : Loaded). f.1 ≡ all f.0) same are.0)
    (λ later. entry_true all x row es are.1 later)
    (Contains-cons_cases e es (x, row) c)

-- ---- with root-only tracing

module _ (all : Thing → Option Row) (people : List Person) (s : Actors) (inv : KeepsCounts options.Roots all people s)
    (a : ℕ) (c : Cell) (mail : List Letter) (at : seat_at s a ≡ seat c mail) where
  bal : Balanced s
  bal = in_hand s inv.balanced

  mine : IsRootsAt all a c mail
  mine = inv.sound a c mail at

  on_left : (x y : Thing) (r : Row) → IsLeft s x → all x ≡ Some r → Names r y → IsLeft s y
  on_left x y r left e n = along_left all s bal inv.sound inv.bare x y r left e n

  row_left : (n : ObjName) (row : Row) → row_by_roots a c n ≡ Some row → IsLeft s (Obj n)
  row_left n row e = ⊎_elim
      (λ o.
      let own = own_row_has a c.holdings n row (sym (by_own a c n o) ∙ e) in
      record { seat = record { cell = c; mail = mail }; present = ap (seat_at s) o ∙ at; kept = own.1 })
      (λ o. walk_left all s bal inv.sound inv.bare (λ y k. known_left all s bal inv.sound a c mail y at k) (mine.led n row (sym (by_brought a c n o) ∙ e)))
      (cases_eq n.owner a)

  -- what letters bring their arguments reach, which are loaded
  module _ (x : Thing) (row : Option Row) where
    brought_true : (ls : List Letter) → ((y : Thing) → 0 < sum_by (load_count y) ls → IsLeft s y) → AreRootLetters all ls → Contains (brought_by ls) (x, row) → IsLeft s x × (row ≡ all x)
    brought_true [] left are c = none_in_nil (x, row) _ c
    brought_true (App b args load rows ∷ ls) left are c = ⊎_elim
        (λ first. (
          walk_left all s bal inv.sound inv.bare (λ y n. left y (let z = are.0.whole y (stands n) in omega (arith, (letter_App y b args load rows).2, sum_by-cons (load_count y) (App b args load rows) ls)))
              (are.0.rows.reached x (entry_loaded x row rows first)),
          entry_true all x row rows are.0.rows.rows first,
        ))
        (λ later. brought_true ls (λ y h. left y (omega (arith, sum_by-cons (load_count y) (App b args load rows) ls))) are.1 later)
        (Contains-append_cases rows (brought_by ls) (x, row) c)
    brought_true (Inc es ∷ ls) left are c = brought_true ls (λ y h. left y (omega (arith, sum_by-cons (load_count y) (Inc es) ls))) are c
    brought_true (Dec es ∷ ls) left are c = brought_true ls (λ y h. left y (omega (arith, sum_by-cons (load_count y) (Dec es) ls))) are c
    brought_true (Confirm t ∷ ls) left are c = brought_true ls (λ y h. left y (omega (arith, sum_by-cons (load_count y) (Confirm t) ls))) are c

    brought_left : Contains (brought_by mail) (x, row) → IsLeft s x × (row ≡ all x)
    brought_left c' = brought_true mail (λ y h. loaded_left all s bal inv.sound a c mail y at h) mine.letters c'

  in_rows_left : {x : Thing} → IsInRowsOf a c mail x → IsLeft s x
  in_rows_left (has_row n row e) = row_left n row e
  in_rows_left (in_row {x = x} n row e nm) = on_left (Obj n) x row (row_left n row e) (rows_sound all a c mail mine (Obj n) row e) nm
  in_rows_left (brought {x = x} row c') = (brought_left x row c').0
  in_rows_left (in_brought {x = x} y row c' nm) = let z = brought_left y (Some row) c' in on_left y x row z.0 (sym z.1) nm

  walked_left : {x : Thing} → ReachesThrough (thing_row (row_by_roots a c)) (StartsWalks c) x → IsLeft s x
  walked_left h = reach_into (thing_row (row_by_roots a c)) (IsLeft s) (λ x r. either.root_left options.Roots all people s inv a c mail x at r)
      (λ x y r left e n. on_left x y r left (rows_sound all a c mail mine x r e) n) (owner_left all s bal inv.sound) h

pub rows_left : (all : Thing → Option Row) (people : List Person) (s : Actors) → KeepsCounts options.Roots all people s → RowsNameNothingFreed s
rows_left all people s inv a c mail at x h = in_rows_left all people s inv a c mail at h

-- ---- with either

module _ (all : Thing → Option Row) (people : List Person) (s : Actors) (inv : KeepsCounts Deep all people s)
    (a : ℕ) (c : Cell) (mail : List Letter) (at : seat_at s a ≡ seat c mail) where
  deep_walk : {x : Thing} → ReachesThrough (row_at a c.holdings) (StartsWalks c) x → ReachesThrough all (StartsWalks c) x
  deep_walk h =
      let q = inv.sound a c mail at in
      reach_into (row_at a c.holdings) (ReachesThrough all (StartsWalks c)) (λ x r. root r) (λ x y r p e n. along_row all p (sym (q.rows x (q.closed x p)) ∙ e) n) (λ n p. owned p) h

pub reached_left : (trace : Trace) (all : Thing → Option Row) (people : List Person) (s : Actors) → KeepsCounts trace all people s → ReachesNothingFreed trace s
reached_left Deep all people s inv a c mail at x h = either.known_left Deep all people s inv a c mail x at ((inv.sound a c mail at).closed x (deep_walk all people s inv a c mail at h))
reached_left options.Roots all people s inv a c mail at x h = walked_left all people s inv a c mail at h
