-- Loads and marks are exact: they have what is reached over the actor's rows, and nothing else.
use Rattle.std.proofs.Common.{◌≡◌, ℕ, ◌≤◌, ◌⊎◌, inl, inr, ⊎_elim, true, List, [], ◌∷◌, Option, All, ap, arith, map, refl}
use Rattle.std.proofs.lemmas.Cmp.{eq_by_cmp_equiv}
use Rattle.std.proofs.lemmas.List.Elements.{All-head, All-tail}
use Rattle.std.proofs.lemmas.Map.Views.{Contains-from_any, list_any-from_Contains}
use Rattle.orca_names.proofs.ThingOrder.{thing_total, is_same}
use Rattle.orca_names.specs.declared.names.ObjName.{ObjName}
use Rattle.orca_names.specs.declared.names.Thing.{Thing}
use Rattle.orca_names.specs.declared.names.Value.{Value}
use Rattle.reach_walk.proofs.Loads.{loads-exact}
use Rattle.reach_walk.proofs.MarkLaws.{marks-reached, marks-sorted, reached-marks, cases_reached}
use Rattle.reach_walk.specs.Marks.{Covers, marks_of, load_of}
use Rattle.reach_walk.specs.Reach.{thing_row}
use Rattle.letter_kinds.specs.Counting.{Loaded}
use Rattle.letter_kinds.specs.Holdings.{Row, Holdings, row_of, known_objects}
use Rattle.letter_kinds.specs.Sums.{times_loaded}
use Rattle.letter_kinds.proofs.Known.{known_objects-cover}
use Rattle.count_laws.proofs.knowledge.Turns.{along_edges, along_rows}
use Rattle.machine_rules.specs.Cell.{Cell}
use Rattle.machine_rules.specs.Collect.{is_marked_deep}
use Rattle.machine_rules.specs.Go.{load_from}
use Rattle.orca_names.specs.declared.trace.Trace.TheVariants.{Deep}
use Rattle.count_laws.specs.Known.{Names, ReachesThrough, row_at, RowsAreIn, IsLoadOf}

-- ---- loads

rows_in : (all : Thing → Option Row) (load : List Loaded) → All (λ e. e.1 ≡ all e.0) load → RowsAreIn all load
rows_in all [] h = tt
rows_in all (e ∷ load) h = (All-head (λ e. e.1 ≡ all e.0) e load h, rows_in all load (All-tail (λ e. e.1 ≡ all e.0) e load h))

things_of : (row : Thing → Option Row) (things : List Thing) → map (λ (e : Loaded). e.0) (map (λ x. (x, row x)) things) ≡ things
things_of row [] = refl
things_of row (x ∷ xs) = ap (λ ys. x ∷ ys) (things_of row xs)

module _ (rows : ObjName → Option Row) (all : List ObjName) (args : List Value) (covers : Covers all rows) where
  -- a thing is reached and loaded once, or is neither
  once_or_not : (x : Thing) → (ReachesThrough (thing_row rows) (Names args) x × (times_loaded x (load_of rows all args) ≡ 1))
      ⊎ ((¬ ReachesThrough (thing_row rows) (Names args) x) × (times_loaded x (load_of rows all args) ≡ 0))
  unfolding times_loaded
  once_or_not x = let exact = loads-exact rows all args covers in ⊎_elim
      (λ r. inl (along_rows rows (λ y n. n) r, exact.once x r))
      (λ apart. inr ((λ r. apart (along_edges rows (λ y n. n) r)), exact.no_other x apart))
      (cases_reached rows all args covers x)

  load_once : (x : Thing) → times_loaded x (load_of rows all args) ≤ 1
  load_once x = ⊎_elim (λ h. let e = h.1 in omega arith) (λ h. let e = h.1 in omega arith) (once_or_not x)

  pub load_exact : IsLoadOf (thing_row rows) args (load_of rows all args)
  load_exact = record {
    once = load_once;
    rising = rw (things_of (thing_row rows) (marks_of rows all args)) (marks-sorted rows all args);
    reached = λ x some. ⊎_elim (λ h. h.0) (λ h. absurd (let e = h.1 in omega arith)) (once_or_not x);
    whole = λ x r. ⊎_elim (λ h. let e = h.1 in omega arith) (λ h. absurd (h.0 r)) (once_or_not x);
    rows = rows_in (thing_row rows) (load_of rows all args) (loads-exact rows all args covers).with_rows;
  }

-- the load of an actor's letter
module _ (me : ℕ) (h : Holdings) (args : List Value) where
  pub load_from-exact : IsLoadOf (row_at me h) args (load_from Deep me h args)
  load_from-exact = load_exact (row_of me h) (known_objects me h) args (known_objects-cover me h)

-- ---- marks

module _ (a : ℕ) (c : Cell) where
  pub marked_reached : (x : Thing) → is_marked_deep a c x ≡ true → ReachesThrough (row_at a c.holdings) (Names c.fields.values) x
  unfolding is_marked_deep
  marked_reached x e =
      let marks = marks_of (row_of a c.holdings) (known_objects a c.holdings) c.fields.values in
      along_rows (row_of a c.holdings) (λ y n. n) (marks-reached (row_of a c.holdings) (known_objects a c.holdings) c.fields.values x (Contains-from_any is_same x marks e))

  pub reached_marked : (x : Thing) → ReachesThrough (row_at a c.holdings) (Names c.fields.values) x → is_marked_deep a c x ≡ true
  unfolding is_marked_deep
  reached_marked x r =
      let marks = marks_of (row_of a c.holdings) (known_objects a c.holdings) c.fields.values in
      list_any-from_Contains (eq_by_cmp_equiv thing_total) x marks
      (reached-marks (row_of a c.holdings) (known_objects a c.holdings) c.fields.values (known_objects-cover a c.holdings) x (along_edges (row_of a c.holdings) (λ y n. n) r))
