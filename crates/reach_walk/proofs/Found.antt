-- What a walk that is over has found.
use Rattle.std.proofs.Common.{◌≡◌, ℕ, ◌↔◌, Bool, true, false, Option, List, Contains, refl, sym}
use Rattle.std.specs.List.Sorted.{IsStrictlySortedBy}
use Rattle.std.specs.Cmp.{eq_by_cmp_equiv}
use Rattle.std.proofs.lemmas.Map.Views.{Contains-from_any, list_any-from_Contains}
use Rattle.orca_names.specs.Names.{thing_cmp}
use Rattle.orca_names.specs.declared.names.ObjName.{ObjName}
use Rattle.orca_names.specs.declared.names.Thing.{Thing}
use Rattle.orca_names.specs.declared.names.Value.{Value}
use Rattle.orca_names.proofs.ThingOrder.{thing_total, is_same}
use Rattle.reach_walk.specs.declared.noted.Noted.{Noted}
use Rattle.reach_walk.specs.Marks.{Covers, marks_of, TellMarks}
use Rattle.reach_walk.specs.Reach.{named_by, row_edges, AreReached}
use Rattle.reach_walk.specs.Walk.{AreTold}
use Rattle.reach_walk.proofs.MarkLaws.{marks-exact, marks-unique}

-- the same things in another list
pub reached-same : (edges : Thing → List Value) (roots things sorted : List Thing) → AreReached edges roots things → ((x : Thing) → Contains sorted x ↔ Contains things x) → AreReached edges roots sorted
reached-same edges roots things sorted reached same x = (λ c. (reached x).0 ((same x).0 c), λ r. (same x).1 ((reached x).1 r))

module _ (rows : ObjName → Option (List Value)) (all : List ObjName) (roots : List Value) (covers : Covers all rows) where
  pub marks-listed : (things sorted : List Thing) → AreReached (row_edges rows) (named_by roots) things → ((x : Thing) → Contains sorted x ↔ Contains things x) → IsStrictlySortedBy thing_cmp sorted → sorted ≡ marks_of rows all roots
  marks-listed things sorted reached same rising =
      marks-unique rows all roots sorted covers (record { exact = reached-same (row_edges rows) (named_by roots) things sorted reached same; rising = rising })

  alike : (a b : Bool) → (a ≡ true → b ≡ true) → (b ≡ true → a ≡ true) → a ≡ b
  alike true b f g = sym (f refl)
  alike false true f g = g refl
  alike false false f g = refl

  pub marks-told : (place : Thing → Option ℕ) (count : ℕ) (noted : Noted) (things : List Thing) → AreTold place count noted things → AreReached (row_edges rows) (named_by roots) things → TellMarks place noted.bits (marks_of rows all roots)
  marks-told place count noted things told reached x p at =
      let marks = marks_of rows all roots in
      let exact = (marks-exact rows all roots covers).exact x in
      let on = told.placed x p at in
      alike _ _ (λ b. list_any-from_Contains (eq_by_cmp_equiv thing_total) x marks (exact.1 ((reached x).0 (on.1 b))))
      (λ any. on.0 ((reached x).1 (exact.0 (Contains-from_any is_same x marks any))))
