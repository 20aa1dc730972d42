-- The names of the actors of some reports.
use Rattle.std.proofs.Common.{◌≡◌, ℕ, ◌≢◌, ◌==◌, true, false, ⊎_elim, List, [], ◌∷◌, map, ap, sym, eqb-true, eq-eqb, Contains}
use Rattle.std.proofs.lemmas.Bool.{or_cases, or_left, or_right, or_parts, eqb-false}
use Rattle.std.specs.List.{AllByRecursion}
use Rattle.letter_kinds.specs.Detector.{has}
use Rattle.letter_kinds.specs.declared.note.Report.{Report}
use Rattle.reach_walk.proofs.Elements.{Contains-head, Contains-later}
use Rattle.detector_laws.proofs.Members.{first_or_later, none_in_empty}

abbrev pub names : List Report → List ℕ
names rs = map (λ r. r.actor) rs

pub named : (rs : List Report) (m : ℕ) → has (names rs) m ≡ true → (r : Report) × Contains rs r × (r.actor ≡ m)
named [] m h = absurd (cc)
named (r ∷ rs) m h = ⊎_elim
    (λ t. (r, Contains-head r rs, eqb-true r.actor m t))
    (λ t. let (q, i, e) = named rs m t in (q, Contains-later r rs q i, e))
    (or_cases (r.actor == m) (has (names rs) m) h)

pub unnamed : (rs : List Report) (m : ℕ) → has (names rs) m ≡ false → AllByRecursion (λ r. r.actor ≢ m) rs
unnamed [] m h = tt
unnamed (r ∷ rs) m h = let two = or_parts (r.actor == m) (has (names rs) m) h in (eqb-false r.actor m two.0, unnamed rs m two.1)

pub has_name : (rs : List Report) (r : Report) → Contains rs r → has (names rs) r.actor ≡ true
has_name [] r i = absurd (none_in_empty r i)
has_name (q ∷ rs) r i = ⊎_elim
    (λ e. or_left (q.actor == r.actor) (has (names rs) r.actor) (eq-eqb q.actor r.actor (ap (λ (x : Report). x.actor) (sym e))))
    (λ j. or_right (q.actor == r.actor) (has (names rs) r.actor) (has_name rs r j))
    (first_or_later q rs r i)
