-- What the rules say of names, where a turn looks for one.
use Rattle.std.proofs.Common.{◌≡◌, ◌≢◌, ℕ, [], Option, None, Some, refl, arith}
use Rattle.std.specs.List.{AllPairs, slice_get}
use Rattle.std.specs.Option.{option_map_or}
use Rattle.behaviour_code.specs.Find.{body_of}
use Rattle.behaviour_code.specs.declared.code.Behaviour.{Behaviour}
use Rattle.behaviour_code.specs.declared.code.Kind.{Kind}
use Rattle.behaviour_code.specs.declared.code.Program.{Program}
use Rattle.behaviour_check.specs.Keeps.{BehavioursDiffer, HasNoNameTwice, LabelsDiffer}
use Rattle.behaviour_check.specs.Rules.{IsChecked}
use Rattle.behaviour_check.proofs.Keeping.{accepts_exactly, each_placed}
use Rattle.behaviour_check.proofs.Places.{All-slice_get}

pub no_name_twice : (p : Program) → IsChecked p → HasNoNameTwice p
no_name_twice p checked = ((accepts_exactly p).0 checked.kept).names

-- no two kinds have one name
pub kinds_differ : (p : Program) → IsChecked p → AllPairs (λ k l. k.name ≢ l.name) p.kinds
kinds_differ p checked = (no_name_twice p checked).kinds

-- nor have two behaviours of a kind
pub behaviours_differ : (p : Program) (place : ℕ) (k : Kind) → IsChecked p → slice_get p.kinds place ≡ Some k →
    AllPairs (λ b c. b.name ≢ c.name) k.behaviours
behaviours_differ p place k checked found =
    All-slice_get BehavioursDiffer p.kinds (no_name_twice p checked).behaviours place k found

-- each label of a body is given once
pub labels_differ_in : (p : Program) (kind behaviour : ℕ) → IsChecked p →
    LabelsDiffer (body_of p kind behaviour)
labels_differ_in p kind behaviour checked = of_kind (slice_get p.kinds kind) refl
  where
    of_behaviour : (k : Kind) → slice_get p.kinds kind ≡ Some k → (found : Option Behaviour) →
        slice_get k.behaviours behaviour ≡ found → LabelsDiffer (option_map_or (λ b. b.body) found [])
    of_behaviour k at None e = λ name i j d earlier within. absurd (omega (arith, within))
    of_behaviour k at (Some b) e =
        each_placed (λ _ body. LabelsDiffer body) p (no_name_twice p checked).labels kind k at behaviour b e

    of_kind : (found : Option Kind) → slice_get p.kinds kind ≡ found →
        LabelsDiffer (option_map_or (λ b. b.body)
        (slice_get (option_map_or (λ k. k.behaviours) found []) behaviour) [])
    of_kind None e = λ name i j d earlier within. absurd (omega (arith, within))
    of_kind (Some k) e = of_behaviour k e (slice_get k.behaviours behaviour) refl
