-- Who went by the entries of a book.
use Rattle.std.specs.Prelude.{ℕ, ◌≡◌, ⊤, List, [], ◌∷◌, All, sum_by, Option, Some, None, option_map}
use Rattle.std.specs.List.{cons_option}
use Rattle.orca_names.specs.declared.kept_report.KeptReport.{KeptReport}
use Rattle.orca_names.specs.declared.parting.Parting.{Parting}
use Rattle.orca_names.specs.declared.parting.Parting.TheVariants.{Left, Reaped}
use Rattle.event_rule.specs.declared.event.Event.{Event}
use Rattle.event_rule.specs.declared.event.Event.TheVariants.{Leave, Reap}
use Rattle.event_rule.specs.Runs.{Step, NotEnabled, IsFull, Goes}
use Rattle.letter_kinds.specs.Detector.{token_numbered, reports_of}
use Rattle.letter_kinds.specs.Reports.{count_on}
use Rattle.machine_rules.specs.Next.{next}
use Rattle.machine_rules.specs.State.{State}

-- who goes by an entry: the actor that leaves, or the members of the token that is reaped, with what
-- the detector has kept of each; nobody by another
abbrev pub parting_at : State → Event → Option Parting
parting_at s (Leave a) = Some (Left a)
parting_at s (Reap token) =
    option_map (λ t. Reaped token (reports_of s.detector.kept t.members))
    (token_numbered token s.detector)
parting_at s _ = None

abbrev pub partings_after : (State → List Parting) → Step State → List Parting
partings_after later NotEnabled = []
partings_after later IsFull = []
partings_after later (Goes t) = later t

-- who goes by the entries of a book, from a state on
abbrev pub partings_of : List Event → State → List Parting
partings_of [] s = []
partings_of (e ∷ book) s = cons_option (parting_at s e) (partings_after (partings_of book) (next s e))

-- ---- closed by the numbers that are told

-- the sum of what these report to hold on actor x
abbrev pub held_among : ℕ → List KeptReport → ℕ
held_among x members = sum_by (λ m. count_on m.held x) members

-- each member's count is exactly what the members report to hold on it
abbrev pub IsClosedByNumbers : List KeptReport → Type 0
IsClosedByNumbers members = All (λ m. m.count ≡ held_among m.actor members) members

-- a set that is reaped is so; of one that leaves by itself no numbers are told
abbrev pub IsClosedParting : Parting → Type 0
IsClosedParting (Left a) = ⊤
IsClosedParting (Reaped token members) = IsClosedByNumbers members
