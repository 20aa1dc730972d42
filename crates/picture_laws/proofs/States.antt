-- The lines of a state tell all its parts.
use Rattle.std.proofs.Common.{◌≡◌, ◌⊎◌, List, [], length, inl, inr, refl, ap, sym, ◌∙◌}
use Rattle.std.specs.Prelude.{flat_map}
use Rattle.letter_kinds.specs.Detector.{token_numbered}
use Rattle.letter_kinds.specs.Reports.{kept_report}
use Rattle.machine_rules.specs.Actors.{seat_at}
use Rattle.machine_rules.specs.State.{State}
use Rattle.picture_rules.specs.Parts.{above, reporters, state_lines, token_numbers}
use Rattle.picture_rules.specs.Words.{Line}
use Rattle.picture_laws.specs.Applying.{AReport, AToken, AnActor, NumbersFit, Part, TheDetector, apply, part_lines}
use Rattle.picture_laws.specs.Runs.{nothing_told}
use Rattle.picture_laws.proofs.Blocks.{Begun, detector_begun, inner_further, none, report_begun, seat_begun, some, token_begun}
use Rattle.picture_laws.proofs.Bytes.{all_weaker}
use Rattle.picture_laws.proofs.Cover.{kept_named, open_named}
use Rattle.picture_laws.proofs.Parts.{among, blocks_flat, none_past, parts_fit, parts_there}
use Rattle.picture_laws.proofs.Walking.{In, Tells, all_told, anew, same}

pub part_begun : (s : State) (q : Part) → Begun q (part_lines s q)
part_begun s (AnActor a) = seat_begun s.program.names a (seat_at s.actors a)
part_begun s TheDetector = detector_begun s.detector
part_begun s (AReport a) = report_begun a (kept_report s.detector.kept a) (kept_named s.detector.kept a)
part_begun s (AToken n) = token_begun n (token_numbered n s.detector) (open_named s.detector.tokens n)

pub parts_are : (s : State) → flat_map (part_lines s) (parts_there s) ≡ state_lines s
parts_are s = blocks_flat (length s.actors) (above (reporters s.detector)) (above (token_numbers s.detector)) (part_lines s)

tells_itself : (q : Part) (lines : List Line) → Begun q lines → Tells q lines [] lines
tells_itself q _ none = same refl refl
tells_itself q _ (some line body s o inner) = anew line body refl s (all_weaker inner_further inner) refl

covers : (s : State) (p : Part) → (In p (parts_there s)) ⊎ (nothing_told p ≡ part_lines s p)
covers s p = elim (among (length s.actors) (above (reporters s.detector)) (above (token_numbers s.detector)) p) [
  | inl found ↦ inl found
  | inr past ↦ inr (sym (none_past s p past))
]

pub state_told : (s : State) → NumbersFit s → (p : Part) → apply (state_lines s) nothing_told p ≡ part_lines s p
state_told s fits p =
    ap (λ ls. apply ls nothing_told p) (sym (parts_are s))
    ∙ all_told nothing_told (part_lines s) (part_lines s) (λ q. tells_itself q (part_lines s q) (part_begun s q)) p (parts_there s)
    (parts_fit (length s.actors) (above (reporters s.detector)) (above (token_numbers s.detector)) fits.actors fits.reports fits.tokens) (covers s p)
