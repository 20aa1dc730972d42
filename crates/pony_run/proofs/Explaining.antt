-- What the lines tell that give reasons, and who went.
use Rattle.std.proofs.Common.{◌≡◌, ◌<◌, ℕ, List, ap, ◌∙◌}
use Rattle.orca_names.specs.declared.parting.Parting.{Parting}
use Rattle.orca_names.specs.declared.reason.Reason.{Reason}
use Rattle.event_rule.specs.declared.event.Event.{Event}
use Rattle.machine_rules.specs.State.{State, first_state}
use Rattle.machine_rules.specs.Run.{IsRun}
use Rattle.report_text.specs.WhyLines.{why_lines}
use Rattle.why_path.specs.Partings.{partings_of}
use Rattle.why_path.specs.Reasons.{AreReasons}
use Rattle.why_path.proofs.Closing.{reaped_closed}
use Rattle.why_path.proofs.Runs as runs
use Rattle.pony_run.specs.Headline.{TellWhy}

pub tell_why : (book : List Event) (s : State) → IsRun s.program s.options book s → 0 < s.options.weight
    → (reasons : List Reason) → AreReasons s.actors reasons
    → (went : List Parting) → went ≡ partings_of book (first_state s.program s.options)
    → (lines : List ℕ) → lines ≡ why_lines went reasons → TellWhy book s lines
tell_why book s run heavy reasons each went is lines said =
    let hold = runs.hold_up s.program s.options heavy book s run reasons each in
    let reachable = runs.are_reachable s.program s.options heavy book s run in
    record {
      reasons = reasons;
      each = each;
      hold = hold;
      kept = (reachable.0, reachable.1, reachable.2 reasons hold);
      none_loose = λ deep quiet. runs.none_loose s.program s.options heavy deep book s run quiet reasons hold;
      closed = reaped_closed s.program s.options heavy book s run;
      said = said ∙ ap (λ ps. why_lines ps reasons) is;
    }
