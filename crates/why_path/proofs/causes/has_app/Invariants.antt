use Rattle.std.proofs.Common.{◌≡◌, false, take}
use Rattle.std.specs.List.{list_any}
use Rattle.why_path.specs.Reasons.{is_app}
use Rattle.why_path.proofs.causes.has_app.Given as goal

abbrev pub invariant-loop-i : goal.invariant-loop-i
invariant-loop-i l = list_any is_app (take l.i l.mail.letters) ≡ false
