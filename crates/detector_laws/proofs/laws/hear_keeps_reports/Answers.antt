use Rattle.detector_laws.proofs.Hear.{hear_reports}
use Rattle.detector_laws.proofs.laws.hear_keeps_reports.Goals as goal

pub returns : goal.returns
returns c = hear_reports
