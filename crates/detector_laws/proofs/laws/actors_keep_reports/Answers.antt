use Rattle.detector_laws.proofs.ActorReports.{block_reports, confirm_reports, moves_reports}
use Rattle.detector_laws.proofs.laws.actors_keep_reports.Goals as goal

pub returns-clause-block : goal.returns-clause-block
returns-clause-block c = block_reports

pub returns-clause-confirm : goal.returns-clause-confirm
returns-clause-confirm c = confirm_reports

pub returns-clause-moves : goal.returns-clause-moves
returns-clause-moves c = moves_reports
