use Rattle.detector_laws.proofs.Reap.{reap_reports, reap_tokens}
use Rattle.detector_laws.proofs.laws.reap_keeps.Goals as goal

pub returns-clause-reports : goal.returns-clause-reports
returns-clause-reports c = reap_reports

pub returns-clause-tokens : goal.returns-clause-tokens
returns-clause-tokens c = reap_tokens
