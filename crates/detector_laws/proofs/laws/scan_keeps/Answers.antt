use Rattle.detector_laws.proofs.Scan.{scan_reports, scan_tokens}
use Rattle.detector_laws.proofs.laws.scan_keeps.Goals as goal

pub returns-clause-reports : goal.returns-clause-reports
returns-clause-reports c = scan_reports

pub returns-clause-tokens : goal.returns-clause-tokens
returns-clause-tokens c = scan_tokens
