use Rattle.detector_laws.proofs.Acked.{acked_bare, acked_sealed}
use Rattle.detector_laws.proofs.laws.acked_is_sealed.Goals as goal

pub returns-clause-sealed : goal.returns-clause-sealed
returns-clause-sealed c = acked_sealed

pub returns-clause-bare : goal.returns-clause-bare
returns-clause-bare c = acked_bare
