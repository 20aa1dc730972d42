use Rattle.picture_laws.proofs.Runs.{every_run_fits}
use Rattle.picture_laws.proofs.laws.every_run_fits.Goals as goal

pub returns : goal.returns
returns c = every_run_fits
