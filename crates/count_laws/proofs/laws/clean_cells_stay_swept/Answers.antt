use Rattle.count_laws.proofs.events.Acting.{clean_stay_swept}
use Rattle.count_laws.proofs.laws.clean_cells_stay_swept.Goals as goal

pub returns : goal.returns
returns c = clean_stay_swept
