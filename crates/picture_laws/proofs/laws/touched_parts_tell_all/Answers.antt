use Rattle.picture_laws.proofs.Touched.{kept_tell_nothing, touched_tell_all}
use Rattle.picture_laws.proofs.laws.touched_parts_tell_all.Goals as goal

pub returns-clause-kept : goal.returns-clause-kept
returns-clause-kept c = kept_tell_nothing

pub returns-clause-touched : goal.returns-clause-touched
returns-clause-touched c = touched_tell_all
