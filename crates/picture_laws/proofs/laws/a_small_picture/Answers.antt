use Rattle.picture_laws.proofs.Example.{begins_so, goes_on_so}
use Rattle.picture_laws.proofs.laws.a_small_picture.Goals as goal

pub returns-clause-begins : goal.returns-clause-begins
returns-clause-begins c = begins_so

pub returns-clause-goes_on : goal.returns-clause-goes_on
returns-clause-goes_on c = goes_on_so
