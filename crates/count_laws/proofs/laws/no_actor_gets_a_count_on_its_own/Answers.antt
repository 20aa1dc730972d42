use Rattle.count_laws.proofs.events.Acting.{none_gets_its_own}
use Rattle.count_laws.proofs.laws.no_actor_gets_a_count_on_its_own.Goals as goal

pub returns : goal.returns
returns c = none_gets_its_own
