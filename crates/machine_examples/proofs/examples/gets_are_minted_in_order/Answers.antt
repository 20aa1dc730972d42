use Rattle.machine_examples.proofs.FurtherRuns.{gets_are_minted_in_order}
use Rattle.machine_examples.proofs.examples.gets_are_minted_in_order.Goals as goal

pub returns : goal.returns
returns c = gets_are_minted_in_order
