use Rattle.std.proofs.Common.{◌∙◌}
use Rattle.local_sweep.proofs.Owners.{search_is_has}
use Rattle.local_sweep.proofs.leaving.is_leaving.Goals as goal

pub returns : goal.returns
returns c = c.is_ok.ensures.value ∙ search_is_has c.args.gone.now c.args.actor c.binary_search.result c.requires c.binary_search.ensures.position
