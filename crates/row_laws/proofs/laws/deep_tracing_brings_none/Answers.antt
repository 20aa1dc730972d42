use Rattle.row_laws.proofs.Bringing.{deep_brings_none}
use Rattle.row_laws.proofs.laws.deep_tracing_brings_none.Goals as goal

pub returns : goal.returns
returns c = deep_brings_none
