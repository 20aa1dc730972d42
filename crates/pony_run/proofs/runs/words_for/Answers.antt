use Rattle.std.proofs.Common.{arith}
use Rattle.pony_run.proofs.Running.{words_let_put}
use Rattle.pony_run.proofs.runs.words_for.Goals as goal

pub returns : goal.returns
returns c = words_let_put c.args.blocks c.in_ok-vec.field-0.items (let long = c.in_ok-vec.ensures.len in omega arith)
