use Rattle.std.proofs.Common.{[]}
use Rattle.actor_cell.specs.Tells.{Tells}
use Rattle.cell_check.proofs.Telling.{none_told, still_nothing}
use Rattle.cell_check.proofs.going.collects.Goals as goal

pub collect-requires-clause-stand : goal.collect-requires-clause-stand
collect-requires-clause-stand c = λ n row block told. absurd (c.requires n row block told)

pub returns-in_err-collect : goal.returns-in_err-collect
returns-in_err-collect c = still_nothing (Tells c.args.cell.now) (Tells c.collect.new.self) [] c.collect.ensures.told none_told c.requires

pub returns : goal.returns
returns c = still_nothing (Tells c.args.cell.now) (Tells c.collect.new.self) [] c.collect.ensures.told none_told c.requires
