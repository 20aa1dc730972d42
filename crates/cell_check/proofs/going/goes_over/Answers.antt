use Rattle.std.proofs.Common.{[]}
use Rattle.orca_names.specs.declared.trace.Trace.TheVariants.{Deep}
use Rattle.actor_cell.specs.Cells.{as_cell}
use Rattle.actor_cell.specs.Moves.{act_in}
use Rattle.actor_cell.specs.Tells.{Tells}
use Rattle.cell_check.proofs.Few.{can_go}
use Rattle.cell_check.proofs.Telling.{none_told, still_nothing}
use Rattle.cell_check.proofs.going.goes_over.Goals as goal

pub find_go-requires-clause-stand : goal.find_go-requires-clause-stand
find_go-requires-clause-stand c = λ n row block told. absurd (c.requires n row block told)

pub go-requires-clause-can : goal.go-requires-clause-can
go-requires-clause-can c =
    let cell = c.args.cell.now in
    let turn = c.find_go.new.turn in
    let found = c.find_go.new.found in
    can_go (record { weight = 256; trace = Deep }) c.args.code.now cell.heap.owner (as_cell cell) turn found.place (act_in found)
    c.in_ok-find_go.ensures.found.told (c.allows.ensures turn c.if-not-allows.false)

pub go-requires-clause-stand : goal.go-requires-clause-stand
go-requires-clause-stand c = λ n row block told. absurd (c.requires n row block told)

pub returns-in_err-go : goal.returns-in_err-go
returns-in_err-go c = still_nothing (Tells c.args.cell.now) (Tells c.go.new.self) [] c.go.ensures.told none_told c.requires

pub returns : goal.returns
returns c = still_nothing (Tells c.args.cell.now) (Tells c.go.new.self) [] c.go.ensures.told none_told c.requires
