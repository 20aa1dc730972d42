use Rattle.cell_check.proofs.going.goes_in.Goals as goal

pub find_go-requires-clause-stand : goal.find_go-requires-clause-stand
find_go-requires-clause-stand c = λ n row block told. absurd (c.requires n row block told)

pub does_in-requires-clause-can : goal.does_in-requires-clause-can
does_in-requires-clause-can c = c.allows.ensures c.find_go.new.turn c.if-not-allows.false
