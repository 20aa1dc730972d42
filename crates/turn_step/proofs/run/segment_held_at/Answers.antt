use Rattle.std.proofs.Common.{List, subst, sym}
use Rattle.behaviour_code.specs.declared.instr.Instr.{Instr}
use Rattle.behaviour_check.specs.Keeps.{LabelsDiffer}
use Rattle.behaviour_check.proofs.Once.{labels_differ_in}
use Rattle.turn_step.proofs.run.segment_held_at.Goals as goal

pub run-requires-clause-once : goal.run-requires-clause-once
run-requires-clause-once g c =
    let frame = c.args.frame.now in
    subst (λ (body : List Instr). LabelsDiffer body) (sym c.body-body.ensures)
    (labels_differ_in c.program.result.now frame.kind frame.behaviour c.program.ensures.kept)
