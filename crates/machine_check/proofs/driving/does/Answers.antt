use Rattle.std.proofs.Common.{[], ◌∷◌, ◌∙◌}
use Rattle.orca_core.proofs.Blockless.{none_by, none_put, none_stand}
use Rattle.machine_check.proofs.Finding.{kept_by}
use Rattle.machine_check.proofs.driving.does.Goals as goal

pub step-requires-clause-stand : goal.step-requires-clause-stand
step-requires-clause-stand c = none_stand _ c.args.machine.now c.requires.none

pub step-requires-clause-put : goal.step-requires-clause-put
step-requires-clause-put c = none_put c.args.machine.now.blocks (0 ∷ []) c.requires.none

pub returns : goal.returns
returns c =
    let reached = c.keeps_the_reachable.ensures in
    let driven = c.requires in
    record {
      own = kept_by c.args.machine.now c.args.drive.now.code.now c.args.drive.now.trace driven.own c.step.new.self
          reached.book c.args.event c.step.result reached.run c.step.ensures.ok c.step.ensures.same;
      home = λ a. c.step.ensures.out a ∙ driven.home a;
      none = none_by c.args.machine.now c.step.new.self c.args.event c.step.result driven.none c.step.ensures.blocks c.step.ensures.same;
    }
