use Rattle.std.proofs.Common.{◌∙◌, ◌-◌, ◌++◌, [], ap, take}
use Rattle.cycle_detect.proofs.Settled.{settled}
use Rattle.cycle_detect.proofs.scan.settle.Goals as goal

pub returns-clause-settled : goal.returns-clause-settled
returns-clause-settled g c =
    let popped = c.in_default.ensures in
    settled _ c.args.names.now c.requires.names c.loop-i.off c.loop-i.standing.out.items c.loop-i.standing.told.items c.loop-i.standing.work.items c.requires.rising
    (c.loop-i.auto.off ∙ c.requires.long) (popped.items ∙ ap (λ xs. xs ++ []) (popped.rest ∙ ap (λ n. take (n - 1) c.loop-i.standing.work.items) popped.cases.0)) c.loop-i.invariant.falling c.loop-i.invariant.told
