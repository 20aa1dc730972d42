use Rattle.std.proofs.Common.{◌≡◌, ap, subst, ◌∙◌, arith}
use Rattle.row_blocks.specs.Blocks.{is_one_of}
use Rattle.row_blocks.proofs.GivenBack.{nothing_given}
use Rattle.actor_cell.specs.declared.cell.Cell.{Cell}
use Rattle.actor_table.specs.Slots.{slot_at}
use Rattle.orca_parts.specs.Blocks.{AreThere, OwnFit}
use Rattle.orca_parts.proofs.Homes.{home_is}
use Rattle.orca_parts.proofs.placing.give_back_some.Goals as goal

pub returns-then-len-eq0 : goal.returns-then-len-eq0
returns-then-len-eq0 c = nothing_given (is_one_of c.args.gone.now) c.args.blocks.now (omega (arith, c.len.ensures))

pub give_back_freed-requires : goal.give_back_freed-requires
give_back_freed-requires c =
    let cell = c.in-Some.cell.now in
    let home = home_is (slot_at c.args.table.now.slots c.args.a) cell c.in-Some.ensures.cell in
    let there = c.requires.home in
    let same : there.cell ≡ cell = cc in
    let fit = subst (λ x. OwnFit c.args.blocks.now x × AreThere c.args.gone.now x) same
    (there.so (ap (λ (x : Cell). x.heap.owner) same ∙ c.in-Some.ensures.owner)) in
    record { lie = fit.0.lie; rising = c.requires.rising; there = fit.1 }
