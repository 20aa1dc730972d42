use Rattle.std.proofs.Common.{◌≡◌, ◌==◌, ap, subst, ◌∙◌, arith}
use Rattle.row_blocks.specs.Blocks.{without}
use Rattle.row_blocks.proofs.GivenBack.{nothing_given}
use Rattle.actor_cell.specs.declared.cell.Cell.{Cell}
use Rattle.actor_table.specs.Slots.{slot_at}
use Rattle.orca_parts.specs.Blocks.{OwnFit}
use Rattle.orca_parts.proofs.Homes.{home_is}
use Rattle.orca_parts.proofs.placing.give_back.Goals as goal

pub returns-then-len-eq0 : goal.returns-then-len-eq0
returns-then-len-eq0 c = nothing_given (λ n. n.owner == c.args.a) c.args.blocks.now (omega (arith, c.len.ensures))

pub give_back_all-requires : goal.give_back_all-requires
give_back_all-requires c =
    let cell = c.in-Some.cell.now in
    let home = home_is (slot_at c.args.table.now.slots c.args.a) cell c.in-Some.ensures.cell in
    let there = c.requires.home in
    let same : c.requires.cell ≡ cell = cc in
    let fit = subst (OwnFit c.args.blocks.now) same (c.requires.so (ap (λ (x : Cell). x.heap.owner) same ∙ c.in-Some.ensures.owner)) in
    record { lie = fit.lie; left = fit.there }

pub returns : goal.returns
returns c = c.give_back_all.ensures ∙ ap (λ b. without (λ n. n.owner == b) c.args.blocks.now) c.in-Some.ensures.owner
