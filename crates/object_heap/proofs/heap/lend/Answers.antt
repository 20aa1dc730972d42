use Rattle.std.proofs.Common.{refl, sym, ap, ◌∙◌}
use Rattle.std.specs.Prelude.{Some}
use Rattle.object_heap.proofs.Lending.{is_told, told_here, told_in}
use Rattle.object_heap.proofs.heap.lend.Goals as goal

pub unreachable-requires : goal.unreachable-requires
unreachable-requires c = is_told c.requires.0 c.requires.1 (sym c.in-Nothing.is ∙ c.requires.2)

pub returns-in-Here : goal.returns-in-Here
returns-in-Here c = λ its block is.
    let row = told_here its c.in-Here.row block (sym c.in-Here.is ∙ is) in
    (ap Some (row.0 ∙ sym c.as_slice.ensures.value), row.1, c.as_slice.ensures.room.0, c.as_slice.ensures.room.1)

pub returns-in-In : goal.returns-in-In
returns-in-In c = λ its block is. (refl, told_in its c.in-In.block block (sym c.in-In.is ∙ is))
