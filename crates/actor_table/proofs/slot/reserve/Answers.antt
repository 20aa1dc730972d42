use Rattle.std.proofs.Common.{◌⊎◌, [], subst, sym}
use Rattle.letter_kinds.specs.Telling.{TellsOnly, ToldByOne}
use Rattle.actor_table.specs.declared.slot.Place.TheVariants.{Home}
use Rattle.actor_table.specs.Telling.{PlaceLies, PlaceTells, SlotTells}
use Rattle.actor_table.proofs.Telling.{with_told}
use Rattle.actor_table.proofs.slot.reserve.Goals as goal

pub returns-clause-told : goal.returns-clause-told
returns-clause-told g c =
    let letters = c.args.slot.now.mail.brought in
    subst (λ p. TellsOnly (λ n row block. PlaceTells p n row block ⊎ ToldByOne letters n row block) []
    (SlotTells (record { place = Home c.reserve.new.cell; mail = c.args.slot.now.mail }))) (sym c.in-Home.is)
    (with_told c.in-Home.cell c.reserve.new.cell letters [] c.reserve.ensures.told)

pub returns-clause-lie : goal.returns-clause-lie
returns-clause-lie g c = λ all. c.reserve.ensures.lie (subst PlaceLies c.in-Home.is all)
