use Rattle.std.proofs.Common.{◌≡◌, ◌⊎◌, subst, sym, ◌∙◌}
use Rattle.letter_kinds.specs.Telling.{TellsOnly, ToldByOne}
use Rattle.actor_cell.specs.declared.cell.Cell.{Cell}
use Rattle.actor_table.specs.declared.slot.Place.TheVariants.{Home}
use Rattle.actor_table.specs.Telling.{PlaceLies, PlaceTells, SlotTells}
use Rattle.actor_table.proofs.slot.change.Goals as goal

pub returns-clause-told : goal.returns-clause-told
returns-clause-told g c its home =
    let after = SlotTells (record { place = Home c.apply.new.cell; mail = c.apply.new.mail }) in
    let same : c.in-Home.cell ≡ its = home_is c.in-Home.cell its (sym c.in-Home.is ∙ home) in
    subst (λ p. TellsOnly (λ n row block. PlaceTells p n row block ⊎ ToldByOne c.args.slot.now.mail.brought n row block)
    (g.C.Changes.makes_in c.args.change.now its) after) (sym c.in-Home.is)
    (subst (λ x. TellsOnly (λ n row block. PlaceTells (Home c.in-Home.cell) n row block ⊎ ToldByOne c.args.slot.now.mail.brought n row block)
    (g.C.Changes.makes_in c.args.change.now x) after) same c.apply.ensures.told)
  where
    home_is : (x y : Cell) → Home x ≡ Home y → x ≡ y
    home_is x y is = cc

pub returns-clause-lie : goal.returns-clause-lie
returns-clause-lie g c = λ puts all. c.apply.ensures.lie puts (subst PlaceLies c.in-Home.is all)
