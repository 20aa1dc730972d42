use Rattle.std.proofs.Common.{refl, sym, ◌∙◌}
use Rattle.letter_kinds.specs.Telling.{brought_in}
use Rattle.actor_table.proofs.Bringing.{brings_pushed}
use Rattle.actor_table.proofs.Telling.{slot_pushed}
use Rattle.actor_table.proofs.slot.push_letter.Goals as goal

pub returns-clause-told : goal.returns-clause-told
returns-clause-told c =
    slot_pushed (record { place = c.args.slot.now.place; mail = c.push.new.self }) c.args.slot.now (brought_in c.args.letter) refl c.push.ensures.brought

pub returns-clause-brings : goal.returns-clause-brings
returns-clause-brings c =
    let y = c.args.slot.now in
    brings_pushed (record { place = y.place; mail = c.push.new.self }) y c.args.letter (sym c.is_present.ensures ∙ c.if-not-is_present.false) refl c.push.ensures.letters c.push.ensures.brought
