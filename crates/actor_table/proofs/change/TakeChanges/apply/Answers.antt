use Rattle.std.proofs.Common.{[], subst, sym}
use Rattle.letter_kinds.specs.Telling.{TellsOnly, brought_in}
use Rattle.actor_table.specs.Telling.{TellsWith}
use Rattle.actor_table.proofs.Bringing.{brought_taken}
use Rattle.actor_table.proofs.Telling.{with_taken}
use Rattle.actor_table.proofs.change.TakeChanges.apply.Goals as goal

pub returns-clause-told : goal.returns-clause-told
returns-clause-told c =
    let cell = c.args.cell.now in
    let letters = c.args.mail.now.brought in
    subst (λ later. TellsOnly (TellsWith cell letters) [] (TellsWith c.apply_take.new.self later)) (sym c.take.ensures.others.1)
    (with_taken cell c.apply_take.new.self letters (brought_in c.in-Some.letter.now) (sym c.in-Some.ensures.brought) c.apply_take.ensures.told)

pub returns-clause-lie : goal.returns-clause-lie
returns-clause-lie c = λ _. c.apply_take.ensures.lie

pub returns-clause-brings : goal.returns-clause-brings
returns-clause-brings c = brought_taken c.args.mail.now c.take.new.self c.take.ensures.others.0 c.take.ensures.others.1
