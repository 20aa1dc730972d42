use Rattle.std.proofs.Common.{rules}
use Rattle.actor_table.specs.declared.slot.Place.TheVariants.{Home}
use Rattle.orca_core.proofs.Untold.{both_untold, first_untold, none_lies}
use Rattle.orca_core.proofs.machine.first_table.Goals as goal

pub returns-clause-untold : goal.returns-clause-untold
returns-clause-untold c =
    let cell = c.first.result in
    let mail = c.in_ok-mail.mail in
    first_untold c.reserve_actor.new.self.slots c.push_actor.new.self.slots (record { place = Home cell; mail = mail }) (search rules) c.push_actor.ensures.slots
    (both_untold cell mail c.first.ensures.told c.in_ok-mail.ensures.untold)

pub returns-clause-lie : goal.returns-clause-lie
returns-clause-lie c = c.push_actor.ensures.lie c.first.ensures.lie (none_lies c.reserve_actor.new.self.slots (search rules))

pub push_actor-requires-clause-brings : goal.push_actor-requires-clause-brings
push_actor-requires-clause-brings c = c.in_ok-mail.ensures.brings
