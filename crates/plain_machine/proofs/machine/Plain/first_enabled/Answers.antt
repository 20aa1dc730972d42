use Rattle.std.proofs.Common.{ap}
use Rattle.plain_machine.proofs.Firsts.{first_matches}
use Rattle.plain_machine.proofs.machine.Plain.first_enabled.Goals as goal

pub returns : goal.returns
returns c =
    first_matches c.args.self.now c.self.inside.actors (ap (λ s. s.actors) c.self.view_is) c.first_event.result c.first_event.ensures.none c.first_event.ensures.some
