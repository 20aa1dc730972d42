use Rattle.std.proofs.Common.{ap, sym}
use Rattle.orca_core.specs.Machine.{Machine}
use Rattle.orca_core.proofs.Firsts.{first_of_actor}
use Rattle.orca_core.proofs.machine.Orca.next_of.Goals as goal

pub returns : goal.returns
returns c =
    first_of_actor c.self.inside.core.parts.table.slots c.args.self.now.out c.args.self.now.state
    (ap (λ (m : Machine). m.out) (sym c.self.view_is)) (ap (λ (m : Machine). m.state.actors) (sym c.self.view_is))
    c.args.a c.next_of.result c.next_of.ensures
