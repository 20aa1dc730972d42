use Rattle.std.proofs.Common.{ap, sym}
use Rattle.orca_core.specs.Machine.{Machine}
use Rattle.orca_core.proofs.Rounds.{free_acting, free_settling}
use Rattle.orca_core.proofs.machine.Orca.first_free.Goals as goal

pub returns-in-Some : goal.returns-in-Some
returns-in-Some g c =
    free_acting c.self.inside.core.parts.table.slots c.args.self.now.out c.args.self.now.state
    (ap (λ (m : Machine). m.out) (sym c.self.view_is)) (ap (λ (m : Machine). m.state.actors) (sym c.self.view_is))
    (g.S.SetAside.is_aside c.args.aside.now) c.in-Some.a c.in-Some.ensures

pub returns : goal.returns
returns g c =
    free_settling c.self.inside.core.parts.table.slots c.args.self.now.out c.args.self.now.state
    (ap (λ (m : Machine). m.out) (sym c.self.view_is)) (ap (λ (m : Machine). m.state.actors) (sym c.self.view_is))
    (g.S.SetAside.is_aside c.args.aside.now) c.in_default.ensures c.first_in-2.result c.first_in-2.ensures
