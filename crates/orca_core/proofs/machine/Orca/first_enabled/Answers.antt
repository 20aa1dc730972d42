use Rattle.std.proofs.Common.{ap, sym}
use Rattle.orca_core.specs.Machine.{Machine}
use Rattle.orca_core.proofs.Enabled.{found_with_none_away}
use Rattle.orca_core.proofs.Rounds.{first_acting, first_of_rest, first_settling}
use Rattle.orca_core.proofs.machine.Orca.first_enabled.Goals as goal

pub returns-in-Some-clause-here : goal.returns-in-Some-clause-here
returns-in-Some-clause-here c =
    first_acting c.self.inside.core.parts.table.slots c.args.self.now.out c.args.self.now.state
    (ap (λ (m : Machine). m.out) (sym c.self.view_is)) (ap (λ (m : Machine). m.state.actors) (sym c.self.view_is))
    c.in-Some.a c.in-Some.ensures c.next_of.result c.next_of.ensures

pub returns-in-Some-clause-whole : goal.returns-in-Some-clause-whole
returns-in-Some-clause-whole c =
    found_with_none_away c.args.self.now.out c.args.self.now.state c.next_of.result (returns-in-Some-clause-here c)

pub returns-in-Some-first_settling-clause-here : goal.returns-in-Some-first_settling-clause-here
returns-in-Some-first_settling-clause-here c =
    first_settling c.self.inside.core.parts.table.slots c.args.self.now.out c.args.self.now.state
    (ap (λ (m : Machine). m.out) (sym c.self.view_is)) (ap (λ (m : Machine). m.state.actors) (sym c.self.view_is))
    c.in_default.ensures c.in-Some-first_settling.a c.in-Some-first_settling.ensures
    c.next_of-in-Some-first_settling.result c.next_of-in-Some-first_settling.ensures

pub returns-in-Some-first_settling-clause-whole : goal.returns-in-Some-first_settling-clause-whole
returns-in-Some-first_settling-clause-whole c =
    found_with_none_away c.args.self.now.out c.args.self.now.state c.next_of-in-Some-first_settling.result
    (returns-in-Some-first_settling-clause-here c)

pub returns-clause-here : goal.returns-clause-here
returns-clause-here c =
    first_of_rest c.self.inside.core.parts.table.slots c.args.self.now.out c.args.self.now.state
    (ap (λ (m : Machine). m.out) (sym c.self.view_is)) (ap (λ (m : Machine). m.state.actors) (sym c.self.view_is))
    c.in_default.ensures c.in_default-first_settling.ensures c.first_of_detector.result c.first_of_detector.ensures

pub returns-clause-whole : goal.returns-clause-whole
returns-clause-whole c =
    found_with_none_away c.args.self.now.out c.args.self.now.state c.first_of_detector.result (returns-clause-here c)
