use Rattle.std.proofs.Common.{◌≡◌, ◌≤◌, ◌+◌, length, arith, Some, None, sym, ap, ◌∙◌, subst}
use Rattle.machine_rules.specs.Actors.{cell_at}
use Rattle.count_laws.proofs.bounds.Bounding.{runs_make_few}
use Rattle.actor_cell.specs.Cells.{as_cell}
use Rattle.actor_table.specs.Slots.{actors_of}
use Rattle.orca_core.specs.Machine.{Machine, cell_here}
use Rattle.orca_core.proofs.Listing.{IsLeftBelow, all_below, gone_below, here_at_home, more_below, none_below}
use Rattle.orca_core.proofs.machine.Orca.left.Goals as goal
use Rattle.orca_core.proofs.machine.Orca.left.Goals.{in-Some+in_ok-push_things, in_default}

pub loop-a-init : goal.loop-a-init
loop-a-init c =
    let actors = c.args.self.now.state.actors in
    subst (IsLeftBelow actors 0) (sym c.new-things.ensures.items) (none_below actors)

pub overflow_cast-a : goal.overflow_cast-a
overflow_cast-a c =
    let self = c.self.inside in
    let m = c.self.invariant.reached in
    let actors = actors_of self.core.parts.table.slots in
    let few : length actors ≤ 65536 = runs_make_few self.core.code.now self.core.options m.book _ m.run in
    let same : length c.args.self.now.state.actors ≡ length actors =
    sym (ap (λ (m : Machine). length m.state.actors) c.self.view_is) in
    omega (arith, few, same, c.loop-a-test.true, c.made-a-end.ensures)

pub loop-a-preserved : goal.loop-a-preserved
loop-a-preserved c =
    let actors = c.args.self.now.state.actors in
    let a = c.loop-a.a in
    let things = c.loop-a.things.items in
    let is : cell_at actors a ≡ cell_here c.args.self.now a = here_at_home c.args.self.now a (c.requires a) in
    elim c.match-cell.branch [
      | in-Some+in_ok-push_things w ↦
          let cell = w.in-Some.cell.now in
          let here : cell_at actors a ≡ Some (as_cell cell) = is ∙ sym w.in-Some.ensures.cell in
          subst (IsLeftBelow actors (a + 1)) (sym (ap (λ v. v.items) w.things-is ∙ w.in_ok-push_things.ensures))
          (more_below actors a things c.loop-a.invariant cell here w.in-Some.ensures.owner)
      | in_default w ↦
          let gone : cell_at actors a ≡ None = is ∙ sym w.in_default.ensures.cell in
          subst (IsLeftBelow actors (a + 1)) (sym (ap (λ v. v.items) w.things-is))
          (gone_below actors a things c.loop-a.invariant gone)
    ]

pub returns-clause-exact : goal.returns-clause-exact
returns-clause-exact c =
    let actors = c.args.self.now.state.actors in
    let all : length actors ≤ c.loop-a.a = omega (arith, c.loop-a-test.false, c.made-a-end.ensures) in
    all_below actors c.loop-a.a c.loop-a.things.items c.loop-a.invariant all
