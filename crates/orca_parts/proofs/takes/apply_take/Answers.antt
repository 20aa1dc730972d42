use Rattle.std.proofs.Common.{ap, arith, refl, subst, sym}
use Rattle.std.proofs.lemmas.Grind.{common_steps}
use Rattle.actor_cell.specs.Cells.{as_cell}
use Rattle.actor_table.specs.Changes.{taken}
use Rattle.actor_table.specs.Slots.{actors_of, slot_at}
use Rattle.orca_parts.specs.Away.{is_out}
use Rattle.orca_parts.specs.Awaiting.{AwaitedIn}
use Rattle.orca_parts.proofs.Awaiting.{awaited_without, idle_awaits_none}
use Rattle.orca_parts.proofs.Giving.{seat_here}
use Rattle.orca_parts.proofs.takes.apply_take.Goals as goal

pub returns : goal.returns
returns c =
    let core = c.args.m.now in
    let m = core.parts in
    let can = c.requires.can in
    let a = c.args.a in
    let trace = core.options.trace in
    let code = core.code.now in
    let actors = actors_of m.table.slots in
    let after = actors_of c.change.new.self.slots in
    record {
      state = grind (arith, common_steps);
      alike = record { code = refl; options = refl };
      away = λ b. ap (λ bs. is_out bs b) c.change.ensures.rest.away;
      told = c.change.ensures.told can.cell can.home;
      lie = λ some. c.change.ensures.lie tt;
      blocks = refl;
      woken = grind (arith, common_steps);
      stands = λ well on.
          subst (λ found. AwaitedIn trace code m.turn found after) (sym c.keep_room.ensures.rest)
          (awaited_without trace code m.turn m.turned m.turned.things c.keep_room.new.self.room after
          (subst (AwaitedIn trace code m.turn m.turned) (sym c.change.ensures.actors)
          (idle_awaits_none trace code m.turn m.turned (taken code a) a (as_cell can.cell) (slot_at m.table.slots a).mail.letters actors
          (seat_here m.table.slots a can.cell can.home) can.so.idle (well on))));
    }
