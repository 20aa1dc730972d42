use Rattle.std.proofs.Common.{◌≡◌, refl}
use Rattle.event_rule.specs.declared.event.Event.TheVariants.{Collect}
use Rattle.machine_rules.specs.Guards.{may_collect}
use Rattle.actor_cell.specs.declared.cell.Cell.{Cell}
use Rattle.actor_cell.specs.Sweeps.{sweep_of}
use Rattle.actor_table.specs.Slots.{slot_at}
use Rattle.orca_parts.proofs.Homes.{home_is}
use Rattle.orca_parts.proofs.Preparing.{acts_here, acts_home, may_here, not_acting, rests_dirty}
use Rattle.orca_parts.proofs.collects.find_collect.Goals as goal
use Rattle.orca_parts.proofs.Untold.{home_holds}

pub returns-in_default : goal.returns-in_default
returns-in_default g c = record {
  ok = tt;
  fault = not_acting (Collect c.args.a) (slot_at c.args.table.now.slots c.args.a) c.in_default.ensures.cell;
  words = record { known = refl; places = refl; beside = refl };
}

pub returns-then-known : goal.returns-then-known
returns-then-known g c =
    let x = slot_at c.args.table.now.slots c.args.a in
    let cell = c.in-Some.cell.now in
    let its = acts_home (Collect c.args.a) x cell c.in-Some.ensures.cell in
    let home = home_is x cell its.0 in
    let rests = rests_dirty cell x.mail.letters (may_here may_collect x cell home its.1) in
    record {
      ok = acts_here (Collect c.args.a) x cell (λ (y : Cell). (y.heap.owner ≡ c.args.a) × (c.args.sweep.now ≡ sweep_of c.args.trace y)) c.in-Some.ensures.cell
          (c.in-Some.ensures.owner, c.requires.known c.if-known.true cell home rests.0 rests.1);
      fault = tt;
      words = record { known = refl; places = refl; beside = refl };
    }

pub find_collect-requires : goal.find_collect-requires
find_collect-requires g c =
    let x = slot_at c.args.table.now.slots c.args.a in
    let its = acts_home (Collect c.args.a) x c.in-Some.cell.now c.in-Some.ensures.cell in
    let home = home_is x c.in-Some.cell.now its.0 in
    record {
      others = c.requires.others c.in-Some.cell.now home c.in-Some.ensures.owner;
      stand = home_holds _ c.args.table.now.slots c.args.a c.in-Some.cell.now c.requires.hold home;
    }

pub returns : goal.returns
returns g c = record {
  ok = acts_here (Collect c.args.a) (slot_at c.args.table.now.slots c.args.a) c.in-Some.cell.now
      (λ (y : Cell). (y.heap.owner ≡ c.args.a) × (c.in_ok-sweep.field-0 ≡ sweep_of c.args.trace y)) c.in-Some.ensures.cell (c.in-Some.ensures.owner, c.in_ok-sweep.ensures.sweep);
  fault = tt;
  words = c.find_collect.ensures.words;
}
