use Rattle.std.proofs.Common.{refl, rules}
use Rattle.event_rule.specs.declared.event.Event.TheVariants.{Take}
use Rattle.actor_table.specs.Slots.{slot_at}
use Rattle.orca_parts.specs.declared.parts.Parts.{Parts}
use Rattle.orca_parts.proofs.Preparing.{acts_home, fits_take, only_room, prepared}
use Rattle.orca_parts.proofs.takes.prepare_take.Goals as goal

pub returns : goal.returns
returns c =
    let m = c.args.m.now in
    let slots = m.parts.table.slots in
    let parts : Parts = record m.parts { table = c.reserve.new.self; notes = c.reserve-2.new.self } in
    let actors = c.reserve.ensures.actors in
    let away = c.reserve.ensures.rest.away in
    prepared (Take c.args.a) m parts (only_room m.parts parts refl refl refl actors away (search rules) c.in_ok-reserve.ensures.told c.in_ok-reserve.ensures.lie refl) (record { turn = refl; turned = refl })
    (fits_take c.args.a parts slots actors away (acts_home (Take c.args.a) (slot_at slots c.args.a) c.in-Some._cell.now c.in-Some.ensures.cell).1 (search rules) (search rules))
