use Rattle.std.proofs.Common.{rules, subst, sym, ap}
use Rattle.event_rule.specs.declared.event.Event.TheVariants.{Go}
use Rattle.actor_cell.specs.Tells.{told_out}
use Rattle.orca_parts.specs.declared.fault.StepFault.TheVariants as faults
use Rattle.orca_parts.specs.declared.parts.Parts.{Parts}
use Rattle.orca_parts.specs.Goes.{FitsGo}
use Rattle.orca_parts.proofs.Lacking.{places_fit}
use Rattle.orca_parts.proofs.Prepared.{fits_go, only_room_then, table_room}
use Rattle.orca_parts.proofs.Preparing.{prepared, refused_by}
use Rattle.orca_parts.proofs.goes.reserve_turn.Goals as goal

pub returns-in_err-reserve_out : goal.returns-in_err-reserve_out
returns-in_err-reserve_out c =
    let m = c.args.m.now.parts in
    let mid : Parts = record m { table = c.reserve.new.self } in
    let room = only_room_then m mid c.reserve_out.new.parts
    (table_room m c.reserve.new.self m.turn c.reserve.ensures.actors c.reserve.ensures.rest.away c.reserve.ensures.told c.reserve.ensures.lie) c.reserve_out.ensures.same in
    let turn = c.reserve_out.ensures.turn in
    record {
      prepares = refused_by (Go c.args.a) c.args.m.now c.reserve_out.new.parts room (record { turn = turn.turn; turned = turn.turned }) _ faults.NoMemory (search rules) tt;
      sends = ap told_out turn.turned;
    }

pub returns : goal.returns
returns c =
    let core = c.args.m.now in
    let m = core.parts in
    let r = c.reserve_out.new.parts in
    let mid : Parts = record m { table = c.reserve.new.self } in
    let room = only_room_then m mid r
    (table_room m c.reserve.new.self m.turn c.reserve.ensures.actors c.reserve.ensures.rest.away c.reserve.ensures.told c.reserve.ensures.lie) c.reserve_out.ensures.same in
    let turn = c.reserve_out.ensures.turn in
    let fits = subst (λ t. FitsGo core.options core.code.now c.args.a t r) (sym turn.turned)
    (fits_go core.options core.code.now c.args.a (record m.turned { room = r.turned.room }) m.table.slots m.turn c.reserve.new.self.slots r
    m.blocks c.requires.found c.reserve.ensures.actors c.reserve.ensures.rest.away c.in_ok-reserve.ensures.ok
    c.reserve_out.ensures.places turn.turn c.in_ok-reserve_out.ensures.ok c.requires.few) in
    let places = places_fit m r core.options core.code.now c.args.a c.requires.found room (record { turn = turn.turn; turned = turn.turned })
    c.requires.blocks c.reserve_out.ensures.placed c.requires.placed in
    record {
      prepares = prepared (Go c.args.a) core r room (record { turn = turn.turn; turned = turn.turned }) (fits, places);
      sends = ap told_out turn.turned;
    }
