use Rattle.std.proofs.Common.{◌≡◌, ◌∙◌, ap, Some, refl, rules}
use Rattle.event_rule.specs.declared.event.Event.TheVariants.{Block}
use Rattle.actor_cell.specs.Cells.{as_cell}
use Rattle.actor_cell.specs.Outs.{report_of}
use Rattle.actor_table.specs.Slots.{slot_at}
use Rattle.orca_parts.specs.declared.parts.Parts.{Parts}
use Rattle.orca_parts.proofs.Preparing.{acts_here, only_room, prepared}
use Rattle.orca_parts.proofs.blocks.prepare_block.Goals as goal
use Rattle.actor_table.proofs.Telling.{still_told}

pub returns : goal.returns
returns c =
    let m = c.args.m.now in
    let slots = m.parts.table.slots in
    let parts : Parts = record m.parts { notes = c.reserve.new.self; report = Some c.in_ok-note.note } in
    prepared (Block c.args.a) m parts (only_room m.parts parts refl refl refl refl refl (search rules) (still_told m.parts.table.slots) (λ lies. lies) refl) (record { turn = refl; turned = refl })
    (record {
      acts = acts_here (Block c.args.a) (slot_at slots c.args.a) c.in-Some.cell.now (λ x. Some c.in_ok-note.note ≡ Some (report_of c.args.a (as_cell x)))
          c.in-Some.ensures.cell (ap (λ n. Some n) (c.in_ok-note.ensures ∙ ap (λ me. report_of me (as_cell c.in-Some.cell.now)) c.in-Some.ensures.owner));
      room = search rules;
    })
