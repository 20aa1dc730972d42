use Rattle.std.proofs.Common.{None, ap, ◌∙◌}
use Rattle.plain_machine.specs.Undo.{with_kept, with_rows}
use Rattle.plain_machine.proofs.Undoing.{turn_in_parts}
use Rattle.plain_machine.proofs.acts.end.Goals as goal

pub returns-clause-ok : goal.returns-clause-ok
returns-clause-ok c =
    let fields = c.args.turn.now.fields in
    let made = c.args.turn.now.made in
    c.end_turn.ensures
    ∙ ap (λ f. with_kept c.add_rows.new.self c.args.a None f) c.fields.ensures
    ∙ ap (λ xs. with_kept xs c.args.a None fields) (c.in_ok-add_rows.ensures.ok ∙ ap (λ rows. with_rows c.args.actors.now c.args.a rows) c.made.ensures)
    ∙ turn_in_parts c.args.actors.now c.args.a None fields made
