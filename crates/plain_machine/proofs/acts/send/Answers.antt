use Rattle.std.proofs.Common.{Some, ap, ◌∙◌}
use Rattle.plain_rules.specs.Machine.{with_letter}
use Rattle.plain_machine.specs.Undo.{frame_left, with_first_rows, with_kept, with_rows}
use Rattle.plain_machine.proofs.Undoing.{rows_back, send_in_parts}
use Rattle.plain_machine.proofs.acts.send.Goals as goal

pub returns-in-Ok-clause-ok : goal.returns-in-Ok-clause-ok
returns-in-Ok-clause-ok c =
    let frame = Some (frame_left c.args.stand.now c.args.turn.now) in
    c.keep_turn.ensures
    ∙ ap (λ xs. with_kept xs c.args.a frame c.args.turn.now.fields) (c.in-Ok.ensures.ok ∙ ap (λ xs. with_letter xs c.args.to c.args.letter) (c.in_ok-add_rows.ensures.ok ∙ ap (λ made. with_rows c.args.actors.now c.args.a made) c.made.ensures))
    ∙ send_in_parts c.args.actors.now c.args.a c.args.to c.args.letter frame c.args.turn.now.fields c.args.turn.now.made

pub returns-in-Err-clause-err : goal.returns-in-Err-clause-err
returns-in-Err-clause-err c =
    let b = c.args.stand.now in
    c.drop_rows.ensures
    ∙ ap (λ xs. with_first_rows xs c.args.a b.rows) (c.in-Err.ensures.err ∙ (c.in_ok-add_rows.ensures.ok ∙ ap (λ made. with_rows c.args.actors.now c.args.a made) c.made.ensures))
    ∙ rows_back c.args.actors.now c.args.a b c.args.turn.now.made c.requires.rows
