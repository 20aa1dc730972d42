use Rattle.std.proofs.Common.{Some, [], ◌∷◌, ◌++◌, ap, ◌∙◌, arith}
use Rattle.plain_rules.specs.Machine.{fresh_actor}
use Rattle.plain_machine.specs.Undo.{frame_left, with_first_rows, with_kept, with_rows}
use Rattle.plain_machine.proofs.Undoing.{length-with_rows, make_in_parts, rows_back}
use Rattle.plain_machine.proofs.acts.make.Goals as goal

pub returns-in-Ok-clause-ok : goal.returns-in-Ok-clause-ok
returns-in-Ok-clause-ok c =
    let frame = Some (frame_left c.args.stand.now c.args.turn.now) in
    let fresh = fresh_actor c.args.program.now c.args.kind in
    c.keep_turn.ensures
    ∙ ap (λ xs. with_kept xs c.args.a frame c.args.turn.now.fields) (c.in-Ok.ensures.ok ∙ ap (λ xs. xs ++ c.fresh_actor.result ∷ []) (c.in_ok-add_rows.ensures.ok ∙ ap (λ made. with_rows c.args.actors.now c.args.a made) c.made.ensures) ∙ ap (λ x. with_rows c.args.actors.now c.args.a c.args.turn.now.made ++ x ∷ []) c.fresh_actor.ensures)
    ∙ make_in_parts c.args.actors.now c.args.a fresh frame c.args.turn.now.fields c.args.turn.now.made (omega (arith, c.requires.there, length-with_rows c.args.actors.now c.args.a c.args.turn.now.made))

pub returns-in-Err-clause-err : goal.returns-in-Err-clause-err
returns-in-Err-clause-err c =
    let b = c.args.stand.now in
    c.drop_rows.ensures
    ∙ ap (λ xs. with_first_rows xs c.args.a b.rows) (c.in-Err.ensures.err ∙ (c.in_ok-add_rows.ensures.ok ∙ ap (λ made. with_rows c.args.actors.now c.args.a made) c.made.ensures))
    ∙ rows_back c.args.actors.now c.args.a b c.args.turn.now.made c.requires.rows
