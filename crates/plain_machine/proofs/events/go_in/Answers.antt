use Rattle.std.proofs.Common.{ap, length, refl, slice_get, sym, ◌∙◌}
use Rattle.plain_rules.specs.Machine.{PlainState, plain_row, turn_of_actor}
use Rattle.turn_rules.specs.declared.act.Frame.{Frame}
use Rattle.turn_rules.specs.Segment.{Setting, segment_of}
use Rattle.turn_step.specs.Turns.{act_of, setting_in}
use Rattle.plain_machine.specs.State.{state_of}
use Rattle.plain_machine.proofs.Going.{plain_go-turn}
use Rattle.plain_machine.proofs.events.go_in.Goals as goal

pub commit-requires-clause-gone : goal.commit-requires-clause-gone
commit-requires-clause-gone c = λ steps.
    let program = c.program.result.now in
    let prints = c.args.prints.now.items in
    let s : PlainState = state_of program c.args.actors.now prints steps in
    let x = c.in-Some.actor.now in
    let start = c.in-Some-get.start.now in
    let turn = c.segment_at-done.new.turn in
    let act = act_of c.in-Ok.stop.deed turn in
    let frame : Frame = record { kind = start.kind; behaviour = start.behaviour; place = c.in-Ok.stop.place; registers = turn.registers } in
    plain_go-turn s c.args.a x start frame turn.fields turn.made act
    (ap (λ xs. slice_get xs c.args.a) (sym c.as_slice.ensures) ∙ sym c.in-Some.ensures) (sym c.in-Some-get.ensures)
    (ap (λ p. turn_of_actor (state_of p c.args.actors.now prints steps) c.args.a x start) c.program.ensures.value
    ∙ ap (λ xs. turn_of_actor (state_of c.args.code.now xs prints steps) c.args.a x start) (sym c.as_slice-2.ensures)
    ∙ ap (λ rows. let p : Setting = setting_in c.args.code.now c.args.a (length rows) (plain_row c.as_slice-2.result.now) in segment_of p start x.fields) (sym c.as_slice-rows.ensures)
    ∙ c.in-Ok.ensures.ok)
    refl refl
