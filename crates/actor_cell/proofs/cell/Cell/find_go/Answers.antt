use Rattle.std.proofs.Common.{sym, ap, ◌∙◌, subst}
use Rattle.std.specs.Prelude.{IsSomeAnd}
use Rattle.std.proofs.lemmas.Option.{none-some}
use Rattle.actor_cell.specs.declared.turning.Turned.{Turned}
use Rattle.turn_rules.specs.Segment.{Stop, Turn}
use Rattle.turn_step.specs.Turns.{HaltsAt, act_of}
use Rattle.behaviour_check.specs.Rules.{IsChecked}
use Rattle.machine_rules.specs.Go.{needed, setting_of, to_need, turn_of_cell}
use Rattle.actor_cell.specs.Cells.{as_cell}
use Rattle.orca_names.specs.Names.{owner_of}
use Rattle.letter_kinds.specs.Telling.{HoldsTold}
use Rattle.actor_cell.specs.Tells.{Tells}
use Rattle.actor_cell.specs.Goes.{FitsRegister, IsTold, having_made, told, turned_or_needs}
use Rattle.actor_cell.specs.Moves.{Mint, Rest, act_in}
use Rattle.actor_cell.proofs.Telling.{moves_told, rest_told}
use Rattle.actor_cell.proofs.Registers.{segment_fits}
use Rattle.actor_cell.proofs.cell.Cell.find_go.Goals as goal

pub move_of-requires-clause-stand : goal.move_of-requires-clause-stand
move_of-requires-clause-stand g c =
    subst (λ known. HoldsTold known (Tells c.args.self.now)) (sym c.run_turn.ensures.words.known) c.requires.stand

pub move_of-requires-clause-fits : goal.move_of-requires-clause-fits
move_of-requires-clause-fits g c =
    let s = c.args.self.now in
    let code = c.args.code.now in
    let frame = c.in-Some.frame.now in
    let first = needed c.args.options.trace code s.heap.owner (as_cell s) frame in
    let stop = turn_of_cell c.args.options.trace code s.heap.owner (as_cell s) frame in
    let halts = subst (λ halt. HaltsAt first stop halt c.run_turn.new.turn) c.in-Stops.is c.in-Ok.ensures.halt in
    subst FitsRegister (ap (λ (stop : Stop). stop.act) halts.1)
    (segment_fits (setting_of c.args.options.trace code s.heap.owner (as_cell s)) frame s.fields
    (subst IsChecked c.program-program.ensures.value c.program-program.ensures.kept))

pub returns-in_ok-move_of-in-Stops-clause-found : goal.returns-in_ok-move_of-in-Stops-clause-found
returns-in_ok-move_of-in-Stops-clause-found g c =
    let s = c.args.self.now in
    let code = c.args.code.now in
    let me = s.heap.owner in
    let frame = c.in-Some.frame.now in
    let first = needed c.args.options.trace code me (as_cell s) frame in
    let its_stop = turn_of_cell c.args.options.trace code me (as_cell s) frame in
    let turn = c.run_turn.new.turn in
    let place = c.in-Stops.stop.place in
    let stop : Stop = record { act = act_of c.in-Stops.stop.deed turn; place = place; turn = turn } in
    let halts = subst (λ halt. HaltsAt first its_stop halt turn) c.in-Stops.is c.in-Ok.ensures.halt in
    let does = act_in c.move_of.new.found in
    let may = c.in_ok-move_of-in-Stops.ensures.finds.awaited (ap (λ (t : Turned). t.awaited) c.forget_letter.ensures) in
    let tells : IsTold c.args.options code me (as_cell s) turn place does frame =
    (λ i. turned_or_needs c.args.options me (as_cell s) frame (halts.0 i) (halts.1 i))
    ∙ moves_told frame (as_cell s) turn place c.args.options me (having_made turn.made (as_cell s)) stop.act
    ∙ ap (told frame (as_cell s) turn place) (sym c.in_ok-move_of-in-Stops.ensures.finds.act)
    in
    record {
      told = subst (λ f. IsSomeAnd f (IsTold c.args.options code me (as_cell s) turn place does)) c.in-Some.ensures tells;
      awaited = λ letter e. let is = may letter e in record {
        frame = frame;
        framed = sym c.in-Some.ensures;
        left = ap (λ (stop : Stop). stop.turn) halts.1;
        place = ap (λ (stop : Stop). stop.place) halts.1;
        letter_is = record {
          its = is.its;
          deep = is.deep;
          sent = ap (λ (stop : Stop). stop.act) halts.1 ∙ is.sent;
          things = is.things;
        };
      };
    }

pub returns-in_ok-needing-in-Needs-clause-found : goal.returns-in_ok-needing-in-Needs-clause-found
returns-in_ok-needing-in-Needs-clause-found g c =
    let s = c.args.self.now in
    let code = c.args.code.now in
    let me = s.heap.owner in
    let frame = c.in-Some.frame.now in
    let first = needed c.args.options.trace code me (as_cell s) frame in
    let its_stop = turn_of_cell c.args.options.trace code me (as_cell s) frame in
    let x = c.in-Needs.thing in
    let needs = subst (λ halt. HaltsAt first its_stop halt c.run_turn.new.turn) c.in-Needs.is c.in-Ok.ensures.halt in
    let turn = c.begin.new.self in
    let does = act_in c.needing.new.found in
    let tells : IsTold c.args.options code me (as_cell s) turn frame.place does frame =
    (λ i. turned_or_needs c.args.options me (as_cell s) frame (needs i) its_stop)
    ∙ (λ i. told frame (as_cell s) (sym c.begin.ensures i) frame.place (Mint (owner_of x) (to_need c.args.options.weight me (as_cell s).holdings x)))
    ∙ ap (told frame (as_cell s) turn frame.place) (sym c.in_ok-needing-in-Needs.ensures.act)
    in
    record {
      told = subst (λ f. IsSomeAnd f (IsTold c.args.options code me (as_cell s) turn frame.place does)) c.in-Some.ensures tells;
      awaited = λ letter e.
          absurd (none-some letter (sym (ap (λ (t : Turned). t.awaited) c.forget_letter.ensures) ∙ sym c.in_ok-needing-in-Needs.ensures.awaited ∙ e));
    }

pub returns-in-Some-rests_at-clause-found : goal.returns-in-Some-rests_at-clause-found
returns-in-Some-rests_at-clause-found g c =
    let s = c.args.self.now in
    let code = c.args.code.now in
    let me = s.heap.owner in
    let turn = c.clear_made.new.self in
    let place = c.in-Some-rests_at.place in
    let tells : IsTold c.args.options code me (as_cell s) turn place Rest c.in-Some.frame.now =
    rest_told c.args.options code me (as_cell s) c.in-Some.frame.now place turn (sym c.in-Some-rests_at.ensures) (ap (λ (t : Turn). t.made) c.clear_made.ensures)
    in
    record {
      told = subst (λ f. IsSomeAnd f (IsTold c.args.options code me (as_cell s) turn place Rest)) c.in-Some.ensures tells;
      awaited = λ letter e. absurd (none-some letter (sym (ap (λ (t : Turned). t.awaited) c.forget_letter.ensures) ∙ e));
    }
