-- Which takes and goes are choices, by the rule.
use Rattle.std.proofs.Common.{◌≡◌, ◌&&◌, ℕ, Some, is_none, List, ◌∷◌, ap, ◌∙◌}
use Rattle.turn_rules.specs.declared.act.Act.{Act}
use Rattle.turn_rules.specs.declared.act.Frame.{Frame}
use Rattle.event_rule.specs.declared.event.Event.TheVariants.{Take, Go}
use Rattle.letter_kinds.specs.Letters.{Letter}
use Rattle.letter_kinds.specs.Holdings.{with_made}
use Rattle.machine_rules.specs.Actors.{seat, seat_at}
use Rattle.machine_rules.specs.Cell.{Cell}
use Rattle.machine_rules.specs.Go.{turn_of_cell}
use Rattle.orca_names.specs.declared.trace.Trace.{Trace}
use Rattle.machine_rules.specs.Rules.{IsGoing, StopsAt}
use Rattle.machine_rules.specs.Run.{act_is_choice, go_is_choice, go_is_choice_at, is_choice, starts_with_app, take_is_choice_at}
use Rattle.machine_rules.specs.State.{State}

pub taking_is : (s : State) (a : ℕ) (c : Cell) (l : Letter) (ls : List Letter) → seat_at s.actors a ≡ seat c (l ∷ ls) → is_choice s (Take a) ≡ starts_with_app (l ∷ ls)
taking_is s a c l ls at = ap take_is_choice_at at

module _ (trace : Trace) (s : State) (mode : s.options.trace ≡ trace) (a : ℕ) (c : Cell) (ls : List Letter) (f : Frame) where
  pub going_is : IsGoing s a c ls f → is_choice s (Go a) ≡ go_is_choice trace s.program a c (Some f)
  going_is going =
      ap (λ q. go_is_choice_at q s.program a (seat_at s.actors a)) mode ∙ ap (go_is_choice_at trace s.program a) going.present ∙ ap (go_is_choice trace s.program a c) going.framed

  pub stopping_is : (act : Act) → StopsAt trace s a c ls f act → is_choice s (Go a) ≡ act_is_choice trace a (with_made (turn_of_cell trace s.program a c f).turn.made c.holdings) act
  stopping_is act stops =
      let stop = turn_of_cell trace s.program a c f in
      let h = with_made stop.turn.made c.holdings in
      going_is stops.going ∙ ap (λ n. is_none n && act_is_choice trace a h stop.act) stops.held ∙ ap (act_is_choice trace a h) stops.stop
