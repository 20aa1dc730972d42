-- What each event leads to, by the parts of the state that it changes.
use Rattle.std.proofs.Common.{◌≡◌, ℕ, true, List, set, None, Some, sym, ap, ◌∙◌}
use Rattle.std.proofs.lemmas.List.{append-nil}
use Rattle.event_rule.specs.declared.event.Event.TheVariants.{Collect, Leave, Reap}
use Rattle.event_rule.specs.Runs.{Goes, NotEnabled}
use Rattle.letter_kinds.specs.Letters.{Letter}
use Rattle.letter_kinds.specs.Counting.{Amount, by_owner, given_back}
use Rattle.letter_kinds.specs.Detector.{Detector, Token, close_token}
use Rattle.machine_rules.specs.Actors.{Actors, seat, seat_at}
use Rattle.machine_rules.specs.Cell.{Cell}
use Rattle.machine_rules.specs.Collect.{collect, is_marked}
use Rattle.machine_rules.specs.Detect.{acked_token, empty_seats, reap, reap_decs}
use Rattle.machine_rules.specs.Guards.{may_collect, may_leave}
use Rattle.machine_rules.specs.Leave.{leave}
use Rattle.machine_rules.specs.Next.{next}
use Rattle.machine_rules.specs.State.{State}
use Rattle.machine_rules.proofs.Acting.{acting-is}
use Rattle.actor_cell.specs.Outs.{decs_to, left_behind}
use Rattle.actor_cell.specs.Pushing.{push_all}
use Rattle.actor_cell.specs.Sweeps.{swept}
use Rattle.actor_cell.proofs.Parts.{collects, decs_pushed, leaves}
use Rattle.std.specs.Option.{option_map_or}

pub leave_goes : (s : State) (a : ℕ) (c : Cell) (mail : List Letter) (groups : List (ℕ × List Amount)) (actors : Actors)
    → seat_at s.actors a ≡ seat c mail → may_leave c mail ≡ true → groups ≡ left_behind a c
    → actors ≡ push_all (decs_to groups) (set s.actors a None)
    → next s (Leave a) ≡ Goes (record s { actors = actors })
leave_goes s a c mail groups actors at may out is =
    acting-is may_leave (leave s a) (seat_at s.actors a) c mail at may ∙ leaves s a c mail at
    ∙ (λ i. Goes (record s {
      actors = (ap (λ gs. push_all (decs_to gs) (set s.actors a None)) (sym out) ∙ sym is) i;
      notes = append-nil s.notes i;
    }))

pub collect_goes : (s : State) (a : ℕ) (c : Cell) (mail : List Letter) (groups : List (ℕ × List Amount)) (actors : Actors)
    → seat_at s.actors a ≡ seat c mail → may_collect c mail ≡ true
    → groups ≡ by_owner (given_back (is_marked s.options.trace a c) c.holdings)
    → actors ≡ push_all (decs_to groups) (set s.actors a (seat (swept s.options.trace a c) mail))
    → next s (Collect a) ≡ Goes (record s { actors = actors })
collect_goes s a c mail groups actors at may out is =
    let trace = s.options.trace in
    acting-is may_collect (collect trace s a) (seat_at s.actors a) c mail at may ∙ collects trace s a c mail
    ∙ (λ i. Goes (record s {
      actors = (ap (λ gs. push_all (decs_to gs) (set s.actors a (seat (swept trace a c) mail))) (sym out) ∙ sym is) i;
      notes = append-nil s.notes i;
    }))

pub reap_goes : (s : State) (number : ℕ) (token : Token) (groups : List (ℕ × List Amount)) (actors : Actors) (d : Detector)
    → acked_token number s.detector ≡ Some token
    → groups ≡ reap_decs token.members token.members s.actors
    → actors ≡ push_all (decs_to groups) (empty_seats token.members s.actors) → d ≡ close_token token s.detector
    → next s (Reap number) ≡ Goes (record s { actors = actors; detector = d })
reap_goes s number token groups actors d acked out is closed =
    ap (λ o. option_map_or (reap s) o NotEnabled) acked
    ∙ (λ i. Goes (record s {
      actors = (decs_pushed (reap_decs token.members token.members s.actors) (empty_seats token.members s.actors)
          ∙ ap (λ gs. push_all (decs_to gs) (empty_seats token.members s.actors)) (sym out) ∙ sym is) i;
      detector = sym closed i;
    }))
