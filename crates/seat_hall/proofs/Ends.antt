-- What is known of a hall at its end.
use Rattle.std.proofs.Common.{◌≡◌, ℕ, List, [], map, sym, ap, ◌∙◌, subst}
use mathlib.Core.Option.{some}
use mathlib.Core.List.{IsPrefix}
use lib.ListN.{get_elem?}
use Rattle.atomic_table.proofs.Lists.{at_map}
use Rattle.turn_log.specs.Ends.{IsClosed}
use Rattle.turn_log.specs.Queue.{known_of}
use Rattle.turn_log.specs.Seats.{knows}
use Rattle.seat_hall.specs.declared.closing.Closing.{Closing}
use Rattle.seat_hall.specs.declared.closing.Closing.TheVariants.{Whole, Turning, Lent}
use Rattle.seat_hall.specs.Closes.{Closes, IsLastHall, Leaves}
use Rattle.seat_hall.specs.Fair.{Calm, HallRule, Knower, live}
use Rattle.seat_hall.specs.Halls.{HallView}
use Rattle.seat_hall.specs.Log.{Logged}
use Rattle.seat_hall.specs.Passes.{IsPass, Token}
use Rattle.seat_hall.proofs.Apart.{shown}
use Rattle.seat_hall.proofs.Keeps.{one_number}
use Rattle.seat_hall.proofs.Logs.{HasTerms, terms_of}

-- where nobody has the turn, the hall is that of the whole log
pub last_hall : (pass : ℕ) (t : Token) (h : HallView) (words : List ℕ) → IsPass pass t
    → IsClosed HallRule live Calm (knows t) h words → IsLastHall t h.logged
last_hall pass t h words is closed =
    let queue = closed.0 in
    let last = closed.1 in
    let seat = last.seats.each last.id last.mine last.there in
    let there : get_elem? (map known_of last.views) last.id ≡ some (knows t) =
    at_map known_of last.views last.id last.mine last.there ∙ ap some last.knew in
    let shows = shown queue.log queue.value (map known_of last.views) last.kept last.id (knows t) there in
    let voiced = one_number pass [] (knows t) is.1 in record {
      log = queue.log;
      saw = subst (λ (k : Knower). IsPrefix k.seen queue.log) last.knew seat.saw;
      heard = subst (λ (k : Knower). IsPrefix k.heard queue.log) last.knew seat.heard;
      legal = shows.legal voiced;
      is = ap (λ (v : HallView). v.logged) (sym closed.3) ∙ shows.shows voiced;
    }

-- so what the last hall leaves is told of it
pub closes : (t : Token) (l : Logged) (closing : Closing) → IsLastHall t l → Leaves l closing → Closes t closing
closes t l (Whole orca book) last leaves =
    let v = (knows t).client in
    let terms : HasTerms v.program v.options v.budget l =
    subst (HasTerms v.program v.options v.budget) (sym last.is)
    (terms_of v.program v.options v.budget last.log) in
    record {
      last = l;
      last_is = last;
      none = leaves.0;
      parts = leaves.1;
      blockless = leaves.2;
      program = terms.program_is;
      options = terms.options_is;
      budget = terms.budget_is;
    }
closes t l (Turning ticket serving) last leaves = absurd leaves
closes t l (Lent holder actor) last leaves = record { last = l; last_is = last; lowest = leaves }
