use Rattle.std.proofs.Common.{◌≡◌, ◌==◌, ◌||◌, Bool, ℕ, true, false, [], length, arith, sym, subst, ◌∙◌, ap}
use Rattle.std.specs.Prelude.{◌↔◌}
use Rattle.std.proofs.lemmas.Bool.Decides.{nat_tests}
use Rattle.event_rule.specs.Runs.{Machine}
use Rattle.machine_rules.specs.State.{State}
use Rattle.hall_rules.specs.Answers.{Finds}
use Rattle.hall_rules.proofs.Telling.{counts_none, tells}
use Rattle.seat_hall.specs.Answers.{Tells}
use Rattle.seat_hall.specs.Halls.{HallView}
use Rattle.seat_hall.specs.Log.{listed, plain}
use Rattle.seat_hall.proofs.Counts.{counted_listed}
use Rattle.seat_hall.proofs.Entered.{logged_of}
use Rattle.seat_hall.proofs.Free.{detector_events, free_events}
use Rattle.seat_hall.proofs.hall.Hall.look.Goals as goal

pub returns : goal.returns
returns c =
    let s = c.self.inside in let kept = c.self.invariant in let idle = c.all_are_free.result in
    let on : (s.stopped || length s.book.entries == s.budget) ≡ false =
    grind (arith, nat_tests, c.if-self.false, c.if-len-self.false, c.len.ensures) in
    let none = subst (λ (b : Bool). b ≡ true ↔ listed 0 s.claims.items ≡ [])
    (sym (c.all_are_free.ensures ∙ ap (λ (n : ℕ). n == 0) (kept.counted ∙ counted_listed 0 s.claims.items)))
    (counts_none (listed 0 s.claims.items)) in
    let found = subst (λ (x : Machine State × Machine State × State). Finds x.0 x.1 x.2 idle c.look.result)
    (λ i. (free_events s.orca.out s.claims.items kept.away i, detector_events s.orca.out i, kept.one.state_is i)) c.look.ensures in
    subst (λ (h : HallView). Tells c.look.result h.logged) c.self.view_is (tells (plain (logged_of s.code.now s.budget s.book s.claims.items s.stopped s.made)) on idle none c.look.result found)
