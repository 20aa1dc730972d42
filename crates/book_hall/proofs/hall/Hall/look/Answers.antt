use Rattle.std.proofs.Common.{◌≡◌, ◌==◌, ◌||◌, Bool, true, false, [], length, arith, sym, subst}
use Rattle.std.specs.Prelude.{◌↔◌}
use Rattle.std.proofs.lemmas.Bool.Decides.{nat_tests}
use Rattle.event_rule.specs.Events.{is_of_detector}
use Rattle.event_rule.specs.Runs.{Machine}
use Rattle.machine_rules.specs.State.{State}
use Rattle.orca_core.specs.Firsts.{is_free}
use Rattle.hall_rules.specs.Answers.{Finds, TellsWork}
use Rattle.hall_rules.specs.Claims.{is_claimed}
use Rattle.hall_rules.specs.Halls.{HallValue}
use Rattle.hall_rules.proofs.Firsts.{same_kind}
use Rattle.hall_rules.proofs.Keeping.{hall_with}
use Rattle.hall_rules.proofs.Telling.{counts_none, tells}
use Rattle.book_hall.proofs.hall.Hall.look.Goals as goal

pub returns : goal.returns
returns c =
    let s = c.self.inside in let home = c.self.invariant.1 in let idle = c.is_empty.result in
    let on : (s.stopped || length s.book.entries == s.budget) ≡ false =
    grind (arith, nat_tests, c.if-self.false, c.if-len-self.false, c.len.ensures) in
    let none = subst (λ (b : Bool). b ≡ true ↔ s.claims ≡ []) (sym c.is_empty.ensures) (counts_none s.claims) in
    let found = subst (λ (x : Machine State × Machine State × State). Finds x.0 x.1 x.2 idle c.look.result)
    (λ i. (same_kind (is_free (is_claimed s.claims)) s.orca.out home i, same_kind is_of_detector s.orca.out home i, c.self.invariant.0.state_is i))
    c.look.ensures in
    subst (λ (v : HallValue). TellsWork v c.look.result) c.self.view_is
    (tells (hall_with s.code.now s.budget s.book s.claims s.stopped) on idle none c.look.result found)
