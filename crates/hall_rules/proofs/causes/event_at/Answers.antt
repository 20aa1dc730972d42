use Rattle.std.proofs.Common.{subst}
use Rattle.std.specs.Prelude.{MatchOption}
use Rattle.event_rule.specs.Runs.{IsFirst, IsQuiet, Machine}
use Rattle.machine_rules.specs.State.{State}
use Rattle.hall_rules.proofs.Firsts.{event_is, same_of}
use Rattle.hall_rules.proofs.causes.event_at.Goals as goal

pub returns : goal.returns
returns c =
    let s = c.args.orca.now.state in
    let found = c.next_of.result in
    event_is s c.args.a found (subst (λ (step : Machine State). MatchOption found (IsQuiet step s) (IsFirst step s))
    (same_of c.args.a c.args.orca.now.out c.requires) c.next_of.ensures)
