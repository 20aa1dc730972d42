use Rattle.event_rule.proofs.OneRun.{leads_to_one}
use Rattle.machine_rules.proofs.laws.a_book_leads_to_one_state.Goals as goal
use Rattle.machine_rules.specs.Next.{next}

pub returns : goal.returns
returns c = leads_to_one next
