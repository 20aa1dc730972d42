-- Where a book leads.
use Rattle.std.proofs.Common.{◌≡◌, List, [], ◌∷◌, sym, ap, subst}
use Rattle.event_rule.specs.Runs.{Leads}
use Rattle.event_rule.specs.declared.event.Event.{Event}
use Rattle.machine_rules.specs.Next.{next}
use Rattle.machine_rules.specs.State.{State}
use Rattle.hall_rules.specs.Halls.{after_step, state_after}

-- the state to which a book leads is the one after it
pub leads_after : (book : List Event) (s t : State) → Leads next s book t → t ≡ state_after s book
leads_after [] s t same = sym same
leads_after (e ∷ book) s t (u, goes, leads) =
    subst (λ v. t ≡ state_after v book) (sym (ap (after_step s) goes)) (leads_after book u t leads)
