use Rattle.std.proofs.Common.{◌≡◌, ◌↔◌, refl, true, sym, ap, subst, ◌∙◌}
use Rattle.std.specs.Prelude.{All, option_map}
use Rattle.why_path.specs.Checks.{LeadsToNoneLoose}
use Rattle.why_path.specs.Named.{NamesNoneLoose}
use Rattle.why_path.specs.Seats.{as_seat}
use Rattle.why_path.proofs.Answering.{joined}
use Rattle.why_path.proofs.Naming.{none_of_actor, none_of_object, none_where_gone}
use Rattle.why_path.proofs.checks.leads_to_none_loose.Goals as goal

pub returns-in-Some : goal.returns-in-Some
returns-in-Some c =
    let actors = c.args.orca.now.state.actors in
    let rs = c.args.reasons.now in
    let at = sym c.seat_of.ensures.seat ∙ ap (option_map as_seat) c.in-Some.is in
    subst (λ t. c.seat_leads_to_none_loose.result ≡ true ↔ LeadsToNoneLoose actors rs t) (sym c.in-Actor.is)
    (joined c.seat_leads_to_none_loose.ensures (none_of_actor rs actors c.in-Actor.a (as_seat c.in-Some.seat) at))

pub returns-in-None : goal.returns-in-None
returns-in-None c =
    let actors = c.args.orca.now.state.actors in
    let rs = c.args.reasons.now in
    let gone = sym c.seat_of.ensures.seat ∙ ap (option_map as_seat) c.in-None.is in
    subst (λ t. true ≡ true ↔ LeadsToNoneLoose actors rs t) (sym c.in-Actor.is)
    ((λ _. none_where_gone rs actors c.in-Actor.a gone), (λ _. refl))

pub returns-then-name_none_loose : goal.returns-then-name_none_loose
returns-then-name_none_loose c =
    let actors = c.args.orca.now.state.actors in
    let rs = c.args.reasons.now in
    let n = c.in-Obj.n in
    let row = subst (All (NamesNoneLoose rs)) c.row_left.ensures.value (c.name_none_loose.ensures.0 c.if-name_none_loose.true) in
    let object = none_of_object rs actors n in
    subst (λ t. c.is_not_loose.result ≡ true ↔ LeadsToNoneLoose actors rs t) (sym c.in-Obj.is)
    ((λ e. object.0 (row, c.is_not_loose.ensures.0 e)), (λ none. c.is_not_loose.ensures.1 (object.1 none).1))

pub returns-else-name_none_loose : goal.returns-else-name_none_loose
returns-else-name_none_loose c =
    let actors = c.args.orca.now.state.actors in
    let rs = c.args.reasons.now in
    let n = c.in-Obj.n in
    let object = none_of_object rs actors n in
    subst (λ t. c.name_none_loose.result ≡ true ↔ LeadsToNoneLoose actors rs t) (sym c.in-Obj.is) (
      (λ e. let failed = c.if-name_none_loose.false in cc),
      (λ none. c.name_none_loose.ensures.1 (subst (All (NamesNoneLoose rs)) (sym c.row_left.ensures.value) (object.1 none).0)),
    )
