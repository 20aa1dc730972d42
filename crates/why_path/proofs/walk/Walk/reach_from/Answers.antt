use Rattle.std.proofs.Common.{◌∷◌, [], map, sym, ap, ◌∙◌}
use Rattle.std.specs.Prelude.{option_map}
use Rattle.std.proofs.lemmas.Result.{on_ok_weaker}
use Rattle.orca_names.specs.declared.names.Thing.TheVariants.{Actor}
use Rattle.orca_names.specs.declared.reason.Edge.TheVariants as edges
use Rattle.why_path.specs.Edges.{leads_from, leads_of, row_left}
use Rattle.why_path.specs.Seats.{as_seat}
use Rattle.why_path.specs.Walk.{reached}
use Rattle.why_path.proofs.Walking.{leads_actor, leads_gone, leads_object, map_more, map_nil}
use Rattle.why_path.proofs.walk.Walk.reach_from.Goals as goal

pub returns-in-Some-clause-lines : goal.returns-in-Some-clause-lines
returns-in-Some-clause-lines c =
    let rs = c.args.self.now.reasons.items in
    let step = c.args.step.now in
    let actors = c.args.orca.now.state.actors in
    let at = sym c.seat_of.ensures.seat ∙ ap (option_map as_seat) c.in-Some.is in
    let leads = sym (leads_actor actors c.in-Actor.a (as_seat c.in-Some.seat) at) ∙ ap (leads_of actors) (sym c.in-Actor.is) in
    on_ok_weaker c.reach_of_seat.result (λ e. e ∙ ap (λ ls. map (reached step.parent step.level ls) rs) leads)
    c.reach_of_seat.ensures.lines

pub returns-in-None-clause-lines : goal.returns-in-None-clause-lines
returns-in-None-clause-lines c =
    let rs = c.args.self.now.reasons.items in
    let step = c.args.step.now in
    let actors = c.args.orca.now.state.actors in
    let gone = sym c.seat_of.ensures.seat ∙ ap (option_map as_seat) c.in-None.is in
    let leads = sym (leads_gone actors c.in-Actor.a gone) ∙ ap (leads_of actors) (sym c.in-Actor.is) in
    map_nil step.parent step.level rs ∙ ap (λ ls. map (reached step.parent step.level ls) rs) leads

pub returns-in_ok-reach_values-in-Obj-clause-lines : goal.returns-in_ok-reach_values-in-Obj-clause-lines
returns-in_ok-reach_values-in-Obj-clause-lines c =
    let rs = c.args.self.now.reasons.items in
    let step = c.args.step.now in
    let actors = c.args.orca.now.state.actors in
    let n = c.in-Obj.n in
    let places = leads_from edges.Place 0 (row_left actors n) in
    let row = c.in_ok-reach_values-in-Obj.ensures.lines
    ∙ ap (λ vs. map (reached step.parent step.level (leads_from edges.Place 0 vs)) rs) c.row_left.ensures.value in
    let leads = ap (leads_of actors) c.in-Obj.is ∙ leads_object actors n in
    on_ok_weaker c.reach.result
    (λ e. map_more step.parent step.level places ((edges.Owner, Actor n.owner) ∷ []) (leads_of actors step.parent) rs
    c.reach_values.new.self.reasons.items c.reach.new.self.reasons.items leads row e)
    c.reach.ensures.lines
