use Rattle.std.proofs.Common.{◌++◌, ◌∙◌, map, refl, ap}
use Rattle.std.proofs.lemmas.Result.{on_ok_weaker}
use Rattle.orca_names.specs.declared.reason.Edge.TheVariants as edges
use Rattle.why_path.specs.Edges.{leads_from, leads_of_letters, leads_of_seat, registers_of}
use Rattle.why_path.specs.Seats.{as_seat}
use Rattle.why_path.specs.Walk.{reached}
use Rattle.why_path.proofs.Walking.{map_more}
use Rattle.why_path.proofs.walk.Walk.reach_of_seat.Goals as goal

pub returns-clause-lines : goal.returns-clause-lines
returns-clause-lines c =
    let rs = c.args.self.now.reasons.items in
    let step = c.args.step.now in
    let o = as_seat c.args.seat.now in
    let fields = leads_from edges.Field 0 o.cell.fields.values in
    let registers = leads_from edges.Register 0 (registers_of o) in
    let letters = leads_of_letters 0 o.mail in
    let one = c.in_ok-reach_values.ensures.lines
    ∙ ap (λ vs. map (reached step.parent step.level (leads_from edges.Field 0 vs)) rs) c.as_slice.ensures.value in
    let two = c.in_ok-reach_values-2.ensures.lines
    ∙ ap (λ vs. map (reached step.parent step.level (leads_from edges.Register 0 vs)) c.reach_values.new.self.reasons.items)
    c.registers_of.ensures.value in
    on_ok_weaker c.reach_letters.result
    (λ three. map_more step.parent step.level fields (registers ++ letters) (leads_of_seat o) rs
    c.reach_values.new.self.reasons.items c.reach_letters.new.self.reasons.items refl one
    (map_more step.parent step.level registers letters (registers ++ letters) c.reach_values.new.self.reasons.items
    c.reach_values-2.new.self.reasons.items c.reach_letters.new.self.reasons.items refl two three))
    c.reach_letters.ensures.lines
