use Rattle.std.proofs.Common.{map, sym, ap, ◌∙◌}
use Rattle.std.specs.Prelude.{option_map}
use Rattle.std.specs.Option.{option_to_list}
use Rattle.why_path.specs.Walk.{reached}
use Rattle.why_path.proofs.Walking.{map_nil}
use Rattle.why_path.proofs.walk.Walk.reach_value.Goals as goal

pub returns-in-None-clause-lines : goal.returns-in-None-clause-lines
returns-in-None-clause-lines c =
    let rs = c.args.self.now.reasons.items in
    let step = c.args.step.now in
    let none = sym c.thing.ensures ∙ c.in-None.is in
    map_nil step.parent step.level rs
    ∙ ap (λ o. map (reached step.parent step.level (option_to_list (option_map (λ x. (c.args.edge, x)) o))) rs) (sym none)
