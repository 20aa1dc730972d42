use Rattle.std.proofs.Common.{ap, ◌∙◌}
use Rattle.std.specs.List.{list_any}
use Rattle.orca_names.specs.Names.{is_thing}
use Rattle.local_sweep.specs.Plan.{plan_of}
use Rattle.machine_rules.specs.Collect.{is_marked_deep}
use Rattle.actor_cell.specs.Tells.{Tells}
use Rattle.actor_cell.proofs.Marked.{marks_same}
use Rattle.actor_cell.proofs.Standing.{held_told, told_stand}
use Rattle.actor_cell.proofs.cell.Cell.find_deep.Goals as goal

pub plan-requires-clause-stand : goal.plan-requires-clause-stand
plan-requires-clause-stand g c = let s = c.args.self.now in told_stand (Tells s) _ _ (held_told s) (g.W.RowWords.known c.args.words.now) c.requires.stand

pub returns-clause-sweep : goal.returns-clause-sweep
unfolding is_marked_deep
returns-clause-sweep g c =
    let s = c.args.self.now in
    λ i. record {
      plan = (c.in_ok-plan.ensures.plan ∙ ap (λ marks. plan_of (λ x. list_any (is_thing x) marks) s.heap s.foreign) (marks_same s.count s.heap s.foreign s.fields.values)) i;
      unused = c.new.ensures i;
    }
