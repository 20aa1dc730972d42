use Rattle.std.proofs.Common.{refl, sym, subst, ◌∙◌}
use Rattle.letter_kinds.specs.Telling.{HoldsTold}
use Rattle.local_sweep.specs.Plan.{back_of}
use Rattle.row_table.specs.Table.{as_held}
use Rattle.actor_cell.specs.Cells.{as_cell}
use Rattle.actor_cell.specs.Tells.{Tells}
use Rattle.actor_cell.proofs.Brought.{in_use_is}
use Rattle.actor_cell.proofs.Standing.{brought_told, own_told, told_stand}
use Rattle.actor_cell.proofs.cell.Cell.find_roots.Goals as goal

pub plan_roots-requires-clause-stand : goal.plan_roots-requires-clause-stand
plan_roots-requires-clause-stand g c = let s = c.args.self.now in told_stand (Tells s) _ _ (own_told s) (g.W.RowWords.known c.args.words.now) c.requires.stand

pub unused_rows-requires-clause-stand : goal.unused_rows-requires-clause-stand
unused_rows-requires-clause-stand g c =
    let s = c.args.self.now in
    told_stand (Tells s) _ _ (brought_told s) (g.W.RowWords.known c.plan_roots.new.words)
    (subst (λ known. HoldsTold known (Tells s)) (sym c.plan_roots.ensures.words.known) c.requires.stand)

pub returns-clause-sweep : goal.returns-clause-sweep
returns-clause-sweep g c =
    let s = c.args.self.now in
    λ i. record {
      plan = c.in_ok-plan.ensures.plan (as_cell s) refl refl i;
      unused = (c.in_ok-unused.ensures.unused ∙ (λ j. back_of (λ x. in_use_is s x j) s.heap (as_held s.known))) i;
    }
