use Rattle.std.proofs.Common.{[], ◌∷◌, ◌<◌, List, ap, arith, length, length-append, ◌∙◌, subst, sym}
use Rattle.block_table.specs.Blocks.{Blocks}
use Rattle.event_rule.specs.declared.event.Event.{Event}
use Rattle.machine_rules.specs.State.{State}
use Rattle.row_blocks.proofs.Placed.{free_may, still_may}
use Rattle.orca_core.proofs.Applied.{same_size}
use Rattle.quiet_pass.specs.Ends.{EndsSo}
use Rattle.quiet_pass.proofs.Refused.{ends_so}
use Rattle.quiet_pass.proofs.Going.{goes_on, runs_on}
use Rattle.quiet_pass.proofs.ending.finish.Goals as goal

pub step-requires-clause-put : goal.step-requires-clause-put
step-requires-clause-put g c = free_may c.loop-e.orca.blocks (g.W.RowWords.places c.loop-e.words) c.loop-e.invariant.put

pub loop-e-preserved : goal.loop-e-preserved
loop-e-preserved g c =
    let before = c.loop-e.orca in
    let after = c.step.new.orca in
    let entries = c.loop-e.book.entries in
    let done = c.in-Ok.ensures in
    let more = runs_on before after entries c.step.new.book.entries c.in-Some.e c.loop-e.invariant.run done.ok done.steps done.entry in
    let longer = ap length done.entry ∙ length-append entries (c.in-Some.e ∷ []) in
    let size = ap length done.blocks ∙ same_size before.state after.state c.in-Some.e before.blocks in
    record {
      run = more.run;
      program = more.program ∙ c.loop-e.invariant.program;
      options = more.options ∙ c.loop-e.invariant.options;
      within = omega (arith, longer, c.len.ensures);
      book = (c.step.ensures.book.0 ∙ c.loop-e.invariant.book.0, c.step.ensures.book.1 ∙ c.loop-e.invariant.book.1);
      home = c.step.ensures.home;
      size = size ∙ c.loop-e.invariant.size;
      on = goes_on c.args.orca.now before after c.args.book.now.entries entries c.step.new.book.entries c.in-Some.e
          c.loop-e.invariant.on (c.in-Some.ensures.whole c.loop-e.invariant.home) done.ok c.loop-e.invariant.size done.room done.blocks done.entry;
      stand = c.step.ensures.stand;
      put = still_may before.blocks after.blocks _ _ size c.step.ensures.places c.loop-e.invariant.put;
      places = c.step.ensures.places ∙ c.loop-e.invariant.places;
      beside = c.step.ensures.beside ∙ c.loop-e.invariant.beside;
    }

pub returns-in-Err-clause-end : goal.returns-in-Err-clause-end
returns-in-Err-clause-end g c =
    let before = c.loop-e.orca in
    let same = c.in-Err.ensures.same in
    let entries = c.loop-e.book.entries in
    let left : length entries < c.args.budget = omega (arith, c.len.ensures, c.if-len-budget.false) in
    let end = ends_so before c.in-Some.e (length entries) c.args.budget left (c.in-Some.ensures.whole c.loop-e.invariant.home) c.loop-e.invariant.home
    c.in-Err.fault c.end_of.result c.in-Err.ensures.fault c.end_of.ensures in
    subst (λ (x : State × (Blocks × List Event)). EndsSo c.end_of.result x.0 x.1.0 (length x.1.1) c.args.budget)
    (λ i. (sym same.state i, (sym same.blocks i, sym c.in-Err.ensures.same_book i))) end
