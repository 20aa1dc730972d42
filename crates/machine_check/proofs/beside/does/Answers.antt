use Rattle.std.proofs.Common.{ap, length, rules, ◌∙◌}
use Rattle.block_table.specs.Blocks.{Blocks}
use Rattle.orca_core.proofs.Applied.{same_size}
use Rattle.row_blocks.proofs.Placed.{free_may, still_may}
use Rattle.machine_check.proofs.beside.does.Goals as goal

pub step-requires-clause-put : goal.step-requires-clause-put
step-requires-clause-put g c = free_may c.args.orca.now.blocks (g.W.RowWords.places c.args.words.now) c.requires.put

pub returns : goal.returns
returns g c =
    let m = c.args.orca.now in
    let after = c.step.new.self in
    record {
      home = search rules;
      stand = c.step.ensures.stand;
      put = still_may m.blocks after.blocks _ _
          (ap (λ (bs : Blocks). length bs) c.in_ok-step.ensures.blocks ∙ same_size m.state after.state c.args.event m.blocks) c.step.ensures.places c.requires.put;
    }

pub returns-in_err-step : goal.returns-in_err-step
returns-in_err-step g c =
    let m = c.args.orca.now in
    let after = c.step.new.self in
    record {
      home = search rules;
      stand = c.step.ensures.stand;
      put = still_may m.blocks after.blocks _ _ (ap (λ (bs : Blocks). length bs) c.in_err-step.ensures.same.blocks) c.step.ensures.places c.requires.put;
    }
