use Rattle.std.proofs.Common.{ℕ, List, subst, sym}
use Rattle.block_table.specs.Blocks.{Blocks}
use Rattle.row_blocks.specs.Blocks.{MayPutFree}
use Rattle.orca_core.proofs.machine.Orca.step.Goals as goal

pub apply_ready-requires-clause-put : goal.apply_ready-requires-clause-put
apply_ready-requires-clause-put g c =
    let mid = c.prepare.ensures in
    subst (λ (x : Blocks × List ℕ). MayPutFree x.0 x.1) (λ i. (sym mid.same.blocks i, sym mid.words.places i)) c.requires.put
