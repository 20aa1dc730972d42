use Rattle.std.proofs.Common.{◌≡◌, ◌+◌, ◌<◌, ◌++◌, List, Bool, ap, arith, false, length, length-append, replicate, true, set, sym, subst, ◌∙◌}
use Rattle.block_table.specs.Blocks.{free_blocks}
use Rattle.block_table.specs.declared.table.TheConstants.{BLOCKS_LIMIT}
use Rattle.block_table.specs.Told.{AreTold}
use Rattle.block_table.proofs.Telling.{all_length, told_grown, told_more}
use Rattle.block_table.proofs.table.numbers_below.Goals.{then-len-number+in_ok-grow, else-len-number}
use Rattle.block_table.proofs.table.numbers_below.Goals as goal

pub loop-number-preserved : goal.loop-number-preserved
loop-number-preserved c =
    let n = c.loop-number.number in
    let was = c.loop-number.set in
    let told : AreTold (free_blocks n) was n = c.loop-number.invariant in
    let few : n < BLOCKS_LIMIT = omega (arith, c.loop-number-test.true, c.requires) in
    let more : (later : List Bool) → later ≡ c.if-len-number.set → AreTold (free_blocks n) later n → n < length later
    → AreTold (free_blocks (n + 1)) c.put.new.self (n + 1) =
    λ later is at h. subst (λ on. AreTold (free_blocks (n + 1)) on (n + 1)) (ap (λ on. set on n true) is ∙ sym c.put.ensures) (told_more n later at h few) in
    elim c.if-len-number.branch [
      | then-len-number+in_ok-grow w ↦
          more (was ++ replicate 64 false) (sym (w.set-is ∙ w.in_ok-grow.ensures.ok)) (told_grown (free_blocks n) was n 64 told)
          (omega (arith, told.long, all_length n, length-append was (replicate 64 false)))
      | else-len-number w ↦ more was (sym w.set-is) told (omega (arith, told.long, all_length n, w.if-len-number.false, c.len.ensures))
    ]
