use Rattle.machine_check.proofs.Blocked.{begins}
use Rattle.machine_check.proofs.block_tests.one_block_lacks.Goals as goal

pub lacks_a_block-requires : goal.lacks_a_block-requires
lacks_a_block-requires c =
    let starts = c.in_ok-orca.ensures in
    begins c.in_ok-orca.orca c.in_ok-words.words.items 1 starts.home starts.stand starts.blocks c.in_ok-words.ensures
