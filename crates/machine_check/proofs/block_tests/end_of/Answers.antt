use Rattle.machine_check.proofs.Blocked.{begins}
use Rattle.machine_check.proofs.block_tests.end_of.Goals as goal

pub ends_alike-requires : goal.ends_alike-requires
ends_alike-requires c =
    let starts = c.in_ok-orca.ensures in
    begins c.in_ok-orca.orca c.in_ok-words.words.items c.args.count starts.home starts.stand starts.blocks c.in_ok-words.ensures
