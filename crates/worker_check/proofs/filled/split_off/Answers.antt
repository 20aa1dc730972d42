use Rattle.std.proofs.Common.{rules, ◌≤◌}
use Rattle.turn_log.specs.Seats.{knows}
use Rattle.worker_check.proofs.Filling.{may_look, may_split}
use Rattle.worker_check.proofs.filled.split_off.Goals as goal

pub take_turn-count-requires-clause-look : goal.take_turn-count-requires-clause-look
take_turn-count-requires-clause-look g c = may_look

pub split-new-requires-clause-rule : goal.split-new-requires-clause-rule
split-new-requires-clause-rule g c =
    let some : 1 ≤ (knows c.put.new.seat).client = search rules in may_split _ _ some
