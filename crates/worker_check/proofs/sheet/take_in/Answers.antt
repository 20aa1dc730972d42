use Rattle.std.proofs.Common.{List, ℕ}
use Rattle.turn_log.proofs.Shares.{may_join}
use Rattle.worker_check.proofs.sheet.take_in.Goals as goal

pub join-requires-clause-rule : goal.join-requires-clause-rule
join-requires-clause-rule c = may_join (λ (s : List ℕ × ℕ). s.0) _ _ _ _
