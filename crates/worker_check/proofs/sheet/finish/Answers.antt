use Rattle.std.proofs.Common.{List, ℕ}
use Rattle.turn_log.proofs.Shares.{begins_with}
use Rattle.worker_check.proofs.sheet.finish.Goals as goal

pub returns-in-Ok : goal.returns-in-Ok
returns-in-Ok c = begins_with (λ (s : List ℕ × ℕ). s.0) _ _ _ _ _ c.in-Ok.ensures.closed
