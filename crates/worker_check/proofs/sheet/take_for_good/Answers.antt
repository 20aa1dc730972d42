use Rattle.std.proofs.Common.{List, ℕ}
use Rattle.turn_log.proofs.Shares.{may_look}
use Rattle.worker_check.proofs.sheet.take_for_good.Goals as goal

pub take_turn-requires-clause-look : goal.take_turn-requires-clause-look
take_turn-requires-clause-look g c = may_look (λ (s : List ℕ × ℕ). s.0)
