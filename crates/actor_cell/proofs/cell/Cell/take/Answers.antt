use Rattle.std.proofs.Common.{inl, inr, ⊎_elim}
use Rattle.letter_kinds.specs.Telling.{in_block}
use Rattle.actor_cell.proofs.Tells.{told_before}
use Rattle.actor_cell.proofs.cell.Cell.take.Goals as goal

pub returns-then-is_err-clause-told : goal.returns-then-is_err-clause-told
returns-then-is_err-clause-told c = λ n row block told. told_before (in_block n row block) (c.reserve_take.ensures.told n row block told) inl

pub returns-clause-told : goal.returns-clause-told
returns-clause-told c = λ n row block told. ⊎_elim
    (λ before. told_before (in_block n row block) (c.reserve_take.ensures.told n row block before) inl) inr
    (c.apply_take.ensures.told n row block told)
