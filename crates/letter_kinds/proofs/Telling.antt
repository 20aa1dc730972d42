-- What is told before and after.
use Rattle.std.proofs.Common.{inl, inr, ⊎_elim, List, [], arith}
use Rattle.std.specs.Prelude.{Contains}
use Rattle.orca_names.specs.declared.names.Thing.{Thing}
use Rattle.row_store.specs.Told.{Lying}
use Rattle.letter_kinds.specs.Telling.{Telling, TellsOnly, in_block}

-- among none is nothing
pub none_among : {X : Type 0} (x : X) → Contains [] x → ⊥
none_among x among = omega (arith, among.1)

-- the same is told
pub tells_same : (told : Telling) (more : List (Thing × Lying)) → TellsOnly told more told
tells_same told more n row block here = inl here

-- one after the other
pub tells_then : (old between new : Telling) (more : List (Thing × Lying)) → TellsOnly old [] between → TellsOnly between more new → TellsOnly old more new
tells_then old between new more first second n row block told =
    ⊎_elim (λ here. ⊎_elim inl (λ none. absurd (none_among (in_block n row block) none)) (first n row block here)) inr (second n row block told)
