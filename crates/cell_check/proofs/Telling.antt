-- Actors that tell of no row in a block.
use Rattle.std.proofs.Common.{◌≡◌, ⊎_elim, List, [], ◌++◌, sym, ap, ◌∙◌, subst, append-nil}
use Rattle.orca_names.specs.declared.names.Thing.{Thing}
use Rattle.row_store.specs.Told.{Lying}
use Rattle.letter_kinds.specs.Telling.{Telling, TellsNothing, TellsOnly, Told, in_block}
use Rattle.letter_kinds.proofs.Telling.{none_among}

-- among nothing nothing is told
pub none_told : TellsNothing (Told [])
none_told n row block among = none_among (in_block n row block) among

-- a letter tells what it loads, where it carries no row
pub alone_told : (load rows : List (Thing × Lying)) → rows ≡ [] → TellsNothing (Told load) → TellsNothing (Told (load ++ rows))
alone_told load rows none nothing =
    subst (λ all. TellsNothing (Told all)) (sym (append-nil load) ∙ ap (λ more. load ++ more) (sym none)) nothing

-- where nothing was told and nothing is brought, nothing is told
pub still_nothing : (old new : Telling) (more : List (Thing × Lying)) → TellsOnly old more new → TellsNothing (Told more) → TellsNothing old → TellsNothing new
still_nothing old new more only none nothing n row block told = ⊎_elim (nothing n row block) (none n row block) (only n row block told)
