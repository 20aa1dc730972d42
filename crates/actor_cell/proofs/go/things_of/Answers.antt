use Rattle.std.proofs.Common.{map, take_all, ap, ◌∙◌}
use Rattle.orca_names.specs.declared.names.Thing.{Thing}
use Rattle.row_store.specs.Memory.{remembered}
use Rattle.row_store.specs.declared.told.Told.{Told}
use Rattle.letter_kinds.specs.Counting.{Loaded}
use Rattle.letter_kinds.specs.Load.{as_load}
use Rattle.actor_cell.proofs.Loading.{things_told}
use Rattle.actor_cell.proofs.go.things_of.Goals as goal

pub returns : goal.returns
returns c =
    let items = c.parts.result.0.now in
    c.loop-loaded.invariant
    ∙ ap (map (λ (e : Thing × Told). e.0)) (take_all c.loop-loaded.loaded-index items c.loop-loaded-test.false)
    ∙ things_told (remembered c.parts.result.1.now) items
    ∙ ap (λ load. map (λ (e : Loaded). e.0) (as_load load)) c.parts.ensures.load
