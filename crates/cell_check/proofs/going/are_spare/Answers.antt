use Rattle.std.proofs.Common.{◌<◌, ◌≤◌, length, subst, arith}
use Rattle.std.specs.Prelude.{All}
use Rattle.std.proofs.lemmas.List.{length-map, take_all}
use Rattle.std.proofs.lemmas.List.Elements.{All-map, All-more}
use Rattle.orca_names.specs.declared.names.Thing.{Thing}
use Rattle.letter_kinds.specs.Load.{as_loaded}
use Rattle.letter_kinds.proofs.Loads.{long_load, seen_at}
use Rattle.row_store.specs.Memory.{remembered}
use Rattle.row_store.specs.Told.{Lying, lies_as}
use Rattle.actor_cell.specs.Cells.{as_cell}
use Rattle.cell_check.specs.Spare.{IsSpare}
use Rattle.cell_check.proofs.going.are_spare.Goals as goal

pub loop-loaded-preserved : goal.loop-loaded-preserved
loop-loaded-preserved c =
    let spare : Thing × Lying → Type 0 = λ e. IsSpare c.args.cell.now.heap.owner (as_cell c.args.cell.now).holdings c.args.least (as_loaded e) in
    let memory = remembered c.parts.result.1.now in
    let items = c.parts.result.0.now in
    let load = c.args.load.now in
    let i = c.loop-loaded.loaded-index in
    let told = c.loaded-item.result in
    let inside : i < length load = omega (arith, long_load memory items load c.parts.ensures.load, c.loop-loaded-test.true) in
    let is = seen_at memory items load c.parts.ensures.load i told c.loop-loaded-test.true c.loaded-item.is in
    All-more spare load i (lies_as memory told) inside c.loop-loaded.invariant
    (subst spare is (c.is_spare.ensures c.if-not-is_spare.false))

pub returns : goal.returns
returns c =
    let spare = IsSpare c.args.cell.now.heap.owner (as_cell c.args.cell.now).holdings c.args.least in
    let load = c.args.load.now in
    let i = c.loop-loaded.loaded-index in
    let long = long_load (remembered c.parts.result.1.now) c.parts.result.0.now load c.parts.ensures.load in
    let whole : length load ≤ i = omega (arith, long, c.loop-loaded-test.false) in
    λ _. (
      omega (arith, c.len.ensures, c.if-len-gt8.false, length-map load as_loaded),
      All-map spare as_loaded load (subst (All (λ e. spare (as_loaded e))) (take_all i load whole) c.loop-loaded.invariant),
    )
