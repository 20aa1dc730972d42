use Rattle.std.proofs.Common.{◌<◌, ◌≤◌, ◌+◌, length, map, take, refl, sym, ap, ◌∙◌, arith}
use Rattle.std.proofs.lemmas.List.{take_all}
use Rattle.orca_names.specs.Names.{times_among}
use Rattle.row_store.specs.Memory.{remembered}
use Rattle.row_store.specs.Told.{lies_as}
use Rattle.letter_kinds.proofs.Loads.{long_load, seen_at}
use Rattle.count_ledger.specs.Lines.{only, raised_by}
use Rattle.count_ledger.specs.declared.lines.Column.TheVariants.{Letters}
use Rattle.count_ledger.proofs.Adding.{none_added, still_rise, still_room, then_added}
use Rattle.count_ledger.proofs.Said.{load_more, load_more_le}
use Rattle.count_ledger.proofs.letters.add_load.Goals as goal

pub loop-loaded-init : goal.loop-loaded-init
loop-loaded-init c = sym (none_added Letters c.args.sums.now (λ x. 0) (λ x. refl))

pub add-requires-clause-rising : goal.add-requires-clause-rising
add-requires-clause-rising c =
    let load = take c.loop-loaded.loaded-index c.args.load.now in
    still_rise Letters c.args.sums.now c.loop-loaded.sums (λ x. times_among x load)
    c.loop-loaded.invariant c.requires.rising

pub add-requires-clause-room : goal.add-requires-clause-room
add-requires-clause-room c =
    let memory = remembered c.parts.result.1.now in
    let items = c.parts.result.0.now in
    let load = c.args.load.now in
    let i = c.loop-loaded.loaded-index in
    let e = lies_as memory c.loaded-item.result in
    let inside : i < length load = omega (arith, long_load memory items load c.parts.ensures.load, c.loop-loaded-test.true) in
    let is = seen_at memory items load c.parts.ensures.load i c.loaded-item.result c.loop-loaded-test.true c.loaded-item.is in
    still_room Letters c.args.sums.now c.loop-loaded.sums (λ x. times_among x (take i load))
    c.loop-loaded.invariant
    (only e.0 1) (λ x. times_among x load) (load_more_le load i e inside is) c.requires.room

pub loop-loaded-preserved : goal.loop-loaded-preserved
loop-loaded-preserved c =
    let memory = remembered c.parts.result.1.now in
    let items = c.parts.result.0.now in
    let load = c.args.load.now in
    let i = c.loop-loaded.loaded-index in
    let e = lies_as memory c.loaded-item.result in
    let inside : i < length load = omega (arith, long_load memory items load c.parts.ensures.load, c.loop-loaded-test.true) in
    let is = seen_at memory items load c.parts.ensures.load i c.loaded-item.result c.loop-loaded-test.true c.loaded-item.is in
    then_added Letters c.args.sums.now c.loop-loaded.sums (λ x. times_among x (take i load))
    c.loop-loaded.invariant
    (only e.0 1) (λ x. times_among x (take (i + 1) load)) c.add.new.sums c.add.ensures
    (load_more load i e inside is)

pub returns : goal.returns
returns c =
    let load = c.args.load.now in
    let whole : length load ≤ c.loop-loaded.loaded-index =
    omega (arith, long_load (remembered c.parts.result.1.now) c.parts.result.0.now load c.parts.ensures.load, c.loop-loaded-test.false) in
    c.loop-loaded.invariant
    ∙ ap (λ xs. map (raised_by Letters (λ x. times_among x xs)) c.args.sums.now) (take_all c.loop-loaded.loaded-index load whole)
