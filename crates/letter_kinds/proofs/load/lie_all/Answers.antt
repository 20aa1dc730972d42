use Rattle.std.proofs.Common.{◌≡◌, ◌+◌, ◌++◌, ◌<◌, List, take, drop, length, get_or, ap, subst, sym, ◌∙◌, arith}
use Rattle.std.specs.Prelude.{map}
use Rattle.std.proofs.lemmas.List.{get_or-map, length-map}
use Rattle.std.proofs.lemmas.List.Elements.{All-set}
use Rattle.orca_names.specs.declared.names.Thing.{Thing}
use Rattle.row_store.specs.Memory.{remembered}
use Rattle.row_store.specs.Told.{Lying, lie_as, lies_as}
use Rattle.letter_kinds.specs.Load.{HasGiven, HaveGiven, lies_from}
use Rattle.letter_kinds.proofs.Lying.{mapped_step, one_lies}
use Rattle.letter_kinds.proofs.load.lie_all.Goals as goal

pub lie-requires-clause-row : goal.lie-requires-clause-row
lie-requires-clause-row c =
    let rows = remembered c.loop-i.memory in
    let items = c.loop-i.items.items in
    let i = c.loop-i.i in
    let e = c.index_mut.result.now in
    let l : i < length items = omega (arith, c.loop-i.items.ok.0) in
    let m : i < length (lie_as rows items) = omega (arith, l, length-map items (lies_as rows)) in
    let is : lies_as rows e ≡ get_or (lie_as rows items) i (lies_as rows e) = ap (lies_as rows) c.index_mut.ensures.value ∙ sym (get_or-map (lies_as rows) items i e (lies_as rows e) l) in
    subst (HasGiven c.args.owner c.args.first c.args.rows.now) (sym is) (c.loop-i.invariant.given i (lies_as rows e) m)

pub loop-i-preserved : goal.loop-i-preserved
loop-i-preserved c =
    let owner = c.args.owner in
    let first = c.args.first in
    let rows = c.args.rows.now in
    let blocks = c.args.blocks.now in
    let before = remembered c.loop-i.memory in
    let memory = remembered c.lie.new.memory in
    let items = c.loop-i.items.items in
    let i = c.loop-i.i in
    let e = c.index_mut.result.now in
    let d = lies_as before e in
    let load = lie_as before items in
    let f = lies_from owner first blocks in
    let l : i < length items = omega (arith, c.loop-i.items.ok.0) in
    let m : i < length load = omega (arith, l, length-map items (lies_as before)) in
    let is : d ≡ get_or load i d = ap (lies_as before) c.index_mut.ensures.value ∙ sym (get_or-map (lies_as before) items i e d l) in
    let has : HasGiven owner first rows d = subst (HasGiven owner first rows) (sym is) (c.loop-i.invariant.given i d m) in
    let one = one_lies owner first rows blocks before memory items i e c.lie.new.item c.lie.ensures.memory c.lie.ensures.item c.loop-i.invariant.given in
    record {
      load = ap (λ (xs : List (Thing × Lying)). take (i + 1) xs ++ map f (drop (i + 1) xs)) one ∙ mapped_step f load i d m is ∙ c.loop-i.invariant.load;
      given = subst (HaveGiven owner first rows) (sym one) (All-set (HasGiven owner first rows) load i (f d) has c.loop-i.invariant.given);
      long = c.loop-i.invariant.long;
    }
