use Rattle.std.proofs.Common.{◌≡◌, ◌+◌, ◌-◌, get_or, length, arith}
use Rattle.std.proofs.lemmas.Bool.{eq-eqb, eqb-true}
use Rattle.std.proofs.lemmas.List.{get_or_default}
use Rattle.object_heap.specs.declared.search.Key.{Key}
use Rattle.object_heap.proofs.Follow.{first_below, then_follow, follow_then}
use Rattle.object_heap.proofs.search.follow_on.Goals as goal

pub overflow_sub-result-2 : goal.overflow_sub-result-2
overflow_sub-result-2 c =
    let keys = c.args.keys.now in
    let n = length keys - 1 in
    let some : n + 1 ≡ length keys = omega (arith, c.if-count-eq0.false) in
    let a : Key = get_or keys 0 c.index-keys-0.result in
    let b : Key = get_or keys n c.index-keys-count.result in
    first_below keys c.requires a b n some (get_or_default keys 0 c.index-keys-0.result a (omega arith)) (get_or_default keys n c.index-keys-count.result b (omega arith))

pub returns : goal.returns
returns c =
    let keys = c.args.keys.now in
    let n = length keys - 1 in
    let some : n + 1 ≡ length keys = omega (arith, c.if-count-eq0.false) in
    let a : Key = get_or keys 0 c.index-keys-0.result in
    let b : Key = get_or keys n c.index-keys-count.result in
    let first = get_or_default keys 0 c.index-keys-0.result a (omega arith) in
    let last = get_or_default keys n c.index-keys-count.result b (omega arith) in (
      λ t. then_follow keys c.requires a b n some first last (eqb-true (b.serial - a.serial) n t),
      λ f. eq-eqb (b.serial - a.serial) n (follow_then keys c.requires a b n some first last f),
    )
