use Rattle.std.proofs.Common.{rules}
use Rattle.std.proofs.lemmas.Slice.Eq.{slice_eq-Decides}
use Rattle.object_heap.specs.declared.search.Key.{Key}
use Rattle.object_heap.specs.contracts.search.KeyPartialEq.TheImpl.{eq-value}
use Rattle.object_heap.proofs.heap.same_keys.Goals as goal

pub returns : goal.returns
returns c = slice_eq-Decides {A = Key} {E = eq-value.it} (λ a b. search rules) c.args.keys.now c.args.others.now c.eq.result c.eq.ensures
