use Rattle.std.proofs.Common.{◌&&◌}
use Rattle.std.proofs.lemmas.Slice.Eq.{slice_eq-Decides}
use Rattle.orca_names.specs.contracts.names.ThingPartialEq.TheImpl.{eq-value as thing_eq}
use Rattle.row_store.specs.contracts.told.ToldPartialEq.TheImpl.{eq-value as told_eq}
use Rattle.object_heap.specs.Entry.{Item}
use Rattle.object_heap.proofs.Same.{item-Decides}
use Rattle.object_heap.proofs.heap.same_objects.Goals as goal

pub returns : goal.returns
returns c = slice_eq-Decides {A = Item} {E = λ x y. thing_eq.it x.0 y.0 && told_eq.it x.1 y.1} item-Decides c.args.objects.now c.args.others.now c.eq.result c.eq.ensures
