use Rattle.std.proofs.Common.{sym, subst}
use Rattle.object_heap.specs.Entry.{HasKey}
use Rattle.object_heap.proofs.search.place_there.Goals as goal

pub number_there-requires : goal.number_there-requires
number_there-requires c = subst (HasKey c.args.keys.now) (sym c.get.ensures) c.requires
