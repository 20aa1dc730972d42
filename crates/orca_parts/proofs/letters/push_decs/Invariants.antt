use Rattle.std.specs.Vec.Iter.{into_iter_items}
use Rattle.actor_cell.specs.Outs.{decs_to}
use Rattle.actor_cell.specs.Pushing.{push_all}
use Rattle.actor_table.specs.Slots.{actors_of}
use Rattle.orca_parts.specs.Touched.{receivers}
use Rattle.orca_parts.proofs.Pushed.{Pushes}
use Rattle.orca_parts.proofs.letters.push_decs.Given as goal

abbrev pub invariant-loop-group : goal.invariant-loop-group
invariant-loop-group l =
    let left = into_iter_items l.group-iterator in
    record {
      next : (goal.iterator-loop-group).can_next l.group-iterator;
      finite : (goal.iterator-loop-group).is_finite l.group-iterator;
      pushes : Pushes (receivers left) (push_all (decs_to left)) (push_all (decs_to l.fn.groups.items) (actors_of l.fn.table.slots))
          l.fn.table.slots l.table.slots l.lowest;
    }
