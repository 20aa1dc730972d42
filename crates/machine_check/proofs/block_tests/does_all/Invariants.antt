use Rattle.row_store.specs.Vectors.{known_in, places_in}
use Rattle.machine_check.specs.Blocked.{Stands}
use Rattle.machine_check.proofs.block_tests.does_all.Given as goal

abbrev pub invariant-loop-event : goal.invariant-loop-event
invariant-loop-event l = Stands l.orca (known_in 0 l.words.items) (places_in l.words.items)
