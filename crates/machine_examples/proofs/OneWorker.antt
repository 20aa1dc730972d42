-- The books that one worker writes, by computation.
use Rattle.std.proofs.Common.{[], ◌∷◌, ◌++◌, refl}
use Rattle.orca_names.specs.declared.names.Value.TheVariants.{Num}
use Rattle.event_rule.specs.declared.event.Event.TheVariants.{Go, Leave}
use Rattle.reach_walk.specs.Marks.{led_to, marks_of}
use Rattle.letter_kinds.specs.Counting.{by_owner}
use Rattle.machine_examples.proofs.InOrder.{written_in_order}
use Rattle.machine_examples.specs.Examples.{passes_an_object_on, usual}
use Rattle.machine_examples.specs.InOrder.{GetsByRoots, HoldsByRoots, HoldsDeep, LeavesAtOnce, PassesOn, passing_in_order}
use Rattle.machine_examples.specs.RootsExamples.{by_roots, from_the_mint, from_the_object, gets_an_object, holding_deep, is_held_by_its_own, up_to_the_object, up_to_the_turn}
use Rattle.machine_examples.specs.SmallExamples.{starts_nothing}

pub leaves_at_once : LeavesAtOnce
unfolding led_to marks_of by_owner
leaves_at_once = written_in_order starts_nothing usual (Leave 0 ∷ []) [] refl refl refl

pub passes_on : PassesOn
unfolding led_to marks_of by_owner
passes_on = written_in_order passes_an_object_on usual passing_in_order (Num 9 ∷ []) refl refl refl

pub holds_deep : HoldsDeep
unfolding led_to marks_of by_owner
holds_deep = written_in_order is_held_by_its_own usual holding_deep [] refl refl refl

pub holds_by_roots : HoldsByRoots
unfolding led_to marks_of by_owner
holds_by_roots = written_in_order is_held_by_its_own by_roots (up_to_the_object ++ from_the_object) [] refl refl refl

pub gets_by_roots : GetsByRoots
unfolding led_to marks_of by_owner
gets_by_roots = written_in_order gets_an_object by_roots (up_to_the_turn ++ (Go 1 ∷ []) ++ from_the_mint) (Num 4 ∷ []) refl refl refl
