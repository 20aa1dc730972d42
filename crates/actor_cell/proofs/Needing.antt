-- What a turn needs by the test of what the actor holds.
use Rattle.std.proofs.Common.{◌≡◌, ◌==◌, ◌||◌, ◌&&◌, ℕ, Bool, true, false, not, refl}
use Rattle.orca_names.specs.Names.{owner_of}
use Rattle.orca_names.specs.declared.names.Thing.{Thing}
use Rattle.orca_names.specs.declared.names.Thing.TheVariants.{Actor}
use Rattle.letter_kinds.specs.Holdings.{held_in}
use Rattle.object_heap.specs.Heap.{Heap}
use Rattle.foreign_table.specs.Table.{Table, count_on, holds_in}
use Rattle.known_rows.specs.Holdings.{holdings_of}
use Rattle.turn_step.specs.Held.{is_needed}
use Rattle.machine_rules.specs.Go.{lacks, needs}

neither : (mine none : Bool) → not (mine || not none) ≡ (not mine && none)
neither true none = refl
neither false true = refl
neither false false = refl

module _ (me count : ℕ) (heap : Heap) (foreign : Table) where
  lacks_is : (x : Thing) → not (holds_in me foreign x) ≡ lacks me (holdings_of count heap foreign) x
  unfolding held_in
  lacks_is x = neither (owner_of x == me) (count_on foreign x == 0)

  pub needs_is : (x : Thing) → is_needed (holds_in me foreign) x ≡ needs me (holdings_of count heap foreign) x
  needs_is x = λ i. lacks_is x i || lacks_is (Actor (owner_of x)) i
