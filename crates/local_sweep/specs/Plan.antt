-- What a sweep frees and gives back.
use Rattle.std.specs.Prelude.{ℕ, ◌≡◌, ◌==◌, ◌||◌, Bool, not, List, filter, map}
use Rattle.std.specs.FinMap as m
use Rattle.orca_names.specs.declared.names.ObjName.{ObjName}
use Rattle.orca_names.specs.declared.names.Thing.{Thing}
use Rattle.orca_names.specs.declared.names.Thing.TheVariants.{Obj}
use Rattle.letter_kinds.specs.declared.plan.SweepPlan.{SweepPlan}
use Rattle.letter_kinds.specs.Counting.{Amount, by_owner, given_back}
use Rattle.letter_kinds.specs.Holdings.{Row}
use Rattle.object_heap.specs.Heap.{Heap}
use Rattle.foreign_table.specs.Table.{Table}
use Rattle.known_rows.specs.Holdings.{holdings_of}

-- the object of this owner and serial
abbrev pub object_named : ℕ → ℕ → ObjName
object_named owner serial = record { owner = owner; serial = serial }

-- an own object goes if it is neither marked nor counted
abbrev pub is_freed : (Thing → Bool) → ℕ → ℕ × (Row × ℕ) → Bool
is_freed marked owner e = not (marked (Obj (object_named owner e.0)) || not (e.1.1 == 0))

-- the own objects that go, by rising serial
abbrev pub free_of : (Thing → Bool) → Heap → List ObjName
free_of marked heap =
    map (λ e. object_named heap.owner e.0)
    (filter (is_freed marked heap.owner) (m.entries heap.rows))

-- the counts on what is not marked, for each owner
abbrev pub back_of : (Thing → Bool) → Heap → Table → List (ℕ × List Amount)
back_of marked heap foreign = by_owner (given_back marked (holdings_of 0 heap foreign))

-- the former are freed, the latter go back
abbrev pub plan_of : (Thing → Bool) → Heap → Table → SweepPlan
plan_of marked heap foreign =
    record { free = free_of marked heap; back = back_of marked heap foreign }

-- the plan is that of some marks
abbrev pub IsPlan : Heap → Table → SweepPlan → Type 0
IsPlan heap foreign plan = (marked : Thing → Bool) × (plan ≡ plan_of marked heap foreign)
