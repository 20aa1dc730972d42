-- Things: whose they are, which values name them, and their order.
use Rattle.std.specs.Prelude.{ℕ, Bool, if◌then◌else◌, List, Option, Some, None, sum_by}
use Rattle.std.specs.Ordering.{nat_cmp, on, then_cmp, eq_by_cmp}
use Rattle.std.specs.declared.cmp.Ordering.{Ordering}
use Rattle.std.specs.Option.{option_cmp}
use Rattle.orca_names.specs.declared.names.Thing.{Thing}
use Rattle.orca_names.specs.declared.names.Thing.TheVariants.{Actor, Obj}
use Rattle.orca_names.specs.declared.names.Value.{Value}
use Rattle.orca_names.specs.declared.names.Value.TheVariants.{Null, Num}
use Rattle.orca_names.specs.declared.names.Value.TheVariants as values

-- the actor on whose heap a thing stands
abbrev pub owner_of : Thing → ℕ
owner_of (Actor a) = a
owner_of (Obj n) = n.owner

-- the thing that a value names
abbrev pub thing_of : Value → Option Thing
thing_of Null = None
thing_of (Num n) = None
thing_of (values.Actor a) = Some (Actor a)
thing_of (values.Obj n) = Some (Obj n)

-- the serial of an object, nothing for an actor
abbrev pub serial_of : Thing → Option ℕ
serial_of (Actor a) = None
serial_of (Obj n) = Some n.serial

-- by owner; the actor itself comes before its objects, these by serial
abbrev pub thing_cmp : Thing → Thing → Ordering
thing_cmp = then_cmp (on owner_of nat_cmp) (on serial_of (option_cmp nat_cmp))

-- whether two things are the same
abbrev pub is_thing : Thing → Thing → Bool
is_thing = eq_by_cmp thing_cmp

-- how often a thing stands among pairs of a thing and something
abbrev pub times_among : {A : Type 0} → Thing → List (Thing × A) → ℕ
times_among x pairs = sum_by (λ e. if is_thing x e.0 then 1 else 0) pairs
