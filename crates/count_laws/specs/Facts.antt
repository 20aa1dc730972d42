-- The facts that every event of the machine that collects keeps, beside the plain machine.
use Rattle.std.specs.Prelude.{ℕ, ◌<◌, ◌≡◌, List, length, Option, Some, None}
use Rattle.std.specs.FinMap as m
use Rattle.orca_names.specs.declared.names.Thing.{Thing}
use Rattle.orca_names.specs.declared.names.Thing.TheVariants.{Actor}
use Rattle.reach_walk.specs.Reach.{thing_row}
use Rattle.letter_kinds.specs.Letters.{Letter}
use Rattle.letter_kinds.specs.Holdings.{Holdings, Row}
use Rattle.machine_rules.specs.Actors.{Actors, Every}
use Rattle.count_laws.specs.Agreement.{Agrees, Person, people_of}
use Rattle.machine_rules.specs.Balance.{IsBalanced}
use Rattle.count_laws.specs.Prefixes.{NeverOverdraws}
use Rattle.machine_rules.specs.Cell.{Cell}
use Rattle.count_laws.specs.Known.{IsSoundAt}
use Rattle.count_laws.specs.KnownByRoots.{IsRootsAt}
use Rattle.orca_names.specs.declared.trace.Trace.{Trace}
use Rattle.orca_names.specs.declared.trace.Trace.TheVariants.{Deep, Roots}
use Rattle.plain_rules.specs.Machine.{PlainState, objects_made, plain_row}
use Rattle.machine_rules.specs.State.{State}

-- at least 1 is held of each thing in the table
abbrev pub IsFirm : Holdings → Type 0
IsFirm h = (x : Thing) (e : ℕ × Option Row) → m.get h.foreign x ≡ Some e → 0 < e.0

abbrev pub IsFirmAt : ℕ → Cell → List Letter → Type 0
IsFirmAt a c mail = IsFirm c.holdings

-- what each actor knows
abbrev pub IsSound : Trace → (Thing → Option Row) → ℕ → Cell → List Letter → Type 0
IsSound Deep all a c mail = IsSoundAt all a c mail
IsSound Roots all a c mail = IsRootsAt all a c mail

-- what the actors keep, beside these persons and the map of all rows ever made
pub record KeepsCounts (trace : Trace) (all : Thing → Option Row) (people : List Person)
    (actors : Actors) : Type 0 where
  pub balanced : IsBalanced actors
  pub prefixes : NeverOverdraws trace actors
  pub sound : Every (IsSound trace all) actors
  pub agrees : Agrees people actors
  -- an actor has no row
  pub bare : (a : ℕ) → all (Actor a) ≡ None
  pub long : length people ≡ length actors
  pub firm : Every IsFirmAt actors

-- the facts: the counts are kept beside the plain machine, which runs the same program, printed the
-- same and made as many objects; and an increment is one
pub record Facts (trace : Trace) (p : PlainState) (s : State) : Type 0 where
  pub counts : KeepsCounts trace (thing_row (plain_row p.actors)) (people_of p.actors) s.actors
  pub program : p.program ≡ s.program
  pub prints : p.prints ≡ s.prints
  pub objects : objects_made p.actors ≡ s.objects
  pub weight : 0 < s.options.weight
  pub mode : s.options.trace ≡ trace
