-- What becomes of the state where an event of an actor gives something out.
use Rattle.std.specs.Prelude.{ℕ, ◌+◌, ◌-◌, nat_lt, if◌then◌else◌, List, [], ◌∷◌, ◌++◌, length, set, Option, Some, None}
use Rattle.event_rule.specs.Runs.{Step, Goes, IsFull}
use Rattle.orca_names.specs.declared.limits.TheConstants.{ACTORS_LIMIT}
use Rattle.orca_names.specs.declared.names.Value.{Value}
use Rattle.letter_kinds.specs.Letters.{Letter}
use Rattle.machine_rules.specs.Actors.{Actors, push_letter, seat}
use Rattle.machine_rules.specs.Cell.{Cell, fresh_cell}
use Rattle.machine_rules.specs.State.{State}
use Rattle.actor_cell.specs.Outs.{Out}
use Rattle.actor_cell.specs.Cells.{settled}

-- each letter goes to its actor, in their order
abbrev pub push_all : List (ℕ × Letter) → Actors → Actors
push_all [] actors = actors
push_all (l ∷ letters) actors = push_all letters (push_letter l.0 l.1 actors)

-- what was printed, with one value more, if there is one
abbrev pub with_print : Option Value → List Value → List Value
with_print None prints = prints
with_print (Some value) prints = prints ++ value ∷ []

-- letters go to their actors, notes to the detector
abbrev pub pushed : Out → State → State
pushed out s = record s {
  actors = push_all out.letters s.actors;
  notes = s.notes ++ out.notes;
  prints = with_print out.print s.prints;
}

-- the actor has this cell, and these letters wait for it
abbrev pub with_cell : ℕ → Cell → List Letter → State → State
with_cell a c mail s = record s { actors = set s.actors a (seat c mail) }

-- the actor is gone
abbrev pub without_actor : ℕ → State → State
without_actor a s = record s { actors = set s.actors a None }

-- as many objects more as the cell made
abbrev pub with_objects : Cell → Cell → State → State
with_objects before after s =
    record s { objects = s.objects + (after.holdings.next - before.holdings.next) }

-- the actor that is made comes behind all others, where there is room; its maker has its name
abbrev pub with_made_actor : ℕ → Cell → List Letter → Option (ℕ × ℕ) → State → Step State
with_made_actor a c mail None s = Goes s
with_made_actor a c mail (Some (kind, register)) s =
    if nat_lt (length s.actors) ACTORS_LIMIT then Goes (record s {
      actors = set s.actors a (seat (settled s.options.weight register (length s.actors) c) mail)
          ++ seat (fresh_cell s.options.weight s.program kind) [] ∷ [];
    }) else IsFull
