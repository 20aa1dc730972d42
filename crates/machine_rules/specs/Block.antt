-- Block: an actor with nothing to do reports to the detector (MAC, OOPSLA 2013).
use Rattle.std.specs.Prelude.{ℕ, true, List, [], ◌∷◌, ◌++◌, set, Option, Some, None}
use Rattle.std.specs.List.{filter_map}
use Rattle.std.specs.FinMap as m
use Rattle.orca_names.specs.declared.names.Thing.{Thing}
use Rattle.orca_names.specs.declared.names.Thing.TheVariants.{Actor, Obj}
use Rattle.letter_kinds.specs.Letters.{Letter}
use Rattle.letter_kinds.specs.declared.note.Note.TheVariants.{Block}
use Rattle.letter_kinds.specs.Holdings.{Holdings, Row}
use Rattle.machine_rules.specs.Actors.{seat}
use Rattle.machine_rules.specs.Cell.{Cell}
use Rattle.event_rule.specs.Runs.{Step, Goes}
use Rattle.machine_rules.specs.State.{State}

-- the count on an actor, of an entry of one
abbrev pub actor_entry : Thing × (ℕ × Option Row) → Option (ℕ × ℕ)
actor_entry (Actor b, e) = Some (b, e.0)
actor_entry (Obj n, e) = None

-- the counts that are held on other actors
abbrev pub held_actors : Holdings → List (ℕ × ℕ)
held_actors h = filter_map actor_entry (m.entries h.foreign)

-- it posts a report of its counts
abbrev pub block : State → ℕ → Cell → List Letter → Step State
block s a c mail =
    Goes (record s {
      actors = set s.actors a (seat (record c { reported = true }) mail);
      notes = s.notes ++ Block a c.holdings.count (held_actors c.holdings) ∷ [];
    })
