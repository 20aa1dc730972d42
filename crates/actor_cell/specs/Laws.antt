-- The events of the machine, by the parts of one actor.
use Rattle.std.specs.Prelude.{ℕ, ◌≡◌, true, List, [], ◌∷◌}
use Rattle.std.specs.Option.{option_map_or}
use Rattle.event_rule.specs.Runs.{Step, Goes, NotEnabled}
use Rattle.orca_names.specs.declared.trace.Trace.{Trace}
use Rattle.letter_kinds.specs.Letters.{Letter}
use Rattle.letter_kinds.specs.Counting.{by_owner, given_back}
use Rattle.machine_rules.specs.Actors.{seat, seat_at}
use Rattle.machine_rules.specs.Block.{block}
use Rattle.machine_rules.specs.Cell.{Cell}
use Rattle.machine_rules.specs.Collect.{collect, is_marked}
use Rattle.machine_rules.specs.Go.{go}
use Rattle.machine_rules.specs.Leave.{leave}
use Rattle.machine_rules.specs.State.{State}
use Rattle.machine_rules.specs.Take.{cell_after, note_of, notes_after, take}
use Rattle.actor_cell.specs.Goes.{Gone, gone_of}
use Rattle.actor_cell.specs.Outs.{left_behind, noting, report_of, returning}
use Rattle.actor_cell.specs.Pushing.{pushed, with_cell, with_made_actor, with_objects, without_actor}
use Rattle.actor_cell.specs.Sweeps.{swept}

-- a take leaves the cell after the letter, and notes what the detector is to hear
abbrev pub TakesByParts : Type 0
TakesByParts =
    (s : State) (a : ℕ) (c : Cell) (letter : Letter) (mail : List Letter)
    → take s a c (letter ∷ mail)
    ≡ Goes (pushed (noting (notes_after c.reported (note_of a letter) []))
    (with_cell a (cell_after s.program a letter c) mail s))

-- a collection leaves the swept cell, and returns what is held no more
abbrev pub CollectsByParts : Type 0
CollectsByParts =
    (trace : Trace) (s : State) (a : ℕ) (c : Cell) (mail : List Letter)
    → collect trace s a c mail
    ≡ Goes (pushed (returning (by_owner (given_back (is_marked trace a c) c.holdings)))
    (with_cell a (swept trace a c) mail s))

-- a leave returns what was held, and leaves no cell
abbrev pub LeavesByParts : Type 0
LeavesByParts =
    (s : State) (a : ℕ) (c : Cell) (mail : List Letter)
    → seat_at s.actors a ≡ seat c mail
    → leave s a c mail ≡ Goes (pushed (returning (left_behind a c)) (without_actor a s))

-- a block notes the report, and leaves the cell reported
abbrev pub BlocksByParts : Type 0
BlocksByParts =
    (s : State) (a : ℕ) (c : Cell) (mail : List Letter)
    → block s a c mail
    ≡ Goes (pushed (noting (report_of a c ∷ []))
    (with_cell a (record c { reported = true }) mail s))

-- the state after a go that leaves this cell and gives this out
abbrev pub after_go : State → ℕ → Cell → List Letter → Gone → Step State
after_go s a before mail g =
    with_made_actor a g.cell mail g.out.made
    (with_objects before g.cell (pushed g.out (with_cell a g.cell mail s)))

-- a go leaves the cell of its part, and gives out what this gives out
abbrev pub GoesByParts : Type 0
GoesByParts =
    (trace : Trace) (s : State) (a : ℕ) (c : Cell) (mail : List Letter)
    → go trace s a c mail
    ≡ option_map_or (after_go s a c mail)
    (gone_of (record s.options { trace = trace }) s.program a c) NotEnabled
