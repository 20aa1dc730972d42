use Rattle.std.proofs.Common.{◌≡◌, drop, ℕ, List, []}
use Rattle.machine_rules.specs.Detect.{empty_seats}
use Rattle.actor_table.specs.Slots.{actors_of, away_of}
use Rattle.orca_parts.specs.Fits.{without_all}
use Rattle.orca_parts.specs.Letters.{FitLetters}
use Rattle.orca_parts.proofs.reaps.clear_all.Given as goal
use Rattle.actor_table.specs.Telling.{TableLies, TableTells}
use Rattle.letter_kinds.specs.Telling.{TellsOnly}

abbrev pub invariant-loop-member : goal.invariant-loop-member
invariant-loop-member l = record {
  actors : empty_seats (drop l.member-index l.members) (actors_of l.table.slots)
      ≡ empty_seats l.members (actors_of l.fn.table.slots);
  away : without_all (drop l.member-index l.members) (away_of l.table.slots)
      ≡ without_all l.members (away_of l.fn.table.slots);
  told : TellsOnly (TableTells l.fn.table.slots) [] (TableTells l.table.slots);
  lie : TableLies l.fn.table.slots → TableLies l.table.slots;
  room : (names : List ℕ) → FitLetters names l.fn.table.slots → FitLetters names l.table.slots;
}
