-- What an actor tells the detector as it acts.
use Rattle.std.specs.Prelude.{ℕ, List}
use Rattle.letter_kinds.specs.declared.note.Note.{Note}
use Rattle.letter_kinds.specs.declared.note.Note.TheVariants.{Ack, Unblock}
use Rattle.machine_rules.specs.Cell.{Cell}
use Rattle.machine_rules.specs.Take.{notes_after}

-- what an actor with such a cell tells where it acts
abbrev pub noted : ℕ → Cell → List Note → List Note
noted a c notes = notes_after c.reported (Unblock a) notes

-- what it tells where it takes the Confirm of a token
abbrev pub acked : ℕ → ℕ → Cell → List Note → List Note
acked a token c notes = notes_after c.reported (Ack token a) notes
