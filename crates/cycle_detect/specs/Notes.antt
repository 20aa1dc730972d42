-- Kinds of notes.
use Rattle.std.specs.Prelude.{⊤}
use Rattle.letter_kinds.specs.declared.note.Note.{Note}
use Rattle.letter_kinds.specs.declared.note.Note.TheVariants.{Block, Unblock, Ack}

-- the note brings a report
abbrev pub IsBlock : Note → Type 0
IsBlock (Block a count held) = ⊤
IsBlock (Unblock a) = ⊥
IsBlock (Ack number a) = ⊥
