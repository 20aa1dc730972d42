-- What an actor tells of a letter, and the note of it.
use Rattle.std.specs.Prelude.{ℕ, Option, None, Some}
use Rattle.letter_kinds.specs.declared.note.Note.{Note}
use Rattle.letter_kinds.specs.declared.note.Note.TheVariants.{Ack, Unblock}
use Rattle.block_report.specs.declared.telling.Tells.{Tells}
use Rattle.block_report.specs.declared.telling.Tells.TheVariants.{Acknowledged, Nothing, Unblocked}

-- the note that tells this of the actor
abbrev pub note_told : ℕ → Tells → Option Note
note_told actor Nothing = None
note_told actor Unblocked = Some (Unblock actor)
note_told actor (Acknowledged token) = Some (Ack token actor)
