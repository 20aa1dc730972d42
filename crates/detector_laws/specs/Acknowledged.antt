-- Members alone acknowledge a token.
use Rattle.std.specs.Prelude.{ℕ, ◌≡◌, false, List, Contains}
use Rattle.letter_kinds.specs.Detector.{Detector, Token, has}
use Rattle.letter_kinds.specs.Letters.{Letter}
use Rattle.letter_kinds.specs.declared.note.Note.{Note}
use Rattle.detector_laws.specs.Confirms.{confirm_count}
use Rattle.detector_laws.specs.Tokens.{ack_count}

-- of each open token, no Confirm waits for an actor that is no member, and no Ack by one is under way
pub record OnlyMembersAcknowledge (d : Detector) (mail : ℕ
    → List Letter) (notes : List Note) : Type 0 where
  pub asked : (t : Token) → Contains d.tokens t → (a : ℕ) → has t.members a ≡ false
      → confirm_count t.number (mail a) ≡ 0
  pub acks : (t : Token) → Contains d.tokens t → (a : ℕ) → has t.members a ≡ false
      → ack_count t.number a notes ≡ 0
