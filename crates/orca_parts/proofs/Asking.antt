-- The token that a scan opens.
use Rattle.std.proofs.Common.{◌≡◌, ◌<◌, ℕ, List, [], ◌∷◌, length, Some, sym, arith}
use Rattle.letter_kinds.specs.Detector.{Token, closed_set}
use Rattle.detector_tokens.specs.Open.{CanOpen, new_token}
use Rattle.cycle_detect.specs.Room.{DetectorValue}
use Rattle.detector_tokens.specs.Room.{Fits}
use Rattle.actor_table.specs.declared.slot.Slot.{Slot}
use Rattle.orca_parts.specs.Fits.{CanOpenThen}
use Rattle.orca_parts.specs.Letters.{FitLetters}

pub opens_then : (token : Token) (members : List ℕ) (slots : List Slot) (d : DetectorValue) → 0 < length members
    → members ≡ closed_set d.state → token ≡ new_token members d.state → CanOpen members d.state → Fits members d.room
    → FitLetters members slots → CanOpenThen (Some token) slots d
opens_then token [] slots d some closed is apart fits letters = absurd (omega arith)
opens_then token (m ∷ members) slots d some closed is apart fits letters = record {
  first = m;
  rest = members;
  closed = sym closed;
  token_is = is;
  apart = apart;
  fits = fits;
  letters = letters;
}
