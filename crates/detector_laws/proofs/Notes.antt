-- What lists of notes tell, and which Acks and Unblocks they have.
use Rattle.std.proofs.Common.{◌≡◌, ℕ, ◌+◌, ◌≢◌, true, List, [], ◌∷◌, ◌++◌, arith, refl}
use Rattle.std.specs.Prelude.{⊤}
use Rattle.std.proofs.lemmas.Bool.Decides.{nat_tests}
use Rattle.letter_kinds.specs.declared.note.Note.{Note}
use Rattle.letter_kinds.specs.declared.note.Note.TheVariants.{Block, Unblock, Ack}
use Rattle.detector_laws.specs.Reports.{Told, with_note, with_notes, IsSilentOn}
use Rattle.detector_laws.specs.Tokens.{ack_count, unblocks_before_ack}

pub with_notes-push : (a : ℕ) (s : Told) (ns : List Note) (n : Note) → with_notes a s (ns ++ n ∷ []) ≡ with_note a (with_notes a s ns) n
with_notes-push a s [] n = refl
with_notes-push a s (m ∷ ns) n = with_notes-push a (with_note a s m) ns n

-- two that tell nothing of a
pub with_note-other_block : (a : ℕ) (s : Told) (b count : ℕ) (held : List (ℕ × ℕ)) → b ≢ a → with_note a s (Block b count held) ≡ s
with_note-other_block a s b count held ne = grind (arith, nat_tests)

pub with_note-other_unblock : (a : ℕ) (s : Told) (b : ℕ) → b ≢ a → with_note a s (Unblock b) ≡ s
with_note-other_unblock a s b ne = grind (arith, nat_tests)

pub with_notes-silent : (a : ℕ) (s : Told) (ns : List Note) → IsSilentOn a ns → with_notes a s ns ≡ s
with_notes-silent a s [] h = refl
with_notes-silent a s (Block b count held ∷ ns) h = rw (with_note-other_block a s b count held h.0) (with_notes-silent a s ns h.1)
with_notes-silent a s (Unblock b ∷ ns) h = rw (with_note-other_unblock a s b h.0) (with_notes-silent a s ns h.1)
with_notes-silent a s (Ack t b ∷ ns) h = with_notes-silent a s ns h

-- a note that is not a Block or Unblock of a
abbrev pub SaysNothing : ℕ → Note → Type 0
SaysNothing a (Block b count held) = b ≢ a
SaysNothing a (Unblock b) = b ≢ a
SaysNothing a (Ack t b) = ⊤

pub IsSilentOn-push : (a : ℕ) (ns : List Note) (n : Note) → IsSilentOn a ns → SaysNothing a n → IsSilentOn a (ns ++ n ∷ [])
IsSilentOn-push a [] (Block b count held) h k = (k, tt)
IsSilentOn-push a [] (Unblock b) h k = (k, tt)
IsSilentOn-push a [] (Ack t b) h k = tt
IsSilentOn-push a (Block b count held ∷ ns) n h k = (h.0, IsSilentOn-push a ns n h.1 k)
IsSilentOn-push a (Unblock b ∷ ns) n h k = (h.0, IsSilentOn-push a ns n h.1 k)
IsSilentOn-push a (Ack t b ∷ ns) n h k = IsSilentOn-push a ns n h k

pub ack_count-append : (t a : ℕ) (ns ms : List Note) → ack_count t a (ns ++ ms) ≡ ack_count t a ns + ack_count t a ms
ack_count-append t a [] ms = omega arith
ack_count-append t a (Block b count held ∷ ns) ms = ack_count-append t a ns ms
ack_count-append t a (Unblock b ∷ ns) ms = ack_count-append t a ns ms
ack_count-append t a (Ack u b ∷ ns) ms = omega (arith, ack_count-append t a ns ms)

pub unblocks_before_ack-append : (t a : ℕ) (ns ms : List Note) → unblocks_before_ack t a ns ≡ true → unblocks_before_ack t a (ns ++ ms) ≡ true
unblocks_before_ack-append t a [] ms h = absurd (cc)
unblocks_before_ack-append t a (Block b count held ∷ ns) ms h = unblocks_before_ack-append t a ns ms h
unblocks_before_ack-append t a (Unblock b ∷ ns) ms h = grind (arith, unblocks_before_ack-append t a ns ms)
unblocks_before_ack-append t a (Ack u b ∷ ns) ms h = grind (arith, unblocks_before_ack-append t a ns ms)

-- an Unblock at the end, and no Ack
pub unblocks_before_ack-push : (t a : ℕ) (ns : List Note) → ack_count t a ns ≡ 0 → unblocks_before_ack t a (ns ++ Unblock a ∷ []) ≡ true
unblocks_before_ack-push t a [] h = grind (arith, nat_tests)
unblocks_before_ack-push t a (Block b count held ∷ ns) h = unblocks_before_ack-push t a ns h
unblocks_before_ack-push t a (Unblock b ∷ ns) h = grind (arith, unblocks_before_ack-push t a ns h)
unblocks_before_ack-push t a (Ack u b ∷ ns) h = grind (arith, unblocks_before_ack-push t a ns)
