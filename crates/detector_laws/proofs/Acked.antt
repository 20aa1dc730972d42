-- A token that all members acknowledged is sealed, and no letter waits for a member.
use Rattle.std.proofs.Common.{◌≡◌, ℕ, ◌+◌, ◌<◌, true, List, [], ◌∷◌, refl, sym, ◌∙◌, arith, ⊎_elim, Contains}
use Rattle.std.proofs.lemmas.Bool.{false≢true}
use Rattle.letter_kinds.proofs.Acked.{acked_each}
use Rattle.letter_kinds.specs.Detector.{Token, all_acked, has}
use Rattle.letter_kinds.specs.Letters.{Letter}
use Rattle.detector_laws.specs.Confirms.{EndsInConfirm, confirm_count}
use Rattle.detector_laws.specs.Tokens.{IsSealed, ack_count}
use Rattle.detector_laws.specs.World.{TokensAreSound, World}

pub acked_sealed : (w : World) (t : Token) → TokensAreSound w → Contains w.detector.tokens t → all_acked t ≡ true → IsSealed w.cell w.mail w.loaded w.notes t
acked_sealed w t sound is acked = ⊎_elim
    (λ s. s)
    (λ s. absurd (false≢true (sym s.2.unnoted ∙ acked_each t acked s.0 s.1)))
    (sound.state t is)

-- a mail that ends in a Confirm has one
ends_some : (n : ℕ) (l : Letter) (ls : List Letter) → EndsInConfirm n (l ∷ ls) → 0 < confirm_count n (l ∷ ls)
ends_some n l [] h = rw h (omega arith)
ends_some n l (k ∷ ls) h = let z = ends_some n k ls h.1 in omega arith

ends_none : (n : ℕ) (ls : List Letter) → EndsInConfirm n ls → confirm_count n ls ≡ 0 → ls ≡ []
ends_none n [] h none = refl
ends_none n (l ∷ ls) h none = absurd (let z = ends_some n l ls h in omega arith)

pub acked_bare : (w : World) (t : Token) → TokensAreSound w → Contains w.detector.tokens t → all_acked t ≡ true → (m : ℕ) → has t.members m ≡ true → w.mail m ≡ []
acked_bare w t sound is acked m member =
    let seal = acked_sealed w t sound is acked m member in
    let noted : has t.acked m ≡ true = acked_each t acked m member in
    let one : confirm_count t.number (w.mail m) + ack_count t.number m w.notes + 1 ≡ 1 = rw noted at seal.one in
    ends_none t.number (w.mail m) seal.letters (omega arith)
