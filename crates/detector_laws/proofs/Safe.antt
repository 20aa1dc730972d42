-- No member of a sealed token is needed.
use Rattle.std.proofs.Common.{◌≡◌, ◌≢◌, ℕ, true, false, ⊎_elim, ap, sym, ◌∙◌}
use Rattle.std.proofs.lemmas.Bool.{cases_Bool, false≢true}
use Rattle.letter_kinds.specs.Detector.{Token, has}
use Rattle.machine_rules.specs.Cell.{Cell}
use Rattle.detector_laws.proofs.Cells.{same_some}
use Rattle.detector_laws.proofs.Letters.{EndsInConfirm-only}
use Rattle.detector_laws.proofs.Reap.{reaped_sealed}
use Rattle.detector_laws.specs.Events.{Reaps}
use Rattle.detector_laws.specs.Quiet.{IsNeeded, by_pin, by_frame, by_letter, by_load, by_holder}
use Rattle.detector_laws.specs.Tokens.{IsSealed}
use Rattle.detector_laws.specs.World.{World, TokensAreSound}

pub sealed_unneeded : (w : World) (t : Token) → IsSealed w.cell w.mail w.loaded w.notes t → (a : ℕ) → IsNeeded w a → has t.members a ≢ true
sealed_unneeded w t s a (by_pin here p) i = let member = (s a i).blocked in false≢true (sym member.unpinned ∙ (ap (λ (c : Cell). c.fields.pinned) (same_some member.here here) ∙ p))
sealed_unneeded w t s a (by_frame here p) i = let member = (s a i).blocked in p (ap (λ (c : Cell). c.frame) (same_some here member.here) ∙ member.idle)
sealed_unneeded w t s a (by_letter p) i = p (EndsInConfirm-only t.number (w.mail a) (s a i).letters)
sealed_unneeded w t s a (by_load p) i = p (s a i).unloaded
sealed_unneeded w t s a (by_holder {b} n p) i = ⊎_elim
    (λ (j : has t.members b ≡ true). sealed_unneeded w t s b n j)
    (λ (o : has t.members b ≡ false). p ((s a i).held b o))
    (cases_Bool (has t.members b))

pub reaped_unneeded : (w w' : World) (t : Token) → Reaps w t w' → TokensAreSound w → (a : ℕ) → IsNeeded w a → has t.members a ≢ true
reaped_unneeded w w' t r k = sealed_unneeded w t (reaped_sealed w w' t r k)
