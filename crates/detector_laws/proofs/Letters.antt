-- Confirms among letters.
use Rattle.std.proofs.Common.{◌≡◌, ℕ, ◌+◌, ◌<◌, true, false, List, [], ◌∷◌, ◌++◌, arith, refl, sym}
use Rattle.std.proofs.lemmas.Bool.{false≢true}
use Rattle.letter_kinds.specs.Letters.{Letter, Confirm}
use Rattle.detector_laws.specs.Confirms.{is_confirm, confirms, confirm_count, has_confirm, other_before_confirm, NoConfirms, EndsInConfirm, OnlyConfirms}

-- the Confirm of a token is a Confirm
pub confirms_some : (t : ℕ) (l : Letter) → confirms t l ≡ true → is_confirm l ≡ true
confirms_some t (Confirm u) h = refl
confirms_some t l h = h

confirms_none : (t : ℕ) (l : Letter) → is_confirm l ≡ false → confirms t l ≡ false
confirms_none t (Confirm u) h = absurd (false≢true (sym h))
confirms_none t l h = refl

pub confirm_count-append : (t : ℕ) (ls ms : List Letter) → confirm_count t (ls ++ ms) ≡ confirm_count t ls + confirm_count t ms
confirm_count-append t [] ms = omega arith
confirm_count-append t (l ∷ ls) ms = omega (arith, confirm_count-append t ls ms)

pub confirm_count-none : (t : ℕ) (ls : List Letter) → NoConfirms ls → confirm_count t ls ≡ 0
confirm_count-none t [] h = refl
confirm_count-none t (l ∷ ls) h = rw (confirms_none t l h.0) (omega (arith, confirm_count-none t ls h.1))

pub has_confirm-append : (t : ℕ) (ls ms : List Letter) → has_confirm t ls ≡ true → has_confirm t (ls ++ ms) ≡ true
has_confirm-append t [] ms h = absurd (cc)
has_confirm-append t (l ∷ ls) ms h = grind (arith, has_confirm-append t ls ms)

pub other_before_confirm-append : (t : ℕ) (ls ms : List Letter) → other_before_confirm t ls ≡ true → other_before_confirm t (ls ++ ms) ≡ true
other_before_confirm-append t [] ms h = absurd (cc)
other_before_confirm-append t (l ∷ ls) ms h = grind (arith, other_before_confirm-append t ls ms, has_confirm-append t ls ms)

pub has_confirm-some : (t : ℕ) (ls : List Letter) → has_confirm t ls ≡ true → 0 < confirm_count t ls
has_confirm-some t [] h = absurd (cc)
has_confirm-some t (l ∷ ls) h = grind (arith, has_confirm-some t ls)

pub other_before_confirm-some : (t : ℕ) (ls : List Letter) → other_before_confirm t ls ≡ true → 0 < confirm_count t ls
other_before_confirm-some t [] h = absurd (cc)
other_before_confirm-some t (l ∷ ls) h = grind (arith, other_before_confirm-some t ls, has_confirm-some t ls)

pub EndsInConfirm-tail : (t : ℕ) (l : Letter) (ls : List Letter) → EndsInConfirm t (l ∷ ls) → EndsInConfirm t ls
EndsInConfirm-tail t l [] h = tt
EndsInConfirm-tail t l (m ∷ ls) h = h.1

-- all letters of such a mail are Confirms
pub EndsInConfirm-only : (t : ℕ) (ls : List Letter) → EndsInConfirm t ls → OnlyConfirms ls
EndsInConfirm-only t [] h = tt
EndsInConfirm-only t (l ∷ []) h = (confirms_some t l h, tt)
EndsInConfirm-only t (l ∷ (m ∷ ls)) h = (h.0, EndsInConfirm-only t (m ∷ ls) h.1)
