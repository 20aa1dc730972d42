-- All parts of two states: by rising numbers, and none is left out.
use Rattle.std.proofs.Common.{◌≡◌, ◌<◌, ◌≤◌, ◌==◌, ℕ, zero, suc, Bool, true, false, if◌then◌else◌, List, [], ◌∷◌, ◌++◌, map, Some, None, inl, inr, refl, ap, sym, ◌∙◌, arith}
use Rattle.std.specs.List.{find}
use Rattle.std.proofs.lemmas.Bool.{cases_lt, eqb-true}
use Rattle.std.proofs.lemmas.Bool.Decides.{nat_tests}
use Rattle.letter_kinds.specs.Detector.{Token}
use Rattle.letter_kinds.specs.Reports.{kept_report}
use Rattle.letter_kinds.specs.declared.note.Report.{Report}
use Rattle.picture_rules.specs.Parts.{above}
use Rattle.picture_laws.specs.Applying.{Part}
use Rattle.picture_laws.proofs.Opening.{PartFits}
use Rattle.picture_laws.proofs.Walking.{AllFit, In}

-- ---- numbers

pub above_front : (xs ys : List ℕ) → above xs ≤ above (xs ++ ys)
above_front [] ys = omega arith
above_front (x ∷ xs) ys = omega (arith, above_front xs ys)

pub above_behind : (xs ys : List ℕ) → above ys ≤ above (xs ++ ys)
above_behind [] ys = omega arith
above_behind (x ∷ xs) ys = omega (arith, above_behind xs ys)

pub above_both : (xs ys : List ℕ) (n : ℕ) → above xs ≤ n → above ys ≤ n → above (xs ++ ys) ≤ n
above_both [] ys n h k = k
above_both (x ∷ xs) ys n h k = omega (arith, h, above_both xs ys n (omega (arith, h)) k)

-- ---- parts by numbers

pub in_more : (p : Part) (ps qs : List Part) → In p ps → In p (ps ++ qs)
in_more p [] qs h = absurd h
in_more p (q ∷ ps) qs (inl h) = inl h
in_more p (q ∷ ps) qs (inr h) = inr (in_more p ps qs h)

pub in_behind : (p : Part) (ps qs : List Part) → In p qs → In p (ps ++ qs)
in_behind p [] qs h = h
in_behind p (q ∷ ps) qs h = inr (in_behind p ps qs h)

pub fit_more : (ps qs : List Part) → AllFit ps → AllFit qs → AllFit (ps ++ qs)
fit_more [] qs h k = k
fit_more (q ∷ ps) qs h k = (h.0, fit_more ps qs h.1 k)

module _ (part : ℕ → Part) where
  abbrev pub parts_below : ℕ → List Part
  parts_below zero = []
  parts_below (suc n) = parts_below n ++ part n ∷ []

  pub in_below : (n a : ℕ) → a < n → In (part a) (parts_below n)
  in_below zero a h = absurd (omega (arith, h))
  in_below (suc n) a h = elim (cases_lt a n) [
    | inl less ↦ in_more (part a) (parts_below n) (part n ∷ []) (in_below n a less)
    | inr last ↦ let same : a ≡ n = omega (arith, h, last) in in_behind (part a) (parts_below n) (part n ∷ []) (inl (ap part same))
  ]

  pub fit_below : (n : ℕ) → ((a : ℕ) → a < n → PartFits (part a)) → AllFit (parts_below n)
  fit_below zero h = tt
  fit_below (suc n) h = fit_more (parts_below n) (part n ∷ []) (fit_below n (λ a l. h a (omega (arith, l)))) (h n (omega arith), tt)

-- ---- what is not there

apart : (m n : ℕ) → m < n → (m == n) ≡ false
apart m n h = grind (arith, nat_tests, h)

pub none_kept : (ks : List Report) (a : ℕ) → above (map (λ r. r.actor) ks) ≤ a → kept_report ks a ≡ None
none_kept [] a h = refl
none_kept (r ∷ ks) a h =
    ap (λ (b : Bool). if b then Some r else kept_report ks a) (apart r.actor a (omega (arith, h))) ∙ none_kept ks a (omega (arith, h))

pub none_open : (ts : List Token) (n : ℕ) → above (map (λ t. t.number) ts) ≤ n → find (λ t. t.number == n) ts ≡ None
none_open [] n h = refl
none_open (t ∷ ts) n h =
    ap (λ (b : Bool). if b then Some t else find (λ u. u.number == n) ts) (apart t.number n (omega (arith, h))) ∙ none_open ts n (omega (arith, h))

-- who is found is of the number
kept_by : (ks : List Report) (a : ℕ) (x r : Report) (b : Bool) → (r.actor == a) ≡ b → (if b then Some r else kept_report ks a) ≡ Some x
    → ((y : Report) → kept_report ks a ≡ Some y → y.actor ≡ a) → x.actor ≡ a
kept_by ks a x r true e h later = let is : r ≡ x = cc in ap (λ y. y.actor) (sym is) ∙ eqb-true r.actor a e
kept_by ks a x r false e h later = later x h

pub kept_named : (ks : List Report) (a : ℕ) (x : Report) → kept_report ks a ≡ Some x → x.actor ≡ a
kept_named [] a x h = absurd cc
kept_named (r ∷ ks) a x h = kept_by ks a x r (r.actor == a) refl h (kept_named ks a)

open_by : (ts : List Token) (n : ℕ) (x t : Token) (b : Bool) → (t.number == n) ≡ b → (if b then Some t else find (λ u. u.number == n) ts) ≡ Some x
    → ((y : Token) → find (λ u. u.number == n) ts ≡ Some y → y.number ≡ n) → x.number ≡ n
open_by ts n x t true e h later = let is : t ≡ x = cc in ap (λ y. y.number) (sym is) ∙ eqb-true t.number n e
open_by ts n x t false e h later = later x h

pub open_named : (ts : List Token) (n : ℕ) (x : Token) → find (λ u. u.number == n) ts ≡ Some x → x.number ≡ n
open_named [] n x h = absurd cc
open_named (t ∷ ts) n x h = open_by ts n x t (t.number == n) refl h (open_named ts n)
