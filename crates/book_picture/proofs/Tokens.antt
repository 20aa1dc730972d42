-- Open tokens that a note, a scan or a reap leaves.
use Rattle.std.proofs.Common.{◌≡◌, ◌≢◌, ℕ, ◌==◌, ◌||◌, cond, Bool, true, false, List, [], ◌∷◌, ◌++◌, filter, map, Option, Some, None, eqb-true, ne_eqb, refl, ap, sym, ◌∙◌}
use Rattle.std.specs.List.{AllByRecursion, find}
use Rattle.std.specs.Option.{option_or}
use Rattle.std.specs.Prelude.{if◌then◌else◌}
use Rattle.std.proofs.lemmas.List.Folds.{find-append}
use Rattle.letter_kinds.specs.Detector.{Token, has, note_ack}

-- a search that passes only what a filter keeps finds the same
pub found_kept : (p q : Token → Bool) (ts : List Token) → AllByRecursion (λ t. p t ≡ true → q t ≡ true) ts
    → find p (filter q ts) ≡ find p ts
found_kept p q [] each = refl
found_kept p q (t ∷ ts) each = by (p t) (q t) refl refl (found_kept p q ts each.1)
  where
    by : (b c : Bool) → p t ≡ b → q t ≡ c → find p (filter q ts) ≡ find p ts → find p (filter q (t ∷ ts)) ≡ find p (t ∷ ts)
    by true true e f later =
        ap (λ (x : Bool). find p (cond x (t ∷ filter q ts) (filter q ts))) f ∙ ap (λ (x : Bool). cond x (Some t) (find p (filter q ts))) e
        ∙ sym (ap (λ (x : Bool). cond x (Some t) (find p ts)) e)
    by true false e f later = absurd (let z : true ≡ false = sym (each.0 e) ∙ f in cc)
    by false true e f later =
        ap (λ (x : Bool). find p (cond x (t ∷ filter q ts) (filter q ts))) f ∙ ap (λ (x : Bool). cond x (Some t) (find p (filter q ts))) e
        ∙ later ∙ sym (ap (λ (x : Bool). cond x (Some t) (find p ts)) e)
    by false false e f later =
        ap (λ (x : Bool). find p (cond x (t ∷ filter q ts) (filter q ts))) f ∙ later ∙ sym (ap (λ (x : Bool). cond x (Some t) (find p ts)) e)

-- an acknowledgement leaves the tokens of other numbers
pub found_acked : (number a n : ℕ) → number ≢ n → (ts : List Token)
    → find (λ t. t.number == n) (map (note_ack number a) ts) ≡ find (λ t. t.number == n) ts
found_acked number a n other [] = refl
found_acked number a n other (t ∷ ts) = by (number == t.number) refl (found_acked number a n other ts)
  where
    by : (b : Bool) → (number == t.number) ≡ b → find (λ u. u.number == n) (map (note_ack number a) ts) ≡ find (λ u. u.number == n) ts
        → find (λ u. u.number == n) (map (note_ack number a) (t ∷ ts)) ≡ find (λ u. u.number == n) (t ∷ ts)
    by true e later =
        let off : (t.number == n) ≡ false = ne_eqb t.number n (λ same. other (eqb-true number t.number e ∙ same)) in
        ap (λ (x : Bool). cond x (Some (note_ack number a t)) (find (λ u. u.number == n) (map (note_ack number a) ts))) off ∙ later
        ∙ sym (ap (λ (x : Bool). cond x (Some t) (find (λ u. u.number == n) ts)) off)
    by false e later =
        let same : note_ack number a t ≡ t = ap (λ (x : Bool). record t { acked = if x then filter (λ m. has t.acked m || (m == a)) t.members else t.acked }) e in
        ap (λ (u : Token). cond (t.number == n) (Some u) (find (λ v. v.number == n) (map (note_ack number a) ts))) same
        ∙ ap (λ (o : Option Token). cond (t.number == n) (Some t) o) later

or_none : (o : Option Token) → option_or o None ≡ o
or_none None = refl
or_none (Some t) = refl

-- so does a further token
pub found_before : (n : ℕ) (ts : List Token) (t : Token) → t.number ≢ n
    → find (λ u. u.number == n) (ts ++ t ∷ []) ≡ find (λ u. u.number == n) ts
found_before n ts t other =
    find-append (λ u. u.number == n) ts (t ∷ [])
    ∙ ap (λ (x : Bool). option_or (find (λ u. u.number == n) ts) (cond x (Some t) None)) (ne_eqb t.number n other)
    ∙ or_none (find (λ u. u.number == n) ts)
