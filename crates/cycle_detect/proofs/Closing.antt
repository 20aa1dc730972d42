-- What the detector's calls do to its tokens and reports.
use Rattle.std.proofs.Common.{◌≡◌, ℕ, ◌+◌, ◌<◌, ◌≤◌, ◌==◌, not, true, false, List, [], ◌∷◌, filter, map, length, get_or, take, refl, ap, sym, subst, ◌∙◌, Option, Some, None, IfSome, ⊎_elim, arith, eq-eqb, eqb-true}
use Rattle.std.proofs.lemmas.Bool.{cases_Bool, false≢true}
use Rattle.std.proofs.lemmas.Bool.Decides.{nat_tests}
use Rattle.std.proofs.lemmas.List.Folds.{list_any_more}
use Rattle.std.specs.List.{AllByRecursion, find}
use Rattle.std.specs.Option.{option_map_or}
use Rattle.letter_kinds.specs.Detector.{Detector, Token, all_acked, close_token, has, note_ack, token_numbered}
use Rattle.letter_kinds.specs.Reports.{drop_report}
use Rattle.letter_kinds.specs.declared.note.Report.{Report}
use Rattle.detector_tokens.specs.Open.{acked_by_all, first_acked, IsLowestAcked, numbers}
use Rattle.std.specs.List.Sorted.{IsStrictlySortedBy}
use Rattle.std.specs.Ordering.{nat_cmp}
use Rattle.detector_tokens.proofs.OpenLemmas.{first-above}
use Rattle.detector_tokens.proofs.RisingLemmas.{AllAbove, first_above, rest_rises}

-- no number is above that of the last token that was opened
pub opened-acks : (m a n : ℕ) (ts : List Token) → AllByRecursion (λ t. t.number ≤ n) ts
    → AllByRecursion (λ t. t.number ≤ n) (map (note_ack m a) ts)
opened-acks m a n [] h = tt
opened-acks m a n (t ∷ ts) h = (h.0, opened-acks m a n ts h.1)

-- ---- the first that is acknowledged

above_all : (n : ℕ) (ts : List Token) → AllAbove n (numbers ts)
    → AllByRecursion (λ t. all_acked t ≡ true → n ≤ t.number) ts
above_all n [] h = tt
above_all n (t ∷ ts) h = (λ _. omega (arith, h.0), above_all n ts h.1)

lowest_more : (t : Token) (ts : List Token) (o : Option ℕ) → all_acked t ≡ false
    → IfSome o (λ n. AllByRecursion (λ u. all_acked u ≡ true → n ≤ u.number) ts)
    → IfSome o (λ n. AllByRecursion (λ u. all_acked u ≡ true → n ≤ u.number) (t ∷ ts))
lowest_more t ts None off h = tt
lowest_more t ts (Some n) off h = (λ on. absurd (false≢true (sym off ∙ on)), h)

first-on : (t : Token) (ts : List Token) → all_acked t ≡ true → first_acked (t ∷ ts) ≡ Some t.number
first-on t ts on = rw on refl

first-off : (t : Token) (ts : List Token) → all_acked t ≡ false → first_acked (t ∷ ts) ≡ first_acked ts
first-off t ts off = rw off refl

first_lowest : (ts : List Token) → IsStrictlySortedBy nat_cmp (numbers ts)
    → IfSome (first_acked ts) (λ n. AllByRecursion (λ t. all_acked t ≡ true → n ≤ t.number) ts)
first_lowest [] h = tt
first_lowest (t ∷ ts) h =
    let P = λ (o : Option ℕ). IfSome o (λ n. AllByRecursion (λ (u : Token). all_acked u ≡ true → n ≤ u.number) (t ∷ ts)) in
    ⊎_elim
    (λ (on : all_acked t ≡ true). subst P (sym (first-on t ts on)) (λ _. omega arith, above_all t.number ts (first_above t.number (numbers ts) h)))
    (λ (off : all_acked t ≡ false). subst P (sym (first-off t ts off)) (lowest_more t ts (first_acked ts) off (first_lowest ts (rest_rises t.number (numbers ts) h))))
    (cases_Bool (all_acked t))

acked_more : (t : Token) (ts : List Token) (o : Option ℕ) → IfSome o (λ n. t.number < n)
    → IfSome o (λ n. option_map_or all_acked (find (λ u. u.number == n) ts) false ≡ true)
    → IfSome o (λ n. option_map_or all_acked (find (λ u. u.number == n) (t ∷ ts)) false ≡ true)
acked_more t ts None lt h = tt
acked_more t ts (Some n) lt h = grind (arith, nat_tests)

first_is_acked : (ts : List Token) → IsStrictlySortedBy nat_cmp (numbers ts)
    → IfSome (first_acked ts) (λ n. option_map_or all_acked (find (λ t. t.number == n) ts) false ≡ true)
first_is_acked [] h = tt
first_is_acked (t ∷ ts) h =
    let P = λ (o : Option ℕ). IfSome o (λ n. option_map_or all_acked (find (λ (u : Token). u.number == n) (t ∷ ts)) false ≡ true) in
    ⊎_elim
    (λ (on : all_acked t ≡ true). subst P (sym (first-on t ts on)) (rw (eq-eqb t.number t.number refl) on))
    (λ (off : all_acked t ≡ false). subst P (sym (first-off t ts off)) (acked_more t ts (first_acked ts) (first-above t.number ts (first_above t.number (numbers ts) h)) (first_is_acked ts (rest_rises t.number (numbers ts) h))))
    (cases_Bool (all_acked t))

pub lowest_acked : (d : Detector) → IsStrictlySortedBy nat_cmp (numbers d.tokens)
    → IfSome (first_acked d.tokens) (IsLowestAcked d)
lowest_acked d h = both (first_acked d.tokens) (first_is_acked d.tokens h) (first_lowest d.tokens h)
  where
    both : (o : Option ℕ) → IfSome o (λ n. acked_by_all d n ≡ true)
        → IfSome o (λ n. AllByRecursion (λ t. all_acked t ≡ true → n ≤ t.number) d.tokens)
        → IfSome o (IsLowestAcked d)
    both None one two = tt
    both (Some n) one two = record { acked = one; lowest = two }

-- ---- reports go, one after another

pub dropped_none : (ks : List Report) → ks ≡ filter (λ r. not (has [] r.actor)) ks
dropped_none [] = refl
dropped_none (k ∷ ks) = ap (λ rs. k ∷ rs) (dropped_none ks)

pub dropped_more : (ks : List Report) (xs : List ℕ) (i d : ℕ) → i < length xs
    → drop_report (get_or xs i d) (filter (λ r. not (has (take i xs) r.actor)) ks) ≡ filter (λ r. not (has (take (i + 1) xs) r.actor)) ks
dropped_more [] xs i d lt = refl
dropped_more (k ∷ ks) xs i d lt = grind (arith, nat_tests, list_any_more (λ y. y == k.actor) xs i d lt, dropped_more ks xs i d lt)

-- ---- a token is closed

found_number : (ts : List Token) (n : ℕ) (t : Token) → find (λ u. u.number == n) ts ≡ Some t
    → t.number ≡ n
found_number [] n t e = absurd (cc)
found_number (u ∷ us) n t e = ⊎_elim
    (λ (on : (u.number == n) ≡ true). let is : Some u ≡ Some t = rw on at e in let same : u ≡ t = cc in ap (λ (x : Token). x.number) (sym same) ∙ eqb-true u.number n on)
    (λ (off : (u.number == n) ≡ false). found_number us n t (rw off at e))
    (cases_Bool (u.number == n))

pub closed_is : (d : Detector) (t : Token) (n : ℕ) (ms : List ℕ) (kept : List Report) (tokens : List Token)
    → token_numbered n d ≡ Some t → ms ≡ t.members
    → kept ≡ filter (λ r. not (has ms r.actor)) d.kept
    → tokens ≡ filter (λ u. not (u.number == n)) d.tokens
    → record { kept = kept; tokens = tokens; opened = d.opened; news = d.news } ≡ close_token t d
closed_is d t n ms kept tokens found same k ts =
    let kept_is : kept ≡ filter (λ r. not (has t.members r.actor)) d.kept = k ∙ ap (λ xs. filter (λ (r : Report). not (has xs r.actor)) d.kept) same in
    let tokens_are : tokens ≡ filter (λ u. not (u.number == t.number)) d.tokens = ts ∙ ap (λ m. filter (λ (u : Token). not (u.number == m)) d.tokens) (sym (found_number d.tokens n t found)) in
    ap (λ x. record { kept = x; tokens = tokens; opened = d.opened; news = d.news }) kept_is
    ∙ ap (λ x. record { kept = filter (λ r. not (has t.members r.actor)) d.kept; tokens = x; opened = d.opened; news = d.news }) tokens_are

pub if_found : (o : Option Token) (t : Token) (P : Token → Type 0) → o ≡ Some t → P t → IfSome o P
if_found o t P e h = subst (λ x. IfSome x P) (sym e) h

pub dropped_step : (ks : List Report) (xs : List ℕ) (i a : ℕ) → i < length xs → a ≡ get_or xs i a
    → drop_report a (filter (λ r. not (has (take i xs) r.actor)) ks) ≡ filter (λ r. not (has (take (i + 1) xs) r.actor)) ks
dropped_step ks xs i a lt e = ap (λ x. drop_report x (filter (λ (r : Report). not (has (take i xs) r.actor)) ks)) e ∙ dropped_more ks xs i a lt
