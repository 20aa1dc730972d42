-- Where there is no news, nothing is closed among the candidates; and the reports are kept in order.
use Rattle.std.proofs.Common.{◌≡◌, ℕ, suc, ◌≢◌, ◌==◌, not, Bool, true, false, cond, ◌||◌, ⊎_elim, List, [], ◌∷◌, ◌++◌, filter, map, arith, refl, ap, sym, subst, ◌∙◌, eq-eqb, Contains}
use Rattle.std.proofs.lemmas.Bool.{cases_eq, cases_Bool, false≢true}
use Rattle.std.proofs.lemmas.Bool.Decides.{nat_tests}
use Rattle.letter_kinds.proofs.Filters.{filter_twice}
use Rattle.letter_kinds.proofs.Rounds.{largest_by_rounds}
use Rattle.letter_kinds.specs.Closed.{IsClosed, largest_closed}
use Rattle.letter_kinds.specs.Detector.{Token, Detector, has, note_ack, hear_note, in_token, candidates, closed_set, open_token, without_news, after_scan, close_token}
use Rattle.letter_kinds.specs.Reports.{report_told}
use Rattle.letter_kinds.specs.declared.note.Note.{Note}
use Rattle.letter_kinds.specs.declared.note.Note.TheVariants.{Block, Unblock, Ack}
use Rattle.letter_kinds.specs.declared.note.Report.{Report}
use Rattle.reach_walk.proofs.Elements.{Contains-head, Contains-later}
use Rattle.detector_laws.proofs.Names.{names, has_name}
use Rattle.detector_laws.proofs.Order.{filter_rising, keep_rising}
use Rattle.detector_laws.proofs.Scan.{in_token_from}
use Rattle.detector_laws.specs.News.{NoNewsNoClosedSet}
use Rattle.detector_laws.specs.Reports.{IsRising}

-- the same test keeps the same
same_filter : (p q : Report → Bool) (rs : List Report) → ((r : Report) → p r ≡ q r) → filter p rs ≡ filter q rs
same_filter p q [] h = refl
same_filter p q (r ∷ rs) h = grind (arith, h r, same_filter p q rs h)

-- hearing

in_token_ack : (u a : ℕ) (ts : List Token) (m : ℕ) → in_token (map (note_ack u a) ts) m ≡ in_token ts m
in_token_ack u a [] m = refl
in_token_ack u a (t ∷ ts) m = ap (λ b. has t.members m || b) (in_token_ack u a ts m)

pub hear_news : (n : Note) (d : Detector) → NoNewsNoClosedSet d → NoNewsNoClosedSet (hear_note n d)
hear_news (Block b count held) d h = λ e. absurd (false≢true (sym e))
hear_news (Unblock a) d h = λ e. absurd (false≢true (sym e))
hear_news (Ack u a) d h = λ e. subst (λ rs. largest_closed rs ≡ [])
    (same_filter (λ r. not (in_token d.tokens r.actor)) (λ r. not (in_token (map (note_ack u a) d.tokens) r.actor)) d.kept (λ r. ap not (sym (in_token_ack u a d.tokens r.actor)))) (h e)

-- a scan

in_token-append : (ts : List Token) (u : Token) (m : ℕ) → in_token (ts ++ u ∷ []) m ≡ (has u.members m || in_token ts m)
in_token-append [] u m = refl
in_token-append (t ∷ ts) u m = grind (arith, in_token-append ts u m)

none_pass : (p : Report → Bool) (rs : List Report) → ((r : Report) → Contains rs r → p r ≡ false) → filter p rs ≡ []
none_pass p [] h = refl
none_pass p (r ∷ rs) h = grind (arith, h r (Contains-head r rs), none_pass p rs (λ q i. h q (Contains-later r rs q i)))

-- once the largest closed set is set apart, nothing is closed among the rest
none_left : (cs : List Report) (q : Report → Bool) → ((r : Report) → Contains (largest_closed cs) r → q r ≡ false) → largest_closed (filter q cs) ≡ []
none_left cs q h =
    let big = largest_by_rounds cs in
    let rest = largest_by_rounds (filter q cs) in
    let (kept, e) = rest.among in
    let both = λ (r : Report). cond (q r) (kept r) false in
    let is : largest_closed (filter q cs) ≡ filter both cs = e ∙ filter_twice kept q cs in
    is ∙ (sym (big.all both (subst IsClosed is rest.closed)) ∙ none_pass both (largest_closed cs) (λ r i. ap (λ b. cond b (kept r) false) (h r i)))

opened_news : (d : Detector) → largest_closed (candidates (open_token (closed_set d) (without_news d))) ≡ []
opened_news d =
    let free = λ (r : Report). not (in_token d.tokens r.actor) in
    let new : Token = record { number = suc d.opened; members = closed_set d; acked = [] } in
    let rest = λ (r : Report). not (has (closed_set d) r.actor) in
    let is : candidates (open_token (closed_set d) (without_news d)) ≡ filter rest (candidates d) =
    same_filter (λ r. not (in_token (d.tokens ++ new ∷ []) r.actor)) (λ r. cond (free r) (rest r) false) d.kept (λ r. tests (in_token (d.tokens ++ new ∷ []) r.actor) (has (closed_set d) r.actor) (in_token d.tokens r.actor) (in_token-append d.tokens new r.actor)) ∙ sym (filter_twice rest free d.kept) in
    subst (λ rs. largest_closed rs ≡ []) (sym is) (none_left (candidates d) rest (λ r i. ap not (has_name (largest_closed (candidates d)) r i)))
  where
    tests : (a b c : Bool) → a ≡ (b || c) → not a ≡ cond (not c) (not b) false
    tests a true true e = ap not e
    tests a true false e = ap not e
    tests a false true e = ap not e
    tests a false false e = ap not e

empty_names : (rs : List Report) → names rs ≡ [] → rs ≡ []
empty_names [] e = refl
empty_names (r ∷ rs) e = absurd (cc)

scanned_news : (d : Detector) (set : List ℕ) → closed_set d ≡ set → NoNewsNoClosedSet (after_scan d set)
scanned_news d [] e = λ _. empty_names (largest_closed (candidates d)) e
scanned_news d (x ∷ xs) e = λ _. subst (λ s. largest_closed (candidates (open_token s (without_news d))) ≡ []) e (opened_news d)

pub scan_news : (d : Detector) → NoNewsNoClosedSet (after_scan d (closed_set d))
scan_news d = scanned_news d (closed_set d) refl

-- a reap

in_token_closed : (ts : List Token) (n : ℕ) (m : ℕ) → ((u : Token) → Contains ts u → u.number ≡ n → has u.members m ≡ false) → in_token (filter (λ u. not (u.number == n)) ts) m ≡ in_token ts m
in_token_closed [] n m h = refl
in_token_closed (t ∷ ts) n m h = ⊎_elim
    (λ (e : t.number ≡ n). let f : has t.members m ≡ false = h t (Contains-head t ts) e in let same : (t.number == n) ≡ true = eq-eqb t.number n e in grind (arith, in_token_closed ts n m (λ u i. h u (Contains-later t ts u i))))
    (λ (ne : t.number ≢ n). grind (arith, nat_tests, in_token_closed ts n m (λ u i. h u (Contains-later t ts u i))))
    (cases_eq t.number n)

pub reap_news : (d : Detector) (t : Token) → Contains d.tokens t → ((u : Token) → Contains d.tokens u → u.number ≡ t.number → u ≡ t) → NoNewsNoClosedSet d → NoNewsNoClosedSet (close_token t d)
reap_news d t i unique h e =
    let remaining = (close_token t d).tokens in
    subst (λ rs. largest_closed rs ≡ [])
    (same_filter (λ r. not (in_token d.tokens r.actor)) (λ r. cond (not (has t.members r.actor)) (not (in_token remaining r.actor)) false) d.kept
    (λ r. ⊎_elim
    (λ (y : has t.members r.actor ≡ true). ap not (in_token_from d.tokens t r.actor i y) ∙ sym (ap (λ b. cond (not b) (not (in_token remaining r.actor)) false) y))
    (λ (f : has t.members r.actor ≡ false). ap not (sym (in_token_closed d.tokens t.number r.actor (λ u j s. ap (λ (v : Token). has v.members r.actor) (unique u j s) ∙ f))) ∙ sym (ap (λ b. cond (not b) (not (in_token remaining r.actor)) false) f))
    (cases_Bool (has t.members r.actor)))
    ∙ sym (filter_twice (λ r. not (in_token remaining r.actor)) (λ r. not (has t.members r.actor)) d.kept))
    (h e)

-- the order of reports

pub heard_rising : (n : Note) (d : Detector) → IsRising d.kept → IsRising (hear_note n d).kept
heard_rising (Block b count held) d h = keep_rising (report_told b count held) d.kept h
heard_rising (Unblock a) d h = filter_rising (λ k. not (k.actor == a)) d.kept h
heard_rising (Ack u a) d h = h

pub closed_rising : (t : Token) (d : Detector) → IsRising d.kept → IsRising (close_token t d).kept
closed_rising t d h = filter_rising (λ r. not (has t.members r.actor)) d.kept h
