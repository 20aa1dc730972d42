-- Where no event is enabled, each present actor is reached.
use Rattle.std.proofs.Common.{◌≡◌, ℕ, zero, suc, ◌+◌, ◌≤◌, ◌<◌, ◌≢◌, ◌==◌, not, Bool, true, false, cond, if◌then◌else◌, ⊎_elim, List, [], ◌∷◌, length, filter, Some, None, sum_by, arith, refl, ap, sym, subst, ◌∙◌, eqb-true, Contains}
use Rattle.std.proofs.lemmas.Bool.{cases_eq, cases_Bool, cases_lt, false≢true, or_parts, eqb-false}
use Rattle.std.proofs.lemmas.Bool.Decides.{nat_tests}
use Rattle.std.proofs.lemmas.List.Sums.{sum_by-cons}
use Rattle.std.specs.List.{AllByRecursion}
use Rattle.letter_kinds.proofs.Acked.{each_acked}
use Rattle.letter_kinds.proofs.Filters.{filter_full, all_filter, filter_twice, filter_true}
use Rattle.letter_kinds.proofs.Rounds.{largest_by_rounds}
use Rattle.letter_kinds.specs.Closed.{IsClosed, largest_closed}
use Rattle.letter_kinds.specs.Detector.{Token, has, in_token, candidates}
use Rattle.letter_kinds.specs.Reports.{count_on, told_on, told_on_by, kept_report}
use Rattle.letter_kinds.specs.declared.note.Report.{Report}
use Rattle.machine_rules.specs.Cell.{Cell}
use Rattle.detector_laws.proofs.Cells.{IsTrue, holder_present, reporter_present, true_holds}
use Rattle.detector_laws.proofs.Maps.{at_same, at_other}
use Rattle.reach_walk.proofs.Elements.{Contains-head}
use Rattle.detector_laws.proofs.Members.{Contains-filter, Contains-from_filter, each_contained, contained_each}
use Rattle.detector_laws.proofs.Names.{names, named, has_name}
use Rattle.detector_laws.proofs.Order.{filter_rising, kept_report-contained, rising_parts}
use Rattle.detector_laws.proofs.Sums.{sum_below_same, sum_below_at, above_same}
use Rattle.detector_laws.specs.Balance.{sum_below, ActorsAreBalanced}
use Rattle.detector_laws.specs.Cells.{held_on, is_reporting}
use Rattle.detector_laws.specs.Confirms.{OnlyConfirms, other_before_confirm}
use Rattle.detector_laws.specs.News.{NoNewsNoClosedSet}
use Rattle.detector_laws.specs.Quiet.{IsQuiet, IsReached, root, edge}
use Rattle.detector_laws.specs.Reports.{told_by_kept, told_of, IsAsTold, IsRising}
use Rattle.detector_laws.specs.Tokens.{trace_count, IsSealed, unblocks_before_ack, IsSpoiled}
use Rattle.detector_laws.specs.World.{World, at, ReportsAreExact, TokensAreSound}

abbrev IsPresent : World → ℕ → Type 0
IsPresent w a = (c : Cell) × (w.cell a ≡ Some c)

-- no token is open

sealed_acked : (w : World) → IsQuiet w → (t : Token) → IsSealed w.cell w.mail w.loaded w.notes t → (m : ℕ) → has t.members m ≡ true → has t.acked m ≡ true
sealed_acked w q t s m i =
    let seal = s m i in
    let one : trace_count t m [] [] ≡ 1 = subst (λ l. trace_count t m l [] ≡ 1) (q.rest m seal.blocked.cell seal.blocked.here).empty (subst (λ ns. trace_count t m (w.mail m) ns ≡ 1) q.heard seal.one) in
    last_place (has t.acked m) one
  where
    last_place : (b : Bool) → (0 + 0) + (if b then 1 else 0) ≡ 1 → b ≡ true
    last_place true e = refl
    last_place false e = absurd (omega arith)

none_spoiled : (w : World) → IsQuiet w → (t : Token) → ¬ IsSpoiled w.cell w.mail w.notes t
none_spoiled w q t (m, i, p) = ⊎_elim
    (λ l. false≢true (subst (λ ns. unblocks_before_ack t.number m ns ≡ true) q.heard l))
    (λ l. false≢true (subst (λ ls. other_before_confirm t.number ls ≡ true) (let c = reporter_present (w.cell m) l.0 in (q.rest m c.0 c.1).empty) l.1))
    p.cause

pub no_token : (w : World) → IsQuiet w → TokensAreSound w → (t : Token) → ¬ Contains w.detector.tokens t
no_token w q k t i = ⊎_elim (λ s. q.unacked t i (each_acked t (sealed_acked w q t s))) (λ s. none_spoiled w q t s) (k.state t i)

none_in_token : (ts : List Token) → ((t : Token) → ¬ Contains ts t) → (m : ℕ) → in_token ts m ≡ false
none_in_token [] h m = refl
none_in_token (t ∷ ts) h m = absurd (h t (Contains-head t ts))

-- each report that is kept is exact

kept_exact : (w : World) → IsQuiet w → ReportsAreExact w → IsRising w.detector.kept → (r : Report) → Contains w.detector.kept r → IsTrue w.cell r
kept_exact w q h rising r i =
    subst (λ o. IsAsTold (w.cell r.actor) r.actor (told_by_kept o)) (kept_report-contained w.detector.kept r rising i)
    (subst (λ ns. IsAsTold (w.cell r.actor) r.actor (told_of r.actor w.detector.kept ns)) q.heard (h.last r.actor))

no_report : (rs : List Report) (a : ℕ) → has (names rs) a ≡ false → kept_report rs a ≡ None
no_report [] a h = refl
no_report (r ∷ rs) a h = let two = or_parts (r.actor == a) (has (names rs) a) h in grind (arith, two.0, no_report rs a two.1)

-- an unpinned actor's report is kept
unkept_pinned : (w : World) → IsQuiet w → ReportsAreExact w → (a : ℕ) (c : Cell) → w.cell a ≡ Some c → has (names w.detector.kept) a ≡ false → c.fields.pinned ≡ true
unkept_pinned w q h a c here out = ⊎_elim
    (λ t. t)
    (λ f. let off : is_reporting (w.cell a) ≡ false = subst (λ o. IsAsTold (w.cell a) a (told_by_kept o)) (no_report w.detector.kept a out)
    (subst (λ ns. IsAsTold (w.cell a) a (told_of a w.detector.kept ns)) q.heard (h.last a)) in
    absurd (false≢true (sym off ∙ (ap is_reporting here ∙ q.told a c here f))))
    (cases_Bool c.fields.pinned)

-- those that no other holds, in rounds

-- what actors outside these reports hold on x
abbrev outside : World → List Report → ℕ → ℕ
outside w rs x = sum_below w.made (λ b. if has (names rs) b then 0 else held_on (w.cell b) x)

abbrev unheld : World → List Report → Report → Bool
unheld w rs r = outside w rs r.actor == 0

abbrev settle : World → ℕ → List Report → List Report
settle w zero rs = rs
settle w (suc n) rs = settle w n (filter (unheld w rs) rs)

settle_fixed : (w : World) (n : ℕ) (rs : List Report) → filter (unheld w rs) rs ≡ rs → settle w n rs ≡ rs
settle_fixed w zero rs h = refl
settle_fixed w (suc n) rs h = rw h (settle_fixed w n rs h)

settle_end : (w : World) (n : ℕ) (rs : List Report) → length rs ≤ n → filter (unheld w (settle w n rs)) (settle w n rs) ≡ settle w n rs
settle_end w zero [] h = refl
settle_end w zero (r ∷ rs) h = absurd (omega arith)
settle_end w (suc n) rs h = ⊎_elim
    (λ short. settle_end w n (filter (unheld w rs) rs) (omega arith))
    (λ long. let full : filter (unheld w rs) rs ≡ rs = filter_full (unheld w rs) rs (omega arith) in
    subst (λ ys. filter (unheld w ys) ys ≡ ys) (sym (settle_fixed w (suc n) rs full)) full)
    (cases_lt (length (filter (unheld w rs) rs)) (length rs))

settle_among : (w : World) (n : ℕ) (rs : List Report) → (kept : Report → Bool) × (settle w n rs ≡ filter kept rs)
settle_among w zero rs = (λ r. true, filter_true rs)
settle_among w (suc n) rs =
    let (kept, e) = settle_among w n (filter (unheld w rs) rs) in
    (λ r. cond (unheld w rs r) (kept r) false, e ∙ filter_twice kept (unheld w rs) rs)

-- who is removed is reached

some_below : (n : ℕ) (f : ℕ → ℕ) → sum_below n f ≢ 0 → (b : ℕ) × (b < n) × (f b ≢ 0)
some_below zero f h = absurd (h refl)
some_below (suc n) f h = ⊎_elim
    (λ (z : f n ≡ 0). let (b, lt, ne) = some_below n f (λ e. h (omega arith)) in (b, omega (arith, lt), ne))
    (λ (s : f n ≢ 0). (n, omega arith, s))
    (cases_eq (f n) 0)

held_from_outside : (w : World) (rs : List Report) (x : ℕ) → outside w rs x ≢ 0 → (b : ℕ) × (has (names rs) b ≡ false) × (held_on (w.cell b) x ≢ 0)
held_from_outside w rs x h =
    let (b, lt, ne) = some_below w.made (λ c. if has (names rs) c then 0 else held_on (w.cell c) x) h in
    let two = parts (has (names rs) b) (held_on (w.cell b) x) ne in (b, two.0, two.1)
  where
    parts : (t : Bool) (k : ℕ) → (if t then 0 else k) ≢ 0 → (t ≡ false) × (k ≢ 0)
    parts true k ne = absurd (ne refl)
    parts false k ne = (refl, ne)

removed : (p : Report → Bool) (rs : List Report) (a : ℕ) → has (names rs) a ≡ true → has (names (filter p rs)) a ≡ false → (r : Report) × Contains rs r × (r.actor ≡ a) × (p r ≡ false)
removed p rs a i out =
    let (r, j, e) = named rs a i in
    (r, j, e, ⊎_elim (λ (t : p r ≡ true). absurd (false≢true (sym out ∙ (ap (has (names (filter p rs))) (sym e) ∙ has_name (filter p rs) r (Contains-filter p r rs j t))))) (λ f. f) (cases_Bool (p r)))

reached_step : (w : World) (rs : List Report) → ((a : ℕ) → IsPresent w a → has (names rs) a ≡ false → IsReached w a)
    → (a : ℕ) → IsPresent w a → has (names (filter (unheld w rs) rs)) a ≡ false → IsReached w a
reached_step w rs before a here out = ⊎_elim
    (λ (i : has (names rs) a ≡ true).
    let (r, j, e, f) = removed (unheld w rs) rs a i out in
    let (b, o, ne) = held_from_outside w rs r.actor (eqb-false (outside w rs r.actor) 0 f) in
    edge (before b (holder_present (w.cell b) r.actor ne) o) (subst (λ x. held_on (w.cell b) x ≢ 0) e ne))
    (λ o. before a here o)
    (cases_Bool (has (names rs) a))

reached_outside : (w : World) (n : ℕ) (rs : List Report) → ((a : ℕ) → IsPresent w a → has (names rs) a ≡ false → IsReached w a)
    → (a : ℕ) → IsPresent w a → has (names (settle w n rs)) a ≡ false → IsReached w a
reached_outside w zero rs before a here out = before a here out
reached_outside w (suc n) rs before a here out = reached_outside w n (filter (unheld w rs) rs) (reached_step w rs before) a here out

-- those that stay are closed

zero_below : (n : ℕ) (f : ℕ → ℕ) → sum_below n f ≡ 0 → (b : ℕ) → b < n → f b ≡ 0
zero_below zero f h b lt = absurd (omega arith)
zero_below (suc n) f h b lt = ⊎_elim
    (λ (e : b ≡ n). subst (λ x. f x ≡ 0) (sym e) (let z : f n ≡ 0 = omega arith in z))
    (λ (ne : b ≢ n). zero_below n f (omega arith) b (omega arith))
    (cases_eq b n)

-- a sum over all is one over these, where it is 0 outside
zeros : (n : ℕ) → sum_below n (λ b. 0) ≡ 0
zeros zero = refl
zeros (suc n) = omega (arith, zeros n)

not_head : (r : Report) (rs : List Report) (b : ℕ) → b ≢ r.actor → has (names rs) b ≡ false → has (names (r ∷ rs)) b ≡ false
not_head r rs b ne h = grind (arith, nat_tests)

told_on-ge : (m : ℕ) (r : Report) (k : ℕ) → count_on r.held m ≡ k → (r.actor ≡ m → k ≡ 0) → k ≤ told_on m r
told_on-ge m r k h z = ⊎_elim (λ (e : r.actor ≡ m). grind (arith, nat_tests, z e)) (λ (ne : r.actor ≢ m). grind (arith, nat_tests)) (cases_eq r.actor m)

all_le_some : (n : ℕ) (f : ℕ → ℕ) (rs : List Report) → AllByRecursion (λ r. r.actor < n) rs → IsRising rs → ((b : ℕ) → b < n → has (names rs) b ≡ false → f b ≡ 0) → sum_below n f ≤ sum_by (λ r. f r.actor) rs
all_le_some n f [] k h z = omega (arith, sum_below_same n f (λ b. 0) (λ b lt. z b lt refl), zeros n)
all_le_some n f (r ∷ rs) k h z =
    let (above, rest) = rising_parts r rs h in
    omega (
      arith,
      sum_by-cons (λ q. f q.actor) r rs,
      above_same r.actor f rs above,
      sum_below_at n r.actor f k.0,
      all_le_some n (at f r.actor 0) rs k.1 rest (λ b lt out. ⊎_elim
          (λ (e : b ≡ r.actor). subst (λ x. at f r.actor 0 x ≡ 0) (sym e) (at_same f r.actor 0))
          (λ (ne : b ≢ r.actor). at_other f r.actor 0 b ne ∙ z b lt (not_head r rs b ne out))
          (cases_eq b r.actor)),
    )

told_on_by-ge : (w : World) → ActorsAreBalanced w → (m : ℕ) (rs : List Report) → AllByRecursion (IsTrue w.cell) rs → sum_by (λ r. held_on (w.cell r.actor) m) rs ≤ told_on_by m rs
told_on_by-ge w bal m [] h = omega arith
told_on_by-ge w bal m (r ∷ rs) h =
    omega (arith, sum_by-cons (told_on m) r rs, sum_by-cons (λ q. held_on (w.cell q.actor) m) r rs, told_on-ge m r (held_on (w.cell r.actor) m) (true_holds w.cell r h.0 m) (λ e. subst (λ x. held_on (w.cell r.actor) x ≡ 0) e (bal.own r.actor)), told_on_by-ge w bal m rs h.1)

stay_closed : (w : World) → IsQuiet w → ActorsAreBalanced w → (rs : List Report) → IsRising rs → ((r : Report) → Contains rs r → IsTrue w.cell r)
    → filter (unheld w rs) rs ≡ rs → IsClosed rs
stay_closed w q bal rs rising exact fixed =
    let stays = all_filter (unheld w rs) rs fixed in
    let few : AllByRecursion (λ r. r.actor < w.made) rs = contained_each (λ r. r.actor < w.made) rs (λ r i. let member = (exact r i).0 in bal.made r.actor member.cell member.here) in
    let exacts : AllByRecursion (IsTrue w.cell) rs = contained_each (IsTrue w.cell) rs exact in
    contained_each (λ r. r.count ≤ told_on_by r.actor rs) rs (λ r i.
    let f = λ (b : ℕ). held_on (w.cell b) r.actor in
    let none : outside w rs r.actor ≡ 0 = eqb-true (outside w rs r.actor) 0 (each_contained (λ x. unheld w rs x ≡ true) rs stays r i) in
    let member = (exact r i).0 in
    let full : member.cell.holdings.count ≡ sum_below w.made f + w.loaded r.actor = bal.full r.actor member.cell member.here (subst OnlyConfirms (sym (q.rest r.actor member.cell member.here).empty) tt) in
    let count : r.count ≡ member.cell.holdings.count = (exact r i).1.count in
    let unloaded : w.loaded r.actor ≡ 0 = q.unloaded r.actor in
    let inside : sum_below w.made f ≤ sum_by (λ x. f x.actor) rs = all_le_some w.made f rs few rising
    (λ b lt out. ap (λ t. if t then 0 else f b) (sym out) ∙ zero_below w.made (λ c. if has (names rs) c then 0 else f c) none b lt) in
    let enough : sum_by (λ x. f x.actor) rs ≤ told_on_by r.actor rs = told_on_by-ge w bal r.actor rs exacts in
    omega arith)

all_free : (p : Report → Bool) (rs : List Report) → ((r : Report) → p r ≡ true) → filter p rs ≡ rs
all_free p [] h = refl
all_free p (r ∷ rs) h = grind (arith, h r, all_free p rs h)

pub quiet_all_reached : (w : World) → IsQuiet w → ReportsAreExact w → TokensAreSound w → NoNewsNoClosedSet w.detector → ActorsAreBalanced w → IsRising w.detector.kept → (a : ℕ) (c : Cell) → w.cell a ≡ Some c → IsReached w a
quiet_all_reached w q h k news bal rising a c here =
    let kept = w.detector.kept in
    let left = settle w (length kept) kept in
    let (test, e) = settle_among w (length kept) kept in
    let cs : candidates w.detector ≡ kept = all_free (λ r. not (in_token w.detector.tokens r.actor)) kept (λ r. ap not (none_in_token w.detector.tokens (no_token w q k) r.actor)) in
    let none : largest_closed kept ≡ [] = subst (λ rs. largest_closed rs ≡ []) cs (news q.scanned) in
    let closed : IsClosed left = stay_closed w q bal left (subst IsRising (sym e) (filter_rising test kept rising))
    (λ r i. kept_exact w q h rising r (Contains-from_filter test r kept (subst (λ ys. Contains ys r) e i)).0)
    (settle_end w (length kept) kept (omega arith)) in
    let gone : left ≡ [] = e ∙ (sym ((largest_by_rounds kept).all test (subst IsClosed e closed)) ∙ ap (filter test) none) in
    reached_outside w (length kept) kept (λ b there out. root there.1 (unkept_pinned w q h b there.0 there.1 out)) a (c, here)
    (subst (λ rs. has (names rs) a ≡ false) (sym gone) refl)
