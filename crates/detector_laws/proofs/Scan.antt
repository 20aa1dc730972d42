-- A scan opens a token that is sealed or spoiled.
use Rattle.std.proofs.Common.{◌≡◌, ℕ, suc, ◌+◌, ◌≤◌, ◌<◌, ◌≢◌, not, ◌&&◌, is_some, None, true, false, ◌⊎◌, inl, inr, ⊎_elim, List, [], ◌∷◌, ◌++◌, Option, Some, sum_by, arith, refl, ap, sym, subst, ◌∙◌, Contains}
use Rattle.std.proofs.lemmas.Bool.{cases_Bool, cases_eq, cases_lt, cond_both, false≢true, not-true, or_left, or_right}
use Rattle.std.proofs.lemmas.Bool.Decides.{nat_tests}
use Rattle.std.proofs.lemmas.List.Sums.{sum_by-cons}
use Rattle.std.specs.List.{AllByRecursion}
use Rattle.letter_kinds.proofs.Rounds.{largest_by_rounds}
use Rattle.letter_kinds.specs.Closed.{IsClosed, largest_closed}
use Rattle.letter_kinds.specs.Detector.{Token, Detector, has, in_token, candidates, closed_set, open_token, without_news, after_scan}
use Rattle.letter_kinds.specs.Reports.{count_on, told_on, told_on_by, kept_report}
use Rattle.letter_kinds.specs.Letters.{Letter, Confirm}
use Rattle.letter_kinds.specs.declared.note.Note.{Note}
use Rattle.letter_kinds.specs.declared.note.Report.{Report}
use Rattle.machine_rules.specs.Cell.{Cell}
use Rattle.detector_laws.proofs.Cells.{IsTrue, blocked_reports, holder_present, true_holds}
use Rattle.detector_laws.proofs.Letters.{confirm_count-append}
use Rattle.reach_walk.proofs.Elements.{Contains-head, Contains-later}
use Rattle.detector_laws.proofs.Members.{Contains-from_filter, contained_each, each_contained, earlier_or_last, first_or_later, none_in_empty}
use Rattle.detector_laws.proofs.Names.{names, named, unnamed, has_name}
use Rattle.detector_laws.proofs.Order.{filter_rising, kept_report-contained}
use Rattle.detector_laws.proofs.Ready.{only-EndsInConfirm, IsReady, Spoils, ready_or_spoils}
use Rattle.detector_laws.proofs.Sums.{some_le_all, some_and_one}
use Rattle.detector_laws.specs.Balance.{sum_below, ActorsAreBalanced}
use Rattle.detector_laws.specs.Cells.{held_on, is_reporting}
use Rattle.detector_laws.specs.Confirms.{confirm_count, other_before_confirm}
use Rattle.detector_laws.specs.Reports.{with_notes, told_by_kept, IsAsTold, ExactReports, IsRising}
use Rattle.detector_laws.specs.Tokens.{ack_count, trace_count, IsSealedMember, IsSealed, IsSpoiledMember, IsSpoiled, SoundTokens}
use Rattle.detector_laws.specs.World.{World, confirms_of, scan_in_world, ReportsAreExact, TokensAreSound}

all_or_one : (A B : Report → Type 0) (rs : List Report) → AllByRecursion (λ r. A r ⊎ B r) rs → AllByRecursion A rs ⊎ ((r : Report) × Contains rs r × B r)
all_or_one A B [] h = inl tt
all_or_one A B (r ∷ rs) h = ⊎_elim
    (λ a. ⊎_elim (λ more. inl (a, more)) (λ b. inr (b.0, Contains-later r rs b.0 b.1, b.2)) (all_or_one A B rs h.1))
    (λ b. inr (r, Contains-head r rs, b))
    h.0

-- a report tells of m no more than its actor holds on m
told_on-le : (m : ℕ) (r : Report) (k : ℕ) → count_on r.held m ≡ k → told_on m r ≤ k
told_on-le m r k h = grind (arith, nat_tests)

told_on_by-le : (cell : ℕ → Option Cell) (m : ℕ) (rs : List Report) → AllByRecursion (IsTrue cell) rs → told_on_by m rs ≤ sum_by (λ r. held_on (cell r.actor) m) rs
told_on_by-le cell m [] h = omega arith
told_on_by-le cell m (r ∷ rs) h =
    omega (arith, sum_by-cons (told_on m) r rs, sum_by-cons (λ q. held_on (cell q.actor) m) r rs, told_on-le m r (held_on (cell r.actor) m) (true_holds cell r h.0 m), told_on_by-le cell m rs h.1)

-- by the balance, a closed set whose reports are exact holds all counts on itself, and no letter under way loads a member
holds_all : (w : World) → ActorsAreBalanced w → (rs : List Report) → IsClosed rs → IsRising rs → AllByRecursion (IsReady w.cell w.mail w.notes) rs
    → (r : Report) → Contains rs r → ((b : ℕ) → has (names rs) b ≡ false → held_on (w.cell b) r.actor ≡ 0) × (w.loaded r.actor ≡ 0)
holds_all w bal rs closed rising ready r i =
    let f = λ (b : ℕ). held_on (w.cell b) r.actor in
    let mine = each_contained (IsReady w.cell w.mail w.notes) rs ready r i in
    let few : AllByRecursion (λ q. q.actor < w.made) rs = contained_each (λ q. q.actor < w.made) rs (λ q j. let member = (each_contained (IsReady w.cell w.mail w.notes) rs ready q j).told.0 in bal.made q.actor member.cell member.here) in
    let exact : AllByRecursion (IsTrue w.cell) rs = contained_each (IsTrue w.cell) rs (λ q j. (each_contained (IsReady w.cell w.mail w.notes) rs ready q j).told) in
    let covered : r.count ≤ told_on_by r.actor rs = each_contained (λ q. q.count ≤ told_on_by q.actor rs) rs closed r i in
    let sum : told_on_by r.actor rs ≤ sum_by (λ q. f q.actor) rs = told_on_by-le w.cell r.actor rs exact in
    let full : mine.told.0.cell.holdings.count ≡ sum_below w.made f + w.loaded r.actor = bal.full r.actor mine.told.0.cell mine.told.0.here mine.only in
    let count : r.count ≡ mine.told.0.cell.holdings.count = mine.told.1.count in (
      λ b out. ⊎_elim
          (λ (lt : b < w.made). let one : sum_by (λ q. f q.actor) rs + f b ≤ sum_below w.made f = some_and_one w.made f b rs lt rising few (unnamed rs b out) in
          let none : f b ≡ 0 = omega arith in none)
          (λ (ge : w.made ≤ b). ⊎_elim
          (λ (none : f b ≡ 0). none)
          (λ (some : f b ≢ 0). let c = holder_present (w.cell b) r.actor some in absurd (let lt : b < w.made = bal.made b c.0 c.1 in omega arith))
          (cases_eq (f b) 0))
          (cases_lt b w.made),
      let all : sum_by (λ q. f q.actor) rs ≤ sum_below w.made f = some_le_all w.made f rs rising few in
          omega arith,
    )

-- what is opened

confirmed_in : (set : List ℕ) (n : ℕ) (cell : ℕ → Option Cell) (mail : ℕ → List Letter) (m : ℕ) → has set m ≡ true → is_some (cell m) ≡ true → confirms_of set n cell mail m ≡ mail m ++ Confirm n ∷ []
confirmed_in set n cell mail m h here = rw (h, here) refl

pub confirmed_out : (set : List ℕ) (n : ℕ) (cell : ℕ → Option Cell) (mail : ℕ → List Letter) (m : ℕ) → has set m ≡ false → confirms_of set n cell mail m ≡ mail m
confirmed_out set n cell mail m h = rw h refl

-- who has a report out is present
here_if : (c : Option Cell) → is_reporting c ≡ true → is_some c ≡ true
here_if None h = cc
here_if (Some c) h = refl

pub in_token_from : (ts : List Token) (t : Token) (m : ℕ) → Contains ts t → has t.members m ≡ true → in_token ts m ≡ true
in_token_from [] t m i h = absurd (none_in_empty t i)
in_token_from (u ∷ ts) t m i h = ⊎_elim
    (λ e. or_left (has u.members m) (in_token ts m) (subst (λ v. has v.members m ≡ true) e h))
    (λ j. or_right (has u.members m) (in_token ts m) (in_token_from ts t m j h))
    (first_or_later u ts t i)

pub other_confirm : (c n : ℕ) → c ≢ n → confirm_count c (Confirm n ∷ []) ≡ 0
other_confirm c n ne = grind (arith, nat_tests)

one_confirm : (n : ℕ) → confirm_count n (Confirm n ∷ []) ≡ 1
one_confirm n = grind (arith, nat_tests)

fresh_trace : (n m : ℕ) (ls : List Letter) (ns : List Note) → confirm_count n ls ≡ 0 → ack_count n m ns ≡ 0 → (confirm_count n (ls ++ Confirm n ∷ []) + ack_count n m ns) + 0 ≡ 1
fresh_trace n m ls ns h k = omega (arith, confirm_count-append n ls (Confirm n ∷ []), one_confirm n)

-- a set of reports that may be opened
pub record IsChosen (w : World) (rs : List Report) : Type 0 where
  pub closed : IsClosed rs
  pub rising : IsRising rs
  pub free : AllByRecursion (λ r. in_token w.detector.tokens r.actor ≡ false) rs
  pub kept : AllByRecursion (λ r. kept_report w.detector.kept r.actor ≡ Some r) rs

abbrev fresh_token : World → List Report → Token
fresh_token w rs = record { number = suc w.detector.opened; members = names rs; acked = [] }

free_member : (w : World) (rs : List Report) → IsChosen w rs → (t : Token) → Contains w.detector.tokens t → (m : ℕ) → has t.members m ≡ true → has (names rs) m ≡ false
free_member w rs ch t i m h = ⊎_elim
    (λ (y : has (names rs) m ≡ true). let (r, j, e) = named rs m y in
    absurd (false≢true (sym (each_contained (λ q. in_token w.detector.tokens q.actor ≡ false) rs ch.free r j) ∙ (ap (in_token w.detector.tokens) e ∙ in_token_from w.detector.tokens t m i h))))
    (λ f. f)
    (cases_Bool (has (names rs) m))

fresh_state : (w : World) → ActorsAreBalanced w → ReportsAreExact w → TokensAreSound w → (rs : List Report) → IsChosen w rs
    → IsSealed w.cell (confirms_of (names rs) (suc w.detector.opened) w.cell w.mail) w.loaded w.notes (fresh_token w rs) ⊎ IsSpoiled w.cell (confirms_of (names rs) (suc w.detector.opened) w.cell w.mail) w.notes (fresh_token w rs)
fresh_state w bal h k rs ch =
    let n = suc w.detector.opened in
    let each : AllByRecursion (λ r. IsReady w.cell w.mail w.notes r ⊎ Spoils w.cell w.mail w.notes n r) rs =
    contained_each (λ r. IsReady w.cell w.mail w.notes r ⊎ Spoils w.cell w.mail w.notes n r) rs
    (λ r i. ready_or_spoils w.cell w.mail w.notes n r
    (subst (λ o. IsAsTold (w.cell r.actor) r.actor (with_notes r.actor (told_by_kept o) w.notes)) (each_contained (λ q. kept_report w.detector.kept q.actor ≡ Some q) rs ch.kept r i) (h.last r.actor))
    (k.heard r.actor n (omega arith)) (k.letters r.actor n (omega arith))) in
    ⊎_elim
    (λ (ready : AllByRecursion (IsReady w.cell w.mail w.notes) rs). inl (λ m i. let (r, j, e) = named rs m i in
    let mine = each_contained (IsReady w.cell w.mail w.notes) rs ready r j in
    let all = holds_all w bal rs ch.closed ch.rising ready r j in
    subst (λ x. IsSealedMember (fresh_token w rs) x w.cell (confirms_of (names rs) n w.cell w.mail x) (w.loaded x) w.notes) e
    (subst (λ l. IsSealedMember (fresh_token w rs) r.actor w.cell l (w.loaded r.actor) w.notes) (sym (confirmed_in (names rs) n w.cell w.mail r.actor (subst (λ x. has (names rs) x ≡ true) (sym e) i) (here_if (w.cell r.actor) (blocked_reports mine.told.0))))
    record {
      blocked = mine.told.0;
      letters = only-EndsInConfirm n (w.mail r.actor) mine.only;
      silent = mine.silent;
      held = all.0;
      unloaded = all.1;
      one = fresh_trace n r.actor (w.mail r.actor) w.notes (k.letters r.actor n (omega arith)) (k.heard r.actor n (omega arith));
    })))
    (λ bad. let (r, j, sp) = bad in
    let i : has (names rs) r.actor ≡ true = has_name rs r j in
    inr (
      r.actor,
      i,
      record {
        unnoted = refl;
        cause = ⊎_elim inl
            (λ waits. inr (waits.0, subst (λ l. other_before_confirm n l ≡ true) (sym (confirmed_in (names rs) n w.cell w.mail r.actor i (here_if (w.cell r.actor) waits.0))) waits.1))
            sp;
      },
    ))
    (all_or_one (IsReady w.cell w.mail w.notes) (Spoils w.cell w.mail w.notes n) rs each)

opened_tokens : (w : World) → ActorsAreBalanced w → ReportsAreExact w → TokensAreSound w → (rs : List Report) → IsChosen w rs
    → SoundTokens (open_token (names rs) (without_news w.detector)) w.cell (confirms_of (names rs) (suc w.detector.opened) w.cell w.mail) w.loaded w.notes
opened_tokens w bal h k rs ch =
    let n = suc w.detector.opened in
    let mail' = confirms_of (names rs) n w.cell w.mail in
    let old = w.detector.tokens in
    let new = fresh_token w rs in
    let free = free_member w rs ch in
    let split = earlier_or_last old new in
    record {
      apart = λ t u i j m a b. ⊎_elim
          (λ i'. ⊎_elim
          (λ j'. k.apart t u i' j' m a b)
          (λ e. absurd (false≢true (sym (free t i' m a) ∙ subst (λ x. has x.members m ≡ true) e b)))
          (split u j))
          (λ e. ⊎_elim
          (λ j'. absurd (false≢true (sym (free u j' m b) ∙ subst (λ x. has x.members m ≡ true) e a)))
          (λ f. ap (λ (x : Token). x.number) (e ∙ sym f))
          (split u j))
          (split t i);
      kept = λ t i m a. ⊎_elim
          (λ i'. k.kept t i' m a)
          (λ e. let (r, j, f) = named rs m (subst (λ x. has x.members m ≡ true) e a) in
          (r, ap (kept_report w.detector.kept) (sym f) ∙ each_contained (λ q. kept_report w.detector.kept q.actor ≡ Some q) rs ch.kept r j))
          (split t i);
      unique = λ t u i j same. ⊎_elim
          (λ i'. ⊎_elim
          (λ j'. k.unique t u i' j' same)
          (λ e. absurd (let le : t.number ≤ w.detector.opened = k.numbers t i' in let is : u.number ≡ n = ap (λ (x : Token). x.number) e in omega arith))
          (split u j))
          (λ e. ⊎_elim
          (λ j'. absurd (let le : u.number ≤ w.detector.opened = k.numbers u j' in let is : t.number ≡ n = ap (λ (x : Token). x.number) e in omega arith))
          (λ f. e ∙ sym f)
          (split u j))
          (split t i);
      numbers = λ t i. ⊎_elim
          (λ i'. let le : t.number ≤ w.detector.opened = k.numbers t i' in omega arith)
          (λ e. let is : t.number ≡ n = ap (λ (x : Token). x.number) e in omega arith)
          (split t i);
      letters = λ a c lt. cond_both (has (names rs) a && is_some (w.cell a)) (w.mail a ++ Confirm n ∷ []) (w.mail a) (λ l. confirm_count c l ≡ 0)
          (λ _. omega (arith, confirm_count-append c (w.mail a) (Confirm n ∷ []), k.letters a c (omega arith), other_confirm c n (λ e. omega arith)))
          (λ _. k.letters a c (omega arith));
      heard = λ a c lt. k.heard a c (omega arith);
      once = λ t i m a. ⊎_elim
          (λ i'. subst (λ l. trace_count t m l w.notes ≤ 1) (sym (confirmed_out (names rs) n w.cell w.mail m (free t i' m a))) (k.once t i' m a))
          (λ e. subst (λ x. trace_count x m (mail' m) w.notes ≤ 1) (sym e)
          (cond_both (has (names rs) m && is_some (w.cell m)) (w.mail m ++ Confirm n ∷ []) (w.mail m) (λ l. trace_count new m l w.notes ≤ 1)
          (λ _. omega (arith, fresh_trace n m (w.mail m) w.notes (k.letters m n (omega arith)) (k.heard m n (omega arith))))
          (λ _. omega (arith, k.letters m n (omega arith), k.heard m n (omega arith)))))
          (split t i);
      state = λ t i. ⊎_elim
          (λ i'. ⊎_elim
          (λ s. inl (λ m a. let seal = s m a in
          subst (λ l. IsSealedMember t m w.cell l (w.loaded m) w.notes) (sym (confirmed_out (names rs) n w.cell w.mail m (free t i' m a))) seal))
          (λ s. let (m, a, p) = s in
          inr (m, a, subst (λ l. IsSpoiledMember t m (is_reporting (w.cell m)) l w.notes) (sym (confirmed_out (names rs) n w.cell w.mail m (free t i' m a))) p))
          (k.state t i'))
          (λ e. subst (λ x. IsSealed w.cell mail' w.loaded w.notes x ⊎ IsSpoiled w.cell mail' w.notes x) (sym e) (fresh_state w bal h k rs ch))
          (split t i);
    }

-- the largest closed set may be opened

pub largest_chosen : (w : World) → IsRising w.detector.kept → IsChosen w (largest_closed (candidates w.detector))
largest_chosen w rising =
    let d = w.detector in
    let free = λ (r : Report). not (in_token d.tokens r.actor) in
    let cs = candidates d in
    let big = largest_by_rounds cs in
    let (kept, e) = big.among in
    let from : (r : Report) → Contains (largest_closed cs) r → Contains d.kept r × (in_token d.tokens r.actor ≡ false) = λ r i.
    let two = Contains-from_filter free r d.kept (Contains-from_filter kept r cs (subst (λ ys. Contains ys r) e i)).0 in (two.0, not-true (in_token d.tokens r.actor) two.1) in
    record {
      closed = big.closed;
      rising = subst IsRising (sym e) (filter_rising kept cs (filter_rising free d.kept rising));
      free = contained_each (λ r. in_token d.tokens r.actor ≡ false) (largest_closed cs) (λ r i. (from r i).1);
      kept = contained_each (λ r. kept_report d.kept r.actor ≡ Some r) (largest_closed cs) (λ r i. kept_report-contained d.kept r rising (from r i).0);
    }

scanned_tokens : (w : World) (set : List ℕ) → TokensAreSound w → SoundTokens (open_token set (without_news w.detector)) w.cell (confirms_of set (suc w.detector.opened) w.cell w.mail) w.loaded w.notes
    → SoundTokens (after_scan w.detector set) w.cell (confirms_of set (suc w.detector.opened) w.cell w.mail) w.loaded w.notes
scanned_tokens w [] k new = record { apart = k.apart; kept = k.kept; unique = k.unique; numbers = k.numbers; letters = k.letters; heard = k.heard; once = k.once; state = k.state }
scanned_tokens w (x ∷ xs) k new = new

pub scan_tokens : (w : World) → ActorsAreBalanced w → IsRising w.detector.kept → ReportsAreExact w → TokensAreSound w → TokensAreSound (scan_in_world w)
scan_tokens w bal rising h k =
    scanned_tokens w (closed_set w.detector) k (opened_tokens w bal h k (largest_closed (candidates w.detector)) (largest_chosen w rising))

pub scanned_kept : (d : Detector) (set : List ℕ) → (after_scan d set).kept ≡ d.kept
scanned_kept d [] = refl
scanned_kept d (x ∷ xs) = refl

pub scan_reports : (w : World) → ReportsAreExact w → ReportsAreExact (scan_in_world w)
scan_reports w h = subst (λ kept. ExactReports w.made w.cell kept w.notes) (sym (scanned_kept w.detector (closed_set w.detector))) h
