-- Sums over the lines of a state are sums over its actors.
use Rattle.std.proofs.Common.{◌≡◌, ◌≢◌, ◌<◌, ◌≤◌, ◌+◌, ℕ, zero, suc, Bool, if◌then◌else◌, List, [], ◌∷◌, ◌++◌, length, get_or, take, Option, inl, inr, refl, ap, sym, ◌∙◌, arith}
use Rattle.std.specs.Prelude.{bytes_eq, codes, drop, flat_map, sum_by}
use Rattle.std.proofs.Math.Seq.{take-length}
use Rattle.std.proofs.lemmas.Bool.{cases_lt}
use Rattle.std.proofs.lemmas.List.Sums.{sum_by-append, sum_by-cons, sum_by_more, sum_by_push}
use Rattle.behaviour_text.specs.Words.{number_at, word_at}
use Rattle.letter_kinds.specs.Detector.{Token}
use Rattle.letter_kinds.specs.declared.note.Report.{Report}
use Rattle.machine_rules.specs.State.{State}
use Rattle.picture_rules.specs.Blocked.{detector_lines, report_lines, token_lines}
use Rattle.picture_rules.specs.Parts.{above, numbers_below, reporters, state_lines, token_numbers}
use Rattle.picture_rules.specs.Words.{Line, Word}
use Rattle.picture_laws.specs.Applying.{AReport, AToken, AnActor, Part, TheDetector, further, is_further, part_lines}
use Rattle.picture_laws.specs.Sums.{count_in, if_of, object_count, own_count, said_by}
use Rattle.picture_laws.proofs.Blocks.{Begun, none, some}
use Rattle.picture_laws.proofs.Cover.{parts_below}
use Rattle.picture_laws.proofs.Opening.{opens_anew}
use Rattle.picture_laws.proofs.Parts.{parts_there}
use Rattle.picture_laws.proofs.Silent.{both_add}
use Rattle.picture_laws.proofs.States.{part_begun, parts_are}
use Rattle.picture_laws.proofs.Walking.{Stops}

-- ---- what parts add up

pub record AddsUp (total : List Line → ℕ) : Type 0 where
  pub nothing : total [] ≡ 0
  pub more : (xs ys : List Line) → Stops ys → total (xs ++ ys) ≡ total xs + total ys

pub said_adds : (w : Word) (f : List Word → ℕ) → AddsUp (said_by w f)
said_adds w f = record { nothing = refl; more = λ xs ys stops. both_add w (λ line. f (drop 1 line)) xs ys }

further_stops : (xs ys : List Line) → Stops ys → further (xs ++ ys) ≡ further xs
further_stops [] [] stops = refl
further_stops [] (l ∷ ys) stops = ap (λ (b : Bool). if b then l ∷ further ys else []) stops
further_stops (l ∷ xs) ys stops = ap (λ ls. if is_further l then l ∷ ls else []) (further_stops xs ys stops)

count_more : (x : Word) (xs ys : List Line) → Stops ys → count_in x (xs ++ ys) ≡ count_in x xs + count_in x ys
count_more x [] ys stops = omega arith
count_more x (l ∷ xs) ys stops =
    let first : own_count x l (xs ++ ys) ≡ own_count x l xs = ap (λ ls. if bytes_eq (word_at l 0) (codes "actor")
    then if_of x (codes "a" ++ word_at l 1) (number_at l 6) + sum_by (object_count x (word_at l 1)) ls else 0) (further_stops xs ys stops) in
    omega (arith, first, count_more x xs ys stops)

pub counts_add : (x : Word) → AddsUp (count_in x)
counts_add x = record { nothing = refl; more = count_more x }

begun_stops : (q : Part) (lines rest : List Line) → Begun q lines → Stops rest → Stops (lines ++ rest)
begun_stops q _ rest none stops = stops
begun_stops q _ rest (some line body b o inner) stops = opens_anew q line (inl b)

module _ (block : Part → List Line) (begun : (q : Part) → Begun q (block q)) (total : List Line → ℕ) (adds : AddsUp total) where
  all_stop : (ps : List Part) → Stops (flat_map block ps)
  all_stop [] = tt
  all_stop (q ∷ ps) = begun_stops q (block q) (flat_map block ps) (begun q) (all_stop ps)

  over_parts : (ps : List Part) → total (flat_map block ps) ≡ sum_by (λ q. total (block q)) ps
  over_parts [] = adds.nothing
  over_parts (q ∷ ps) =
      adds.more (block q) (flat_map block ps) (all_stop ps) ∙ ap (λ n. total (block q) + n) (over_parts ps)
      ∙ sym (sum_by-cons (λ p. total (block p)) q ps)

-- ---- parts by numbers

module _ (g : Part → ℕ) (part : ℕ → Part) where
  some_below : (each : ℕ → ℕ) → ((a : ℕ) → g (part a) ≡ each a) → (n : ℕ) → sum_by g (parts_below part n) ≡ sum_by each (numbers_below n)
  some_below each same zero = refl
  some_below each same (suc n) =
      omega (arith, sum_by_push g (parts_below part n) (part n), sum_by_push each (numbers_below n) n, same n, some_below each same n)

  none_below : ((a : ℕ) → g (part a) ≡ 0) → (n : ℕ) → sum_by g (parts_below part n) ≡ 0
  none_below nothing zero = refl
  none_below nothing (suc n) = omega (arith, sum_by_push g (parts_below part n) (part n), nothing n, none_below nothing n)

-- the lines of the detector, of reports and of tokens add nothing
pub record ActorsAlone (total : List Line → ℕ) (s : State) : Type 0 where
  pub detector : total (detector_lines s.detector) ≡ 0
  pub reports : (r : Option Report) → total (report_lines r) ≡ 0
  pub tokens : (t : Option Token) → total (token_lines t) ≡ 0

pub over_actors : (total : List Line → ℕ) (s : State) (each : ℕ → ℕ) → AddsUp total → ActorsAlone total s
    → ((a : ℕ) → total (part_lines s (AnActor a)) ≡ each a) → total (state_lines s) ≡ sum_by each (numbers_below (length s.actors))
over_actors total s each adds alone same =
    let g = λ (q : Part). total (part_lines s q) in
    let actors = parts_below AnActor (length s.actors) in
    let reports = parts_below AReport (above (reporters s.detector)) in
    let tokens = parts_below AToken (above (token_numbers s.detector)) in
    ap total (sym (parts_are s)) ∙ over_parts (part_lines s) (part_begun s) total adds (parts_there s)
    ∙ omega (
      arith,
      sum_by-append g (actors ++ TheDetector ∷ [] ++ reports) tokens,
      sum_by-append g (actors ++ TheDetector ∷ []) reports,
      sum_by_push g actors TheDetector,
      some_below g AnActor each same (length s.actors),
      alone.detector,
      none_below g AReport (λ a. alone.reports _) (above (reporters s.detector)),
      none_below g AToken (λ n. alone.tokens _) (above (token_numbers s.detector)),
    )

-- ---- numbers

module _ (f : ℕ → ℕ) (i : ℕ) (others : (a : ℕ) → a ≢ i → f a ≡ 0) where
  nowhere : (n : ℕ) → n ≤ i → sum_by f (numbers_below n) ≡ 0
  nowhere zero h = refl
  nowhere (suc n) h =
      omega (arith, sum_by_push f (numbers_below n) n, nowhere n (omega (arith, h)), others n (λ e. omega (arith, h, e)))

  at_one : (n : ℕ) → i < n → sum_by f (numbers_below n) ≡ f i
  at_one zero h = absurd (omega (arith, h))
  at_one (suc n) h = elim (cases_lt i n) [
    | inl less ↦ omega (arith, sum_by_push f (numbers_below n) n, at_one n less, others n (λ e. omega (arith, less, e)))
    | inr past ↦
        let last : n ≡ i = omega (arith, h, past) in
        omega (arith, sum_by_push f (numbers_below n) n, nowhere n (omega (arith, last)), ap f last)
  ]

  -- where all others have nothing, the sum is that of one
  pub one_alone : (n : ℕ) → (n ≤ i → f i ≡ 0) → sum_by f (numbers_below n) ≡ f i
  one_alone n past = elim (cases_lt i n) [
    | inl less ↦ at_one n less
    | inr beyond ↦ nowhere n beyond ∙ sym (past beyond)
  ]

module _ {X : Type 0} (k : X → ℕ) (xs : List X) (d : X) where
  up_to : (n : ℕ) → n ≤ length xs → sum_by (λ a. k (get_or xs a d)) (numbers_below n) ≡ sum_by k (take n xs)
  up_to zero h = refl
  up_to (suc n) h =
      let next : n + 1 ≡ suc n = omega arith in
      omega (
        arith,
        sum_by_push (λ a. k (get_or xs a d)) (numbers_below n) n,
        up_to n (omega (arith, h)),
        sum_by_more k xs n d (omega (arith, h)),
        ap (λ j. sum_by k (take j xs)) next,
      )

  -- by numbers or by elements
  pub by_numbers : sum_by (λ a. k (get_or xs a d)) (numbers_below (length xs)) ≡ sum_by k xs
  by_numbers = up_to (length xs) (omega arith) ∙ ap (sum_by k) (take-length xs)
