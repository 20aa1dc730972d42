-- How many values a turn gets and its actor needs, where seats change, and where it mints for the first of them.
use Rattle.std.proofs.Common.{◌≡◌, ℕ, zero, suc, ◌≤◌, ◌<◌, ◌==◌, ◌&&◌, ◌||◌, not, Bool, true, false, cond, Option, Some, None, List, [], ◌∷◌, length, filter, set, refl, ap, sym, ◌∙◌, arith, eq-eqb, eqb-true}
use Rattle.std.specs.FinMap.Entries.{by_order}
use Rattle.std.specs.List.{find}
use Rattle.std.specs.declared.cmp.Ordering.{Ordering}
use Rattle.std.specs.declared.cmp.Ordering.TheVariants.{Less, Equal, Greater}
use Rattle.std.proofs.lemmas.Bool.{and_parts, false≢true}
use Rattle.std.proofs.lemmas.List.{length-map}
use Rattle.orca_names.specs.Names.{owner_of, thing_cmp}
use Rattle.orca_names.specs.declared.names.Thing.{Thing}
use Rattle.orca_names.specs.declared.names.Thing.TheVariants.{Actor}
use Rattle.orca_names.specs.declared.names.Value.{Value}
use Rattle.behaviour_code.specs.declared.code.Program.{Program}
use Rattle.reach_walk.specs.Marks.{in_order, put_in_order, with_owners}
use Rattle.reach_walk.specs.Reach.{named_by}
use Rattle.turn_rules.specs.Segment.{gets_of}
use Rattle.turn_rules.specs.declared.act.Frame.{Frame}
use Rattle.letter_kinds.proofs.Amounts.{held-mint_all}
use Rattle.letter_kinds.proofs.Filters.{length-filter_le}
use Rattle.letter_kinds.specs.Counting.{Amount, mint_all, mint_one, set_held}
use Rattle.letter_kinds.specs.Holdings.{Holdings, held_in}
use Rattle.letter_kinds.specs.Sums.{amount_of}
use Rattle.letter_kinds.specs.Letters.{Letter, Confirm, Dec}
use Rattle.count_laws.proofs.roots.Need.{itself_minted, owner_minted}
use Rattle.machine_rules.specs.Actors.{Actors, Seat, push_decs, push_letter, seat, seat_at, with_letter_more}
use Rattle.machine_rules.specs.Cell.{Cell, row_by_roots}
use Rattle.machine_rules.specs.Detect.{ask_all, empty_seats, reap_decs, reap_members}
use Rattle.machine_rules.specs.Go.{lacks, needed, needs, setting_of, to_need}
use Rattle.orca_names.specs.declared.trace.Trace.{Trace}
use Rattle.orca_names.specs.declared.trace.Trace.TheVariants.{Deep, Roots}
use Rattle.machine_laws.specs.Laws.{DeepNeedsNoGet}
use Rattle.machine_laws.specs.Work.{needed_at, needed_gets, sum_at}

-- ---- sums over all actors by number

sum_at-set : (f : ℕ → Option Seat → ℕ) (s : Actors) (a : ℕ) (o : Option Seat) → f a o ≤ f a (seat_at s a) → sum_at f (set s a o) ≤ sum_at f s
sum_at-set f [] a o le = omega arith
sum_at-set f (q ∷ s) zero o le = omega arith
sum_at-set f (q ∷ s) (suc a) o le = let later = sum_at-set (λ b. f (suc b)) s a o le in omega arith

sum_at-less : (f : ℕ → Option Seat → ℕ) (s : Actors) (a : ℕ) (o : Option Seat) → a < length s → f a o < f a (seat_at s a) → sum_at f (set s a o) < sum_at f s
sum_at-less f [] a o within less = absurd (omega arith)
sum_at-less f (q ∷ s) zero o within less = omega arith
sum_at-less f (q ∷ s) (suc a) o within less = let later = sum_at-less (λ b. f (suc b)) s a o (omega arith) less in omega arith

-- ---- seats

-- who has no frame needs nothing
none_needed : (trace : Trace) (program : Program) (a : ℕ) (c : Cell) → needed_gets trace program a c None ≡ 0
none_needed Deep program a c = refl
none_needed Roots program a c = refl

module _ (trace : Trace) (program : Program) where
  abbrev pub gets : Actors → ℕ
  gets s = sum_at (needed_at trace program) s

  pub idle-gets : (s : Actors) (a : ℕ) (c : Cell) (ls : List Letter) → c.frame ≡ None → gets (set s a (seat c ls)) ≤ gets s
  idle-gets s a c ls idle = sum_at-set (needed_at trace program) s a (seat c ls) (omega (arith, ap (needed_gets trace program a c) idle, none_needed trace program a c))

  gets_more : (a : ℕ) (letter : Letter) (o : Option Seat) → needed_at trace program a (with_letter_more letter o) ≡ needed_at trace program a o
  gets_more a letter None = refl
  gets_more a letter (Some o) = refl

  pub push-gets : (b : ℕ) (letter : Letter) (s : Actors) → gets (push_letter b letter s) ≤ gets s
  unfolding push_letter
  push-gets b letter s = sum_at-set (needed_at trace program) s b (with_letter_more letter (seat_at s b)) (omega (arith, gets_more b letter (seat_at s b)))

  pub decs-gets : (groups : List (ℕ × List Amount)) (s : Actors) → gets (push_decs groups s) ≤ gets s
  unfolding push_decs
  decs-gets [] s = omega arith
  decs-gets (group ∷ groups) s = omega (arith, decs-gets groups (push_letter group.0 (Dec group.1) s), push-gets group.0 (Dec group.1) s)

  pub asks-gets : (members : List ℕ) (token : ℕ) (s : Actors) → gets (ask_all members token s) ≤ gets s
  asks-gets [] token s = omega arith
  asks-gets (a ∷ members) token s = omega (arith, asks-gets members token (push_letter a (Confirm token) s), push-gets a (Confirm token) s)

  emptied-gets : (members : List ℕ) (s : Actors) → gets (empty_seats members s) ≤ gets s
  unfolding empty_seats
  emptied-gets [] s = omega arith
  emptied-gets (a ∷ members) s = omega (arith, emptied-gets members (set s a None), sum_at-set (needed_at trace program) s a None (omega arith))

  pub reaped-gets : (members : List ℕ) (s : Actors) → gets (reap_members members s) ≤ gets s
  reaped-gets members s = omega (arith, decs-gets (reap_decs members members s) (empty_seats members s), emptied-gets members s)

-- ---- with deep tracing

sum_at-none : (f : ℕ → Option Seat → ℕ) → ((a : ℕ) (o : Option Seat) → f a o ≡ 0) → (s : Actors) → sum_at f s ≡ 0
sum_at-none f none [] = refl
sum_at-none f none (o ∷ s) = omega (arith, none 0 o, sum_at-none (λ a. f (suc a)) (λ a. none (suc a)) s)

pub deep_needs_no_get : DeepNeedsNoGet
deep_needs_no_get s deep = ap (λ q. sum_at (needed_at q s.program) s.actors) deep ∙ sum_at-none (needed_at Deep s.program) none s.actors
  where
    none : (a : ℕ) (o : Option Seat) → needed_at Deep s.program a o ≡ 0
    none a None = refl
    none a (Some o) = refl

-- ---- a mint

-- it changes what is held, and nothing else
mint_alike : (es : List Amount) (h : Holdings) → mint_all es h ≡ record h { foreign = (mint_all es h).foreign }
unfolding mint_all set_held
mint_alike [] h = refl
mint_alike (e ∷ es) h = mint_alike es (mint_one e h)

-- so the turn gets the same values
gets_same : (program : Program) (a : ℕ) (c : Cell) (es : List Amount) (f : Frame)
    → gets_of (setting_of Roots program a (record c { holdings = mint_all es c.holdings })) f c.fields ≡ gets_of (setting_of Roots program a c) f c.fields
unfolding row_by_roots
gets_same program a c es f = ap (λ h. gets_of (setting_of Roots program a (record c { holdings = h })) f c.fields) (mint_alike es c.holdings)

lacks_less : (a : ℕ) (es : List Amount) (h : Holdings) (y : Thing) → lacks a (mint_all es h) y ≡ true → lacks a h y ≡ true
lacks_less a es h y t =
    let p = and_parts (not (owner_of y == a)) (held_in (mint_all es h) y == 0) t in
    let none : held_in h y ≡ 0 = let z = eqb-true (held_in (mint_all es h) y) 0 p.1 in omega (arith, held-mint_all y es h) in
    λ i. p.0 i && eq-eqb (held_in h y) 0 none i

or_less : (b c b' c' : Bool) → (b ≡ true → b' ≡ true) → (c ≡ true → c' ≡ true) → (b || c) ≡ true → (b' || c') ≡ true
or_less true c b' c' f g t = ap (λ q. q || c') (f refl)
or_less false c true c' f g t = refl
or_less false c false c' f g t = g t

needs_less : (a : ℕ) (es : List Amount) (h : Holdings) (y : Thing) → needs a (mint_all es h) y ≡ true → needs a h y ≡ true
needs_less a es h y t = or_less _ _ (lacks a h y) (lacks a h (Actor (owner_of y))) (lacks_less a es h y) (lacks_less a es h (Actor (owner_of y))) t

-- ---- fewer pass

module _ (p q : Thing → Bool) (less : (y : Thing) → q y ≡ true → p y ≡ true) where
  few_pass : (xs : List Thing) → length (filter q xs) ≤ length (filter p xs)
  few_pass [] = omega arith
  few_pass (x ∷ xs) = by_tests (few_pass xs) (q x) (p x) (less x)
    where
      by_tests : length (filter q xs) ≤ length (filter p xs) → (b d : Bool) → (b ≡ true → d ≡ true) → length (cond b (x ∷ filter q xs) (filter q xs)) ≤ length (cond d (x ∷ filter p xs) (filter p xs))
      by_tests later true true h = omega arith
      by_tests later true false h = absurd (false≢true (h refl))
      by_tests later false true h = omega arith
      by_tests later false false h = later

  -- the first that passes does so no more
  fewer_pass : (x : Thing) → q x ≡ false → (xs : List Thing) → find p xs ≡ Some x → length (filter q xs) < length (filter p xs)
  fewer_pass x off [] found = cc
  fewer_pass x off (y ∷ ys) found = by_tests (few_pass ys) (fewer_pass x off ys) (q y) (p y) refl (less y) found
    where
      by_tests : length (filter q ys) ≤ length (filter p ys) → (find p ys ≡ Some x → length (filter q ys) < length (filter p ys)) → (b d : Bool) → q y ≡ b → (b ≡ true → d ≡ true)
          → cond d (Some y) (find p ys) ≡ Some x → length (cond b (y ∷ filter q ys) (filter q ys)) < length (cond d (y ∷ filter p ys) (filter p ys))
      by_tests few later true true is h found = let same : y ≡ x = cc in absurd (false≢true (sym off ∙ (ap q (sym same) ∙ is)))
      by_tests few later true false is h found = absurd (false≢true (h refl))
      by_tests few later false true is h found = omega arith
      by_tests few later false false is h found = later found

-- ---- a mint leaves no more to need

pub minted-gets : (trace : Trace) (program : Program) (a : ℕ) (c : Cell) (es : List Amount) (frame : Option Frame)
    → needed_gets trace program a (record c { holdings = mint_all es c.holdings }) frame ≤ needed_gets trace program a c frame
minted-gets Deep program a c es frame = omega arith
minted-gets Roots program a c es None = omega arith
minted-gets Roots program a c es (Some f) =
    let few = few_pass (needs a c.holdings) (needs a (mint_all es c.holdings)) (needs_less a es c.holdings) (named_by (gets_of (setting_of Roots program a c) f c.fields)) in
    let same = ap (λ (vs : List Value). length (filter (needs a (mint_all es c.holdings)) (named_by vs))) (gets_same program a c es f) in
    omega (arith, few, same)

-- and a mint for the first that is needed leaves one less
module _ (w : ℕ) (heavy : 0 < w) (a : ℕ) (h : Holdings) (x : Thing) where
  abbrev es : List Amount
  es = to_need w a h x

  lacks_no_more : (y : Thing) → (lacks a h y ≡ true → 0 < amount_of y es) → lacks a (mint_all es h) y ≡ false
  lacks_no_more y minted = by_test (lacks a (mint_all es h) y) refl
    where
      by_test : (b : Bool) → lacks a (mint_all es h) y ≡ b → b ≡ false
      by_test false is = refl
      by_test true is =
          let p = and_parts (not (owner_of y == a)) (held_in (mint_all es h) y == 0) is in
          absurd (let z = eqb-true (held_in (mint_all es h) y) 0 p.1 in let k = minted (lacks_less a es h y is) in omega (arith, held-mint_all y es h))

  needs_no_more : needs a (mint_all es h) x ≡ false
  needs_no_more = λ i. lacks_no_more x (itself_minted w heavy a h x) i || lacks_no_more (Actor (owner_of x)) (owner_minted w heavy a h x) i

pub need-gets : (trace : Trace) (program : Program) (w : ℕ) → 0 < w → (a : ℕ) (c : Cell) (f : Frame) (x : Thing) → needed trace program a c f ≡ Some x
    → needed_gets trace program a (record c { holdings = mint_all (to_need w a c.holdings x) c.holdings }) (Some f) < needed_gets trace program a c (Some f)
need-gets Deep program w heavy a c f x found = cc
need-gets Roots program w heavy a c f x found =
    let es = to_need w a c.holdings x in
    let fewer = fewer_pass (needs a c.holdings) (needs a (mint_all es c.holdings)) (needs_less a es c.holdings) x (needs_no_more w heavy a c.holdings x) (named_by (gets_of (setting_of Roots program a c) f c.fields)) found in
    let same = ap (λ (vs : List Value). length (filter (needs a (mint_all es c.holdings)) (named_by vs))) (gets_same program a c es f) in
    omega (arith, fewer, same)

-- ---- it is for two things at most

put-length : (x : Thing) (ys : List Thing) → length (put_in_order x ys) ≤ suc (length ys)
put-length x [] = omega arith
put-length x (y ∷ ys) = by_cmp (thing_cmp x y) (put-length x ys)
  where
    by_cmp : (r : Ordering) → length (put_in_order x ys) ≤ suc (length ys) → length (by_order r (x ∷ y ∷ ys) (y ∷ ys) (y ∷ put_in_order x ys)) ≤ suc (suc (length ys))
    by_cmp Less later = omega arith
    by_cmp Equal later = omega arith
    by_cmp Greater later = omega arith

pub need-length : (w a : ℕ) (h : Holdings) (x : Thing) → length (to_need w a h x) ≤ 2
need-length w a h x = omega (
  arith,
  length-map {B = Amount} (filter (lacks a h) (in_order (with_owners (x ∷ [])))) (λ y. (y, w)),
  length-filter_le (lacks a h) (in_order (with_owners (x ∷ []))),
  put-length x (in_order (Actor (owner_of x) ∷ [])),
  put-length (Actor (owner_of x)) [],
)

-- ---- at the seat of who mints

module _ (trace : Trace) (program : Program) (s : Actors) (a : ℕ) (c : Cell) (ls : List Letter) (at : seat_at s a ≡ seat c ls) where
  pub mint-gets : (es : List Amount) → gets trace program (set s a (seat (record c { holdings = mint_all es c.holdings }) ls)) ≤ gets trace program s
  mint-gets es = sum_at-set (needed_at trace program) s a (seat (record c { holdings = mint_all es c.holdings }) ls)
      (omega (arith, minted-gets trace program a c es c.frame, ap (needed_at trace program a) at))

  pub need_mint-gets : (w : ℕ) → 0 < w → (f : Frame) (x : Thing) → a < length s → c.frame ≡ Some f → needed trace program a c f ≡ Some x
      → gets trace program (set s a (seat (record c { holdings = mint_all (to_need w a c.holdings x) c.holdings }) ls)) < gets trace program s
  need_mint-gets w heavy f x within is found =
      let minted : Cell = record c { holdings = mint_all (to_need w a c.holdings x) c.holdings } in
      sum_at-less (needed_at trace program) s a (seat minted ls) within
      (omega (arith, need-gets trace program w heavy a c f x found, ap (needed_at trace program a) at, ap (needed_gets trace program a c) is, ap (needed_gets trace program a minted) is))
