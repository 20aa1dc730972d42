-- After a run each count is the weight at most for each event, since each is part of a side of the balance;
-- and so is each count that was told.
use Rattle.std.proofs.Common.{◌≡◌, ℕ, suc, ◌+◌, ◌*◌, ◌^◌, ◌<◌, ◌≤◌, Option, None, Some, List, [], ◌∷◌, length, refl, ap, subst, arith, ⊎_elim}
use Rattle.std.specs.List.{AllByRecursion}
use Rattle.std.proofs.Math.Nat.{mul-le-mul, mul-le-mul_right}
use Rattle.std.proofs.lemmas.Bool.{cases_lt}
use Rattle.std.proofs.lemmas.List.{get_or_past}
use Rattle.orca_names.specs.Names.{owner_of}
use Rattle.orca_names.specs.declared.names.Thing.{Thing}
use Rattle.orca_names.specs.declared.names.Thing.TheVariants.{Actor}
use Rattle.event_rule.specs.declared.event.Event.{Event}
use Rattle.letter_kinds.proofs.Sums.{sum-at}
use Rattle.letter_kinds.specs.Holdings.{held_in, own_in}
use Rattle.letter_kinds.specs.Letters.{Letter}
use Rattle.letter_kinds.specs.declared.note.Note.{Note}
use Rattle.letter_kinds.specs.declared.note.Report.{Report}
use Rattle.count_laws.proofs.bounds.Bounding.{events_raise, options_stay, runs_count, runs_make_few, runs_open}
use Rattle.count_laws.proofs.letters.OwnLetters.{decs_own, events_keep_own, incs_own, runs_name_own, start_names_own}
use Rattle.count_laws.proofs.balance.SeatReads.{decs_at-none, decs_at-seat, held_at-none, held_at-seat, incs_at-none, incs_at-seat, own_at-seat}
use Rattle.machine_rules.specs.Actors.{Actors, Seat, cell_at, seat, seat_at}
use Rattle.machine_rules.specs.Balance.{IsBalanced, decs_at, held_at, held_sum, incs_at, own_at, owner_seat}
use Rattle.count_laws.specs.Bounds.{owner_count}
use Rattle.machine_rules.specs.Cell.{Cell}
use Rattle.count_laws.specs.Letters.{LettersNameTheirOwn}
use Rattle.orca_names.specs.declared.trace.Trace.{Trace}
use Rattle.machine_rules.specs.Options.{Options}
use Rattle.event_rule.specs.Runs.{Leads}
use Rattle.machine_rules.specs.Next.{next}
use Rattle.plain_rules.specs.Machine.{PlainState, start_of}
use Rattle.machine_rules.specs.State.{State, first_state}
use Rattle.detector_laws.proofs.Members.{contained_each}
use Rattle.detector_laws.proofs.Order.{AllAbove, kept_report-contained, rising_parts}
use Rattle.detector_laws.specs.Reports.{ExactReports, IsRising}
use Rattle.machine_laws.proofs.Telling.{event_tells, told_by_all, told_weaker}
use Rattle.machine_laws.proofs.WholeRuns.{event_keeps, run_has_facts, start_all}
use Rattle.machine_laws.specs.AllFacts.{AllFacts}
use Rattle.machine_laws.specs.Bounds.{OfEachCount, OfTold, RunsCountAtMost, RunsCountInFewBits}

-- what one holds is a part of what all hold
held_part : (x : Thing) (s : Actors) (a : ℕ) → held_at x (seat_at s a) ≤ held_sum x s
held_part x s a = ⊎_elim
    (λ within. sum-at (held_at x) s a None within)
    (λ past. let z = ap (held_at x) (get_or_past s a None past) in let n = held_at-none x in omega arith)
    (cases_lt a (length s))

-- the letters of an actor raise and lower its own things alone
own_letters : (s : Actors) → LettersNameTheirOwn s → (x : Thing) (a : ℕ) (o : Option Seat) → seat_at s a ≡ o → 0 < incs_at x o + decs_at x o → owner_of x ≡ a
own_letters s own x a None at some = absurd (omega (arith, incs_at-none x, decs_at-none x))
own_letters s own x a (Some o) at some = ⊎_elim
    (λ incs. incs_own a o.mail (own a o.cell o.mail at) x (let z = incs_at-seat x o.cell o.mail in omega arith))
    (λ none. decs_own a o.mail (own a o.cell o.mail at) x (let z = decs_at-seat x o.cell o.mail in omega arith))
    (cases_lt 0 (incs_at x (Some o)))

-- so what its letters say of a thing is what its owner's say, or nothing
letters_part : (s : Actors) → LettersNameTheirOwn s → (x : Thing) (a : ℕ)
    → (incs_at x (seat_at s a) ≤ incs_at x (owner_seat s x)) × (decs_at x (seat_at s a) ≤ decs_at x (owner_seat s x))
letters_part s own x a = ⊎_elim
    (λ some. let same = ap (seat_at s) (own_letters s own x a (seat_at s a) refl some) in rw same ((omega arith), (omega arith)))
    (λ none. ((omega arith), (omega arith)))
    (cases_lt 0 (incs_at x (seat_at s a) + decs_at x (seat_at s a)))

weaker : (P Q : ℕ → Type 0) (s : Actors) → ((n : ℕ) → P n → Q n) → OfEachCount P s → OfEachCount Q s
weaker P Q s f h = record {
  own = λ x. f _ (h.own x);
  incs = λ x a. f _ (h.incs x a);
  counted = λ x. f _ (h.counted x);
  held = λ x a. f _ (h.held x a);
  held_by_all = λ x. f _ (h.held_by_all x);
  loads = λ x. f _ (h.loads x);
  decs = λ x a. f _ (h.decs x a);
}

-- where the owners count so much at most, so does everyone
each_count : (s : Actors) (bound : ℕ) → IsBalanced s → LettersNameTheirOwn s → ((x : Thing) → owner_count x s ≤ bound) → OfEachCount (λ n. n ≤ bound) s
each_count s bound balanced own most = record {
  own = λ x. let m = most x in omega arith;
  incs = λ x a. let m = most x in let l = (letters_part s own x a).0 in omega arith;
  counted = most;
  held = λ x a. let m = most x in let b = balanced x in let h = held_part x s a in omega arith;
  held_by_all = λ x. let m = most x in let b = balanced x in omega arith;
  loads = λ x. let m = most x in let b = balanced x in omega arith;
  decs = λ x a. let m = most x in let b = balanced x in let l = (letters_part s own x a).1 in omega arith;
}

-- ---- what is told

count_is : (c : Cell) (a : ℕ) → own_in c.holdings (Actor a) ≡ c.holdings.count
unfolding own_in
count_is c a = refl

-- what the actors count of actors is so too
cells_count : (s : State) (bound : ℕ) → OfEachCount (λ n. n ≤ bound) s.actors → (a : ℕ) (c : Cell) (mail : List Letter) → seat_at s.actors a ≡ seat c mail
    → (c.holdings.count ≤ bound) × ((x : ℕ) → held_in c.holdings (Actor x) ≤ bound)
cells_count s bound each a c mail at = (
  (let o = each.own (Actor a) in let e = ap (own_at (Actor a)) at in let z = own_at-seat (Actor a) c mail in let k = count_is c a in omega arith),
  λ x. let h = each.held (Actor x) a in let e = ap (held_at (Actor x)) at in let z = held_at-seat (Actor x) c mail in omega arith,
)

-- with each event what is counted, and so what is told, rises by the weight at most
leads_tell : (trace : Trace) (book : List Event) (p : PlainState) (s t : State) (bound : ℕ) → AllFacts trace p s → LettersNameTheirOwn s.actors → ((x : Thing) → owner_count x s.actors ≤ bound) → OfTold (λ n. n ≤ bound) s
    → Leads next s book t → OfTold (λ n. n ≤ bound + length book * s.options.weight) t
leads_tell trace [] p s t bound facts own most told same = subst (OfTold (λ n. n ≤ bound + 0 * s.options.weight)) same (told_weaker (λ n. n ≤ bound) (λ n. n ≤ bound + 0 * s.options.weight) s (λ n h. omega arith) told)
leads_tell trace (e ∷ book) p s t bound facts own most told (u, goes, leads) =
    let w = s.options.weight in
    let next_facts = event_keeps trace p s u e facts goes in
    let now = event_tells (λ n. n ≤ bound) s u e goes (cells_count s bound (each_count s.actors bound facts.beside.counts.balanced own most)) told in
    let up : (x : Thing) → owner_count x u.actors ≤ bound + w = λ x. let one = events_raise s u e facts.beside.weight goes x in let m = most x in omega arith in
    let later = leads_tell trace book next_facts.0 u t (bound + w) next_facts.2 (events_keep_own s u e goes own) up (told_weaker (λ n. n ≤ bound) (λ n. n ≤ bound + w) u (λ n h. omega arith) now) leads in
    let same : u.options.weight ≡ w = ap (λ (o : Options). o.weight) (options_stay s u e goes) in
    told_weaker (λ n. n ≤ bound + w + length book * u.options.weight) (λ n. n ≤ bound + length (e ∷ book) * w) t (λ n h. let h' : n ≤ bound + w + length book * w = rw same at h in omega arith) later

-- ---- how many reports are kept

-- a report that is kept is of an actor that was made
made_all : (made : ℕ) (cell : ℕ → Option Cell) (kept : List Report) (notes : List Note) → ExactReports made cell kept notes → IsRising kept → AllByRecursion (λ r. r.actor < made) kept
made_all made cell kept notes exact rising = contained_each (λ r. r.actor < made) kept (λ r is. ⊎_elim
    (λ below. below)
    (λ past. let none = (exact.unmade r.actor past).0 in let some = kept_report-contained kept r rising is in cc)
    (cases_lt r.actor made))

rising_length : (low made : ℕ) (rs : List Report) → low ≤ made → AllByRecursion (λ r. low ≤ r.actor) rs → AllByRecursion (λ r. r.actor < made) rs → IsRising rs → low + length rs ≤ made
rising_length low made [] fits above below rising = omega arith
rising_length low made (r ∷ rs) fits above below rising =
    let here = above.0 in let there = below.0 in
    let (first, rest) = rising_parts r rs rising in
    let later = rising_length (suc r.actor) made rs (omega arith) (higher r.actor rs first) below.1 rest in
    omega arith
  where
    higher : (a : ℕ) (ks : List Report) → AllAbove a ks → AllByRecursion (λ k. suc a ≤ k.actor) ks
    higher a [] h = tt
    higher a (k ∷ ks) h = ((let z = h.0 in omega arith), higher a ks h.1)

all_low : (rs : List Report) → AllByRecursion (λ r. 0 ≤ r.actor) rs
all_low [] = tt
all_low (r ∷ rs) = (omega arith, all_low rs)

kept_length : (trace : Trace) (p : PlainState) (s : State) → AllFacts trace p s → length s.detector.kept ≤ length s.actors
kept_length trace p s facts =
    let d = facts.detector in
    let z = rising_length 0 (length s.actors) s.detector.kept (omega arith) (all_low s.detector.kept) (made_all (length s.actors) (cell_at s.actors) s.detector.kept s.notes d.reports d.rising) d.rising in
    omega arith

-- ---- the laws

pub runs_count_at_most : RunsCountAtMost
runs_count_at_most program options heavy book t run =
    let facts = run_has_facts program options heavy book t run in
    let first = first_state program options in
    let told = leads_tell options.trace book (start_of program) first t 0 (start_all program options heavy) (start_names_own program options)
    (λ x. let z = runs_count program options heavy [] first refl x in omega arith) (record { notes = tt; kept = tt }) run in
    let told' : OfTold (λ n. n ≤ length book * options.weight) t = told_weaker (λ n. n ≤ 0 + length book * options.weight) (λ n. n ≤ length book * options.weight) t (λ n h. omega arith) told in (
      each_count t.actors (length book * options.weight) facts.2.beside.counts.balanced (runs_name_own program options book t run) (runs_count program options heavy book t run),
      told',
      λ x. let all = told_by_all x (length book * options.weight) t.detector.kept told'.kept in
          let more : length t.detector.kept * (length book * options.weight) ≤ length t.actors * (length book * options.weight) = mul-le-mul_right (length book * options.weight) (kept_length options.trace facts.0 t facts.2) in
          omega arith,
    )

pub runs_count_in_few_bits : RunsCountInFewBits
runs_count_in_few_bits program options heavy book t run short light =
    let product : length book * options.weight ≤ 100000000 * 65536 = mul-le-mul short light in
    let opened = runs_open program options book t run in
    let all = runs_count_at_most program options heavy book t run in
    let small : (n : ℕ) → n ≤ length book * options.weight → n < 2 ^ 43 = λ n h. omega arith in
    let whole : length t.actors * (length book * options.weight) ≤ 65536 * (100000000 * 65536) = mul-le-mul (runs_make_few program options book t run) product in (
      weaker (λ n. n ≤ length book * options.weight) (λ n. n < 2 ^ 43) t.actors small all.0,
      told_weaker (λ n. n ≤ length book * options.weight) (λ n. n < 2 ^ 43) t small all.1,
      omega arith,
      λ x. let z = all.2 x in omega arith,
    )
