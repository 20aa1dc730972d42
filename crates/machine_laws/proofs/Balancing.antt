-- The counts balance for the detector's laws where they balance for all things.
use Rattle.std.proofs.Common.{◌≡◌, ℕ, zero, suc, ◌+◌, ◌<◌, Option, Some, None, List, [], ◌∷◌, length, get_or, refl, ap, sym, arith, ⊎_elim}
use Rattle.std.proofs.lemmas.Bool.{cases_lt, false≢true}
use Rattle.std.proofs.lemmas.List.{get_or_past}
use Rattle.std.proofs.lemmas.List.Sums.{sum_by-cons}
use Rattle.std.specs.Prelude.{sum_by}
use Rattle.orca_names.specs.declared.names.Thing.{Thing}
use Rattle.orca_names.specs.declared.names.Thing.TheVariants.{Actor}
use Rattle.letter_kinds.proofs.Sums.{sum-nil}
use Rattle.letter_kinds.specs.Detector.{Detector}
use Rattle.letter_kinds.specs.Holdings.{own_in}
use Rattle.letter_kinds.specs.Sums.{inc_of, dec_of}
use Rattle.letter_kinds.specs.Letters.{Letter, Confirm}
use Rattle.letter_kinds.specs.declared.note.Note.{Note}
use Rattle.count_laws.proofs.balance.SeatReads.{letter_Confirm}
use Rattle.machine_rules.specs.Actors.{Actors, cell_at, Seat, cell_of, letters_of, seat, seat_at, Every}
use Rattle.machine_rules.specs.Balance.{held_at, own_at, incs_at, decs_at, IsBalanced}
use Rattle.machine_rules.specs.Cell.{Cell}
use Rattle.count_laws.specs.Clean.{HoldsNoOwnAt}
use Rattle.detector_laws.proofs.Cells.{some_not_none}
use Rattle.detector_laws.specs.Balance.{ActorsAreBalanced, sum_below}
use Rattle.detector_laws.specs.Cells.{held_on}
use Rattle.detector_laws.specs.Confirms.{OnlyConfirms}
use Rattle.machine_laws.proofs.Seen.{world_of}

-- a sum over numbers is one over the list
shift : (n : ℕ) (f : ℕ → ℕ) → sum_below (suc n) f ≡ f 0 + sum_below n (λ b. f (suc b))
shift zero f = refl
shift (suc n) f = omega (arith, shift n f)

pub sum_list : {A : Type 0} (w : A → ℕ) (xs : List A) (d : A) (h : ℕ → ℕ) → ((b : ℕ) → h b ≡ w (get_or xs b d)) → sum_below (length xs) h ≡ sum_by w xs
sum_list w [] d h e = sym (sum-nil w)
sum_list w (x ∷ xs) d h e = omega (arith, shift (length xs) h, e 0, sum_by-cons w x xs, sum_list w xs d (λ b. h (suc b)) (λ b. e (suc b)))

pub no_amounts : (x : Thing) (ls : List Letter) → OnlyConfirms ls → (sum_by (inc_of x) ls ≡ 0) × (sum_by (dec_of x) ls ≡ 0)
no_amounts x [] h = (sum-nil (inc_of x), sum-nil (dec_of x))
no_amounts x (Confirm t ∷ ls) h =
    let rest = no_amounts x ls h.1 in
    let l = letter_Confirm x t in
    (omega (arith, rest.0, l.0, sum_by-cons (inc_of x) (Confirm t) ls), omega (arith, rest.1, l.1, sum_by-cons (dec_of x) (Confirm t) ls))
no_amounts x (l ∷ ls) h = absurd (false≢true h.0)

foreign_is : (x : ℕ) (o : Option Seat) → held_on (cell_of o) x ≡ held_at (Actor x) o
unfolding held_at
foreign_is x None = refl
foreign_is x (Some o) = refl

count_is : (x : ℕ) (c : Cell) (o : Option Seat) → cell_of o ≡ Some c → c.holdings.count ≡ own_at (Actor x) o
unfolding own_at own_in
count_is x c None here = absurd (some_not_none here refl)
count_is x c (Some o) here = let same : o.cell ≡ c = cc in ap (λ (c : Cell). c.holdings.count) (sym same)

no_incs_at : (x : Thing) (o : Option Seat) → OnlyConfirms (letters_of o) → (incs_at x o ≡ 0) × (decs_at x o ≡ 0)
unfolding incs_at decs_at
no_incs_at x None h = (refl, refl)
no_incs_at x (Some o) h = no_amounts x o.mail h

pub present_below : (s : Actors) (b : ℕ) (c : Cell) → cell_at s b ≡ Some c → b < length s
present_below s b c here = ⊎_elim (λ lt. lt) (λ ge. absurd (some_not_none here (ap cell_of (get_or_past s b None ge)))) (cases_lt b (length s))

own_of : (b : ℕ) (o : Option Seat) → ((c : Cell) (ls : List Letter) → o ≡ seat c ls → HoldsNoOwnAt b c ls) → held_on (cell_of o) b ≡ 0
own_of b None h = refl
own_of b (Some o) h = h o.cell o.mail refl (Actor b) refl

pub balanced : (s : Actors) (d : Detector) (ns : List Note) → IsBalanced s → Every HoldsNoOwnAt s → ActorsAreBalanced (world_of s d ns)
balanced s d ns bal apart = record {
  full = λ x c here only.
      let none = no_incs_at (Actor x) (seat_at s x) only in
      let sum = sum_list (held_at (Actor x)) s None (λ b. held_on (cell_at s b) x) (λ b. foreign_is x (seat_at s b)) in
      let count = count_is x c (seat_at s x) here in
      omega (arith, bal (Actor x), none.0, none.1, sum, count);
  made = present_below s;
  own = λ b. own_of b (seat_at s b) (apart b);
}
