-- What a letter that is posted changes, and what it leaves.
use Rattle.std.proofs.Common.{◌≡◌, ◌≢◌, ℕ, Option, Some, None, length, set, refl, ap, sym, ◌∙◌, ⊎_elim, get_or-set_same, get_or-set_other, length-set}
use Rattle.std.proofs.lemmas.Bool.{cases_lt}
use Rattle.std.proofs.lemmas.List.{get_or_past}
use Rattle.letter_kinds.specs.Letters.{Letter}
use Rattle.machine_rules.specs.Actors.{Actors, Seat, cell_of, push_letter, seat_at, with_letter_more}

module _ (s : Actors) (b : ℕ) (l : Letter) where
  -- an actor that it is not for stays as it is
  pub push_other : (i : ℕ) → i ≢ b → seat_at (push_letter b l s) i ≡ seat_at s i
  unfolding push_letter
  push_other i n = get_or-set_other s b i (with_letter_more l (seat_at s b)) None n

  -- the other has a letter more
  pub push_here : seat_at (push_letter b l s) b ≡ with_letter_more l (seat_at s b)
  unfolding push_letter
  push_here = ⊎_elim
      (λ lt. get_or-set_same s b (with_letter_more l (seat_at s b)) None lt)
      (λ ge. get_or_past (set s b (with_letter_more l (seat_at s b))) b None (rw (length-set s b (with_letter_more l (seat_at s b))) ge) ∙ sym (ap (with_letter_more l) (get_or_past s b None ge)))
      (cases_lt b (length s))

-- no actor comes
pub length-push : (b : ℕ) (l : Letter) (s : Actors) → length (push_letter b l s) ≡ length s
unfolding push_letter
length-push b l s = length-set s b _

-- its cell stays
pub added_cell : (l : Letter) (o : Option Seat) → cell_of (with_letter_more l o) ≡ cell_of o
added_cell l None = refl
added_cell l (Some o) = refl
