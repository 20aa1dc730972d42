-- What a page adds up of a thing are the counts of the state.
use Rattle.std.proofs.Common.{◌≡◌, ◌≢◌, ◌≤◌, ◌==◌, ℕ, Bool, false, if◌then◌else◌, List, length, Option, Some, None, inl, inr, refl, ap, sym, ◌∙◌, arith, eq-eqb, ne_eqb}
use Rattle.std.specs.Prelude.{bytes_eq, codes, drop, sum_by}
use Rattle.std.proofs.lemmas.Bool.{cases_lt}
use Rattle.std.proofs.lemmas.List.{get_or_past}
use Rattle.orca_names.specs.Names.{owner_of}
use Rattle.orca_names.specs.declared.names.Thing.{Thing}
use Rattle.letter_kinds.specs.Sums.{dec_of, inc_of}
use Rattle.letter_kinds.specs.Letters.{Letter}
use Rattle.machine_rules.specs.Actors.{Seat, seat, seat_at}
use Rattle.machine_rules.specs.Balance.{decs_at, held_at, incs_at, loads_at, own_at}
use Rattle.machine_rules.specs.Cell.{Cell}
use Rattle.machine_rules.specs.State.{State}
use Rattle.count_laws.proofs.balance.SeatReads.{decs_at-none, decs_at-seat, held_at-none, held_at-seat, incs_at-none, incs_at-seat, loads_at-none, loads_at-seat, own_at-none, own_at-seat}
use Rattle.count_laws.proofs.letters.OwnLetters.{decs_own, incs_own, runs_name_own}
use Rattle.count_laws.specs.Letters.{LettersNameTheirOwn}
use Rattle.picture_rules.specs.Blocked.{detector_lines, report_lines, token_lines}
use Rattle.picture_rules.specs.Parts.{state_lines}
use Rattle.picture_rules.specs.Seats.{seat_lines}
use Rattle.picture_rules.specs.Words.{Line, Word, thing_word}
use Rattle.picture_laws.specs.Sums.{AreCounts, SumsAreCounts, amounts, count_in, said_by, sums_in, times}
use Rattle.picture_laws.proofs.Amounts.{nothing_said}
use Rattle.picture_laws.proofs.CountsFit.{seat_fits}
use Rattle.picture_laws.proofs.SeatSums.{SeatFits, no_counts, seat_counts, seat_decs, seat_held, seat_incs, seat_loads}
use Rattle.picture_laws.proofs.Silent.{detector_off, report_off, silent, token_off}
use Rattle.picture_laws.proofs.Totals.{ActorsAlone, by_numbers, counts_add, one_alone, over_actors, said_adds}

said_alone : (w : Word) (f : List Word → ℕ) (s : State) → bytes_eq (codes "detector") w ≡ false → bytes_eq (codes "report") w ≡ false
    → bytes_eq (codes "token") w ≡ false → bytes_eq (codes "member") w ≡ false → ActorsAlone (said_by w f) s
said_alone w f s detector report token member = record {
  detector = silent w (λ line. f (drop 1 line)) (detector_lines s.detector) (detector_off w detector s.detector);
  reports = λ r. silent w (λ line. f (drop 1 line)) (report_lines r) (report_off w report r);
  tokens = λ t. silent w (λ line. f (drop 1 line)) (token_lines t) (token_off w token member t);
}

counts_alone : (x : Thing) (s : State) → ActorsAlone (count_in (thing_word x)) s
counts_alone x s = record {
  detector = no_counts x (detector_lines s.detector) (detector_off (codes "actor") refl s.detector);
  reports = λ r. no_counts x (report_lines r) (report_off (codes "actor") refl r);
  tokens = λ t. no_counts x (token_lines t) (token_off (codes "actor") refl refl t);
}

-- all seats have numbers of 64 bits
abbrev AllFit : State → Type 0
AllFit s = (a : ℕ) (c : Cell) (mail : List Letter) → seat_at s.actors a ≡ seat c mail → SeatFits a c mail

module _ (s : State) (x : Thing) (fits : AllFit s) (own : LettersNameTheirOwn s.actors) where
  abbrev texts : List (List ℕ)
  texts = s.program.names

  abbrev lines_at : ℕ → Option Seat → List Line
  lines_at a o = seat_lines texts a o

  -- ---- one actor

  incs_said : (a : ℕ) (o : Option Seat) → seat_at s.actors a ≡ o → said_by (codes "inc") (amounts (thing_word x)) (lines_at a o) ≡ incs_at x o
  incs_said a None at = sym (incs_at-none x)
  incs_said a (Some o) at = seat_incs x texts a o.cell o.mail (fits a o.cell o.mail at) ∙ sym (incs_at-seat x o.cell o.mail)

  decs_said : (a : ℕ) (o : Option Seat) → seat_at s.actors a ≡ o → said_by (codes "dec") (amounts (thing_word x)) (lines_at a o) ≡ decs_at x o
  decs_said a None at = sym (decs_at-none x)
  decs_said a (Some o) at = seat_decs x texts a o.cell o.mail (fits a o.cell o.mail at) ∙ sym (decs_at-seat x o.cell o.mail)

  held_said : (a : ℕ) (o : Option Seat) → seat_at s.actors a ≡ o → said_by (codes "holds") (amounts (thing_word x)) (lines_at a o) ≡ held_at x o
  held_said a None at = sym (held_at-none x)
  held_said a (Some o) at = seat_held x texts a o.cell o.mail (fits a o.cell o.mail at) ∙ sym (held_at-seat x o.cell o.mail)

  loads_said : (a : ℕ) (o : Option Seat) → seat_at s.actors a ≡ o → said_by (codes "loads") (times (thing_word x)) (lines_at a o) ≡ loads_at x o
  loads_said a None at = sym (loads_at-none x)
  loads_said a (Some o) at = seat_loads x texts a o.cell o.mail (fits a o.cell o.mail at) ∙ sym (loads_at-seat x o.cell o.mail)

  abbrev own_of : ℕ → Option Seat → ℕ
  own_of a o = if owner_of x == a then own_at x o else 0

  own_said : (a : ℕ) (o : Option Seat) → seat_at s.actors a ≡ o → count_in (thing_word x) (lines_at a o) ≡ own_of a o
  own_said a None at =
      sym (nothing_said (owner_of x == a)) ∙ ap (λ n. if owner_of x == a then n else 0) (sym (own_at-none x))
  own_said a (Some o) at =
      seat_counts x texts a o.cell o.mail (fits a o.cell o.mail at)
      ∙ ap (λ n. if owner_of x == a then n else 0) (sym (own_at-seat x o.cell o.mail))

  -- ---- of others nothing is said

  incs_none : (a : ℕ) (o : Option Seat) → seat_at s.actors a ≡ o → a ≢ owner_of x → incs_at x o ≡ 0
  incs_none a None at other = incs_at-none x
  incs_none a (Some o) at other = elim (cases_lt 0 (sum_by (inc_of x) o.mail)) [
    | inl some ↦ absurd (other (sym (incs_own a o.mail (own a o.cell o.mail at) x some)))
    | inr none ↦ omega (arith, none, incs_at-seat x o.cell o.mail)
  ]

  decs_none : (a : ℕ) (o : Option Seat) → seat_at s.actors a ≡ o → a ≢ owner_of x → decs_at x o ≡ 0
  decs_none a None at other = decs_at-none x
  decs_none a (Some o) at other = elim (cases_lt 0 (sum_by (dec_of x) o.mail)) [
    | inl some ↦ absurd (other (sym (decs_own a o.mail (own a o.cell o.mail at) x some)))
    | inr none ↦ omega (arith, none, decs_at-seat x o.cell o.mail)
  ]

  -- what an actor that was not made has is nothing
  past_none : (k : Option Seat → ℕ) → k None ≡ 0 → length s.actors ≤ owner_of x → k (seat_at s.actors (owner_of x)) ≡ 0
  past_none k none past = ap k (get_or_past s.actors (owner_of x) None past) ∙ none

  own_other : (a : ℕ) → a ≢ owner_of x → own_of a (seat_at s.actors a) ≡ 0
  own_other a other = ap (λ (b : Bool). if b then own_at x (seat_at s.actors a) else 0) (ne_eqb (owner_of x) a (λ e. other (sym e)))

  own_here : own_of (owner_of x) (seat_at s.actors (owner_of x)) ≡ own_at x (seat_at s.actors (owner_of x))
  own_here = ap (λ (b : Bool). if b then own_at x (seat_at s.actors (owner_of x)) else 0) (eq-eqb (owner_of x) (owner_of x) refl)

  -- ---- all

  pub are_counts : AreCounts s.actors (sums_in (state_lines s) x)
  are_counts =
      let me = owner_of x in
      let made = length s.actors in
      record {
        count =
            over_actors (count_in (thing_word x)) s (λ a. own_of a (seat_at s.actors a)) (counts_add (thing_word x)) (counts_alone x s)
            (λ a. own_said a (seat_at s.actors a) refl)
            ∙ one_alone (λ a. own_of a (seat_at s.actors a)) me own_other made
            (λ past. own_here ∙ past_none (own_at x) (own_at-none x) past)
            ∙ own_here;
        inc =
            over_actors (said_by (codes "inc") (amounts (thing_word x))) s (λ a. incs_at x (seat_at s.actors a))
            (said_adds (codes "inc") (amounts (thing_word x))) (said_alone (codes "inc") (amounts (thing_word x)) s refl refl refl refl)
            (λ a. incs_said a (seat_at s.actors a) refl)
            ∙ one_alone (λ a. incs_at x (seat_at s.actors a)) me (λ a. incs_none a (seat_at s.actors a) refl) made
            (past_none (incs_at x) (incs_at-none x));
        dec =
            over_actors (said_by (codes "dec") (amounts (thing_word x))) s (λ a. decs_at x (seat_at s.actors a))
            (said_adds (codes "dec") (amounts (thing_word x))) (said_alone (codes "dec") (amounts (thing_word x)) s refl refl refl refl)
            (λ a. decs_said a (seat_at s.actors a) refl)
            ∙ one_alone (λ a. decs_at x (seat_at s.actors a)) me (λ a. decs_none a (seat_at s.actors a) refl) made
            (past_none (decs_at x) (decs_at-none x));
        held =
            over_actors (said_by (codes "holds") (amounts (thing_word x))) s (λ a. held_at x (seat_at s.actors a))
            (said_adds (codes "holds") (amounts (thing_word x))) (said_alone (codes "holds") (amounts (thing_word x)) s refl refl refl refl)
            (λ a. held_said a (seat_at s.actors a) refl)
            ∙ by_numbers (held_at x) s.actors None;
        letters =
            over_actors (said_by (codes "loads") (times (thing_word x))) s (λ a. loads_at x (seat_at s.actors a))
            (said_adds (codes "loads") (times (thing_word x))) (said_alone (codes "loads") (times (thing_word x)) s refl refl refl refl)
            (λ a. loads_said a (seat_at s.actors a) refl)
            ∙ by_numbers (loads_at x) s.actors None;
      }

pub sums_are_counts : SumsAreCounts
sums_are_counts program options book s well short x =
    are_counts s x (seat_fits program options book s well short) (runs_name_own program options book s short.run)
