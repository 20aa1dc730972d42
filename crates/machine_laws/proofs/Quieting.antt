-- Where no event is enabled, the detector's laws see a quiet world, and each actor that is present is reached.
use Rattle.std.proofs.Common.{◌≡◌, ℕ, ◌==◌, Bool, true, false, cond, Option, Some, None, List, [], ◌∷◌, find, refl, ap, sym, subst, ◌∙◌, ⊎_elim, eq-eqb, Contains}
use Rattle.std.specs.Prelude.{sum_by}
use Rattle.std.proofs.lemmas.Bool.{false_from_ne_true, false≢true}
use Rattle.orca_names.specs.declared.names.Thing.{Thing}
use Rattle.orca_names.specs.declared.names.Thing.TheVariants.{Actor}
use Rattle.event_rule.specs.declared.event.Event.TheVariants.{Hear, Scan, Reap}
use Rattle.letter_kinds.proofs.Sums.{sum-nil, sum-zero}
use Rattle.letter_kinds.specs.Detector.{Token}
use Rattle.letter_kinds.specs.Holdings.{Row}
use Rattle.letter_kinds.specs.Sums.{load_count}
use Rattle.letter_kinds.specs.Letters.{Letter}
use Rattle.machine_rules.proofs.Rest.{is_nil, none_can, quiet_rest, quiet_told}
use Rattle.count_laws.proofs.balance.SeatReads.{loads_at-none, loads_at-seat}
use Rattle.orca_names.specs.declared.trace.Trace.{Trace}
use Rattle.machine_rules.specs.Actors.{Seat, cell_at, cell_of, letters_of, mail_at, seat, seat_at, Every}
use Rattle.count_laws.specs.Agreement.{Person}
use Rattle.machine_rules.specs.Balance.{loads_at}
use Rattle.machine_rules.specs.Cell.{Cell}
use Rattle.count_laws.specs.Clean.{HoldsNoOwnAt}
use Rattle.count_laws.specs.Facts.{KeepsCounts}
use Rattle.event_rule.specs.Runs.{IsQuiet}
use Rattle.machine_rules.specs.Next.{IsAtRest, next}
use Rattle.machine_rules.specs.State.{State}
use Rattle.detector_laws.proofs.Members.{first_or_later, none_in_empty}
use Rattle.detector_laws.proofs.Cells.{some_not_none}
use Rattle.detector_laws.proofs.Named.{numbered_is_open}
use Rattle.detector_laws.proofs.Quiet.{quiet_all_reached}
use Rattle.detector_laws.specs.Quiet as view
use Rattle.detector_laws.specs.World.{FactsHold}
use Rattle.machine_laws.proofs.Balancing.{balanced}
use Rattle.machine_laws.proofs.Seen.{world}
use Rattle.machine_rules.proofs.Guards.{acked_is}

module _ (s : State) (quiet : IsQuiet next s) where
  in_world : (a : ℕ) (P : Cell → List Letter → Type 0) → ((c : Cell) (mail : List Letter) → seat_at s.actors a ≡ seat c mail → P c mail) → (c : Cell) → cell_at s.actors a ≡ Some c → P c (mail_at s.actors a)
  in_world a P each c here = at_seat (seat_at s.actors a) refl here
    where
      at_seat : (o : Option Seat) → seat_at s.actors a ≡ o → cell_of o ≡ Some c → P c (letters_of o)
      at_seat None at here = absurd (some_not_none here refl)
      at_seat (Some o) at here = let same : o.cell ≡ c = cc in subst (λ c. P c o.mail) same (each o.cell o.mail at)

  no_loads : (x : Thing) (a : ℕ) (o : Option Seat) → seat_at s.actors a ≡ o → loads_at x o ≡ 0
  no_loads x a None at = loads_at-none x
  no_loads x a (Some o) at = loads_at-seat x o.cell o.mail ∙ subst (λ ls. ◌≡◌ {A = ℕ} (sum_by (load_count x) ls) 0) (sym (quiet_rest s quiet a o.cell o.mail at).empty) (sum-nil (load_count x))

-- an open token is found by its number
abbrev Found : Token → List Token → Type 0
Found t ts = (u : Token) × (find (λ (v : Token). v.number == t.number) ts ≡ Some u)

find_first : (v t : Token) (ts : List Token) → (Contains ts t → Found t ts) → (q : Bool) → (v.number == t.number) ≡ q → Contains (v ∷ ts) t
    → (u : Token) × (cond q (Some v) (find (λ (v : Token). v.number == t.number) ts) ≡ Some u)
find_first v t ts later true e i = (v, refl)
find_first v t ts later false e i = ⊎_elim
    (λ same. absurd (false≢true (sym e ∙ eq-eqb v.number t.number (ap (λ (w : Token). w.number) (sym same)))))
    (λ j. later j)
    (first_or_later v ts t i)

find_some : (ts : List Token) (t : Token) → Contains ts t → Found t ts
find_some [] t i = absurd (none_in_empty t i)
find_some (v ∷ ts) t i = find_first v t ts (find_some ts t) (v.number == t.number) refl i

pub quiet_world : (s : State) → IsQuiet next s → FactsHold (world s) → view.IsQuiet (world s)
quiet_world s quiet facts = record {
  heard = is_nil s.notes (none_can s quiet Hear);
  scanned = false_from_ne_true s.detector.news (none_can s quiet Scan);
  unacked = λ t i acked.
      let found = find_some s.detector.tokens t i in
      let open_found = numbered_is_open s.detector t.number found.0 found.1 in
      let same : found.0 ≡ t = facts.tokens.unique found.0 t open_found.0 i open_found.1 in
      none_can s quiet (Reap t.number) (t, acked_is t.number s.detector t (found.1 ∙ ap (λ (u : Token). Some u) same) acked);
  unloaded = λ a. sum-zero (loads_at (Actor a)) s.actors None (λ b. no_loads s quiet (Actor a) b (seat_at s.actors b) refl);
  rest = λ a. in_world s quiet a IsAtRest (quiet_rest s quiet a);
  told = λ a. in_world s quiet a (λ c mail. c.fields.pinned ≡ false → c.reported ≡ true) (quiet_told s quiet a);
}

pub quiet_reached : (trace : Trace) (s : State) (all : Thing → Option Row) (people : List Person) → KeepsCounts trace all people s.actors → Every HoldsNoOwnAt s.actors → FactsHold (world s) → IsQuiet next s
    → (a : ℕ) (c : Cell) → cell_at s.actors a ≡ Some c → view.IsReached (world s) a
quiet_reached trace s all people keeps own facts quiet =
    quiet_all_reached (world s) (quiet_world s quiet facts) facts.reports facts.tokens facts.news (balanced s.actors s.detector s.notes keeps.balanced own) facts.rising
