-- What the places tell: which things are left, and what is counted of each.
use Rattle.std.proofs.Common.{◌≡◌, ◌↔◌, ℕ, Bool, true, false, Option, Some, None, is_some, [], ◌∷◌, refl, ap, sym, ◌∙◌, arith}
use Rattle.std.specs.FinMap as m
use Rattle.std.specs.Cmp.{nat_cmp_total}
use Rattle.std.specs.Prelude.{sum_by}
use Rattle.std.proofs.lemmas.List.Sums.{sum_by-cons}
use Rattle.orca_names.specs.Names.{owner_of}
use Rattle.orca_names.specs.declared.names.Thing.{Thing}
use Rattle.orca_names.specs.declared.names.Thing.TheVariants.{Actor, Obj}
use Rattle.letter_kinds.proofs.Sums.{sum-nil}
use Rattle.letter_kinds.specs.Holdings.{Holdings, has_own, nothing_held, own_in, row_count}
use Rattle.letter_kinds.specs.Sums.{dec_of, inc_of, load_count}
use Rattle.letter_kinds.specs.Letters.{Letter}
use Rattle.machine_examples.proofs.Brought.{brought_map}
use Rattle.machine_examples.proofs.Ledgers.{Ledger, held_in-told, held_told, own_entry, told}
use Rattle.machine_examples.proofs.Places.{Place, Places, place_at, seat_at-told, seat_told, seats_told}
use Rattle.machine_rules.specs.Actors.{Seat}
use Rattle.machine_rules.specs.Balance.{decs_at, held_at, incs_at, loads_at, own_at}
use Rattle.machine_rules.specs.Left.{IsLeft}
use Rattle.machine_examples.specs.RootsExamples.{Tally, tally_of}

-- ---- what is left

abbrev has_told : Thing → Ledger → Bool
has_told (Actor a) l = true
has_told (Obj n) l = is_some (own_entry l n.serial)

has-told : (x : Thing) (l : Ledger) → has_own (told l) x ≡ has_told x l
unfolding has_own
has-told (Actor a) l = refl
has-told (Obj n) l = ap is_some (m.get-from_entries nat_cmp_total l.rows n.serial)

abbrev there_told : Thing → Option Place → Bool
there_told x None = false
there_told x (Some o) = has_told x o.ledger

abbrev pub is_left_told : Places → Thing → Bool
is_left_told places x = there_told x (place_at places (owner_of x))

pub left-told : (places : Places) (x : Thing) → IsLeft (seats_told places) x ↔ is_left_told places x ≡ true
left-told places x = (
  λ left. from_seat (place_at places (owner_of x)) left.seat (sym (seat_at-told places (owner_of x)) ∙ left.present) left.kept,
  to_seat (place_at places (owner_of x)) refl,
)
  where
    from_seat : (o : Option Place) (s : Seat) → seat_told o ≡ Some s → has_own s.cell.holdings x ≡ true → there_told x o ≡ true
    from_seat None s is kept = cc
    from_seat (Some o) s is kept =
        let same : has_own (told o.ledger) x ≡ has_own s.cell.holdings x = ap (λ (q : Option Seat). has_own (held q) x) is in
        sym (has-told x o.ledger) ∙ same ∙ kept
      where
        held : Option Seat → Holdings
        held None = nothing_held 0
        held (Some q) = q.cell.holdings

    to_seat : (o : Option Place) → place_at places (owner_of x) ≡ o → there_told x o ≡ true → IsLeft (seats_told places) x
    to_seat None is there = cc
    to_seat (Some o) is there = record {
      seat = record { cell = record o.cell { holdings = told o.ledger; known = brought_map o.known }; mail = o.mail };
      present = seat_at-told places (owner_of x) ∙ ap seat_told is;
      kept = has-told x o.ledger ∙ there;
    }

-- ---- what is counted

abbrev own_told : Thing → Ledger → ℕ
own_told (Actor a) l = l.count
own_told (Obj n) l = row_count (own_entry l n.serial)

own-told : (x : Thing) (l : Ledger) → own_in (told l) x ≡ own_told x l
unfolding own_in
own-told (Actor a) l = refl
own-told (Obj n) l = ap row_count (m.get-from_entries nat_cmp_total l.rows n.serial)

abbrev own_there : Thing → Option Place → ℕ
own_there x None = 0
own_there x (Some o) = own_told x o.ledger

own-there : (x : Thing) (o : Option Place) → own_at x (seat_told o) ≡ own_there x o
unfolding own_at
own-there x None = refl
own-there x (Some o) = own-told x o.ledger

abbrev held_there : Thing → Option Place → ℕ
held_there x None = 0
held_there x (Some o) = held_told o.ledger x

held-there : (x : Thing) (o : Option Place) → held_at x (seat_told o) ≡ held_there x o
unfolding held_at
held-there x None = refl
held-there x (Some o) = held_in-told o.ledger x

-- what its letters say
abbrev mail_there : (Letter → ℕ) → Option Place → ℕ
mail_there says None = 0
mail_there says (Some o) = sum_by says o.mail

incs-there : (x : Thing) (o : Option Place) → incs_at x (seat_told o) ≡ mail_there (inc_of x) o
unfolding incs_at
incs-there x None = refl
incs-there x (Some o) = refl

decs-there : (x : Thing) (o : Option Place) → decs_at x (seat_told o) ≡ mail_there (dec_of x) o
unfolding decs_at
decs-there x None = refl
decs-there x (Some o) = refl

loads-there : (x : Thing) (o : Option Place) → loads_at x (seat_told o) ≡ mail_there (load_count x) o
unfolding loads_at
loads-there x None = refl
loads-there x (Some o) = refl

-- of all
sum-told : (f : Option Seat → ℕ) (g : Option Place → ℕ) → ((o : Option Place) → f (seat_told o) ≡ g o) → (places : Places) → sum_by f (seats_told places) ≡ sum_by g places
sum-told f g same [] = sum-nil f ∙ sym (sum-nil g)
sum-told f g same (o ∷ places) = omega (arith, sum_by-cons f (seat_told o) (seats_told places), sum_by-cons g o places, same o, sum-told f g same places)

abbrev pub tally_told : Places → Thing → Tally
tally_told places x = record {
  count = own_there x (place_at places (owner_of x));
  incs = mail_there (inc_of x) (place_at places (owner_of x));
  decs = mail_there (dec_of x) (place_at places (owner_of x));
  held = sum_by (held_there x) places;
  letters = sum_by (mail_there (load_count x)) places;
}

pub tally-told : (places : Places) (x : Thing) → tally_of (seats_told places) x ≡ tally_told places x
tally-told places x =
    let seat = seat_at-told places (owner_of x) in
    λ i. record {
      count = (ap (own_at x) seat ∙ own-there x (place_at places (owner_of x))) i;
      incs = (ap (incs_at x) seat ∙ incs-there x (place_at places (owner_of x))) i;
      decs = (ap (decs_at x) seat ∙ decs-there x (place_at places (owner_of x))) i;
      held = sum-told (held_at x) (held_there x) (held-there x) places i;
      letters = sum-told (loads_at x) (mail_there (load_count x)) (loads-there x) places i;
    }
