-- Where cells are, and that whose cells are away stays so.
use Rattle.std.proofs.Common.{◌≡◌, ℕ, zero, suc, Bool, false, List, [], ◌∷◌, ◌++◌, length, get_or, set, Some, true, arith, inl, inr, refl, sym, ap, subst, ◌∙◌}
use Rattle.std.proofs.lemmas.Bool.{cases_eq, cases_lt}
use Rattle.std.proofs.lemmas.Bool.Decides.{nat_tests}
use Rattle.std.proofs.lemmas.List.{get_or-set_same, get_or-set_other, set_past}
use Rattle.std.proofs.Math.ListN.{get_or-map}
use Rattle.letter_kinds.specs.Detector.{has}
use Rattle.actor_table.specs.declared.slot.Slot.{Slot}
use Rattle.actor_cell.specs.declared.cell.Cell.{Cell}
use Rattle.actor_table.specs.declared.slot.Place.{Place}
use Rattle.actor_table.specs.declared.slot.Place.TheVariants.{Home, Away, Gone}
use Rattle.actor_table.specs.Slots.{away_of, gone, home_in, home_of, is_away, is_away_in, places_of, slot_at}
use Rattle.actor_table.proofs.Changing.{away_read}
use Rattle.orca_parts.specs.Away.{KeepsAway, is_out}
use Rattle.orca_parts.specs.Fits.{without_all}

pub place_read : (slots : List Slot) (a : ℕ) → get_or (places_of slots) a Gone ≡ (slot_at slots a).place
place_read slots a = get_or-map (λ (x : Slot). x.place) slots a gone

-- ---- one place

-- a cell that is lent of a place is at home there
pub home_place : (place : Place) (c : Cell) → home_in place ≡ Some c → place ≡ Home c
home_place (Home d) c is = ap Home (let z : Some d ≡ Some c = is in cc)
home_place (Away d) c is = cc
home_place Gone c is = cc

pub home_is : (x : Slot) (c : Cell) → Some c ≡ home_of x → x.place ≡ Home c
home_is x c lent = home_place x.place c (sym lent)

-- and not away
pub home_stays : (slots : List Slot) (a : ℕ) (c : Cell) → (slot_at slots a).place ≡ Home c → is_out (away_of slots) a ≡ false
home_stays slots a c home = away_read slots a ∙ ap is_away_in home

-- ---- the same cells are away

-- where one comes whose cell is at home
pub pushed_keeps : (slots : List Slot) (x : Slot) → is_away x ≡ false → KeepsAway (away_of slots) (away_of (slots ++ x ∷ []))
pushed_keeps [] x is zero = is
pushed_keeps [] x is (suc a) = refl
pushed_keeps (y ∷ slots) x is zero = refl
pushed_keeps (y ∷ slots) x is (suc a) = pushed_keeps slots x is a

-- where one goes whose cell is at home
pub without_keeps : (away : List Bool) (m : ℕ) → is_out away m ≡ false → KeepsAway away (set away m false)
without_keeps away m home b = elim (cases_lt m (length away)) as (λ _. is_out (set away m false) b ≡ is_out away b) [
  | inl h ↦ elim (cases_eq b m) as (λ _. is_out (set away m false) b ≡ is_out away b) [
    | inl same ↦ subst (λ c. is_out (set away m false) c ≡ is_out away c) (sym same) (get_or-set_same away m false false h ∙ sym home)
    | inr other ↦ get_or-set_other away m b false false other
  ]
  | inr past ↦ ap (λ xs. is_out xs b) (set_past away m false past)
]

-- where these go
pub without_all_keeps : (members : List ℕ) (away : List Bool) → ((m : ℕ) → has members m ≡ true → is_out away m ≡ false)
    → KeepsAway away (without_all members away)
without_all_keeps [] away home a = refl
without_all_keeps (m ∷ members) away home a =
    let first : is_out away m ≡ false = home m (has_first m members) in
    without_all_keeps members (set away m false) (λ n member. without_keeps away m first n ∙ home n (has_later m n members member)) a
    ∙ without_keeps away m first a
  where
    has_first : (m : ℕ) (members : List ℕ) → has (m ∷ members) m ≡ true
    has_first m members = grind (arith, nat_tests)

    has_later : (m n : ℕ) (members : List ℕ) → has members n ≡ true → has (m ∷ members) n ≡ true
    has_later m n members member = grind (arith, nat_tests)
