-- That own rows stay in blocks where one place of the table changes.
use Rattle.std.proofs.Common.{◌≡◌, ℕ, zero, suc, ◌<◌, ◌==◌, Bool, true, false, List, [], ◌∷◌, ◌++◌, length, get_or, set, refl, sym, subst}
use Rattle.std.proofs.lemmas.Bool.{eqb-false, eqb-true}
use Rattle.std.proofs.lemmas.Grind.{get_or-set_at}
use Rattle.std.proofs.lemmas.List.{get_or-set_other}
use Rattle.actor_table.specs.declared.slot.Slot.{Slot}
use Rattle.actor_table.specs.Slots.{gone, slot_at}
use Rattle.actor_table.specs.Telling.{PlaceLies, TableLies}
use Rattle.actor_table.proofs.Changing.{place_read}

-- the place of an actor becomes x
place_lies : (slots : List Slot) (a : ℕ) (x : Slot) → a < length slots → (PlaceLies (slot_at slots a).place → PlaceLies x.place)
    → TableLies slots → TableLies (set slots a x)
place_lies slots a x within stays all b = by (b == a) refl
  where
    by : (t : Bool) → (b == a) ≡ t → PlaceLies (slot_at (set slots a x) b).place
    by true is = subst (λ (z : Slot). PlaceLies z.place) (sym (get_or-set_at slots a b x gone (eqb-true b a is) within)) (stays (all a))
    by false is = subst (λ (z : Slot). PlaceLies z.place) (sym (get_or-set_other slots a b x gone (eqb-false b a is))) (all b)

-- as the type keeps the table
pub place_lies_in : (slots : List Slot) (a : ℕ) (x y : Slot) → a < length slots → y ≡ get_or slots a y → (PlaceLies y.place → PlaceLies x.place)
    → TableLies slots → TableLies (set slots a x)
place_lies_in slots a x y within read stays =
    place_lies slots a x within (subst (λ (z : Slot). PlaceLies z.place → PlaceLies x.place) (sym (place_read slots a y within read)) stays)

-- one actor more
pub lies_added : (slots : List Slot) (x : Slot) → PlaceLies x.place → TableLies slots → TableLies (slots ++ x ∷ [])
lies_added [] x its all zero = its
lies_added [] x its all (suc b) = tt
lies_added (y ∷ slots) x its all zero = all 0
lies_added (y ∷ slots) x its all (suc b) = lies_added slots x its (λ c. all (suc c)) b
