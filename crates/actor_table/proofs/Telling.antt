-- What is told where one place of the table changes.
use Rattle.std.proofs.Common.{◌≡◌, ◌⊎◌, inl, inr, ⊎_elim, ℕ, zero, suc, ◌<◌, ◌==◌, Bool, true, false, List, [], ◌∷◌, ◌++◌, length, get_or, set, refl, sym, subst, arith, Some, drop, slice_get}
use Rattle.std.proofs.lemmas.Bool.{eqb-false, eqb-true}
use Rattle.std.proofs.lemmas.Grind.{get_or-set_at}
use Rattle.std.proofs.lemmas.List.{get_or-set_other}
use Rattle.std.proofs.lemmas.Option.{get_or_from_slice_get}
use Rattle.orca_names.specs.declared.names.ObjName.{ObjName}
use Rattle.orca_names.specs.declared.names.Thing.{Thing}
use Rattle.row_store.specs.Told.{Lying}
use Rattle.letter_kinds.specs.Holdings.{Row}
use Rattle.letter_kinds.specs.Telling.{Brought, Telling, TellsNothing, TellsOnly, Told, ToldByOne, all_brought, nothing_brought}
use Rattle.letter_kinds.proofs.Telling.{tells_same}
use Rattle.mail_rows.specs.Mail.{Mail}
use Rattle.actor_cell.specs.declared.cell.Cell.{Cell}
use Rattle.actor_cell.specs.Tells.{Tells}
use Rattle.actor_table.specs.declared.slot.Slot.{Slot}
use Rattle.actor_table.specs.declared.slot.Place.TheVariants.{Gone, Home}
use Rattle.actor_table.specs.Slots.{gone, slot_at}
use Rattle.actor_table.specs.Telling.{PlaceTells, SlotTells, TableTells, TellsWith}
use Rattle.actor_table.proofs.Changing.{place_read}

-- the place of an actor becomes x: it tells what the place told before, and perhaps more
pub place_tells : (slots : List Slot) (a : ℕ) (x : Slot) (more : List (Thing × Lying)) → a < length slots
    → TellsOnly (SlotTells (slot_at slots a)) more (SlotTells x) → TellsOnly (TableTells slots) more (TableTells (set slots a x))
place_tells slots a x more within only n row block (b, told) = by (b == a) refl
  where
    by : (t : Bool) → (b == a) ≡ t → TableTells slots n row block ⊎ Told more n row block
    by true is = ⊎_elim (λ before. inl (a, before)) inr
        (only n row block (subst (λ z. SlotTells z n row block) (get_or-set_at slots a b x gone (eqb-true b a is) within) told))
    by false is = inl (b, subst (λ z. SlotTells z n row block) (get_or-set_other slots a b x gone (eqb-false b a is)) told)

-- as the type keeps the table
pub place_tells_in : (slots : List Slot) (a : ℕ) (x y : Slot) (more : List (Thing × Lying)) → a < length slots → y ≡ get_or slots a y
    → TellsOnly (SlotTells y) more (SlotTells x) → TellsOnly (TableTells slots) more (TableTells (set slots a x))
place_tells_in slots a x y more within read only =
    place_tells slots a x more within (subst (λ (z : Slot). TellsOnly (SlotTells z) more (SlotTells x)) (sym (place_read slots a y within read)) only)

-- cell and letters are as before
pub slot_same : (x y : Slot) (more : List (Thing × Lying)) → x.place ≡ y.place → x.mail.brought ≡ y.mail.brought → TellsOnly (SlotTells y) more (SlotTells x)
slot_same x y more place brought n row block (inl told) = inl (inl (subst (λ p. PlaceTells p n row block) place told))
slot_same x y more place brought n row block (inr told) = inl (inr (subst (λ l. ToldByOne l n row block) brought told))

-- nobody tells anything at a place that no actor has
gone_untold : (n : ObjName) (row : Row) (block : ℕ) → SlotTells gone n row block → ⊥
gone_untold n row block (inl told) = told
gone_untold n row block (inr (zero, told)) = omega (arith, told.1)
gone_untold n row block (inr (suc i, told)) = omega (arith, told.1)

-- one letter more waits
told_pushed : (letters : List Brought) (b : Brought) (n : ObjName) (row : Row) (block : ℕ)
    → ToldByOne (letters ++ b ∷ []) n row block → ToldByOne letters n row block ⊎ Told (all_brought b) n row block
told_pushed [] b n row block (zero, told) = inr told
told_pushed [] b n row block (suc i, told) = absurd (omega (arith, told.1))
told_pushed (l ∷ letters) b n row block (zero, told) = inl (zero, told)
told_pushed (l ∷ letters) b n row block (suc i, told) =
    ⊎_elim (λ before. inl (suc before.0, before.1)) inr (told_pushed letters b n row block (i, told))

pub slot_pushed : (x y : Slot) (b : Brought) → x.place ≡ y.place → x.mail.brought ≡ y.mail.brought ++ b ∷ []
    → TellsOnly (SlotTells y) (all_brought b) (SlotTells x)
slot_pushed x y b place brought n row block (inl told) = inl (inl (subst (λ p. PlaceTells p n row block) place told))
slot_pushed x y b place brought n row block (inr told) =
    ⊎_elim (λ before. inl (inr before)) inr (told_pushed y.mail.brought b n row block (subst (λ l. ToldByOne l n row block) brought told))

-- its cell comes back
pub slot_back : (x y : Slot) (c : Cell) → x.place ≡ Home c → x.mail ≡ y.mail → TellsOnly (PlaceTells y.place) [] (Tells c)
    → TellsOnly (SlotTells y) [] (SlotTells x)
slot_back x y c place mail only n row block (inl told) =
    ⊎_elim (λ before. inl (inl before)) inr (only n row block (subst (λ p. PlaceTells p n row block) place told))
slot_back x y c place mail only n row block (inr told) = inl (inr (subst (λ (m : Mail). ToldByOne m.brought n row block) mail told))

-- it goes
pub slot_cleared : (x y : Slot) → x.place ≡ Gone → x.mail.brought ≡ [] → TellsOnly (SlotTells y) [] (SlotTells x)
slot_cleared x y place none n row block (inl told) = absurd (subst (λ p. PlaceTells p n row block) place told)
slot_cleared x y place none n row block (inr told) = absurd (gone_untold n row block (inr (subst (λ l. ToldByOne l n row block) none told)))

-- more may be told
pub tells_more : (old new : Telling) (more : List (Thing × Lying)) → TellsOnly old [] new → TellsOnly old more new
tells_more old new more only n row block told = ⊎_elim inl (λ none. absurd (omega (arith, none.1))) (only n row block told)

-- the same table
pub still_told : (slots : List Slot) → TellsOnly (TableTells slots) [] (TableTells slots)
still_told slots = tells_same (TableTells slots) []

-- one actor more, who tells nothing
pub place_added : (slots : List Slot) (x : Slot) → TellsNothing (SlotTells x) → TellsOnly (TableTells slots) [] (TableTells (slots ++ x ∷ []))
place_added [] x nothing n row block (zero, told) = absurd (nothing n row block told)
place_added [] x nothing n row block (suc b, told) = absurd (gone_untold n row block told)
place_added (y ∷ slots) x nothing n row block (zero, told) = inl (zero, told)
place_added (y ∷ slots) x nothing n row block (suc b, told) =
    ⊎_elim (λ before. inl (suc before.0, before.1)) inr (place_added slots x nothing n row block (b, told))

-- as does one that was just made
pub fresh_untold : (c : Cell) (mail : Mail) → TellsNothing (Tells c) → mail.brought ≡ [] → TellsNothing (SlotTells (record { place = Home c; mail = mail }))
fresh_untold c mail nothing none n row block (inl told) = nothing n row block told
fresh_untold c mail nothing none n row block (inr told) = gone_untold n row block (inr (subst (λ l. ToldByOne l n row block) none told))

-- what a cell tells more it tells with the letters that wait
pub with_told : (c d : Cell) (letters : List Brought) (more : List (Thing × Lying)) → TellsOnly (Tells c) more (Tells d) → TellsOnly (TellsWith c letters) more (TellsWith d letters)
with_told c d letters more only n row block (inl told) = ⊎_elim (λ before. inl (inl before)) inr (only n row block told)
with_told c d letters more only n row block (inr told) = inl (inr told)

-- with those behind the first, which it took
pub with_taken : (c d : Cell) (letters : List Brought) (b : Brought) → slice_get letters 0 ≡ Some b → TellsOnly (Tells c) (all_brought b) (Tells d)
    → TellsOnly (TellsWith c letters) [] (TellsWith d (drop 1 letters))
with_taken c d letters b first only n row block (inl told) = ⊎_elim
    (λ before. inl (inl before))
    (λ its. inl (inr (0, subst (λ (l : Brought). Told (all_brought l) n row block) (sym (get_or_from_slice_get letters 0 b nothing_brought first)) its)))
    (only n row block told)
with_taken c d [] b first only n row block (inr told) = cc
with_taken c d (l ∷ letters) b first only n row block (inr (i, told)) = inl (inr (suc i, told))
