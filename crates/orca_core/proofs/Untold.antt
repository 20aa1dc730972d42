-- What is told of rows in blocks where the machine starts, and where a cell or letters are shown.
use denote.Ref.{Bor}
use Rattle.std.proofs.Common.{◌≡◌, ◌<◌, ℕ, zero, suc, List, [], ◌∷◌, ◌++◌, length, slice_get, Option, None, Some, inl, inr, IfSome, ap, subst, sym, ◌∙◌, arith}
use Rattle.std.specs.Option.{option_copied}
use Rattle.std.proofs.lemmas.List.{length-replicate}
use Rattle.orca_names.specs.declared.names.ObjName.{ObjName}
use Rattle.orca_names.specs.declared.trace.Trace.{Trace}
use Rattle.orca_names.specs.declared.trace.Trace.TheVariants.{Deep}
use Rattle.block_table.specs.Blocks.{Blocks, free_blocks}
use Rattle.letter_kinds.specs.Telling.{TellsNothing, ToldByOne}
use Rattle.actor_cell.specs.declared.cell.Cell.{Cell}
use Rattle.actor_cell.specs.Tells.{AllIn, Tells}
use Rattle.mail_rows.specs.Mail.{Mail}
use Rattle.actor_table.specs.declared.slot.Place.{Place}
use Rattle.actor_table.specs.declared.slot.Place.TheVariants.{Away, Gone, Home}
use Rattle.actor_table.specs.declared.slot.Slot.{Slot}
use Rattle.actor_table.specs.Slots.{home_of, mail_in, mail_of, slot_at}
use Rattle.actor_table.specs.Telling.{PlaceLies, PlaceTells, SlotTells, TableLies, TableTells}
use Rattle.orca_parts.specs.Blocks.{AreKept, BlocksFit}
use Rattle.orca_parts.proofs.Homes.{home_is}

-- the cell of an actor at home tells of the objects that have the blocks
home_kept : (blocks : Blocks) (slots : List Slot) (a : ℕ) (c : Cell) → AreKept blocks (TableTells slots) → (slot_at slots a).place ≡ Home c → AreKept blocks (Tells c)
home_kept blocks slots a c kept home n row block told = kept n row block (a, inl (subst (λ p. PlaceTells p n row block) (sym home) told))

pub lent_kept : (blocks : Blocks) (slots : List Slot) (a : ℕ) (lent : Option Cell) → AreKept blocks (TableTells slots) → lent ≡ home_of (slot_at slots a)
    → IfSome lent (λ c. AreKept blocks (Tells c))
lent_kept blocks slots a None kept is = tt
lent_kept blocks slots a (Some c) kept is = home_kept blocks slots a c kept (home_is (slot_at slots a) c is)

-- and has its own rows there
pub lent_lies : (slots : List Slot) (a : ℕ) (lent : Option Cell) → TableLies slots → lent ≡ home_of (slot_at slots a) → IfSome lent (λ c. AllIn c.heap)
lent_lies slots a None lies is = tt
lent_lies slots a (Some c) lies is = subst PlaceLies (home_is (slot_at slots a) c is) (lies a)

pub seen_kept : (blocks : Blocks) (slots : List Slot) (a : ℕ) (seen : Option (Bor Cell)) → AreKept blocks (TableTells slots) → option_copied seen ≡ home_of (slot_at slots a)
    → IfSome seen (λ c. AreKept blocks (Tells c.now))
seen_kept blocks slots a None kept is = tt
seen_kept blocks slots a (Some c) kept is = home_kept blocks slots a c.now kept (home_is (slot_at slots a) c.now is)

-- one actor who tells of none
pub first_untold : (slots new : List Slot) (x : Slot) → slots ≡ [] → new ≡ slots ++ x ∷ [] → TellsNothing (SlotTells x) → TellsNothing (TableTells new)
first_untold slots new x none is nothing =
    subst (λ xs. TellsNothing (TableTells xs)) (sym (is ∙ ap (λ xs. xs ++ x ∷ []) none)) one_untold
  where
    one_untold : TellsNothing (TableTells (x ∷ []))
    one_untold n row block (zero, told) = nothing n row block told
    one_untold n row block (suc b, inl told) = told
    one_untold n row block (suc b, inr (zero, told)) = omega (arith, told.1)
    one_untold n row block (suc b, inr (suc i, told)) = omega (arith, told.1)

-- where there is none each own row lies in a block
pub none_lies : (slots : List Slot) → slots ≡ [] → TableLies slots
none_lies slots none = subst TableLies (sym none) (λ a. tt)

-- a cell and letters that tell of none
pub both_untold : (c : Cell) (mail : Mail) → TellsNothing (Tells c) → TellsNothing (ToldByOne mail.brought) → TellsNothing (SlotTells (record { place = Home c; mail = mail }))
both_untold c mail one other n row block (inl told) = one n row block told
both_untold c mail one other n row block (inr told) = other n row block told

-- a letter that waits tells of the objects that have the blocks too
pub mail_kept : (blocks : Blocks) (slots : List Slot) (a : ℕ) (seen : Option (Bor Mail)) → AreKept blocks (TableTells slots) → option_copied seen ≡ mail_of (slot_at slots a)
    → IfSome seen (λ m. AreKept blocks (ToldByOne m.now.brought))
mail_kept blocks slots a None kept is = tt
mail_kept blocks slots a (Some m) kept is = λ n row block told.
    kept n row block (a, inr (subst (λ (x : Mail). ToldByOne x.brought n row block) (its (slot_at slots a).place is) told))
  where
    its : (p : Place) → Some m.now ≡ mail_in p (slot_at slots a).mail → m.now ≡ (slot_at slots a).mail
    its (Home c) is = cc
    its (Away c) is = cc
    its Gone is = cc

-- ---- the start: rows of no object lie in blocks that are free

none_used : (count k : ℕ) (n : ObjName) → slice_get (free_blocks count) k ≡ Some (Some n) → ⊥
none_used zero k n e = cc
none_used (suc count) zero n e = cc
none_used (suc count) (suc k) n e = none_used count k n e

pub start_fits : (trace : Trace) (blocks : Blocks) (count : ℕ) (slots : List Slot) → blocks ≡ free_blocks count → (0 < count → trace ≡ Deep) → TellsNothing (TableTells slots) → TableLies slots
    → BlocksFit trace blocks slots
start_fits trace blocks count slots free deep nothing lies = record {
  deep = λ some. deep (subst (λ n. 0 < n) (ap (λ (bs : Blocks). length bs) free ∙ length-replicate count None) some);
  lie = λ some. lies;
  kept = λ n row block told. absurd (nothing n row block told);
  left = λ k n has. absurd (none_used count k n (ap (λ bs. slice_get bs k) (sym free) ∙ has));
  once = λ j k n one two. absurd (none_used count j n (ap (λ bs. slice_get bs j) (sym free) ∙ one));
}
