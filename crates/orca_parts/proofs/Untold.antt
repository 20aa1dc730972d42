-- Where nothing is told of rows in blocks.
use Rattle.std.proofs.Common.{◌≡◌, List, [], ℕ, inl, ⊎_elim, arith, subst, sym}
use Rattle.std.specs.Prelude.{OnOk}
use Rattle.std.specs.declared.result.Result.{Result}
use Rattle.std.specs.declared.result.Result.TheVariants.{Ok, Err}
use Rattle.row_store.specs.Words.{Words}
use Rattle.block_table.specs.Blocks.{Blocks}
use Rattle.event_rule.specs.declared.event.Event.{Event}
use Rattle.letter_kinds.specs.Telling.{HoldsTold, Telling, TellsNothing, TellsOnly, Told}
use Rattle.actor_cell.specs.declared.cell.Cell.{Cell}
use Rattle.actor_cell.specs.Tells.{Tells}
use Rattle.actor_table.specs.declared.slot.Place.TheVariants.{Home}
use Rattle.actor_table.specs.declared.slot.Slot.{Slot}
use Rattle.actor_table.specs.Slots.{slot_at}
use Rattle.actor_table.specs.Telling.{PlaceTells, TableTells}
use Rattle.orca_parts.specs.Blocks.{AreKept}
use Rattle.orca_parts.specs.Ready.{Lies, made_by, told_by}
use Rattle.orca_parts.specs.declared.insides.Core.{Core}

-- an actor at home tells nothing
pub home_untold : (slots : List Slot) (a : ℕ) (c : Cell) → TellsNothing (TableTells slots) → (slot_at slots a).place ≡ Home c → TellsNothing (Tells c)
home_untold slots a c nothing home n row block told = nothing n row block (a, inl (subst (λ p. PlaceTells p n row block) (sym home) told))

-- the words hold what an actor at home tells
pub home_holds : (known : Words) (slots : List Slot) (a : ℕ) (c : Cell) → HoldsTold known (TableTells slots) → (slot_at slots a).place ≡ Home c → HoldsTold known (Tells c)
home_holds known slots a c holds home n row block told = holds n row block (a, inl (subst (λ p. PlaceTells p n row block) (sym home) told))

-- and so what tells no more than that actor
pub found_holds : (known : Words) (slots : List Slot) (a : ℕ) (c : Cell) (told : Telling) → HoldsTold known (TableTells slots) → (slot_at slots a).place ≡ Home c
    → TellsOnly (Tells c) [] told → HoldsTold known told
found_holds known slots a c told holds home only n row block here = ⊎_elim
    (λ before. home_holds known slots a c holds home n row block before)
    (λ none. absurd (omega (arith, none.1)))
    (only n row block here)

-- and of rows in the blocks of their objects
pub found_kept : (blocks : Blocks) (slots : List Slot) (a : ℕ) (c : Cell) (told : Telling) → AreKept blocks (TableTells slots) → (slot_at slots a).place ≡ Home c
    → TellsOnly (Tells c) [] told → AreKept blocks told
found_kept blocks slots a c told kept home only n row block here = ⊎_elim
    (λ before. kept n row block (a, inl (subst (λ p. PlaceTells p n row block) (sym home) before)))
    (λ none. absurd (omega (arith, none.1)))
    (only n row block here)

pub none_ok : {X E : Type 0} (r : Result X E) (fault : E) (P : Type 0) → r ≡ Err fault → OnOk r P
none_ok r fault P is = subst (λ x. OnOk x P) (sym is) tt

pub ok_holds : {X E : Type 0} (r : Result X E) (P : Type 0) → P → OnOk r P
ok_holds (Ok x) P so = so
ok_holds (Err e) P so = tt

-- whatever words hold
pub untold_holds : (known : Words) (told : Telling) → TellsNothing told → HoldsTold known told
untold_holds known told nothing n row block here = absurd (nothing n row block here)

pub none_holds : (known : Words) → HoldsTold known (Told [])
none_holds known n row block none = absurd (omega (arith, none.1))

-- what an event leaves that adds nothing to what is told
pub lies_still : (known : Words) (e : Event) (old new : Core) → HoldsTold known (TableTells old.parts.table.slots)
    → told_by e old.parts new.parts.placed.items ≡ [] → made_by e old.parts new.parts.placed.items ≡ []
    → TellsOnly (TableTells old.parts.table.slots) (told_by e old.parts new.parts.placed.items) (TableTells new.parts.table.slots) → Lies known e old new
lies_still known e old new holds nothing none only = record {
  holds = λ n row block here. ⊎_elim (holds n row block) (none_holds known n row block)
      (subst (λ more. TellsOnly (TableTells old.parts.table.slots) more (TableTells new.parts.table.slots)) nothing only n row block here);
  made = subst (λ l. AreKept new.parts.blocks (Told l)) (sym none) (λ n row block here. absurd (omega (arith, here.1)));
}

-- and no more is told
pub still_untold : (old new : Telling) → TellsNothing old → TellsOnly old [] new → TellsNothing new
still_untold old new nothing only n row block here = ⊎_elim (nothing n row block) (λ none. absurd (omega (arith, none.1))) (only n row block here)

-- what was found tells nothing either
pub ok_untold : {X E : Type 0} (r : Result X E) (P : Type 0) (old new : Telling) → TellsNothing old → OnOk r P → OnOk r (TellsOnly old [] new)
    → OnOk r (P × TellsNothing new)
ok_untold (Ok x) P old new nothing so only = (so, still_untold old new nothing only)
ok_untold (Err e) P old new nothing so only = tt
