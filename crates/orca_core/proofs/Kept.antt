-- The blocks of the machine, as calls and events leave them.
use Rattle.std.proofs.Common.{◌≡◌, ◌<◌, ◌++◌, ℕ, List, [], ◌∷◌, length, slice_get, Some, ⊎_elim, sym, ap, subst, arith}
use Rattle.std.proofs.lemmas.List.Elements.{Contains-append_cases}
use Rattle.orca_names.specs.declared.names.ObjName.{ObjName}
use Rattle.orca_names.specs.declared.names.Thing.{Thing}
use Rattle.orca_names.specs.declared.names.Thing.TheVariants.{Obj}
use Rattle.orca_names.specs.declared.options.Options.{Options}
use Rattle.behaviour_code.specs.declared.code.Program.{Program}
use Rattle.row_store.specs.Told.{Lying}
use Rattle.row_store.specs.Words.{Words}
use Rattle.block_table.specs.Blocks.{Blocks}
use Rattle.event_rule.specs.declared.event.Event.{Event}
use Rattle.event_rule.specs.declared.event.Event.TheVariants.{Take, Go, Collect, Leave, Block, Hear, Scan, Reap}
use Rattle.letter_kinds.specs.Holdings.{Row}
use Rattle.letter_kinds.specs.Telling.{HoldsTold, Telling, TellsOnly, Told, in_block}
use Rattle.machine_rules.specs.Left.{IsLeft}
use Rattle.machine_rules.specs.State.{State}
use Rattle.row_laws.specs.Laws.{HasBlocks}
use Rattle.actor_table.specs.Slots.{actors_of}
use Rattle.actor_table.specs.Telling.{TableTells}
use Rattle.orca_parts.specs.Blocks.{AreKept, BlocksFit}
use Rattle.orca_parts.specs.Core.{KeepsCore, core_state}
use Rattle.orca_parts.specs.Ready.{FitsEvent, told_first}
use Rattle.orca_parts.specs.declared.insides.Core.{Core}
use Rattle.orca_parts.specs.declared.parts.Parts.{Parts}

-- ---- what tells no more

-- no more is told of other objects
pub kept_still : (blocks : Blocks) (old new : Telling) → AreKept blocks old → TellsOnly old [] new → AreKept blocks new
kept_still blocks old new kept only n row block here = ⊎_elim (kept n row block) (λ none. absurd (omega (arith, none.1))) (only n row block here)

pub holds_still : (known : Words) (old new : Telling) → HoldsTold known old → TellsOnly old [] new → HoldsTold known new
holds_still known old new holds only n row block here = ⊎_elim (holds n row block) (λ none. absurd (omega (arith, none.1))) (only n row block here)

none_kept : (blocks : Blocks) → AreKept blocks (Told [])
none_kept blocks n row block none = absurd (omega (arith, none.1))

-- what the letter that was found tells is of their objects
pub first_kept : (options : Options) (program : Program) (e : Event) (m : Parts) → FitsEvent options program e m → AreKept m.blocks (Told (told_first e m))
first_kept options program (Take a) m fits = none_kept m.blocks
first_kept options program (Go a) m fits = fits.1.kept
first_kept options program (Collect a) m fits = none_kept m.blocks
first_kept options program (Leave a) m fits = none_kept m.blocks
first_kept options program (Block a) m fits = none_kept m.blocks
first_kept options program Hear m fits = none_kept m.blocks
first_kept options program Scan m fits = none_kept m.blocks
first_kept options program (Reap number) m fits = none_kept m.blocks

-- ---- where there is more room alone

module _ (m after : Core) (same : KeepsCore m after) where
  abbrev options : Options
  options = m.options

  actors_same : actors_of after.parts.table.slots ≡ actors_of m.parts.table.slots
  actors_same = ap (λ (s : State). s.actors) (same.room.state m.code.now options)

  -- blocks fit still
  pub room_fit : BlocksFit m.options.trace m.parts.blocks m.parts.table.slots → BlocksFit after.options.trace after.parts.blocks after.parts.table.slots
  room_fit fit =
      subst (λ (x : Options × Blocks). BlocksFit x.0.trace x.1 after.parts.table.slots) (λ i. (sym same.alike.options i, sym same.room.blocks i)) (record {
        deep = fit.deep;
        lie = λ some. same.room.lie (fit.lie some);
        kept = kept_still m.parts.blocks (TableTells m.parts.table.slots) (TableTells after.parts.table.slots) fit.kept same.room.told;
        left = λ k n has. subst (λ xs. IsLeft xs (Obj n)) (sym actors_same) (fit.left k n has);
        once = fit.once;
      })

  -- and are those of the state
  pub room_has : core_state after ≡ core_state m → (0 < length m.parts.blocks → HasBlocks (core_state m) m.parts.blocks)
      → 0 < length after.parts.blocks → HasBlocks (core_state after) after.parts.blocks
  room_has state has some =
      subst (λ (x : State × Blocks). HasBlocks x.0 x.1) (λ i. (sym state i, sym same.room.blocks i)) (has (subst (λ (bs : Blocks). 0 < length bs) same.room.blocks some))

-- ---- after an event

-- what is told then is told of the objects that have the blocks: what was told before of what is left, and
-- what the event adds
pub told_kept : (old new : Telling) (sent made : List (Thing × Lying)) (blocks later : Blocks) → AreKept blocks old → AreKept blocks (Told sent) → AreKept later (Told made)
    → TellsOnly old (sent ++ made) new
    → ((n : ObjName) (row : Row) (block : ℕ) → new n row block → slice_get blocks block ≡ Some (Some n) → slice_get later block ≡ Some (Some n))
    → AreKept later new
told_kept old new sent made blocks later kept sent_kept made_kept only stays n row block here = ⊎_elim
    (λ before. stays n row block here (kept n row block before))
    (λ added. ⊎_elim
    (λ its. stays n row block here (sent_kept n row block its))
    (made_kept n row block)
    (Contains-append_cases sent made (in_block n row block) added))
    (only n row block here)

-- ---- the words

pub has_some : {X : Type 0} (xs : List X) (k : ℕ) (x : X) → slice_get xs k ≡ Some x → 0 < length xs
has_some [] k x is = cc
has_some (y ∷ xs) k x is = omega arith

-- words that hold what is told where there are blocks hold it anyway
pub kept_holds : (known : Words) (blocks : Blocks) (told : Telling) → AreKept blocks told → (0 < length blocks → HoldsTold known told) → HoldsTold known told
kept_holds known blocks told kept holds n row block here = holds (has_some blocks block (Some n) (kept n row block here)) n row block here
