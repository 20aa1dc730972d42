-- A machine without blocks: nothing is asked of words, and no rows are lacked.
use Rattle.std.proofs.Common.{◌≡◌, ◌<◌, ℕ, List, [], ◌∷◌, length, map, slice_get, Option, None, Some, ap, refl, sym, ◌∙◌, arith}
use Rattle.std.specs.Prelude.{IfErr, OnErr, OnOk}
use Rattle.std.specs.declared.result.Result.{Result}
use Rattle.std.specs.declared.result.Result.TheVariants.{Ok, Err}
use Rattle.orca_names.specs.declared.names.ObjName.{ObjName}
use Rattle.row_store.specs.Words.{Words}
use Rattle.block_table.specs.Blocks.{Blocks, fill}
use Rattle.row_blocks.specs.Blocks.{MayPutEach, MayPutFree}
use Rattle.event_rule.specs.Runs.{Step}
use Rattle.event_rule.specs.declared.event.Event.{Event}
use Rattle.letter_kinds.specs.Telling.{Telling, TellsNothing}
use Rattle.machine_rules.specs.State.{State}
use Rattle.row_laws.specs.Blocks.{blocks_after, kept_of, made_by}
use Rattle.orca_parts.specs.Away.{next_without}
use Rattle.orca_parts.specs.Blocks.{AreKept}
use Rattle.orca_parts.specs.Faults.{IsFault, IsFaultWith}
use Rattle.orca_parts.specs.declared.fault.StepFault.{StepFault}
use Rattle.orca_parts.specs.declared.fault.StepFault.TheVariants as faults
use Rattle.orca_parts.specs.declared.ready.Ready.{Ready}
use Rattle.orca_core.specs.Machine.{IsFaultOf, IsSame, Machine, Stand, StandsReady}

-- no block has anything
no_block : (blocks : Blocks) → blocks ≡ [] → (k : ℕ) (b : Option ObjName) → slice_get blocks k ≡ Some b → ⊥
no_block blocks none k b is = let z : slice_get [] k ≡ Some b = sym (ap (λ (bs : Blocks). slice_get bs k) none) ∙ is in cc

no_length : (blocks : Blocks) → blocks ≡ [] → 0 < length blocks → ⊥
no_length blocks none some = omega (arith, some, ap (λ (bs : Blocks). length bs) none)

-- whatever words stand
pub none_stand : (known : Words) (m : Machine) → m.blocks ≡ [] → Stand known m
none_stand known m none some = absurd (no_length m.blocks none some)

pub none_ready : (known : Words) (ready : Ready) (m : Machine) → m.blocks ≡ [] → StandsReady known ready m
none_ready known ready m none some = absurd (no_length m.blocks none some)

pub none_put : (blocks : Blocks) (places : List ℕ) → blocks ≡ [] → MayPutFree blocks places
none_put blocks places none k free = absurd (no_block blocks none k None free)

pub none_put_each : (blocks : Blocks) (places : List ℕ) → blocks ≡ [] → MayPutEach blocks places
none_put_each blocks places none k within = absurd (omega (arith, within, ap (λ (bs : Blocks). length bs) none))

-- there are none after an event either
none_filled : (names : List ObjName) → fill names [] ≡ []
unfolding fill
none_filled [] = refl
none_filled (n ∷ names) = refl

pub none_after : (s t : State) (e : Event) (blocks later : Blocks) → blocks ≡ [] → later ≡ blocks_after s e t blocks → later ≡ []
none_after s t e blocks later none is = is ∙ ap (λ (bs : Blocks). fill (made_by s e t) (map (kept_of t.actors) bs)) none ∙ none_filled (made_by s e t)

-- nor whether it was done or refused
pub none_by : {A E : Type 0} (m n : Machine) (e : Event) (result : Result A E) → m.blocks ≡ []
    → OnOk result (n.blocks ≡ blocks_after m.state e n.state m.blocks) → OnErr result (IsSame m n) → n.blocks ≡ []
none_by m n e (Ok x) none blocks same = none_after m.state n.state e m.blocks n.blocks none blocks
none_by m n e (Err fault) none blocks same = same.blocks ∙ none

-- nor after as many events as there may be
pub none_still : (blocks later : Blocks) → blocks ≡ [] → length later ≡ length blocks → later ≡ []
none_still blocks later none size = by later (omega (arith, size, ap (λ (bs : Blocks). length bs) none))
  where
    by : (bs : Blocks) → length bs ≡ 0 → bs ≡ []
    by [] is = refl
    by (b ∷ bs) is = absurd (omega (arith, is))

-- who tells of the objects that have blocks tells of none
pub none_told : (blocks : Blocks) (told : Telling) → blocks ≡ [] → AreKept blocks told → TellsNothing told
none_told blocks told none kept n row block here = no_block blocks none block (Some n) (kept n row block here)

-- a fault is that of the event
fault_without : (blocks : Blocks) (objects : ℕ) (outcome : Step State) (e : Event) (fault : StepFault) → blocks ≡ [] → IsFaultWith blocks objects outcome e fault → IsFault outcome e fault
fault_without blocks objects outcome e faults.NotEnabled none is = is
fault_without blocks objects outcome e (faults.ActorsFull a) none is = is
fault_without blocks objects outcome e (faults.NoRows a) none is = no_length blocks none is.0.some
fault_without blocks objects outcome e faults.NoMemory none is = tt

pub none_lacked : {X : Type 0} (r : Result X StepFault) (m : Machine) (e : Event) → m.blocks ≡ [] → IfErr r (IsFaultOf m e) → IfErr r (IsFault (next_without m.out m.state e) e)
none_lacked (Ok x) m e none is = tt
none_lacked (Err fault) m e none is = fault_without m.blocks m.state.objects (next_without m.out m.state e) e fault none is
