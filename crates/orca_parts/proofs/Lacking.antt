-- A turn that makes more rows than there are free blocks.
use Rattle.std.proofs.Common.{◌≡◌, ℕ, ◌+◌, ◌-◌, ◌<◌, ◌≤◌, length, Option, None, Some, slice_get, refl, sym, ap, subst, ◌∙◌, arith}
use Rattle.std.specs.Global.{Vec}
use Rattle.std.specs.Prelude.{IsSome, IsSomeAnd, if◌then◌else◌, vec_capacity}
use Rattle.std.proofs.lemmas.List.{length-map}
use Rattle.orca_names.specs.declared.limits.TheConstants.{ACTORS_LIMIT}
use Rattle.orca_names.specs.declared.options.Options.{Options}
use Rattle.letter_kinds.specs.Telling.{Told}
use Rattle.actor_cell.specs.Tells.{told_out}
use Rattle.actor_cell.specs.declared.turning.Turned.{Turned}
use Rattle.behaviour_code.specs.declared.code.Program.{Program}
use Rattle.turn_rules.specs.Segment.{Turn}
use Rattle.turn_rules.specs.declared.act.Frame.{Frame}
use Rattle.event_rule.specs.Runs.{Goes, NotEnabled}
use Rattle.event_rule.specs.declared.event.Event.TheVariants.{Go}
use Rattle.block_table.specs.Blocks.{Blocks, count_free}
use Rattle.machine_rules.specs.Next.{next}
use Rattle.machine_rules.specs.State.{State}
use Rattle.actor_cell.specs.Cells.{as_cell}
use Rattle.actor_cell.specs.Goes.{IsTold, out_of}
use Rattle.actor_cell.specs.Moves.{Move, Post, Mint, New, Print, End, Rest, act_in}
use Rattle.actor_table.specs.Changes.{HasCell, changed_at, moved, named, with_cell_by}
use Rattle.actor_table.specs.Slots.{seat_of, slot_at}
use Rattle.orca_parts.specs.Blocks.{HasBlocksFor, rows_kept}
use Rattle.orca_parts.specs.Fits.{KeepsTurn, OnlyRoom}
use Rattle.orca_parts.specs.Core.{core_state, next_in}
use Rattle.orca_parts.specs.Faults.{LacksBlocks}
use Rattle.orca_parts.specs.Placing.{IsLack}
use Rattle.orca_parts.specs.Ready.{IsFaultIn}
use Rattle.orca_parts.specs.declared.fault.StepFault.{StepFault}
use Rattle.orca_parts.specs.declared.fault.StepFault.TheVariants as faults
use Rattle.orca_parts.specs.Goes.{FitsGo, FitsPlaces, HasRoomToPlace, IsFoundGo, MakesInLimit, given}
use Rattle.orca_parts.specs.declared.parts.Parts.{Parts}
use Rattle.orca_parts.specs.declared.insides.Core.{Core}
use Rattle.orca_parts.proofs.Giving.{seat_here}
use Rattle.orca_parts.proofs.Gone.{FitsLimit, fits_limit, go_goes}
use Rattle.orca_parts.proofs.Homes.{home_stays}

-- as many objects more as it keeps rows
given_objects : (weight : ℕ) (program : Program) (act : Move) (turn : Turn) (s : State)
    → (given weight program act (length turn.made) s).objects ≡ s.objects + length (rows_kept act turn)
given_objects weight program (Post to letter) turn s = refl
given_objects weight program (Mint owner things) turn s = omega arith
given_objects weight program (New kind register) turn s = refl
given_objects weight program (Print value) turn s = refl
given_objects weight program End turn s = refl
given_objects weight program Rest turn s = refl

-- so blocks are lacked for it
pub lacks : (m : Core) (a : ℕ) → HasCell (slot_at m.parts.table.slots a) (IsFoundGo m.options m.code.now m.parts.blocks a m.parts.turn m.parts.turned)
    → FitsLimit (act_in m.parts.turned) (length (core_state m).actors) → 0 < length m.parts.blocks
    → count_free m.parts.blocks < length (rows_kept (act_in m.parts.turned) m.parts.turn)
    → LacksBlocks m.parts.blocks m.parts.objects (next_in m (Go a))
lacks m a here few some more = by here.cell.frame refl here.so.0
  where
    s : State
    s = core_state m

    by : (f : Option Frame) → here.cell.frame ≡ f
        → IsSomeAnd f (IsTold m.options m.code.now a (as_cell here.cell) m.parts.turn m.parts.turned.place (act_in m.parts.turned))
        → LacksBlocks m.parts.blocks m.parts.objects (next_in m (Go a))
    by None framed found = absurd found
    by (Some frame) framed found =
        let act = act_in m.parts.turned in
        let turn = m.parts.turn in
        let weight = m.options.weight in
        let after = record s { actors = changed_at (with_cell_by (λ x. named weight (length s.actors) act (moved a turn m.parts.turned.place act x))) a s.actors } in
        record {
          to = given weight m.code.now act (length turn.made) after;
          goes = ap (λ t. if t then NotEnabled else next s (Go a)) (home_stays m.parts.table.slots a here.cell here.home)
              ∙ go_goes s a (as_cell here.cell) (slot_at m.parts.table.slots a).mail.letters frame turn m.parts.turned.place act
              (record { present = seat_here m.parts.table.slots a here.cell here.home; framed = framed; found = found }) few;
          some = some;
          more = let made = given_objects weight m.code.now act turn after in omega (arith, made, more);
        }

-- a turn that was found makes as many objects as it keeps rows
pub goes_objects : (m : Core) (a : ℕ) (t : State) → FitsGo m.options m.code.now a m.parts.turned m.parts → next (core_state m) (Go a) ≡ Goes t
    → length (rows_kept (act_in m.parts.turned) m.parts.turn) ≡ t.objects - (core_state m).objects
goes_objects m a t fits goes =
    let s = core_state m in
    let act = act_in m.parts.turned in
    let turn = m.parts.turn in
    let weight = m.options.weight in
    let after = record s { actors = changed_at (with_cell_by (λ x. named weight (length s.actors) act (moved a turn m.parts.turned.place act x))) a s.actors } in
    let went = go_goes s a (as_cell fits.cell) (slot_at m.parts.table.slots a).mail.letters fits.frame turn m.parts.turned.place act
    (record { present = seat_here m.parts.table.slots a fits.cell fits.home; framed = fits.framed; found = fits.found_is }) (fits_limit act m.parts fits.room) in
    let same : given weight m.code.now act (length turn.made) after ≡ t = let z = sym went ∙ goes in cc in
    let made = given_objects weight m.code.now act turn after in
    omega (arith, made, ap (λ (x : State). x.objects) same)

-- where the actors are not all made, or it makes none
pub makes_few : (m : Core) (a : ℕ) → MakesInLimit m.parts
    → FitsLimit (act_in m.parts.turned) (length (core_state m).actors)
makes_few m a few = by (act_in m.parts.turned) few
  where
    by : (act : Move) → (IsSome (out_of act).made → length m.parts.table.slots < ACTORS_LIMIT) → FitsLimit act (length (core_state m).actors)
    by (Post to letter) few = tt
    by (Mint owner things) few = tt
    by (New kind register) few = let less = few refl in omega (arith, less, length-map m.parts.table.slots seat_of)
    by (Print value) few = tt
    by End few = tt
    by Rest few = tt

-- so the fault is right
pub lacks_fault : (m : Core) (a : ℕ) → HasCell (slot_at m.parts.table.slots a) (IsFoundGo m.options m.code.now m.parts.blocks a m.parts.turn m.parts.turned)
    → FitsLimit (act_in m.parts.turned) (length (core_state m).actors) → (fault : StepFault) → IsLack a m.parts fault → IsFaultIn m (Go a) fault
lacks_fault m a here few faults.NotEnabled none = absurd none
lacks_fault m a here few (faults.ActorsFull b) none = absurd none
lacks_fault m a here few faults.NoMemory none = tt
lacks_fault m a here few (faults.NoRows b) (same, some, more) = (lacks m a here few some more, ap Go (sym same))

-- ---- and where there are enough

pub places_fit : (old new : Parts) (options : Options) (program : Program) (a : ℕ) → HasCell (slot_at old.table.slots a) (IsFoundGo options program old.blocks a old.turn old.turned)
    → OnlyRoom old new → KeepsTurn old new → HasBlocksFor (act_in old.turned) old → new.placed ≡ old.placed
    → HasRoomToPlace old → FitsPlaces new
places_fit old new options program a here room turn enough placed memory = record {
  kept = λ n row block told.
      let before = subst (λ t. Told (told_out t) n row block) turn.turned told in
      ap (λ bs. slice_get bs block) room.blocks ∙ here.so.1 n row block before;
  blocks = λ some.
      let few = enough (subst (λ bs. 0 < length bs) room.blocks some) in
      subst (λ (x : Turned × (Turn × Blocks)). length (rows_kept (act_in x.0) x.1.0) ≤ count_free x.1.1)
      (λ i. (sym turn.turned i, (sym turn.turn i, sym room.blocks i))) few;
  room = λ some.
      let long = memory (subst (λ bs. 0 < length bs) room.blocks some) in
      subst (λ (x : Turn × Vec ℕ). length x.0.made ≤ vec_capacity x.1) (λ i. (sym turn.turn i, sym placed i)) long;
}
