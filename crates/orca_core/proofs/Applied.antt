-- The blocks of the machine after an event.
use Rattle.std.proofs.Common.{◌≡◌, ◌<◌, ◌-◌, ℕ, List, [], length, map, slice_get, Option, Some, sym, ap, subst, ◌∙◌, arith}
use Rattle.std.proofs.lemmas.List.{length-map}
use Rattle.orca_names.specs.declared.names.ObjName.{ObjName}
use Rattle.block_table.specs.Blocks.{Blocks}
use Rattle.orca_names.specs.declared.names.Value.{Value}
use Rattle.orca_names.specs.declared.options.Options.{Options}
use Rattle.orca_names.specs.declared.trace.Trace.TheVariants.{Deep}
use Rattle.event_rule.specs.Runs.{Goes}
use Rattle.event_rule.specs.declared.event.Event.{Event}
use Rattle.event_rule.specs.declared.event.Event.TheVariants.{Take, Go, Collect, Leave, Block, Hear, Scan, Reap}
use Rattle.letter_kinds.specs.Telling.{Told}
use Rattle.machine_rules.specs.Next.{next}
use Rattle.machine_rules.specs.State.{State}
use Rattle.row_laws.specs.Blocks.{blocks_after, kept_of, made_by, next_at}
use Rattle.row_laws.specs.Laws.{HasBlocks, Keeps}
use Rattle.row_laws.proofs.Bringing.{deep_brings_none}
use Rattle.machine_laws.proofs.WholeRuns.{run_has_facts}
use Rattle.block_table.proofs.Filling.{fill_size}
use Rattle.row_laws.proofs.Filling.{from_size}
use Rattle.row_laws.proofs.Freeing.{events_free_exactly}
use Rattle.row_laws.proofs.Keeping.{blocks_stay}
use Rattle.actor_table.specs.Slots.{IsOwnedBy, slot_at}
use Rattle.actor_table.specs.declared.slot.Place.TheVariants.{Gone}
use Rattle.actor_table.specs.Bringing.{AreBrought}
use Rattle.actor_table.specs.Telling.{TableTells}
use Rattle.orca_parts.specs.Blocks.{AreKept, BlocksFit}
use Rattle.orca_parts.specs.Core.{core_state}
use Rattle.orca_parts.specs.Ready.{Applies, FitsEvent, told_first}
use Rattle.orca_parts.specs.Ready as ready
use Rattle.orca_parts.specs.declared.insides.Core.{Core}
use Rattle.orca_parts.proofs.Lacking.{goes_objects}
use Rattle.orca_core.specs.Machine.{HasRoomFor, IsReached}
use Rattle.orca_core.proofs.After.{after_is}
use Rattle.orca_core.proofs.Kept.{first_kept, has_some, told_kept}
use Rattle.orca_core.proofs.Lasting.{whole_run}
use Rattle.orca_core.proofs.Naming.{NamesAll, told_left}

-- with deep tracing all that is told of is named
names_all : (s : State) (steps : ℕ) → IsReached s steps → s.options.trace ≡ Deep → NamesAll s.actors
names_all s steps reached deep = record {
  named = (whole_run s.program s.options reached.heavy reached.book s reached.run).named;
  counted = (run_has_facts s.program s.options reached.heavy reached.book s reached.run).2.beside.counts.firm;
  brings = deep_brings_none s.program s.options deep reached.book s reached.run;
}

-- as many blocks as before
pub same_size : (s t : State) (e : Event) (blocks : Blocks) → length (blocks_after s e t blocks) ≡ length blocks
same_size s t e blocks = fill_size (made_by s e t) (map (kept_of t.actors) blocks) ∙ length-map blocks (kept_of t.actors)

-- what fits has room
pub fits_room : (m : Core) (e : Event) (t : State) → FitsEvent m.options m.code.now e m.parts → next (core_state m) e ≡ Goes t → HasRoomFor (core_state m) e t m.parts.blocks
fits_room m (Take a) t fits goes some = omega arith
fits_room m (Go a) t fits goes some =
    let s = core_state m in
    let room = fits.1.blocks some in
    let made = goes_objects m a t fits.0 goes in
    omega (arith, room, made, from_size a (next_at s.actors a) (t.objects - s.objects))
fits_room m (Collect a) t fits goes some = omega arith
fits_room m (Leave a) t fits goes some = omega arith
fits_room m (Block a) t fits goes some = omega arith
fits_room m Hear t fits goes some = omega arith
fits_room m Scan t fits goes some = omega arith
fits_room m (Reap number) t fits goes some = omega arith

module _ (m after : Core) (e : Event) (lowest : Option ℕ) (later : ℕ) (does : Applies e m after lowest)
    (fits : FitsEvent m.options m.code.now e m.parts) (fit : BlocksFit m.options.trace m.parts.blocks m.parts.table.slots)
    (has : 0 < length m.parts.blocks → HasBlocks (core_state m) m.parts.blocks) (reached : IsReached (core_state after) later)
    (owned : (a : ℕ) → IsOwnedBy a (slot_at m.parts.table.slots a).place) (still_owned : (a : ℕ) → IsOwnedBy a (slot_at after.parts.table.slots a).place)
    (brings : (a : ℕ) → AreBrought (slot_at after.parts.table.slots a).mail.letters (slot_at after.parts.table.slots a).mail.brought)
    (none : (a : ℕ) → (slot_at after.parts.table.slots a).place ≡ Gone → (slot_at after.parts.table.slots a).mail.brought ≡ [])
    (made : AreKept after.parts.blocks (Told (ready.made_by e m.parts after.parts.placed.items))) where
  abbrev s : State
  s = core_state m

  abbrev t : State
  t = core_state after

  abbrev blocks : Blocks
  blocks = m.parts.blocks

  pub blocks_is : after.parts.blocks ≡ blocks_after s e t blocks
  blocks_is = does.blocks ∙ after_is m e t fits does.state (events_free_exactly s t e does.state) fit.left (λ a c home. subst (IsOwnedBy a) home (owned a))

  keeps : 0 < length blocks → Keeps s t e blocks
  keeps some = blocks_stay s t e blocks does.state (fits_room m e t fits does.state some) (has some)

  were_some : 0 < length after.parts.blocks → 0 < length blocks
  were_some some = subst (λ n. 0 < n) (ap (λ (bs : Blocks). length bs) blocks_is ∙ same_size s t e blocks) some

  pub has_after : 0 < length after.parts.blocks → HasBlocks t after.parts.blocks
  has_after some = subst (HasBlocks t) (sym blocks_is) (keeps (were_some some)).has

  -- who is told of in a block then has it still
  stays : (n : ObjName) (row : List Value) (block : ℕ) → TableTells after.parts.table.slots n row block → slice_get blocks block ≡ Some (Some n)
      → slice_get after.parts.blocks block ≡ Some (Some n)
  stays n row block told at =
      let some = has_some blocks block (Some n) at in
      let deep = ap (λ (o : Options). o.trace) does.alike.options ∙ fit.deep some in
      let left = told_left after.parts.table.slots (names_all t later reached deep) still_owned brings none n row block told in
      ap (λ bs. slice_get bs block) blocks_is ∙ (keeps some).same block n at left

  pub fit_after : BlocksFit after.options.trace after.parts.blocks after.parts.table.slots
  fit_after = record {
    deep = λ some. ap (λ (o : Options). o.trace) does.alike.options ∙ fit.deep (were_some some);
    lie = λ some. does.lie (were_some some) (fit.lie (were_some some));
    kept = told_kept (TableTells m.parts.table.slots) (TableTells after.parts.table.slots) (told_first e m.parts) (ready.made_by e m.parts after.parts.placed.items)
        blocks after.parts.blocks fit.kept (first_kept m.options m.code.now e m.parts fits) made does.told stays;
    left = λ k n at. (has_after (has_some after.parts.blocks k (Some n) at)).are.left k n at;
    once = λ j k n one two. (has_after (has_some after.parts.blocks j (Some n) one)).are.once j k n one two;
  }
