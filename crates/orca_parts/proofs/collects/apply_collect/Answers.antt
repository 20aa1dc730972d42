use Rattle.std.proofs.Common.{◌≡◌, ap, refl, subst, sym, ◌∙◌, set, []}
use Rattle.std.specs.Prelude.{is_some}
use Rattle.machine_rules.specs.Actors.{seat_at}
use Rattle.actor_cell.specs.Cells.{as_cell}
use Rattle.actor_cell.specs.Outs.{decs_to}
use Rattle.actor_cell.specs.Pushing.{push_all}
use Rattle.actor_cell.specs.Sweeps.{swept}
use Rattle.actor_table.specs.Changes.{with_cell_by}
use Rattle.actor_table.specs.Slots.{actors_of, slot_at}
use Rattle.orca_parts.specs.Away.{is_out}
use Rattle.orca_parts.specs.Core.{core_state}
use Rattle.orca_parts.specs.Letters.{FitLetters}
use Rattle.orca_parts.specs.Touched.{receivers}
use Rattle.orca_parts.proofs.Giving.{changed_present, fits_kept, seat_here}
use Rattle.orca_parts.proofs.Stepped.{collect_goes}
use Rattle.orca_parts.proofs.Waking.{woken_changed}
use Rattle.orca_parts.proofs.collects.apply_collect.Goals as goal
use Rattle.actor_table.specs.Telling.{TableTells}
use Rattle.letter_kinds.proofs.Telling.{tells_then}
use Rattle.std.specs.Prelude.{slice_get}
use Rattle.object_heap.specs.Free.{SerialsRise}
use Rattle.row_blocks.specs.Blocks.{is_one_of, without}
use Rattle.local_sweep.specs.Plan.{free_of}
use Rattle.local_sweep.proofs.Freed.{freed_rise}
use Rattle.machine_rules.specs.Collect.{is_marked}
use Rattle.actor_cell.specs.declared.sweeping.Sweep.{Sweep}
use Rattle.orca_parts.proofs.Owned.{freed_there, own_fit}

pub change-requires : goal.change-requires
change-requires c =
    let acts = c.requires.fits.acts in
    record { cell = acts.cell; home = acts.home; so = acts.so.found_is }

pub give_back_some-requires : goal.give_back_some-requires
give_back_some-requires c =
    let m = c.args.m.now in
    let a = c.args.a in
    let trace = m.options.trace in
    let acts = c.requires.fits.acts in
    let cell = acts.cell in
    let marked = is_marked trace cell.heap.owner (as_cell cell) in
    let free : c.as_slice.result.now ≡ free_of marked cell.heap = c.as_slice.ensures ∙ ap (λ (f : Sweep). f.plan.free) acts.so.found_is in
    record {
      rising = subst SerialsRise (sym free) (freed_rise marked cell.heap);
      home = record {
        cell = cell;
        home = acts.home;
        so = λ its. (
          own_fit trace m.parts.blocks m.parts.table.slots a cell c.requires.blocks acts.home its,
          λ i n is. freed_there marked cell.heap i n (ap (λ ns. slice_get ns i) (sym free) ∙ is),
        );
      };
    }

pub push_decs-requires : goal.push_decs-requires
push_decs-requires c =
    let m = c.args.m.now in
    let slots = m.parts.table.slots in
    let a = c.args.a in
    let trace = m.options.trace in
    subst (λ gs. FitLetters (receivers gs) c.change.new.self.slots) (sym (c.into_vec.ensures ∙ c.replace-back.ensures.value))
    (fits_kept (receivers m.parts.sweep.plan.back) slots c.change.new.self.slots c.requires.fits.fit c.change.ensures.rest.room
    (λ b there. sym (changed_present (swept trace a) a (actors_of slots) b) ∙ sym (ap (λ xs. is_some (seat_at xs b)) c.change.ensures.actors) ∙ there))

pub returns : goal.returns
returns c =
    let m = c.args.m.now in
    let slots = m.parts.table.slots in
    let acts = c.requires.fits.acts in
    let cell = acts.cell in
    let a = c.args.a in
    let trace = m.options.trace in
    let here = seat_here slots a cell acts.home in
    let actors = c.change.ensures.actors ∙ ap (λ o. set (actors_of slots) a (with_cell_by (swept trace a) o)) here in
    let pushed = c.push_decs.ensures in
    record {
      state = collect_goes (core_state m) a (as_cell cell) (slot_at slots a).mail.letters
          c.into_vec.result.items (actors_of c.push_decs.new.table.slots) here
          acts.may (c.into_vec.ensures ∙ c.replace-back.ensures.value ∙ acts.so.back_is) (pushed.actors ∙ ap (push_all (decs_to c.into_vec.result.items)) actors);
      alike = record { code = refl; options = refl };
      away = λ b. ap (λ bs. is_out bs b) (pushed.away ∙ c.change.ensures.rest.away);
      blocks = c.give_back_some.ensures ∙ ap (λ ns. without (is_one_of ns) m.parts.blocks) c.as_slice.ensures;
      told = tells_then (TableTells slots) (TableTells c.change.new.self.slots) (TableTells c.push_decs.new.table.slots) [] (c.change.ensures.told cell acts.home) pushed.told;
      lie = λ some lies. pushed.lie (c.change.ensures.lie tt lies);
      woken = woken_changed (swept trace a) a (actors_of slots) (actors_of c.change.new.self.slots)
          (actors_of c.push_decs.new.table.slots) c.push_decs.result c.change.ensures.actors pushed.woken;
      stands = λ well on. cc;
    }
