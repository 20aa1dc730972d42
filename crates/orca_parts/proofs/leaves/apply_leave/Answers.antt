use Rattle.std.proofs.Common.{List, ℕ, ap, refl, subst, sym, ◌∙◌, []}
use Rattle.std.specs.Global.{Vec}
use Rattle.letter_kinds.specs.Counting.{Amount}
use Rattle.actor_cell.specs.Cells.{as_cell}
use Rattle.actor_cell.specs.Outs.{decs_to}
use Rattle.actor_cell.specs.Pushing.{push_all}
use Rattle.actor_table.specs.Slots.{actors_of, away_of, slot_at}
use Rattle.orca_parts.specs.Away.{is_out}
use Rattle.orca_parts.specs.Core.{core_state}
use Rattle.orca_parts.proofs.Owned.{own_fit}
use Rattle.orca_parts.proofs.Giving.{seat_here}
use Rattle.orca_parts.proofs.Homes.{home_stays, without_keeps}
use Rattle.orca_parts.proofs.Stepped.{leave_goes}
use Rattle.orca_parts.proofs.Waking.{OnlyLoses, loses_one, woken_without}
use Rattle.orca_parts.proofs.leaves.apply_leave.Goals as goal
use Rattle.actor_table.specs.Telling.{TableTells}
use Rattle.letter_kinds.proofs.Telling.{tells_then}

pub give_back-requires : goal.give_back-requires
give_back-requires c =
    let m = c.args.m.now in
    let acts = c.requires.fits.acts in
    record {
      cell = acts.cell;
      home = acts.home;
      so = own_fit m.options.trace m.parts.blocks m.parts.table.slots c.args.a acts.cell c.requires.blocks acts.home;
    }

pub returns : goal.returns
returns c =
    let m = c.args.m.now in
    let a = c.args.a in
    let slots = m.parts.table.slots in
    let acts = c.requires.fits.acts in
    let cell = acts.cell in
    let old = actors_of slots in
    let pushed = c.push_decs.ensures in
    let letters = decs_to c.replace-letters.result.items in
    record {
      state = leave_goes (core_state m) a (as_cell cell) (slot_at slots a).mail.letters
          c.replace-letters.result.items (actors_of c.push_decs.new.table.slots) (seat_here slots a cell acts.home)
          acts.may (ap (λ (ls : Vec (ℕ × List Amount)). ls.items) c.replace-letters.ensures.value ∙ acts.so)
          (pushed.actors ∙ ap (push_all letters) c.clear.ensures.actors);
      alike = record { code = refl; options = refl };
      away = λ b. ap (λ bs. is_out bs b) (pushed.away ∙ c.clear.ensures.away)
          ∙ without_keeps (away_of slots) a (home_stays slots a cell acts.home) b;
      lie = λ some lies. pushed.lie (c.clear.ensures.lie lies);
      blocks = c.give_back.ensures;
      told = tells_then (TableTells slots) (TableTells c.clear.new.self.slots) (TableTells c.push_decs.new.table.slots) [] c.clear.ensures.told pushed.told;
      woken = woken_without letters old (actors_of c.clear.new.self.slots) (actors_of c.push_decs.new.table.slots) c.push_decs.result
          (subst (OnlyLoses old) (sym c.clear.ensures.actors) (loses_one a old)) pushed.actors pushed.woken;
      stands = λ well on. cc;
    }
