use Rattle.std.proofs.Common.{◌≡◌, List, ℕ, IfSome, ap, refl, subst, sym, ◌∙◌, []}
use Rattle.std.specs.Global.{Vec}
use Rattle.letter_kinds.specs.Counting.{Amount}
use Rattle.std.specs.List.Sorted.{IsStrictlySortedBy}
use Rattle.std.specs.Ordering.{nat_cmp}
use Rattle.row_blocks.specs.Blocks.{without}
use Rattle.orca_parts.proofs.Owned.{own_fit}
use Rattle.letter_kinds.specs.Detector.{close_token, has}
use Rattle.machine_rules.specs.Detect.{empty_seats, reap_decs}
use Rattle.machine_rules.proofs.Guards.{acked_open}
use Rattle.actor_cell.specs.Outs.{decs_to}
use Rattle.actor_cell.specs.Pushing.{push_all}
use Rattle.actor_table.specs.Slots.{actors_of, away_of}
use Rattle.orca_parts.specs.Away.{is_out}
use Rattle.orca_parts.proofs.Homes.{home_stays, without_all_keeps}
use Rattle.orca_parts.specs.Fits.{without_all}
use Rattle.orca_parts.specs.Core.{core_state}
use Rattle.orca_parts.specs.Letters.{FitLetters}
use Rattle.orca_parts.specs.Touched.{receivers}
use Rattle.orca_parts.proofs.Stepped.{reap_goes}
use Rattle.orca_parts.proofs.Waking.{OnlyLoses, loses_all, woken_without}
use Rattle.orca_parts.proofs.reaps.apply_reap.Goals as goal
use Rattle.actor_table.specs.Telling.{TableTells}
use Rattle.letter_kinds.proofs.Telling.{tells_then}

pub give_back_each-requires : goal.give_back_each-requires
give_back_each-requires c =
    let m = c.args.m.now in
    let members : c.as_slice.result.now ≡ m.parts.members.items = c.as_slice.ensures.value in
    record {
      rising = subst (IsStrictlySortedBy nat_cmp) (sym members) c.requires.fits.rising;
      home = λ a has_it.
          let home = c.requires.fits.home a (ap (λ ms. has ms a) (sym members) ∙ has_it) in
          record {
            cell = home.cell;
            home = home.home;
            so = own_fit m.options.trace m.parts.blocks m.parts.table.slots a home.cell c.requires.blocks home.home;
          };
    }

pub push_decs-woken-requires : goal.push_decs-woken-requires
push_decs-woken-requires c =
    subst (λ (ls : Vec (ℕ × List Amount)). FitLetters (receivers ls.items) c.clear_all.new.table.slots) (sym c.replace-letters.ensures.value)
    (c.clear_all.ensures.room (receivers c.args.m.now.parts.letters.items) c.requires.fits.fit)

pub returns : goal.returns
returns c =
    let m = c.args.m.now in
    let its = sym c.requires.fits.its in
    let slots = m.parts.table.slots in
    let actors = actors_of slots in
    let d = m.parts.detector.state in
    let members = m.parts.members.items in
    let pushed = c.push_decs-woken.ensures in
    let letters = decs_to c.replace-letters.result.items in
    record {
      state = reap_goes (core_state m) c.args.number c.requires.fits.token c.replace-letters.result.items
          (actors_of c.push_decs-woken.new.table.slots) c.close.new.self.state c.requires.fits.acked
          (ap (λ (ls : Vec (ℕ × List Amount)). ls.items) c.replace-letters.ensures.value ∙ c.requires.fits.decs ∙ ap (λ ms. reap_decs ms ms actors) its)
          (pushed.actors ∙ ap (push_all letters) (c.clear_all.ensures.actors ∙ ap (λ ms. empty_seats ms actors) (c.as_slice-2.ensures.value ∙ its)))
          (subst (λ o. IfSome o (λ t. c.close.new.self.state ≡ close_token t d)) (acked_open c.args.number d c.requires.fits.token c.requires.fits.acked).0 c.close.ensures);
      alike = record { code = refl; options = refl };
      away = λ a. ap (λ bs. is_out bs a) (pushed.away ∙ c.clear_all.ensures.away)
          ∙ ap (λ ms. is_out (without_all ms (away_of slots)) a) c.as_slice-2.ensures.value
          ∙ without_all_keeps members (away_of slots) (λ n member. home_stays slots n (c.requires.fits.home n member).cell (c.requires.fits.home n member).home) a;
      blocks = c.give_back_each.ensures ∙ ap (λ ms. without (λ n. has ms n.owner) m.parts.blocks) c.as_slice.ensures.value;
      told = tells_then (TableTells slots) (TableTells c.clear_all.new.table.slots) (TableTells c.push_decs-woken.new.table.slots) []
          c.clear_all.ensures.told pushed.told;
      lie = λ some lies. pushed.lie (c.clear_all.ensures.lie lies);
      woken = woken_without letters actors (actors_of c.clear_all.new.table.slots) (actors_of c.push_decs-woken.new.table.slots) c.push_decs-woken.result
          (subst (OnlyLoses actors) (sym c.clear_all.ensures.actors) (loses_all c.as_slice-2.result.now actors)) pushed.actors pushed.woken;
      stands = λ well on. cc;
    }
