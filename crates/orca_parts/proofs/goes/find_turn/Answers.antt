use Rattle.std.proofs.Common.{ap, refl, subst, sym, ◌∙◌}
use Rattle.event_rule.specs.declared.event.Event.TheVariants.{Go}
use Rattle.machine_rules.specs.Actors.{cell_at, cell_of}
use Rattle.machine_rules.specs.Guards.{may_go}
use Rattle.behaviour_check.specs.Rules.{IsChecked}
use Rattle.actor_cell.specs.Awaiting.{Awaits}
use Rattle.actor_cell.specs.Cells.{as_cell}
use Rattle.actor_table.specs.Slots.{actors_of, slot_at}
use Rattle.orca_parts.specs.declared.parts.Parts.{Parts}
use Rattle.orca_parts.proofs.Awaiting.{awaited_is, awaited_its}
use Rattle.orca_parts.proofs.Founding.{awaited_at, found_at, found_few, goes_framed}
use Rattle.orca_parts.proofs.Giving.{seat_here}
use Rattle.orca_parts.proofs.Homes.{home_is}
use Rattle.orca_parts.proofs.Preparing.{acts_home, may_here, not_acting}
use Rattle.orca_parts.proofs.goes.find_turn.Goals as goal
use Rattle.letter_kinds.specs.Telling.{HoldsTold, Told}
use Rattle.actor_cell.specs.Tells.{told_out}
use Rattle.orca_parts.proofs.Untold.{found_holds, found_kept, home_holds}

pub returns-in_default : goal.returns-in_default
returns-in_default g c = record {
  same = refl;
  stands = λ on. cc;
  found = tt;
  hold = tt;
  few = tt;
  fault = not_acting (Go c.args.a) (slot_at c.args.m.now.parts.table.slots c.args.a) c.in_default.ensures.cell;
  words = record { known = refl; places = refl; beside = refl };
}

pub returns-then-known : goal.returns-then-known
returns-then-known g c =
    let m = c.args.m.now in
    let parts = m.parts in
    let a = c.args.a in
    let x = slot_at parts.table.slots a in
    let cell = c.in-Some.cell.now in
    let its = acts_home (Go a) x cell c.in-Some.ensures.cell in
    let home = home_is x cell its.0 in
    let known = c.requires.known c.if-known.true cell home (goes_framed cell x.mail.letters (may_here may_go x cell home its.1)) in
    let checked = subst IsChecked c.program-program.ensures.value c.program-program.ensures.kept in
    record {
      same = refl;
      stands = λ on. cc;
      found = found_at m.options m.code.now parts.blocks a parts.turn parts.turned x cell home c.in-Some.ensures.owner known;
      hold = c.requires.holds c.if-known.true cell home (goes_framed cell x.mail.letters (may_here may_go x cell home its.1));
      few = found_few m.options m.code.now parts.blocks cell.heap.owner parts.turn parts.turned cell checked.good known;
      fault = tt;
      words = record { known = refl; places = refl; beside = refl };
    }

pub find_again-requires : goal.find_again-requires
find_again-requires g c =
    let m = c.args.m.now in
    let parts = m.parts in
    let a = c.args.a in
    let slots = parts.table.slots in
    let cell = c.in-Some.cell.now in
    let letter = c.in-Some-awaits.letter in
    let is = sym c.in-Some-awaits.ensures in
    let home = home_is (slot_at slots a) cell (acts_home (Go a) (slot_at slots a) cell c.in-Some.ensures.cell).0 in
    let its = awaited_its a parts.turned.awaited letter is in
    record {
      awaits = subst (λ me. Awaits m.options.trace m.code.now me (as_cell cell) parts.turn parts.turned letter) (its ∙ sym c.in-Some.ensures.owner)
          (c.requires.stands c.if-stands.true letter (as_cell cell) (awaited_is a parts.turned.awaited letter is)
          (ap (cell_at (actors_of slots)) its ∙ ap cell_of (seat_here slots a cell home)));
      stand = home_holds _ slots a cell c.requires.hold home;
    }

pub find_go-requires : goal.find_go-requires
find_go-requires g c =
    let a = c.args.a in
    let x = slot_at c.args.m.now.parts.table.slots a in
    let cell = c.in-Some.cell.now in
    let its = acts_home (Go a) x cell c.in-Some.ensures.cell in
    let home = home_is x cell its.0 in
    record {
      running = goes_framed cell x.mail.letters (may_here may_go x cell home its.1);
      serials = c.requires.serials cell home;
      stand = home_holds _ c.args.m.now.parts.table.slots a cell c.requires.hold home;
    }

pub returns : goal.returns
returns g c =
    let m = c.args.m.now in
    let a = c.args.a in
    let x = slot_at m.parts.table.slots a in
    let cell = c.in-Some.cell.now in
    let home = home_is x cell (acts_home (Go a) x cell c.in-Some.ensures.cell).0 in
    let parts : Parts = record m.parts { turn = c.find_go.new.turn; turned = c.find_go.new.found } in
    let does = c.in_ok-find_go.ensures in
    let kept = found_kept m.parts.blocks m.parts.table.slots a cell (Told (told_out parts.turned)) c.requires.kept home does.told in
    let holds = subst (λ known. HoldsTold known (Told (told_out parts.turned))) (sym does.words.known)
    (found_holds (g.W.RowWords.known c.args.words.now) m.parts.table.slots a cell (Told (told_out parts.turned)) c.requires.hold home does.told) in
    record {
      same = refl;
      stands = λ on. awaited_at m.options m.code.now a parts cell home c.in-Some.ensures.owner does.found.awaited;
      found = found_at m.options m.code.now m.parts.blocks a parts.turn parts.turned x cell home c.in-Some.ensures.owner (does.found.told, kept);
      hold = holds;
      few = does.few;
      fault = tt;
      words = does.words;
    }

pub returns-in-Some-awaits : goal.returns-in-Some-awaits
returns-in-Some-awaits g c =
    let m = c.args.m.now in
    let a = c.args.a in
    let x = slot_at m.parts.table.slots a in
    let cell = c.in-Some.cell.now in
    let home = home_is x cell (acts_home (Go a) x cell c.in-Some.ensures.cell).0 in
    let parts : Parts = record m.parts { turned = c.find_again.new.found } in
    let does = c.in_ok-find_again.ensures in
    let kept = found_kept m.parts.blocks m.parts.table.slots a cell (Told (told_out parts.turned)) c.requires.kept home does.told in
    let holds = subst (λ known. HoldsTold known (Told (told_out parts.turned))) (sym does.words.known)
    (found_holds (g.W.RowWords.known c.args.words.now) m.parts.table.slots a cell (Told (told_out parts.turned)) c.requires.hold home does.told) in
    let checked = subst IsChecked c.program-program.ensures.value c.program-program.ensures.kept in
    record {
      same = refl;
      stands = λ on. awaited_at m.options m.code.now a parts cell home c.in-Some.ensures.owner does.found.awaited;
      found = found_at m.options m.code.now m.parts.blocks a parts.turn parts.turned x cell home c.in-Some.ensures.owner (does.found.told, kept);
      hold = holds;
      few = found_few m.options m.code.now m.parts.blocks cell.heap.owner parts.turn parts.turned cell checked.good (does.found.told, kept);
      fault = tt;
      words = does.words;
    }
