use Rattle.std.proofs.Common.{subst, sym}
use Rattle.std.specs.Prelude.{OnOk}
use Rattle.letter_kinds.specs.Telling.{HoldsTold, Told}
use Rattle.orca_parts.specs.Ready.{told_first}
use Rattle.orca_parts.proofs.Untold.{none_holds, ok_holds}
use Rattle.actor_cell.specs.Cells.{as_cell}
use Rattle.actor_table.specs.Slots.{slot_at}
use Rattle.orca_parts.specs.Core.{HasFound, HoldsFound}
use Rattle.orca_parts.specs.Reaping.{AckedAreHome}
use Rattle.orca_parts.specs.Steps.{CanStep, ReapsAtHome}
use Rattle.orca_parts.proofs.Giving.{seat_here}
use Rattle.orca_parts.proofs.steps.prepare.Goals as goal

pub prepare_go-requires : goal.prepare_go-requires
prepare_go-requires g c =
    let m = c.args.m.now in
    let a = c.in-Go.actor in
    let slots = m.parts.table.slots in
    let can = subst (CanStep m.options m.code.now m.parts) c.in-Go.is c.requires.can in
    record {
      serials = λ x home. (can.0 (as_cell x) (slot_at slots a).mail.letters (seat_here slots a x home)).serials;
      stands = c.requires.stands;
      kept = c.requires.kept;
      hold = c.requires.hold;
      known = λ on. subst (λ e. HasFound e m) c.in-Go.is (c.requires.known on);
      holds = λ on. subst (λ e. HoldsFound (g.W.RowWords.known c.args.words.now) e m) c.in-Go.is (c.requires.holds on);
    }

pub prepare_collect-requires : goal.prepare_collect-requires
prepare_collect-requires g c =
    let m = c.args.m.now in
    record {
      others = subst (CanStep m.options m.code.now m.parts) c.in-Collect.is c.requires.can;
      hold = c.requires.hold;
      known = λ on. subst (λ e. HasFound e m) c.in-Collect.is (c.requires.known on);
    }

pub prepare_reap-requires : goal.prepare_reap-requires
prepare_reap-requires g c =
    let m = c.args.m.now in
    record {
      home = subst (λ t. AckedAreHome t m.parts.detector.state m.parts.table.slots) (sym c.get.ensures)
          (subst (λ e. ReapsAtHome e m.parts) c.in-Reap.is c.requires.home);
    }

pub returns-in-Go-clause-hold : goal.returns-in-Go-clause-hold
returns-in-Go-clause-hold g c =
    subst (λ e. OnOk c.prepare_go.result (HoldsTold (g.W.RowWords.known c.prepare_go.new.words) (Told (told_first e c.prepare_go.new.m.parts)))) (sym c.in-Go.is) c.prepare_go.ensures.hold

pub returns-in-Hear-clause-hold : goal.returns-in-Hear-clause-hold
returns-in-Hear-clause-hold g c =
    ok_holds c.prepare_hear.result _ (subst (λ e. HoldsTold (g.W.RowWords.known c.args.words.now) (Told (told_first e c.prepare_hear.new.m.parts))) (sym c.in-Hear.is) (none_holds _))

pub returns-in-Scan-clause-hold : goal.returns-in-Scan-clause-hold
returns-in-Scan-clause-hold g c =
    ok_holds c.prepare_scan.result _ (subst (λ e. HoldsTold (g.W.RowWords.known c.args.words.now) (Told (told_first e c.prepare_scan.new.m.parts))) (sym c.in-Scan.is) (none_holds _))
