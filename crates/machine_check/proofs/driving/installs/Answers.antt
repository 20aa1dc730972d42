use Rattle.std.proofs.Common.{[], ◌∷◌, rules, subst, ◌∙◌}
use Rattle.behaviour_code.specs.WellFormed.{IsWellFormed}
use Rattle.letter_kinds.specs.Telling.{Told}
use Rattle.actor_cell.specs.Tells.{Tells, told_found}
use Rattle.orca_parts.proofs.Untold.{still_untold, untold_holds}
use Rattle.orca_core.proofs.Blockless.{none_by, none_put, none_stand, none_told}
use Rattle.machine_check.proofs.Finding.{can_find, kept_by}
use Rattle.machine_check.proofs.driving.installs.Goals as goal

pub found-requires-clause-serials : goal.found-requires-clause-serials
found-requires-clause-serials c =
    let reached = c.keeps_the_reachable.ensures in
    let good = subst IsWellFormed c.program-program.ensures.value c.program-program.ensures.kept.good in
    let driven = c.requires.driven in
    (can_find c.args.machine.now c.args.drive.now.code.now c.args.drive.now.trace driven.own reached.book reached.run
    c.requires.young good driven.home c.args.a c.in-Some.cell.now c.in-Some.ensures.cell c.in-Some.ensures.owner).serials

pub found-requires-clause-others : goal.found-requires-clause-others
found-requires-clause-others c =
    let reached = c.keeps_the_reachable.ensures in
    let good = subst IsWellFormed c.program-program.ensures.value c.program-program.ensures.kept.good in
    let driven = c.requires.driven in
    (can_find c.args.machine.now c.args.drive.now.code.now c.args.drive.now.trace driven.own reached.book reached.run
    c.requires.young good driven.home c.args.a c.in-Some.cell.now c.in-Some.ensures.cell c.in-Some.ensures.owner).others

pub found-requires-clause-stand : goal.found-requires-clause-stand
found-requires-clause-stand c =
    let told = Tells c.in-Some.cell.now in
    untold_holds _ told (none_told c.args.machine.now.blocks told c.requires.driven.none c.in-Some.ensures.blocks)

pub install-requires-clause-found : goal.install-requires-clause-found
install-requires-clause-found c = λ a acts x home.
    let told = Tells c.in-Some.cell.now in
    let nothing = none_told c.args.machine.now.blocks told c.requires.driven.none c.in-Some.ensures.blocks in
    (search rules, λ n row block here. absurd (still_untold told (Told (told_found c.in-Ok.found)) nothing c.in-Ok.ensures.told n row block here))

pub install-requires-clause-stand : goal.install-requires-clause-stand
install-requires-clause-stand c = none_stand _ c.args.machine.now c.requires.driven.none

pub install-requires-clause-put : goal.install-requires-clause-put
install-requires-clause-put c = none_put c.args.machine.now.blocks (0 ∷ []) c.requires.driven.none

pub returns-in-Ok : goal.returns-in-Ok
returns-in-Ok c =
    let reached = c.keeps_the_reachable.ensures in
    let driven = c.requires.driven in
    record {
      own = kept_by c.args.machine.now c.args.drive.now.code.now c.args.drive.now.trace driven.own c.install.new.self
          reached.book c.args.event c.install.result reached.run c.install.ensures.ok c.install.ensures.same;
      home = λ a. c.install.ensures.out a ∙ driven.home a;
      none = none_by c.args.machine.now c.install.new.self c.args.event c.install.result driven.none c.install.ensures.blocks c.install.ensures.same;
    }
