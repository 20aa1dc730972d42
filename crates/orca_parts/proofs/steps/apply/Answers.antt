use Rattle.std.proofs.Common.{refl, subst, sym}
use Rattle.event_rule.specs.declared.event.Event.TheVariants.{Take, Collect, Leave, Block, Hear, Scan, Reap}
use Rattle.letter_kinds.specs.Telling.{HoldsTold, Told}
use Rattle.orca_parts.specs.Ready.{FitsEvent, Lies, told_first}
use Rattle.orca_parts.proofs.Untold.{lies_still}
use Rattle.orca_parts.specs.Steps.{CanStep}
use Rattle.orca_parts.proofs.Allowing.{can_take, counts_allow}
use Rattle.orca_parts.proofs.steps.apply.Goals as goal

pub apply_take-requires-clause-can : goal.apply_take-requires-clause-can
apply_take-requires-clause-can g c =
    let m = c.args.m.now in
    can_take c.in-Take.actor m.parts
    (subst (λ e. FitsEvent m.options m.code.now e m.parts) c.in-Take.is c.requires.fits)
    (subst (CanStep m.options m.code.now m.parts) c.in-Take.is c.requires.can)

pub apply_go-requires-clause-can : goal.apply_go-requires-clause-can
apply_go-requires-clause-can g c =
    let m = c.args.m.now in
    counts_allow m.options m.code.now c.in-Go.actor m.parts.turned m.parts
    (subst (λ e. FitsEvent m.options m.code.now e m.parts) c.in-Go.is c.requires.fits).0
    (subst (CanStep m.options m.code.now m.parts) c.in-Go.is c.requires.can).0

pub apply_go-requires-clause-found : goal.apply_go-requires-clause-found
apply_go-requires-clause-found g c =
    let m = c.args.m.now in
    subst (λ e. HoldsTold (g.W.RowWords.known c.args.words.now) (Told (told_first e m.parts))) c.in-Go.is c.requires.found

pub returns-in-Take-clause-lies : goal.returns-in-Take-clause-lies
returns-in-Take-clause-lies g c =
    subst (λ e. Lies (g.W.RowWords.known c.args.words.now) e c.args.m.now c.apply_take.new.m) (sym c.in-Take.is) (lies_still (g.W.RowWords.known c.args.words.now) (Take c.in-Take.actor) c.args.m.now c.apply_take.new.m c.requires.hold refl refl c.apply_take.ensures.told)

pub returns-in-Collect-clause-lies : goal.returns-in-Collect-clause-lies
returns-in-Collect-clause-lies g c =
    subst (λ e. Lies (g.W.RowWords.known c.args.words.now) e c.args.m.now c.apply_collect.new.m) (sym c.in-Collect.is) (lies_still (g.W.RowWords.known c.args.words.now) (Collect c.in-Collect.actor) c.args.m.now c.apply_collect.new.m c.requires.hold refl refl c.apply_collect.ensures.told)

pub returns-in-Leave-clause-lies : goal.returns-in-Leave-clause-lies
returns-in-Leave-clause-lies g c =
    subst (λ e. Lies (g.W.RowWords.known c.args.words.now) e c.args.m.now c.apply_leave.new.m) (sym c.in-Leave.is) (lies_still (g.W.RowWords.known c.args.words.now) (Leave c.in-Leave.actor) c.args.m.now c.apply_leave.new.m c.requires.hold refl refl c.apply_leave.ensures.told)

pub returns-in-Block-clause-lies : goal.returns-in-Block-clause-lies
returns-in-Block-clause-lies g c =
    subst (λ e. Lies (g.W.RowWords.known c.args.words.now) e c.args.m.now c.apply_block.new.m) (sym c.in-Block.is) (lies_still (g.W.RowWords.known c.args.words.now) (Block c.in-Block.actor) c.args.m.now c.apply_block.new.m c.requires.hold refl refl c.apply_block.ensures.told)

pub returns-in-Hear-clause-lies : goal.returns-in-Hear-clause-lies
returns-in-Hear-clause-lies g c =
    subst (λ e. Lies (g.W.RowWords.known c.args.words.now) e c.args.m.now c.apply_hear.new.m) (sym c.in-Hear.is) (lies_still (g.W.RowWords.known c.args.words.now) (Hear) c.args.m.now c.apply_hear.new.m c.requires.hold refl refl c.apply_hear.ensures.applies.told)

pub returns-in-Scan-clause-lies : goal.returns-in-Scan-clause-lies
returns-in-Scan-clause-lies g c =
    subst (λ e. Lies (g.W.RowWords.known c.args.words.now) e c.args.m.now c.apply_scan.new.m) (sym c.in-Scan.is) (lies_still (g.W.RowWords.known c.args.words.now) (Scan) c.args.m.now c.apply_scan.new.m c.requires.hold refl refl c.apply_scan.ensures.told)

pub returns-in-Reap-clause-lies : goal.returns-in-Reap-clause-lies
returns-in-Reap-clause-lies g c =
    let m = c.args.m.now in
    let new = c.apply_reap.new.m in
    let known = g.W.RowWords.known c.args.words.now in
    subst (λ e. Lies known e m new) (sym c.in-Reap.is)
    (subst (λ t. Lies known (Reap t) m new) c.get.ensures (lies_still known (Reap c.get.result) m new c.requires.hold refl refl c.apply_reap.ensures.told))
