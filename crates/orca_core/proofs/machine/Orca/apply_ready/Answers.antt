use Rattle.std.proofs.Common.{◌≡◌, ◌+◌, subst, sym}
use Rattle.letter_kinds.specs.Telling.{Told}
use Rattle.row_blocks.specs.Blocks.{MayPutFree}
use Rattle.row_laws.specs.Blocks.{blocks_after}
use Rattle.actor_table.specs.Slots.{actors_of}
use Rattle.actor_table.specs.Telling.{TableTells}
use Rattle.orca_parts.specs.Core.{core_state}
use Rattle.orca_parts.specs.Ready.{told_first}
use Rattle.orca_parts.specs.Woken.{IsLowestWoken}
use Rattle.orca_core.specs.Machine.{Fits, HasRoomFor, Machine, Stand, StandsReady}
use Rattle.orca_core.proofs.Applied.{blocks_is, fit_after, fits_room, has_after}
use Rattle.orca_core.proofs.Kept.{first_kept, kept_holds}
use Rattle.orca_core.proofs.Reached.{can_step, early_still, reached_more}
use Rattle.orca_core.proofs.machine.Orca.apply_ready.Goals as goal

pub apply-woken-requires-clause-can : goal.apply-woken-requires-clause-can
apply-woken-requires-clause-can g c =
    let m = c.self.inside in
    can_step m.core m.steps c.self.invariant.reached (early_still m.core m.steps c.args.self.now c.self.view_is c.requires.early) c.args.ready.event

pub apply-woken-requires-clause-blocks : goal.apply-woken-requires-clause-blocks
apply-woken-requires-clause-blocks g c = c.self.invariant.fit

pub apply-woken-requires-clause-hold : goal.apply-woken-requires-clause-hold
apply-woken-requires-clause-hold g c =
    let m = c.self.inside.core.parts in
    let known = g.W.RowWords.known c.args.words.now in
    kept_holds known m.blocks (TableTells m.table.slots) c.self.invariant.fit.kept (subst (Stand known) (sym c.self.view_is) c.requires.stand)

pub apply-woken-requires-clause-found : goal.apply-woken-requires-clause-found
apply-woken-requires-clause-found g c =
    let m = c.self.inside.core in
    let known = g.W.RowWords.known c.args.words.now in
    let fits = subst (Fits c.args.ready) (sym c.self.view_is) c.requires.fits in
    kept_holds known m.parts.blocks (Told (told_first c.args.ready.event m.parts)) (first_kept m.options m.code.now c.args.ready.event m.parts fits)
    (subst (StandsReady known c.args.ready) (sym c.self.view_is) c.requires.found)

pub apply-woken-requires-clause-put : goal.apply-woken-requires-clause-put
apply-woken-requires-clause-put g c =
    subst (λ (x : Machine). MayPutFree x.blocks (g.W.RowWords.places c.args.words.now)) (sym c.self.view_is) c.requires.put

pub invariant_of-self : goal.invariant_of-self
invariant_of-self g c =
    let m = c.self.inside in
    let after = c.apply-woken.new.m in
    let e = c.args.ready.event in
    let does = c.apply-woken.ensures.applies in
    let fits = subst (Fits c.args.ready) (sym c.self.view_is) c.requires.fits in
    let fit = c.self.invariant.fit in
    let has = c.self.invariant.has in
    let reached = reached_more m.core m.steps after e does.alike c.self.invariant.reached
    (early_still m.core m.steps c.args.self.now c.self.view_is c.requires.early) does.state in
    let before = c.tells_its_own.ensures in
    let then = c.tells_its_own-2.ensures in
    let made = c.apply-woken.ensures.lies.made in
    record {
      reached = reached;
      stands = does.stands c.self.invariant.stands;
      fit = fit_after m.core after e c.apply-woken.result (m.steps + 1) does fits fit has reached before.owned then.owned then.brings then.none made;
      has = has_after m.core after e c.apply-woken.result (m.steps + 1) does fits fit has reached before.owned then.owned then.brings then.none made;
    }

pub returns-clause-woken : goal.returns-clause-woken
returns-clause-woken g c =
    subst (λ (x : Machine). IsLowestWoken x.state.actors (actors_of c.apply-woken.new.m.parts.table.slots) c.apply-woken.result) c.self.view_is c.apply-woken.ensures.applies.woken

pub returns-clause-blocks : goal.returns-clause-blocks
returns-clause-blocks g c =
    let m = c.self.inside in
    let after = c.apply-woken.new.m in
    let e = c.args.ready.event in
    let does = c.apply-woken.ensures.applies in
    let fits = subst (Fits c.args.ready) (sym c.self.view_is) c.requires.fits in
    let reached = reached_more m.core m.steps after e does.alike c.self.invariant.reached
    (early_still m.core m.steps c.args.self.now c.self.view_is c.requires.early) does.state in
    let before = c.tells_its_own.ensures in
    let then = c.tells_its_own-2.ensures in
    subst (λ (x : Machine). after.parts.blocks ≡ blocks_after x.state e (core_state after) x.blocks) c.self.view_is
    (blocks_is m.core after e c.apply-woken.result (m.steps + 1) does fits c.self.invariant.fit c.self.invariant.has reached
    before.owned then.owned then.brings then.none c.apply-woken.ensures.lies.made)

pub returns-clause-room : goal.returns-clause-room
returns-clause-room g c =
    let m = c.self.inside.core in
    let after = c.apply-woken.new.m in
    let e = c.args.ready.event in
    subst (λ (x : Machine). HasRoomFor x.state e (core_state after) x.blocks) c.self.view_is
    (fits_room m e (core_state after) (subst (Fits c.args.ready) (sym c.self.view_is) c.requires.fits) c.apply-woken.ensures.applies.state)

pub returns-clause-stand : goal.returns-clause-stand
returns-clause-stand g c = λ some. c.apply-woken.ensures.lies.holds
