use Rattle.std.specs.Prelude.{IfErr}
use Rattle.std.proofs.Common.{◌≡◌, false, rules, ap, subst, sym, ◌∙◌}
use Rattle.letter_kinds.specs.Telling.{HoldsTold}
use Rattle.actor_table.specs.Slots.{away_of}
use Rattle.actor_table.specs.Telling.{TableTells}
use Rattle.orca_parts.specs.Away.{is_out_for}
use Rattle.orca_parts.specs.Core.{core_state}
use Rattle.orca_parts.proofs.Readied.{fits_home}
use Rattle.orca_core.specs.Machine.{IsFaultOf, IsSame, Machine, ReapsNoneAway, Stand}
use Rattle.orca_core.proofs.Kept.{holds_still, kept_holds, room_fit, room_has}
use Rattle.orca_core.proofs.Reached.{can_step, early_still, reached_still, reaps_at_home, same_state, same_still}
use Rattle.orca_core.proofs.machine.Orca.prepare.Goals as goal

pub prepare-requires-clause-can : goal.prepare-requires-clause-can
prepare-requires-clause-can g c =
    let m = c.self.inside in
    can_step m.core m.steps c.self.invariant.reached (early_still m.core m.steps c.args.self.now c.self.view_is c.requires.early) c.args.e

pub prepare-requires-clause-home : goal.prepare-requires-clause-home
prepare-requires-clause-home g c =
    let m = c.self.inside in
    reaps_at_home m.core m.steps c.self.invariant.reached c.args.e (subst (ReapsNoneAway c.args.e) (sym c.self.view_is) c.requires.home)

pub prepare-requires-clause-kept : goal.prepare-requires-clause-kept
prepare-requires-clause-kept g c = c.self.invariant.fit.kept

pub prepare-requires-clause-hold : goal.prepare-requires-clause-hold
prepare-requires-clause-hold g c =
    let m = c.self.inside.core.parts in
    let known = g.W.RowWords.known c.args.words.now in
    kept_holds known m.blocks (TableTells m.table.slots) c.self.invariant.fit.kept (subst (Stand known) (sym c.self.view_is) c.requires.stand)

pub invariant_of-self : goal.invariant_of-self
invariant_of-self g c =
    let m = c.self.inside in
    let new = c.prepare.new.m in
    let same = c.prepare.ensures.prepares.same in
    record {
      reached = reached_still m.core m.steps new same c.self.invariant.reached;
      stands = c.prepare.ensures.prepares.stands c.self.invariant.stands;
      fit = room_fit m.core new same c.self.invariant.fit;
      has = room_has m.core new same (same_state m.core m.steps new same) c.self.invariant.has;
    }

pub invariant_of-self-2 : goal.invariant_of-self-2
invariant_of-self-2 g c =
    let m = c.self.inside in
    let new = c.prepare.new.m in
    let same = c.prepare.ensures.prepares.same in
    record {
      reached = reached_still m.core m.steps new same c.self.invariant.reached;
      stands = c.prepare.ensures.prepares.stands c.self.invariant.stands;
      fit = room_fit m.core new same c.self.invariant.fit;
      has = room_has m.core new same (same_state m.core m.steps new same) c.self.invariant.has;
    }

pub returns-clause-same : goal.returns-clause-same
returns-clause-same g c =
    let m = c.self.inside in
    let new = c.prepare.new.m in
    subst (λ old. IsSame old (record { state = core_state new; steps = m.steps; out = away_of new.parts.table.slots; blocks = new.parts.blocks; kept = new.parts }))
    c.self.view_is (same_still m.core m.steps new c.prepare.ensures.prepares.same)

pub returns-in_err-prepare-clause-same : goal.returns-in_err-prepare-clause-same
returns-in_err-prepare-clause-same g c =
    let m = c.self.inside in
    let new = c.prepare.new.m in
    subst (λ old. IsSame old (record { state = core_state new; steps = m.steps; out = away_of new.parts.table.slots; blocks = new.parts.blocks; kept = new.parts }))
    c.self.view_is (same_still m.core m.steps new c.prepare.ensures.prepares.same)

pub returns-clause-home : goal.returns-clause-home
returns-clause-home g c =
    let new = c.prepare.new.m in
    let out = c.prepare.ensures.prepares.same.room.away ∙ ap (λ (x : Machine). x.out) c.self.view_is in
    subst (λ away. is_out_for away c.args.e ≡ false) out
    (fits_home new.options new.code.now new.parts c.args.e (search rules))

pub returns-in_err-prepare-clause-fault : goal.returns-in_err-prepare-clause-fault
returns-in_err-prepare-clause-fault g c =
    subst (λ (x : Machine). IfErr c.from_residual.result (IsFaultOf x c.args.e)) c.self.view_is (search rules)

pub returns-clause-stand : goal.returns-clause-stand
returns-clause-stand g c = λ some.
    let m = c.self.inside.core.parts in
    let new = c.prepare.new.m.parts in
    let known = g.W.RowWords.known c.args.words.now in
    subst (λ k. HoldsTold k (TableTells new.table.slots)) (sym c.prepare.ensures.words.known)
    (holds_still known (TableTells m.table.slots) (TableTells new.table.slots)
    (kept_holds known m.blocks (TableTells m.table.slots) c.self.invariant.fit.kept (subst (Stand known) (sym c.self.view_is) c.requires.stand))
    c.prepare.ensures.prepares.same.room.told)

pub returns-in_err-prepare-clause-stand : goal.returns-in_err-prepare-clause-stand
returns-in_err-prepare-clause-stand g c = λ some.
    let m = c.self.inside.core.parts in
    let new = c.prepare.new.m.parts in
    let known = g.W.RowWords.known c.args.words.now in
    subst (λ k. HoldsTold k (TableTells new.table.slots)) (sym c.prepare.ensures.words.known)
    (holds_still known (TableTells m.table.slots) (TableTells new.table.slots)
    (kept_holds known m.blocks (TableTells m.table.slots) c.self.invariant.fit.kept (subst (Stand known) (sym c.self.view_is) c.requires.stand))
    c.prepare.ensures.prepares.same.room.told)
