use Rattle.std.specs.Prelude.{IfErr}
use Rattle.std.proofs.Common.{◌≡◌, ◌<◌, false, length, rules, ap, subst, sym, ◌∙◌}
use Rattle.letter_kinds.specs.Telling.{HoldsTold, Told}
use Rattle.actor_cell.specs.Tells.{told_found}
use Rattle.actor_table.specs.Slots.{away_of}
use Rattle.actor_table.specs.Telling.{TableTells}
use Rattle.orca_parts.specs.Away.{is_out_for}
use Rattle.orca_parts.specs.Core.{core_state}
use Rattle.orca_parts.proofs.Prepared.{keeps_then}
use Rattle.orca_parts.proofs.Readied.{fits_home}
use Rattle.orca_core.specs.Machine.{IsFoundIn, IsSame, Machine, ReapsNoneAway, Stand}
use Rattle.orca_core.proofs.Kept.{holds_still, kept_holds, room_fit, room_has}
use Rattle.orca_core.proofs.Reached.{can_step, early_still, fault_still, reached_still, reaps_at_home, reaps_still, same_state, same_still}
use Rattle.orca_core.proofs.machine.Orca.prepare_from.Goals as goal

pub prepare-requires-clause-can : goal.prepare-requires-clause-can
prepare-requires-clause-can g c =
    let m = c.self.inside in
    let mid = c.stand.new.m in
    can_step mid m.steps (reached_still m.core m.steps mid c.stand.ensures.same c.self.invariant.reached)
    (early_still m.core m.steps c.args.self.now c.self.view_is c.requires.early) c.args.e

pub prepare-requires-clause-home : goal.prepare-requires-clause-home
prepare-requires-clause-home g c =
    let m = c.self.inside in
    let mid = c.stand.new.m in
    reaps_at_home mid m.steps (reached_still m.core m.steps mid c.stand.ensures.same c.self.invariant.reached) c.args.e
    (reaps_still m.core m.steps mid c.stand.ensures.same c.args.e (subst (ReapsNoneAway c.args.e) (sym c.self.view_is) c.requires.home))

pub prepare-requires-clause-kept : goal.prepare-requires-clause-kept
prepare-requires-clause-kept g c = (room_fit c.self.inside.core c.stand.new.m c.stand.ensures.same c.self.invariant.fit).kept

pub prepare-requires-clause-hold : goal.prepare-requires-clause-hold
prepare-requires-clause-hold g c =
    let m = c.self.inside.core.parts in
    let known = g.W.RowWords.known c.args.words.now in
    holds_still known (TableTells m.table.slots) (TableTells c.stand.new.m.parts.table.slots)
    (kept_holds known m.blocks (TableTells m.table.slots) c.self.invariant.fit.kept (subst (Stand known) (sym c.self.view_is) c.requires.stand))
    c.stand.ensures.same.room.told

pub prepare-requires-clause-known : goal.prepare-requires-clause-known
prepare-requires-clause-known g c = λ on. c.stand.ensures.known c.args.e (subst (IsFoundIn c.args.e c.args.found.now) (sym c.self.view_is) c.requires.found)

pub prepare-requires-clause-holds : goal.prepare-requires-clause-holds
prepare-requires-clause-holds g c = λ on.
    let known = g.W.RowWords.known c.args.words.now in
    let its = subst (IsFoundIn c.args.e c.args.found.now) (sym c.self.view_is) c.requires.found in
    c.stand.ensures.holds c.args.e known its
    (subst (λ (x : Machine). 0 < length x.blocks → HoldsTold known (Told (told_found c.args.found.now))) (sym c.self.view_is) c.requires.holds)

pub invariant_of-self : goal.invariant_of-self
invariant_of-self g c =
    let m = c.self.inside in
    let new = c.prepare.new.m in
    let same = keeps_then m.core c.stand.new.m new c.stand.ensures.same c.prepare.ensures.prepares.same in
    record {
      reached = reached_still m.core m.steps new same c.self.invariant.reached;
      stands = c.prepare.ensures.prepares.stands (λ on. let z = sym c.stand.ensures.stands ∙ on in cc);
      fit = room_fit m.core new same c.self.invariant.fit;
      has = room_has m.core new same (same_state m.core m.steps new same) c.self.invariant.has;
    }

pub invariant_of-self-2 : goal.invariant_of-self-2
invariant_of-self-2 g c =
    let m = c.self.inside in
    let new = c.prepare.new.m in
    let same = keeps_then m.core c.stand.new.m new c.stand.ensures.same c.prepare.ensures.prepares.same in
    record {
      reached = reached_still m.core m.steps new same c.self.invariant.reached;
      stands = c.prepare.ensures.prepares.stands (λ on. let z = sym c.stand.ensures.stands ∙ on in cc);
      fit = room_fit m.core new same c.self.invariant.fit;
      has = room_has m.core new same (same_state m.core m.steps new same) c.self.invariant.has;
    }

pub returns-clause-same : goal.returns-clause-same
returns-clause-same g c =
    let m = c.self.inside in
    let new = c.prepare.new.m in
    let same = keeps_then m.core c.stand.new.m new c.stand.ensures.same c.prepare.ensures.prepares.same in
    subst (λ old. IsSame old (record { state = core_state new; steps = m.steps; out = away_of new.parts.table.slots; blocks = new.parts.blocks; kept = new.parts }))
    c.self.view_is (same_still m.core m.steps new same)

pub returns-in_err-prepare-clause-same : goal.returns-in_err-prepare-clause-same
returns-in_err-prepare-clause-same g c =
    let m = c.self.inside in
    let new = c.prepare.new.m in
    let same = keeps_then m.core c.stand.new.m new c.stand.ensures.same c.prepare.ensures.prepares.same in
    subst (λ old. IsSame old (record { state = core_state new; steps = m.steps; out = away_of new.parts.table.slots; blocks = new.parts.blocks; kept = new.parts }))
    c.self.view_is (same_still m.core m.steps new same)

pub returns-clause-home : goal.returns-clause-home
returns-clause-home g c =
    let m = c.self.inside in
    let new = c.prepare.new.m in
    let same = keeps_then m.core c.stand.new.m new c.stand.ensures.same c.prepare.ensures.prepares.same in
    let out = same.room.away ∙ ap (λ (x : Machine). x.out) c.self.view_is in
    subst (λ away. is_out_for away c.args.e ≡ false) out
    (fits_home new.options new.code.now new.parts c.args.e (search rules))

pub returns-in_err-prepare-clause-fault : goal.returns-in_err-prepare-clause-fault
returns-in_err-prepare-clause-fault g c =
    let m = c.self.inside in
    subst (λ fault. IfErr c.from_residual.result fault)
    (fault_still m.core m.steps c.args.self.now c.self.view_is c.stand.new.m c.stand.ensures.same c.args.e) (search rules)

pub returns-clause-stand : goal.returns-clause-stand
returns-clause-stand g c = λ some.
    let m = c.self.inside.core.parts in
    let new = c.prepare.new.m.parts in
    let known = g.W.RowWords.known c.args.words.now in
    let same = keeps_then c.self.inside.core c.stand.new.m c.prepare.new.m c.stand.ensures.same c.prepare.ensures.prepares.same in
    subst (λ k. HoldsTold k (TableTells new.table.slots)) (sym c.prepare.ensures.words.known)
    (holds_still known (TableTells m.table.slots) (TableTells new.table.slots)
    (kept_holds known m.blocks (TableTells m.table.slots) c.self.invariant.fit.kept (subst (Stand known) (sym c.self.view_is) c.requires.stand))
    same.room.told)

pub returns-in_err-prepare-clause-stand : goal.returns-in_err-prepare-clause-stand
returns-in_err-prepare-clause-stand g c = λ some.
    let m = c.self.inside.core.parts in
    let new = c.prepare.new.m.parts in
    let known = g.W.RowWords.known c.args.words.now in
    let same = keeps_then c.self.inside.core c.stand.new.m c.prepare.new.m c.stand.ensures.same c.prepare.ensures.prepares.same in
    subst (λ k. HoldsTold k (TableTells new.table.slots)) (sym c.prepare.ensures.words.known)
    (holds_still known (TableTells m.table.slots) (TableTells new.table.slots)
    (kept_holds known m.blocks (TableTells m.table.slots) c.self.invariant.fit.kept (subst (Stand known) (sym c.self.view_is) c.requires.stand))
    same.room.told)
