use Rattle.std.proofs.Common.{◌≡◌, ◌+◌, ◌<◌, ◌≤◌, ℕ, List, length, Option, None, Ok, Err, refl, sym, ap, subst, ◌∙◌}
use Rattle.orca_names.specs.declared.limits.TheConstants.{ACTORS_LIMIT}
use Rattle.behaviour_code.specs.declared.code.Program.{Program}
use Rattle.machine_rules.specs.Actors.{Actors}
use Rattle.machine_rules.specs.Options.{Options}
use Rattle.hall_rules.proofs.Keeping.{machine_run, options_alike}
use Rattle.seat_hall.specs.declared.item.Item.TheVariants.{Entered}
use Rattle.seat_hall.specs.Answers.{EntersOr, IsFoundOf}
use Rattle.seat_hall.specs.Halls.{HallView, HallKeeps, says}
use Rattle.seat_hall.specs.Log.{claim_for, grown, state_in}
use Rattle.seat_hall.proofs.Entered.{actor_is_home, enters, is_home, keeps_all, keeps_entry, logged_of, may_try, refuses_early, refuses_late}
use Rattle.seat_hall.proofs.Kept.{few_claims, few_out}
use Rattle.seat_hall.proofs.hall.Hall.enter.Goals as goal

pub early_refusal-requires : goal.early_refusal-requires
early_refusal-requires c =
    let s = c.self.inside in
    let held = c.claim_for-holder.ensures ∙ ap (claim_for c.args.e) c.deref.ensures.value in
    actor_is_home s.code.now s.budget s.orca s.book s.claims.items s.rooms c.self.invariant c.args.e c.claim_for-holder.result held

pub returns-in-Some : goal.returns-in-Some
returns-in-Some c =
    let s = c.self.inside in
    let held = c.claim_for-holder.ensures ∙ ap (claim_for c.args.e) c.deref.ensures.value in
    subst (λ (h : HallView). EntersOr None c.args.pass c.args.e h.logged h (Err c.in-Some.refuse) h) c.self.view_is (
      refuses_early s.code.now s.budget s.orca s.book s.claims.items s.rooms c.self.invariant c.args.e c.claim_for-holder.result held
          s.stopped s.made c.in-Some.refuse c.in-Some.ensures,
      refl,
    )

pub provide-requires : goal.provide-requires
provide-requires c =
    let s = c.self.inside in
    let kept = c.self.invariant in
    let actors : c.made-actors.result ≡ length s.claims.items = c.made-actors.ensures ∙ sym kept.sized in record {
      few = subst (λ (n : ℕ). s.rooms.out ≤ n) (sym actors) (few_out s.code.now s.budget s.orca s.book s.claims.items s.rooms kept);
      limit = subst (λ (n : ℕ). n ≤ ACTORS_LIMIT) (sym actors) (few_claims s.code.now s.budget s.orca s.book s.claims.items s.rooms kept);
      enough = subst (λ (n : ℕ). n ≤ s.rooms.free + s.rooms.out) (sym actors) kept.enough;
    }

pub may_install-requires-clause-home : goal.may_install-requires-clause-home
may_install-requires-clause-home c =
    let s = c.self.inside in
    let held = c.claim_for-holder.ensures ∙ ap (claim_for c.args.e) c.deref.ensures.value in
    is_home s.code.now s.budget s.orca s.book s.claims.items s.rooms c.self.invariant c.args.e c.claim_for-holder.result held c.in_default.ensures

pub may_install-requires-clause-found : goal.may_install-requires-clause-found
may_install-requires-clause-found c =
    let s = c.self.inside in
    let run = machine_run s.code.now s.budget s.orca s.book c.self.invariant.one in
    let program = run.0 ∙ ap (λ (h : HallView). h.logged.program) c.self.view_is in
    let options = run.1 ∙ ap (λ (h : HallView). h.logged.options) c.self.view_is in
    let state = c.self.invariant.one.state_is ∙ ap (λ (h : HallView). state_in h.logged) c.self.view_is in
    λ found is. subst (λ (x : Options × Program × Actors). IsFoundOf x.0 x.1 x.2 c.args.e found.value)
    (λ i. (sym options i, sym program i, (sym state i).actors)) (c.requires found is)

pub enter-requires : goal.enter-requires
enter-requires c =
    let s = c.self.inside in
    let held = c.claim_for-holder.ensures ∙ ap (claim_for c.args.e) c.deref.ensures.value in
    may_try s.code.now s.budget s.orca s.book s.claims.items s.rooms c.self.invariant c.args.e c.claim_for-holder.result held c.in_default.ensures
    _ c.may_install.ensures

pub invariant_of-self-in-Err : goal.invariant_of-self-in-Err
invariant_of-self-in-Err c =
    let s = c.self.inside in let told = c.in-Err.ensures in let room = c.provide.ensures in
    let held = c.claim_for-holder.ensures ∙ ap (claim_for c.args.e) c.deref.ensures.value in
    subst (λ claims. HallKeeps s.code.now s.budget c.enter.new.orca c.enter.new.book claims c.provide.new.self) (sym c.reserve.ensures.items)
    (keeps_all s.code.now s.budget s.orca s.book s.claims.items s.rooms c.self.invariant c.args.e c.claim_for-holder.result held
    c.in_default.ensures c.enter.new.orca c.enter.new.book told.away told.book c.provide.new.self room.out room.free c.in-Err.refuse told.refused)

pub returns-in-Err : goal.returns-in-Err
returns-in-Err c =
    let s = c.self.inside in let told = c.in-Err.ensures in let refuse = c.in-Err.refuse in let e = c.args.e in
    let held = c.claim_for-holder.ensures ∙ ap (claim_for e) c.deref.ensures.value in
    let now = says (record (logged_of s.code.now s.budget c.enter.new.book s.claims.items s.stopped s.made) { claims = c.reserve.new.self.items }) s.last in
    subst (λ (h : HallView). EntersOr None c.args.pass e h.logged h (Err refuse) now) c.self.view_is (
      refuses_late s.code.now s.budget s.orca s.book s.claims.items s.rooms c.self.invariant e c.claim_for-holder.result held
          c.in_default.ensures c.enter.new.orca c.enter.new.book told.away told.book s.stopped s.made refuse told.refused,
      (λ i. says (record (logged_of s.code.now s.budget s.book s.claims.items s.stopped s.made) {
        options = options_alike s.book c.enter.new.book told.book i;
        book = told.refused.entries i;
        claims = c.reserve.ensures.items i;
      }) s.last),
    )

pub invariant_of-self-in-Ok-enter : goal.invariant_of-self-in-Ok-enter
invariant_of-self-in-Ok-enter c =
    let s = c.self.inside in let told = c.in-Ok-enter.ensures in let room = c.provide.ensures in
    let held = c.claim_for-holder.ensures ∙ ap (claim_for c.args.e) c.deref.ensures.value in
    let grew : c.grow.new.claims.items ≡ grown (length c.enter.new.orca.state.actors) s.claims.items =
    c.grow.ensures ∙ (λ i. grown (c.made.ensures i) (c.reserve.ensures.items i)) in
    subst (λ claims. HallKeeps s.code.now s.budget c.enter.new.orca c.enter.new.book claims c.provide.new.self) (sym grew)
    (keeps_entry s.code.now s.budget s.orca s.book s.claims.items s.rooms c.self.invariant c.args.e c.claim_for-holder.result held
    c.in_default.ensures c.enter.new.orca c.enter.new.book told.away told.book c.provide.new.self room.out room.free c.in-Ok-enter.done told.ok
    (subst (λ (n : ℕ). n < c.provide.new.self.free + c.provide.new.self.out) (c.made-actors.ensures ∙ sym c.self.invariant.sized) c.in-Ok.ensures.ok))

pub returns-in-Ok-enter : goal.returns-in-Ok-enter
returns-in-Ok-enter c =
    let s = c.self.inside in let told = c.in-Ok-enter.ensures in let pass = c.args.pass in let e = c.args.e in let done = c.in-Ok-enter.done in
    let held = c.claim_for-holder.ensures ∙ ap (claim_for e) c.deref.ensures.value in
    let grew : c.grow.new.claims.items ≡ grown (length c.enter.new.orca.state.actors) s.claims.items =
    c.grow.ensures ∙ (λ i. grown (c.made.ensures i) (c.reserve.ensures.items i)) in
    let was = logged_of s.code.now s.budget s.book s.claims.items s.stopped s.made in
    subst (λ (h : HallView). EntersOr None pass e h.logged h (Ok done)
    (says (logged_of s.code.now s.budget c.enter.new.book c.grow.new.claims.items s.stopped s.made) (Entered pass e))) c.self.view_is
    (subst (λ (claims : List (Option ℕ)). EntersOr None pass e was (says was s.last) (Ok done)
    (says (logged_of s.code.now s.budget c.enter.new.book claims s.stopped s.made) (Entered pass e))) (sym grew)
    (enters s.code.now s.budget s.orca s.book s.claims.items s.rooms c.self.invariant e c.claim_for-holder.result held
    c.in_default.ensures c.enter.new.orca c.enter.new.book told.away told.book s.stopped s.made pass (says was s.last) done told.ok))
