use Rattle.std.proofs.Common.{◌≡◌, ℕ, None, Option, Some, IfErr, IfOk, OnOk, sym, ap, subst, ◌∙◌}
use Rattle.machine_rules.specs.State.{State}
use Rattle.hall_rules.specs.Causes.{event_at, held_cause}
use Rattle.hall_rules.specs.Claims.{holder}
use Rattle.hall_rules.proofs.Refusing.{none_holds}
use Rattle.seat_hall.specs.Answers.{RefusesClaim}
use Rattle.seat_hall.specs.Halls.{HallView}
use Rattle.seat_hall.specs.Log.{claim_cause, claim_in, listed, state_in}
use Rattle.seat_hall.proofs.Claims.{holder_is, of_any}
use Rattle.seat_hall.proofs.Kept.{free_is_home}
use Rattle.seat_hall.proofs.hall.Hall.ready.Goals as goal

pub claimable-requires : goal.claimable-requires
claimable-requires c = λ none.
    let s = c.self.inside in
    free_is_home s.code.now s.budget s.orca s.book s.claims.items s.rooms c.self.invariant c.args.a
    (sym (c.claim_in.ensures ∙ ap (λ xs. claim_in xs c.args.a) c.deref.ensures.value) ∙ none_holds c.claim_in.result none)

pub returns : goal.returns
returns c =
    let s = c.self.inside in let a = c.args.a in let r = c.claimable.result in let told = c.claimable.ensures in
    let held : c.claim_in.result ≡ holder None a (listed 0 s.claims.items) =
    c.claim_in.ensures ∙ (ap (λ xs. claim_in xs a) c.deref.ensures.value
    ∙ (sym (of_any (claim_in s.claims.items a)) ∙ sym (holder_is None a s.claims.items))) in
    let state = c.self.invariant.one.state_is in record {
      ok = subst (λ (h : HallView). OnOk r (claim_cause h.logged a ≡ None)) c.self.view_is
          (subst (λ (x : State × Option ℕ). OnOk r (held_cause x.0 x.1 a ≡ None)) (λ i. (state i, held i)) told.ok);
      event = subst (λ (h : HallView). IfOk r (λ e. event_at (state_in h.logged) a ≡ Some e)) c.self.view_is
          (subst (λ (x : State). IfOk r (λ e. event_at x a ≡ Some e)) state told.event);
      refused = subst (λ (h : HallView). IfErr r (λ refuse. RefusesClaim a refuse h.logged)) c.self.view_is
          (subst (λ (x : State × Option ℕ). IfErr r (λ refuse. held_cause x.0 x.1 a ≡ Some refuse)) (λ i. (state i, held i)) told.refused);
    }
