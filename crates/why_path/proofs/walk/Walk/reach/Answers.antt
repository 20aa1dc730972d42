use Rattle.std.proofs.Common.{◌∷◌, [], map, Some, sym, ap, subst, ◌∙◌}
use Rattle.orca_names.specs.Names.{thing_cmp}
use Rattle.orca_names.specs.declared.reason.Reason.{Reason}
use Rattle.plain_list.specs.Rising.{IsAt}
use Rattle.why_path.specs.Checks.{is_loose, line_of}
use Rattle.why_path.specs.Lines.{Rise, key_of}
use Rattle.why_path.specs.Walk.{AreAt, reached}
use Rattle.why_path.proofs.Finding.{found_line, line_at, line_gap}
use Rattle.why_path.proofs.Reached.{at_more, kept_stay, loose_reached, none_reached}
use Rattle.why_path.proofs.Walking.{reached_thing, rise_kept}
use Rattle.why_path.proofs.walk.Walk.reach.Goals as goal

pub returns-in_default-clause-lines : goal.returns-in_default-clause-lines
returns-in_default-clause-lines c =
    let rs = c.args.self.now.reasons.items in
    let step = c.args.step.now in
    let x = c.args.thing.now in
    let none = ap (λ qs. line_of qs x) (sym c.as_slice.ensures.value)
    ∙ line_gap x c.as_slice.result.now c.in_default.field-0 c.in_default.ensures in
    sym (none_reached step.parent step.level c.args.edge x rs c.requires.rising none)

pub returns-then-not-is_loose-clause-lines : goal.returns-then-not-is_loose-clause-lines
returns-then-not-is_loose-clause-lines c =
    let rs = c.args.self.now.reasons.items in
    let step = c.args.step.now in
    let x = c.args.thing.now in
    let i = c.in-Ok.i in
    let r = c.index.result.now in
    let at = subst (λ qs. IsAt thing_cmp (map key_of qs) x i) c.as_slice.ensures.value c.in-Ok.ensures in
    let line = line_at x rs c.requires.rising i at r ∙ ap Some (sym c.index.ensures) in
    sym (kept_stay step.parent step.level c.args.edge x rs c.requires.rising r line
    (sym c.is_loose.ensures ∙ c.if-not-is_loose.true))

pub returns-clause-lines : goal.returns-clause-lines
returns-clause-lines c =
    let rs = c.args.self.now.reasons.items in
    let step = c.args.step.now in
    let x = c.args.thing.now in
    let i = c.in-Ok.i in
    let r = c.index.result.now in
    let at = subst (λ qs. IsAt thing_cmp (map key_of qs) x i) c.as_slice.ensures.value c.in-Ok.ensures in
    let found = found_line x rs _ (line_at x rs c.requires.rising i at r) in
    let loose = ap (λ (q : Reason). is_loose q.why) (sym c.index.ensures) ∙ sym c.is_loose.ensures ∙ c.if-not-is_loose.false in
    loose_reached step.parent step.level c.args.edge x rs i r at found.1 loose

pub returns-clause-next : goal.returns-clause-next
returns-clause-next c =
    let rs = c.args.self.now.reasons.items in
    let step = c.args.step.now in
    let x = c.args.thing.now in
    let e = c.args.edge in
    let i = c.in-Ok.i in
    let r = c.index.result.now in
    let at = subst (λ qs. IsAt thing_cmp (map key_of qs) x i) c.as_slice.ensures.value c.in-Ok.ensures in
    let line = line_at x rs c.requires.rising i at r ∙ ap Some (sym c.index.ensures) in
    let loose = sym c.is_loose.ensures ∙ c.if-not-is_loose.false in
    let lines = returns-clause-lines c in
    let along = reached step.parent step.level ((e, x) ∷ []) in
    record {
      rising = subst Rise (sym lines) (rise_kept along (reached_thing step.parent step.level ((e, x) ∷ [])) rs c.requires.rising);
      next = subst (λ qs. AreAt qs step.level c.push.new.self.items) (sym lines)
          (subst (AreAt (map along rs) step.level) (sym c.in_ok-push.ensures.items)
          (at_more step.parent step.level e x rs c.args.self.now.next.items r line loose c.requires.next));
    }
