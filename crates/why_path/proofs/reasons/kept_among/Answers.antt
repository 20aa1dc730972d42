use Rattle.std.proofs.Common.{◌++◌, ◌∷◌, [], sym, ap, ◌∙◌}
use Rattle.why_path.proofs.Explaining.{kept_more, loose_more}
use Rattle.why_path.proofs.reasons.kept_among.Goals as goal
use Rattle.why_path.proofs.reasons.kept_among.Goals.{then-not-is_loose+in_ok-push, else-not-is_loose}

pub loop-line-preserved : goal.loop-line-preserved
loop-line-preserved c =
    let rs = c.args.reasons.now in
    let i = c.loop-line.line-index in
    let r = c.line-item.result in
    elim c.if-not-is_loose.branch [
      | then-not-is_loose+in_ok-push w ↦
          ap (λ v. v.items) w.things-is ∙ w.in_ok-push.ensures.items ∙ ap (λ xs. xs ++ r.thing ∷ []) c.loop-line.invariant
          ∙ sym (kept_more rs i r c.loop-line-test.true c.line-item.is (sym c.is_loose.ensures ∙ w.if-not-is_loose.true))
      | else-not-is_loose w ↦
          ap (λ v. v.items) w.things-is ∙ c.loop-line.invariant
          ∙ sym (loose_more rs i r c.loop-line-test.true c.line-item.is (sym c.is_loose.ensures ∙ w.if-not-is_loose.false))
    ]
