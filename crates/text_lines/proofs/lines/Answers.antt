use Rattle.std.proofs.Common.{arith, append-nil, [], ◌+◌, ◌-◌, refl, subst, sym, All, length, ◌≤◌}
use Rattle.std.proofs.lemmas.List.Elements.{All-push}
use Rattle.text_lines.proofs.Splitting.{followed_more, next_line_at, told_more, span_tested}
use Rattle.text_lines.specs.Lines.{FollowFrom}
use Rattle.text_lines.specs.declared.LineSpan.{LineSpan}
use Rattle.text_lines.proofs.lines.Goals as goal

pub loop-from-preserved : goal.loop-from-preserved
loop-from-preserved c =
    let e = c.line_end.ensures in
    let step = next_line_at c.args.bytes.now c.loop-from.from c.line_end.result (omega arith) e.within e.before e.found in
    record {
      told = told_more _ _ _ _ _ _ _ _ c.in_ok-push.ensures.items (span_tested c.args.bytes.now c.loop-from.from (c.loop-from.from + c.line_end.result - c.loop-from.from) c.line_end.result _ (omega arith) c.line_fault-fault.ensures) step c.loop-from.invariant.told;
      follow = λ more h. followed_more _ _ _ _ c.in_ok-push.ensures.items (c.loop-from.invariant.follow _ (refl, h));
      few = (omega (arith, c.in_ok-push.ensures.len), omega (arith, c.in_ok-push.ensures.len));
      within = subst (All (λ (s : LineSpan). (s.from ≤ s.to) × (s.to ≤ length c.args.bytes.now))) (sym c.in_ok-push.ensures.items)
          (All-push (λ (s : LineSpan). (s.from ≤ s.to) × (s.to ≤ length c.args.bytes.now)) _ _ c.loop-from.invariant.within (omega arith, omega arith));
    }

-- nothing more follows
pub returns-clause-follow : goal.returns-clause-follow
returns-clause-follow c = subst (FollowFrom 0) (append-nil _) (c.loop-from.invariant.follow [] tt)
