use Rattle.std.proofs.Common.{refl, sym, ap, ◌∙◌, arith}
use Rattle.std.specs.Ordering.{is_lt}
use Rattle.why_path.proofs.Listing.{less_true, rise_at, rise_from, rise_more}
use Rattle.why_path.proofs.holds.rise.Goals as goal

pub loop-i-preserved : goal.loop-i-preserved
loop-i-preserved c =
    let less = sym c.cmp.ensures ∙ less_true c.cmp.result (sym c.is_lt.ensures ∙ c.if-not-is_lt.false) in
    rise_more c.args.reasons.now c.loop-i.i c.index-reasons-i.result c.index-reasons-i-in-loop-i.result c.loop-i.invariant less

pub returns-then-not-is_lt : goal.returns-then-not-is_lt
returns-then-not-is_lt c = (
  λ e. cc,
  λ rise.
      let less = rise_at c.args.reasons.now c.loop-i.i c.index-reasons-i.result c.index-reasons-i-in-loop-i.result
      c.loop-i.auto.i c.loop-i-test.true rise in
      let passed = ap is_lt (c.cmp.ensures ∙ less) in
      let failed = sym c.is_lt.ensures ∙ c.if-not-is_lt.true in
      cc,
)

pub returns : goal.returns
returns c = (
  λ _. rise_from c.args.reasons.now (λ k d l. c.loop-i.invariant k d (omega (arith, l, c.loop-i-test.false)) l),
  λ _. refl,
)
