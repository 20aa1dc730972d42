use Rattle.std.proofs.Common.{◌++◌, map, ap, ◌∙◌, arith, string_bytes}
use Rattle.std.specs.FinMap as m
use Rattle.picture_rules.specs.Seats.{holds_line}
use Rattle.picture_rules.specs.Words.{text_of_lines}
use Rattle.picture_lines.proofs.Steps.{all_taken, next_line}
use Rattle.picture_lines.proofs.tables.push_holds.Goals as goal

pub loop-i-preserved : goal.loop-i-preserved
loop-i-preserved c =
    next_line holds_line (m.entries c.args.foreign.now.entries) c.loop-i.i _ _ _ _ c.at-thing.ensures.entry.1 c.loop-i.invariant
    c.in_ok-push_hold.ensures

pub returns : goal.returns
returns c =
    c.loop-i.invariant
    ∙ ap (λ es. string_bytes c.args.out.now ++ text_of_lines (map holds_line es))
    (all_taken (m.entries c.args.foreign.now.entries) c.loop-i.i
    (omega (arith, c.loop-i-test.false, c.loop-i.auto.i-end, c.len-i-end.ensures.count, m.len-entries c.args.foreign.now.entries)))
