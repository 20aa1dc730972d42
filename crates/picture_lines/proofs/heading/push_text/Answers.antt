use Rattle.std.proofs.Common.{◌++◌, map, ap, ◌∙◌, arith}
use Rattle.std.specs.Prelude.{slice_range}
use Rattle.picture_rules.specs.Pictures.{text_line}
use Rattle.picture_rules.specs.Words.{text_of_lines}
use Rattle.picture_lines.proofs.Spans.{spans_told}
use Rattle.picture_lines.proofs.Steps.{all_taken}
use Rattle.picture_lines.proofs.heading.push_text.Goals as goal

pub returns : goal.returns
returns c =
    let text = c.args.text.now in
    let out = c.args.out.now.items in
    let spans = c.deref-span-items.result.now in
    c.loop-span.invariant
    ∙ ap (λ ss. out ++ text_of_lines (map (λ s. text_line (slice_range text s.from s.to)) ss))
    (all_taken spans c.loop-span.span-index (omega (arith, c.loop-span-test.false, c.loop-span.auto.span-index-end)) ∙ c.deref-span-items.ensures.value)
    ∙ ap (λ ls. out ++ text_of_lines ls) (spans_told text c.in_ok-spans.spans.items c.in_ok-spans.ensures.lines)
