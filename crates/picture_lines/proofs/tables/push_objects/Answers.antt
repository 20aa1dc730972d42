use Rattle.std.proofs.Common.{◌++◌, map, ap, subst, ◌∙◌, arith, Some, string_bytes}
use Rattle.std.specs.FinMap as m
use Rattle.behaviour_text.specs.Text.{line_of}
use Rattle.row_store.specs.Lent.{IsLent}
use Rattle.picture_rules.specs.Seats.{object_line}
use Rattle.picture_rules.specs.Words.{text_of_lines}
use Rattle.picture_lines.proofs.Steps.{all_taken, next_line}
use Rattle.picture_lines.proofs.tables.push_objects.Goals as goal

pub values_in-requires : goal.values_in-requires
values_in-requires c =
    let entry = c.at-name.ensures.entry in
    (Some entry.0, subst (λ b. IsLent (Some entry.0) b c.at-name.result.1) (c.requires c.at-name.result.0.serial) entry.2)

pub loop-i-preserved : goal.loop-i-preserved
loop-i-preserved c =
    let entry = c.at-name.ensures.entry in
    let here = subst (λ b. IsLent (Some entry.0) b c.at-name.result.1) (c.requires c.at-name.result.0.serial) entry.2 in
    next_line object_line (m.entries c.args.heap.now.rows) c.loop-i.i _ _ _ _ entry.1 c.loop-i.invariant
    (c.in_ok-push_object.ensures
    ∙ (λ j. string_bytes c.loop-i.out ++ line_of (object_line (c.get.ensures j, (c.values_in.ensures (Some entry.0) here j, c.at-name.result.2)))))

pub returns : goal.returns
returns c =
    c.loop-i.invariant
    ∙ ap (λ es. string_bytes c.args.out.now ++ text_of_lines (map object_line es))
    (all_taken (m.entries c.args.heap.now.rows) c.loop-i.i
    (omega (arith, c.loop-i-test.false, c.loop-i.auto.i-end, c.len-i-end.ensures.count, m.len-entries c.args.heap.now.rows)))
