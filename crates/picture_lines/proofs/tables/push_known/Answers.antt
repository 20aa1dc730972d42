use Rattle.std.proofs.Common.{◌≡◌, ◌++◌, ◌∷◌, Some, map, slice_get, sym, ap, subst, ◌∙◌, arith, string_bytes}
use Rattle.std.specs.Prelude.{codes}
use Rattle.std.specs.FinMap as m
use Rattle.std.proofs.lemmas.List.{append-nil}
use Rattle.std.proofs.lemmas.Simd.{map-map}
use Rattle.behaviour_text.specs.Text.{line_of}
use Rattle.row_store.specs.Lent.{IsLent}
use Rattle.foreign_table.specs.Table.{Table, block_at}
use Rattle.row_table.specs.Table.{bare_entry, row_in, uncounted}
use Rattle.foreign_table.proofs.Mapped.{entries-mapped}
use Rattle.row_table.proofs.Mapped.{none_listed}
use Rattle.picture_rules.specs.Words.{text_of_lines, thing_word, value_words}
use Rattle.picture_rules.specs.Seats.{knows_line}
use Rattle.picture_lines.proofs.Steps.{all_taken, next_line}
use Rattle.picture_lines.proofs.tables.push_known.Goals as goal

pub values_in-requires : goal.values_in-requires
values_in-requires c =
    let entry = c.at-thing.ensures.entry in
    let nowhere = ap (λ (t : Table). block_at t.blocks c.at-thing.result.0) c.in-Some.ensures ∙ c.requires c.at-thing.result.0 in
    (entry.0, subst (λ b. IsLent entry.0 b c.at-thing.result.2) nowhere entry.2)

pub loop-i-preserved : goal.loop-i-preserved
loop-i-preserved c =
    let entry = c.at-thing.ensures.entry in
    let nowhere = ap (λ (t : Table). block_at t.blocks c.at-thing.result.0) c.in-Some.ensures ∙ c.requires c.at-thing.result.0 in
    let here = subst (λ b. IsLent entry.0 b c.at-thing.result.2) nowhere entry.2 in
    next_line (λ e. codes "knows" ∷ thing_word e.0 ∷ value_words (row_in e.1)) (m.entries (uncounted c.args.known.now.rows)) c.loop-i.i
    (c.at-thing.result.0, (c.at-thing.result.1, entry.0)) _ _ _
    (subst (λ (t : Table). slice_get (m.entries t.entries) c.loop-i.i ≡ Some (c.at-thing.result.0, (c.at-thing.result.1, entry.0))) c.in-Some.ensures entry.1) c.loop-i.invariant
    (c.in_ok-push_row.ensures ∙ ap (λ values. string_bytes c.loop-i.out ++ line_of (codes "knows" ∷ thing_word c.at-thing.result.0 ∷ value_words values)) (c.values_in.ensures entry.0 here))

pub returns-in-None : goal.returns-in-None
returns-in-None c =
    let rows = c.args.known.now.rows in
    sym (append-nil (string_bytes c.args.out.now)) ∙ ap (λ es. string_bytes c.args.out.now ++ text_of_lines (map knows_line es)) (sym (none_listed rows c.in-None.ensures))

pub returns : goal.returns
returns c =
    let rows = c.args.known.now.rows in
    c.loop-i.invariant
    ∙ ap (λ es. string_bytes c.args.out.now ++ text_of_lines (map (λ e. codes "knows" ∷ thing_word e.0 ∷ value_words (row_in e.1)) es))
    (all_taken (m.entries (uncounted rows)) c.loop-i.i
    (omega (arith, c.loop-i-test.false, c.loop-i.auto.i-end, c.len-i-end.ensures.count, ap (λ t. m.len t.entries) c.in-Some.ensures, m.len-entries (uncounted rows)))
    ∙ entries-mapped (λ x. bare_entry) rows)
    ∙ ap (λ ls. string_bytes c.args.out.now ++ text_of_lines ls) (map-map _ _ (m.entries rows))
