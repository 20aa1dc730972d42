use Rattle.std.proofs.Common.{◌∷◌, ◌++◌, ◌<◌, ◌≤◌, codes, length, map, ap, arith, string_bytes, sym, ◌∙◌}
use Rattle.std.proofs.lemmas.List.{take_all}
use Rattle.std.proofs.lemmas.Option.{slice_get_read}
use Rattle.std.proofs.lemmas.Simd.{map-map}
use Rattle.behaviour_text.specs.Text.{line_of}
use Rattle.orca_names.specs.declared.names.Thing.{Thing}
use Rattle.row_store.specs.Memory.{remembered}
use Rattle.row_store.specs.Told.{Lying, lies_as}
use Rattle.letter_kinds.specs.Load.{as_loaded}
use Rattle.letter_kinds.proofs.Loads.{long_load, seen_at}
use Rattle.picture_rules.specs.Words.{text_of_lines, thing_word, value_words}
use Rattle.picture_rules.specs.Seats.{brings_line}
use Rattle.picture_lines.proofs.Steps.{next_line}
use Rattle.picture_lines.proofs.Untold.{told_at_hand}
use Rattle.picture_lines.proofs.letters.push_brought.Goals as goal

pub values_of-requires : goal.values_of-requires
values_of-requires c =
    let memory = remembered c.parts.result.1.now in
    let items = c.parts.result.0.now in
    let rows = c.args.rows.now in
    let i = c.loop-thing.thing-index in
    let told = c.loop-thing-item.result in
    let seen = seen_at memory items rows c.parts.ensures.load i told c.loop-thing-test.true c.loop-thing-item.is in
    let within : i < length rows = omega (arith, long_load memory items rows c.parts.ensures.load, c.loop-thing-test.true) in
    told_at_hand memory rows i told.0 told.1 within seen c.parts.ensures.known c.requires

pub loop-thing-preserved : goal.loop-thing-preserved
loop-thing-preserved c =
    let memory = remembered c.parts.result.1.now in
    let items = c.parts.result.0.now in
    let rows = c.args.rows.now in
    let i = c.loop-thing.thing-index in
    let told = c.loop-thing-item.result in
    let seen = seen_at memory items rows c.parts.ensures.load i told c.loop-thing-test.true c.loop-thing-item.is in
    let long = long_load memory items rows c.parts.ensures.load in
    next_line (λ e. brings_line (as_loaded e)) rows i (lies_as memory told) _ _ _
    (slice_get_read rows (length items) i (lies_as memory told) long c.loop-thing-test.true seen) c.loop-thing.invariant
    (c.in_ok-push_row.ensures
    ∙ ap (λ values. string_bytes c.loop-thing.out ++ line_of (codes "brings" ∷ thing_word told.0 ∷ value_words values)) (c.values_of.ensures memory told.0))

pub returns : goal.returns
returns c =
    let rows = c.args.rows.now in
    let out = string_bytes c.args.out.now in
    let long = long_load (remembered c.parts.result.1.now) c.parts.result.0.now rows c.parts.ensures.load in
    let whole : length rows ≤ c.loop-thing.thing-index = omega (arith, c.loop-thing-test.false, long) in
    c.loop-thing.invariant
    ∙ ap (λ es. out ++ text_of_lines (map (λ e. brings_line (as_loaded e)) es)) (take_all c.loop-thing.thing-index rows whole)
    ∙ ap (λ ls. out ++ text_of_lines ls) (sym (map-map brings_line as_loaded rows))
