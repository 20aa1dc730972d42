use Rattle.std.proofs.Common.{map, ◌∙◌, arith}
use Rattle.std.specs.List.{insert}
use Rattle.foreign_table.specs.declared.search.Entry.{Entry}
use Rattle.foreign_table.specs.Entry.{lying_of, pair_of}
use Rattle.foreign_table.proofs.Rows.{end_both}
use Rattle.foreign_table.proofs.aside.put_entry.Goals as goal

pub returns-clause-pairs : goal.returns-clause-pairs
returns-clause-pairs c =
    let es = c.args.held.now.items in
    let vs = c.args.values.now.items in
    let row = c.args.row.now in
    let y : Entry = record { thing = c.args.thing.now; count = c.new-count.result; first = c.len-first.result; place = c.place_of_row-place.result } in
    (λ j. map (pair_of (c.append_values.ensures.items j)) (c.push_reserved.ensures.items j))
    ∙ (end_both es vs row c.args.i y (omega (arith, c.args.held.now.ok.0)) (omega (arith, c.args.values.now.ok.0)) c.place_of_row-place.ensures.len c.requires.few c.requires.follow).0
    ∙ (λ j. insert (map (pair_of vs) es) c.args.i (c.args.thing.now, (c.new-count.ensures j, lying_of row (c.place_of_row-place.ensures.block j))))

pub returns-clause-follow : goal.returns-clause-follow
returns-clause-follow c =
    let es = c.args.held.now.items in
    let vs = c.args.values.now.items in
    let y : Entry = record { thing = c.args.thing.now; count = c.new-count.result; first = c.len-first.result; place = c.place_of_row-place.result } in
    rw c.push_reserved.ensures.items (rw c.append_values.ensures.items
    (end_both es vs c.args.row.now c.args.i y (omega (arith, c.args.held.now.ok.0)) (omega (arith, c.args.values.now.ok.0)) c.place_of_row-place.ensures.len c.requires.few c.requires.follow).1)
