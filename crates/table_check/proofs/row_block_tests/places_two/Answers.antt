use Rattle.std.proofs.Common.{◌<◌, length, refl, arith, subst, sym}
use Rattle.std.proofs.lemmas.Option.{slice_get_read}
use Rattle.block_table.proofs.Filling.{count_within}
use Rattle.row_store.specs.Words.{HasRow}
use Rattle.table_check.proofs.FirstObject.{has_row, may_put_all}
use Rattle.table_check.proofs.row_block_tests.places_two.Goals as goal

pub place_rows-requires-clause-put : goal.place_rows-requires-clause-put
place_rows-requires-clause-put c = may_put_all c.args.blocks.now _ c.requires.words

pub has_number-requires : goal.has_number-requires
has_number-requires c =
    let some : 0 < length c.args.blocks.now = omega (arith, c.requires.free, count_within c.args.blocks.now) in
    let k = c.index.result.now in
    let at = slice_get_read c.place_rows.new.placed.items _ 0 k refl (omega (arith, c.place_rows.ensures.len some)) c.index.ensures in
    has_row _ c.row_with.result k _ _ (c.place_rows.ensures.placed 0 c.row_with.result k refl at)

pub has_number-requires-then-has_number : goal.has_number-requires-then-has_number
has_number-requires-then-has_number c =
    let some : 0 < length c.args.blocks.now = omega (arith, c.requires.free, count_within c.args.blocks.now) in
    let k = c.index-then-has_number.result.now in
    let at = slice_get_read c.place_rows.new.placed.items _ 1 k refl (omega (arith, c.place_rows.ensures.len some)) c.index-then-has_number.ensures in
    subst (HasRow k) (sym c.has_number.ensures) (has_row _ c.row_with-2.result k _ _ (c.place_rows.ensures.placed 1 c.row_with-2.result k refl at))
