use Rattle.std.proofs.Common.{◌≡◌, ◌+◌, ◌-◌, ◌∙◌, ◌∷◌, [], length, slice_get, Some, arith, refl, subst, sym, ap, length-append}
use Rattle.std.proofs.lemmas.Option.{slice_get_read}
use Rattle.block_table.specs.Blocks.{count_free, fill, names_from}
use Rattle.block_table.proofs.Filling.{fill_count}
use Rattle.row_blocks.specs.Blocks.{LiesIn}
use Rattle.row_blocks.proofs.Placed.{first_filled, more_placed, none_filled, nothing_filled}
use Rattle.row_blocks.proofs.placing.place_rows.Goals as goal

pub returns-then-len-eq0-clause-blocks : goal.returns-then-len-eq0-clause-blocks
returns-then-len-eq0-clause-blocks g c =
    nothing_filled c.args.blocks.now c.args.owner c.args.first (length c.args.made.now) (omega (arith, c.len.ensures))

pub loop-row-preserved : goal.loop-row-preserved
loop-row-preserved g c =
    let owner = c.args.owner in
    let made = c.args.made.now in
    let i = c.loop-row.row-index in
    let row = c.row-item.result in
    let placed = c.loop-row.placed.items in
    let old = c.loop-row.blocks in
    let new = c.place_row.new.blocks in
    let later = g.W.RowWords.known c.place_row.new.words in
    let inv = c.loop-row.invariant in
    let one = c.place_row.ensures in
    let left = length made - (i + 1) in
    let more : left + 1 ≡ length made - i = omega (arith, c.loop-row-test.true) in
    let count : count_free new ≡ count_free old - 1 = ap count_free one.blocks ∙ fill_count _ old in
    let serial : c.of.result ≡ c.args.first + length placed = omega (arith, c.of.ensures, inv.serial, inv.count) in
    let at : slice_get made (length placed) ≡ Some row =
    ap (slice_get made) inv.count ∙ slice_get_read made _ i row refl c.loop-row-test.true c.row-item.is in
    let lies = subst (λ q. LiesIn (record { owner = owner; serial = q }) row c.place_row.result new later) serial one.placed in
    record {
      blocks = first_filled owner c.loop-row.serial c.of.result _ _ old new c.of.ensures more one.blocks ∙ inv.blocks;
      free = omega (arith, inv.free, count, c.loop-row-test.true);
      serial = omega (arith, inv.serial);
      count = omega (arith, ap length c.push_reserved.ensures.items, length-append placed (c.place_row.result ∷ []), inv.count);
      capacity = c.push_reserved.ensures.capacity ∙ inv.capacity;
      placed = more_placed owner c.args.first made placed _ old new _ later row c.place_row.result c.push_reserved.ensures.items
          inv.placed one.others at lies;
      still = λ n its k lie. one.others n its k (inv.still n its k lie);
      put = one.put;
      places = one.places ∙ inv.places;
      beside = one.beside ∙ inv.beside;
    }

pub returns-clause-blocks : goal.returns-clause-blocks
returns-clause-blocks g c =
    let last = c.loop-row in
    let none : 0 ≡ length c.args.made.now - last.row-index = omega (arith, c.loop-row-test.false) in
    sym (none_filled c.args.owner last.serial last.blocks)
    ∙ ap (λ q. fill (names_from c.args.owner last.serial q) last.blocks) none ∙ last.invariant.blocks
