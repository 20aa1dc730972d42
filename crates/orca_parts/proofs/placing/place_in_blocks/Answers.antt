use Rattle.std.proofs.Common.{◌≡◌, ℕ, List, length, map, ap, refl, subst, ◌∙◌}
use Rattle.block_table.specs.Blocks.{fill, names_from}
use Rattle.row_blocks.specs.Blocks.{LiePlaced}
use Rattle.letter_kinds.specs.Holdings.{Row}
use Rattle.letter_kinds.specs.Load.{HaveGiven, as_load, lies_from}
use Rattle.letter_kinds.specs.Telling.{Told, made_in}
use Rattle.letter_kinds.proofs.Lying.{as_load_same}
use Rattle.letter_kinds.proofs.Telling.{tells_same}
use Rattle.actor_cell.specs.Tells.{where_sent}
use Rattle.actor_cell.specs.declared.cell.Cell.{Cell}
use Rattle.actor_table.specs.Slots.{slot_at}
use Rattle.orca_parts.proofs.Homes.{home_is}
use Rattle.orca_parts.proofs.Placed.{places_all, sent_lies}
use Rattle.orca_parts.proofs.placing.place_in_blocks.Goals as goal

pub returns-in-Post-clause-places : goal.returns-in-Post-clause-places
returns-in-Post-clause-places g c =
    let a = c.args.a in
    let old = c.args.m.now.parts in
    let cell = c.in-Some.cell.now in
    let rows = c.place_rows.ensures in
    let first = c.made-first.ensures in
    let made = c.made-made.ensures in
    let placed = c.place_rows.new.placed in
    let home = home_is (slot_at old.table.slots a) cell c.in-Some.ensures.cell in
    let some = c.requires.some in
    let same : c.requires.made.cell ≡ cell = cc in
    let have = subst (λ (x : Cell). HaveGiven a x.heap.next old.turn.made (where_sent old.turned.doing old.turned.load)) same (c.requires.made.loads some) in
    let lying : c.lie_in.new.self ≡ map (lies_from a cell.heap.next placed.items) old.turned.load =
    c.lie_in.ensures ∙ (λ i. map (lies_from a (first i) (c.as_slice.ensures.value i)) old.turned.load) in
    places_all a old cell c.place_rows.new.blocks placed c.lie_in.new.self _ _ home c.in-Some.ensures.owner c.requires.kept
    (rows.blocks ∙ (λ i. fill (names_from a (first i) (length (made i))) old.blocks))
    (λ some. rows.len some ∙ ap length made)
    (subst (λ (x : ℕ × List Row). LiePlaced a x.0 x.1 placed.items c.place_rows.new.blocks (g.W.RowWords.known c.place_rows.new.words)) (λ i. (first i, made i)) rows.placed)
    rows.others
    (ap as_load lying ∙ as_load_same a cell.heap.next placed.items old.turned.load)
    (sent_lies old.turned.doing a cell.heap.next old.turn.made placed.items old.turned.load c.lie_in.new.self (rows.len some ∙ ap length made) have lying)

pub returns-in_default-doing : goal.returns-in_default-doing
returns-in_default-doing g c =
    let a = c.args.a in
    let old = c.args.m.now.parts in
    let cell = c.in-Some.cell.now in
    let rows = c.place_rows.ensures in
    let first = c.made-first.ensures in
    let made = c.made-made.ensures in
    let placed = c.place_rows.new.placed in
    let home = home_is (slot_at old.table.slots a) cell c.in-Some.ensures.cell in
    record {
      same = refl;
      places = places_all a old cell c.place_rows.new.blocks placed old.turned.load _ _ home c.in-Some.ensures.owner c.requires.kept
          (rows.blocks ∙ (λ i. fill (names_from a (first i) (length (made i))) old.blocks))
          (λ some. rows.len some ∙ ap length made)
          (subst (λ (x : ℕ × List Row). LiePlaced a x.0 x.1 placed.items c.place_rows.new.blocks (g.W.RowWords.known c.place_rows.new.words)) (λ i. (first i, made i)) rows.placed)
          rows.others refl (tells_same (Told (where_sent old.turned.doing old.turned.load)) (made_in a cell.heap.next old.turn.made placed.items));
      words = rows.places;
      beside = rows.beside;
    }
