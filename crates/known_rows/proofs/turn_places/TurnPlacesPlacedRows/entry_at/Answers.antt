use Rattle.std.proofs.Common.{◌≡◌, ◌+◌, ◌-◌, ◌<◌, [], Some, length, sym, subst, ap, ◌∙◌, arith}
use Rattle.std.proofs.lemmas.List.{get_or_default}
use Rattle.known_rows.specs.Places.{placed_things}
use Rattle.row_store.specs.Lent.{IsLent}
use Rattle.known_rows.proofs.Later.{lower, lower_within, made_lies, not_made, turn_count, turn_kept, turn_moved, turn_new, turn_place}
use Rattle.known_rows.proofs.turn_places.TurnPlacesPlacedRows.entry_at.Goals as goal

pub returns-then-at-self-clause-thing : goal.returns-then-at-self-clause-thing
returns-then-at-self-clause-thing c = λ _.
    let s = c.args.self.now in
    let all = lower_within s.known.rows.heap.now s.known.rows.foreign.now s.made.now s.later in
    turn_kept s.known.rows.heap.now s.known.rows.foreign.now s.made.now s.later c.entry_at.result.0 c.args.at (c.entry_at.ensures.thing (omega (arith, s.start, c.if-at-self.true)))
    (subst (λ n. c.args.at < n) s.start c.if-at-self.true)

pub returns-then-at-self-clause-row : goal.returns-then-at-self-clause-row
returns-then-at-self-clause-row c = λ l.
    let s = c.args.self.now in
    let all = lower_within s.known.rows.heap.now s.known.rows.foreign.now s.made.now s.later in
    let inside : c.args.at < length (placed_things s.known.rows.heap.now s.known.rows.foreign.now) = omega (arith, s.start, c.if-at-self.true) in
    let same = not_made s.known.rows.heap.now s.known.rows.foreign.now s.made.now s.later c.entry_at.result.0 c.args.at (returns-then-at-self-clause-thing c l)
    (λ i l e. omega (arith, s.start, c.if-at-self.true)) in
    subst (λ lies. IsLent lies.row lies.block c.entry_at.result.1) (sym same) (c.entry_at.ensures.row inside)

pub returns-then-i-self-clause-thing : goal.returns-then-i-self-clause-thing
returns-then-i-self-clause-thing c = λ _.
    let s = c.args.self.now in
    let i = c.args.at - s.first in
    let at : length (lower s.known.rows.heap.now s.known.rows.foreign.now s.made.now s.later) + i ≡ c.args.at = omega (arith, s.start, c.if-at-self.false) in
    ap (turn_place s.known.rows.heap.now s.known.rows.foreign.now s.made.now s.later) c.made_thing.ensures
    ∙ turn_new s.known.rows.heap.now s.known.rows.foreign.now s.made.now s.later i c.if-i-self.true ∙ ap Some at

pub returns-then-i-self-clause-row : goal.returns-then-i-self-clause-row
returns-then-i-self-clause-row c = λ _.
    let s = c.args.self.now in
    let i = c.args.at - s.first in
    let lies = made_lies s.known.rows.heap.now s.known.rows.foreign.now s.made.now s.later c.made_thing.result i c.if-i-self.true c.made_thing.ensures in
    let row = ap (λ l. l.row) lies ∙ ap Some (get_or_default s.made.now i [] c.index-self-i.result c.if-i-self.true ∙ sym c.as_slice.ensures.value) in
    (row, ap (λ l. l.block) lies, c.as_slice.ensures.room.0, c.as_slice.ensures.room.1)

pub returns-clause-thing : goal.returns-clause-thing
returns-clause-thing c = λ l.
    let s = c.args.self.now in
    let all = turn_count s.known.rows.heap.now s.known.rows.foreign.now s.made.now s.later in
    let back : c.args.at - length s.made.now + length s.made.now ≡ c.args.at = omega (arith, c.if-at-self.false, c.if-i-self.false) in
    turn_moved s.known.rows.heap.now s.known.rows.foreign.now s.made.now s.later c.entry_at-2.result.0 (c.args.at - length s.made.now) (c.entry_at-2.ensures.thing (omega (arith, l, c.if-at-self.false, c.if-i-self.false)))
    (omega (arith, s.start, c.if-at-self.false, c.if-i-self.false)) ∙ ap Some back

pub returns-clause-row : goal.returns-clause-row
returns-clause-row c = λ l.
    let s = c.args.self.now in
    let all = turn_count s.known.rows.heap.now s.known.rows.foreign.now s.made.now s.later in
    let same = not_made s.known.rows.heap.now s.known.rows.foreign.now s.made.now s.later c.entry_at-2.result.0 c.args.at (returns-clause-thing c l)
    (λ i l e. omega (arith, s.start, c.if-at-self.false, c.if-i-self.false)) in
    subst (λ lies. IsLent lies.row lies.block c.entry_at-2.result.1) (sym same) (c.entry_at-2.ensures.row (omega (arith, l, c.if-at-self.false, c.if-i-self.false)))
