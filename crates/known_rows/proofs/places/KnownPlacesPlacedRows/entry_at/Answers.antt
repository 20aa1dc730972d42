use Rattle.std.proofs.Common.{arith}
use Rattle.known_rows.proofs.Placed.{count_is}
use Rattle.known_rows.proofs.places.KnownPlacesPlacedRows.entry_at.Goals as goal

pub entry_there-requires : goal.entry_there-requires
entry_there-requires c =
    let s = c.args.self.now in
    omega (arith, s.size, s.start, c.if-at-self.true, count_is s.rows.heap.now s.rows.foreign.now s.first s.end s.span)

pub returns-else-at-self-clause-thing : goal.returns-else-at-self-clause-thing
returns-else-at-self-clause-thing c = λ within.
    let s = c.args.self.now in
    absurd (omega (arith, s.size, s.start, c.if-at-self.false, within, count_is s.rows.heap.now s.rows.foreign.now s.first s.end s.span))

pub returns-else-at-self-clause-row : goal.returns-else-at-self-clause-row
returns-else-at-self-clause-row c = λ within.
    let s = c.args.self.now in
    absurd (omega (arith, s.size, s.start, c.if-at-self.false, within, count_is s.rows.heap.now s.rows.foreign.now s.first s.end s.span))
