use Rattle.std.proofs.Common.{◌∙◌, ap, map, sym, subst}
use Rattle.row_store.specs.Memory.{remembered}
use Rattle.known_rows.specs.InTurn.{turn_block}
use Rattle.letter_kinds.specs.Load.{as_load}
use Rattle.letter_kinds.specs.Holdings.{row_of, with_made}
use Rattle.known_rows.specs.Holdings.{holdings_of}
use Rattle.known_rows.specs.declared.turn_rows.TurnRows.{TurnRows}
use Rattle.actor_cell.specs.Tells.{Tells}
use Rattle.actor_cell.proofs.Loading.{TurnRemembered, are_known, load_lying_is, same_lying}
use Rattle.actor_cell.proofs.Posting.{rows_same, with_row}
use Rattle.actor_cell.proofs.Standing.{told_lying, told_stand, turn_held}
use Rattle.actor_cell.proofs.cell.Cell.rowed.Goals as goal

pub of-requires : goal.of-requires
of-requires g c =
    let s = c.args.self.now in
    let rows = c.rows_with-rows.result in
    let read = c.rows_with-rows.ensures in
    told_stand (Tells s) _ _ (turn_held s rows.made.now rows.known.heap.now rows.known.foreign.now read.0 read.1) (g.W.RowWords.known c.args.words.now) c.requires.stand

pub with-requires : goal.with-requires
with-requires g c =
    let s = c.args.self.now in
    let read = c.rows_with-rows.ensures in
    let its = c.of.result.rows.now in
    let heap = its.known.heap.now in
    let foreign = its.known.foreign.now in
    let rows = row_of heap.owner (with_made its.made.now (holdings_of 0 heap foreign)) in
    let memory = remembered c.memory.result in
    let known = subst (λ (r : TurnRows). TurnRemembered memory r.made.now r.known.heap.now r.known.foreign.now) (sym c.of.ensures.rows) c.memory.ensures in
    are_known rows memory (turn_block its.made.now heap foreign) known c.in_ok-items.items c.args.things.now c.in_ok-items.ensures.load

pub returns-clause-load : goal.returns-clause-load
returns-clause-load g c =
    let s = c.args.self.now in
    let read = c.rows_with-rows.ensures in
    let its = c.of.result.rows.now in
    let heap = its.known.heap.now in
    let foreign = its.known.foreign.now in
    let rows = row_of heap.owner (with_made its.made.now (holdings_of 0 heap foreign)) in
    let memory = remembered c.memory.result in
    let known = subst (λ (r : TurnRows). TurnRemembered memory r.made.now r.known.heap.now r.known.foreign.now) (sym c.of.ensures.rows) c.memory.ensures in
    let own = ap (λ (r : TurnRows). r.known.heap.now) c.of.ensures.rows ∙ read.0 in
    let others = ap (λ (r : TurnRows). r.known.foreign.now) c.of.ensures.rows ∙ read.1 in
    let made = ap (λ (r : TurnRows). r.made.now) c.of.ensures.rows ∙ read.2 in
    ap as_load c.with.ensures
    ∙ load_lying_is rows memory (turn_block its.made.now heap foreign) known c.in_ok-items.items c.args.things.now c.in_ok-items.ensures.load
    ∙ (λ i. map (with_row (row_of (own i).owner (with_made (made i) (holdings_of 0 (own i) (others i))))) c.args.things.now)
    ∙ rows_same c.args.made.now s.count s.heap s.foreign c.args.things.now

pub returns-clause-told : goal.returns-clause-told
returns-clause-told g c =
    let s = c.args.self.now in
    let read = c.rows_with-rows.ensures in
    let its = c.of.result.rows.now in
    let heap = its.known.heap.now in
    let foreign = its.known.foreign.now in
    let rows = row_of heap.owner (with_made its.made.now (holdings_of 0 heap foreign)) in
    let memory = remembered c.memory.result in
    let known = subst (λ (r : TurnRows). TurnRemembered memory r.made.now r.known.heap.now r.known.foreign.now) (sym c.of.ensures.rows) c.memory.ensures in
    let own = ap (λ (r : TurnRows). r.known.heap.now) c.of.ensures.rows ∙ read.0 in
    let others = ap (λ (r : TurnRows). r.known.foreign.now) c.of.ensures.rows ∙ read.1 in
    told_lying (Tells s) rows (turn_block its.made.now heap foreign) (turn_held s its.made.now heap foreign own others) c.args.things.now c.with.result
    (c.with.ensures ∙ same_lying rows memory (turn_block its.made.now heap foreign) known c.in_ok-items.items c.args.things.now c.in_ok-items.ensures.load)
