use Rattle.std.proofs.Common.{◌≡◌, ◌∙◌, [], ap, sym, subst}
use Rattle.std.specs.Prelude.{IfOk}
use Rattle.std.proofs.lemmas.Result.{IfOk-weaker}
use Rattle.row_store.specs.Memory.{remembered}
use Rattle.reach_walk.specs.Marks.{load_of, marks_of}
use Rattle.letter_kinds.specs.Load.{as_load}
use Rattle.letter_kinds.specs.Holdings.{known_objects, row_of, with_made}
use Rattle.known_rows.specs.Holdings.{holdings_of}
use Rattle.known_rows.specs.InTurn.{turn_block}
use Rattle.known_rows.specs.declared.turn_rows.TurnRows.{TurnRows}
use Rattle.letter_kinds.specs.Telling.{TellsOnly, Told}
use Rattle.actor_cell.specs.Tells.{Tells}
use Rattle.actor_cell.proofs.Brought.{carried_is}
use Rattle.actor_cell.proofs.Loading.{TurnRemembered, rows_lying}
use Rattle.actor_cell.proofs.Standing.{told_lying, told_stand, turn_brought}
use Rattle.actor_cell.proofs.cell.Cell.brought.Goals as goal

pub of-requires : goal.of-requires
of-requires g c =
    let s = c.args.self.now in
    let rows = c.rows_with-rows.result in
    let read = c.rows_with-rows.ensures in
    told_stand (Tells s) _ _ (turn_brought s rows.made.now rows.known.heap.now rows.known.foreign.now read.0 (read.1 ∙ c.held_or.ensures)) (g.W.RowWords.known c.args.words.now) c.requires.stand

pub rows_of-requires : goal.rows_of-requires
rows_of-requires g c =
    let memory = remembered c.memory-memory.result in
    record { known = subst (λ (r : TurnRows). TurnRemembered memory r.made.now r.known.heap.now r.known.foreign.now) (sym c.of.ensures.rows) c.memory-memory.ensures }

pub returns-clause-rows : goal.returns-clause-rows
returns-clause-rows g c =
    let s = c.args.self.now in
    let read = c.rows_with-rows.ensures in
    let its = c.of.result.rows.now in
    let held = with_made its.made.now (holdings_of 0 its.known.heap.now its.known.foreign.now) in
    let rows = row_of its.known.heap.now.owner held in
    let all = known_objects its.known.heap.now.owner held in
    let same = (λ i. let r = c.of.ensures.rows i in let h = with_made r.made.now (holdings_of 0 r.known.heap.now r.known.foreign.now) in load_of (row_of r.known.heap.now.owner h) (known_objects r.known.heap.now.owner h) c.args.args.now)
    ∙ (λ i. let h = with_made (read.2 i) (holdings_of 0 (read.0 i) ((read.1 ∙ c.held_or.ensures) i)) in load_of (row_of (read.0 i).owner h) (known_objects (read.0 i).owner h) c.args.args.now)
    ∙ carried_is s c.args.made.now c.args.args.now in
    subst (λ it. IfOk c.rows_of.result (λ rows. as_load rows ≡ it)) same
    (IfOk-weaker c.rows_of.result _ (λ load. as_load load ≡ load_of rows all c.args.args.now)
    (λ load is. ap as_load is ∙ rows_lying rows (turn_block its.made.now its.known.heap.now its.known.foreign.now) (marks_of rows all c.args.args.now)) c.rows_of.ensures.rows)

pub returns-clause-told : goal.returns-clause-told
returns-clause-told g c =
    let s = c.args.self.now in
    let read = c.rows_with-rows.ensures in
    let its = c.of.result.rows.now in
    let heap = its.known.heap.now in
    let foreign = its.known.foreign.now in
    let held = with_made its.made.now (holdings_of 0 heap foreign) in
    let rows = row_of heap.owner held in
    let own = ap (λ (r : TurnRows). r.known.heap.now) c.of.ensures.rows ∙ read.0 in
    let others = ap (λ (r : TurnRows). r.known.foreign.now) c.of.ensures.rows ∙ read.1 ∙ c.held_or.ensures in
    IfOk-weaker c.rows_of.result _ (λ load. TellsOnly (Tells s) [] (Told load))
    (told_lying (Tells s) rows (turn_block its.made.now heap foreign) (turn_brought s its.made.now heap foreign own others) (marks_of rows (known_objects heap.owner held) c.args.args.now))
    c.rows_of.ensures.rows
