use Rattle.std.proofs.Common.{◌≡◌, ◌∙◌, ap, map, subst}
use Rattle.std.specs.Prelude.{IfSome}
use Rattle.row_store.specs.Memory.{remembered}
use Rattle.row_store.specs.Told.{Lying, lie_as, thing_lies}
use Rattle.known_rows.specs.InTurn.{turn_block}
use Rattle.orca_names.specs.declared.names.Thing.{Thing}
use Rattle.reach_walk.specs.Marks.{load_of, marks_of}
use Rattle.letter_kinds.specs.Load.{as_load}
use Rattle.letter_kinds.specs.Holdings.{known_objects, row_of, with_made}
use Rattle.known_rows.specs.Holdings.{holdings_of}
use Rattle.actor_cell.specs.Tells.{Tells}
use Rattle.actor_cell.proofs.Loading.{are_known, load_lying_is, remembered_alike, same_lying}
use Rattle.actor_cell.proofs.Posting.{load_same}
use Rattle.actor_cell.proofs.Standing.{told_lying, told_stand, turn_held}
use Rattle.actor_cell.proofs.cell.Cell.load_of_many.Goals as goal

pub load_by_place-requires : goal.load_by_place-requires
load_by_place-requires g c =
    let s = c.args.self.now in
    let read = c.rows_with-rows.ensures in
    let places = c.in-Some.places in
    told_stand (Tells s) _ _ (turn_held s places.made.now places.known.rows.heap.now places.known.rows.foreign.now (c.in-Some.ensures.0 ∙ read.0) (c.in-Some.ensures.1 ∙ read.1))
    (g.W.RowWords.known c.args.words.now) c.requires.stand

pub with-requires : goal.with-requires
with-requires g c =
    let rows = c.rows_with-rows.result in
    let places = c.in-Some.places in
    let heap = places.known.rows.heap.now in
    let foreign = places.known.rows.foreign.now in
    let made = places.made.now in
    let held = with_made made (holdings_of 0 heap foreign) in
    let rows_in = row_of heap.owner held in
    let blocks = turn_block made heap foreign in
    let memory = remembered c.memory.result in
    let things = marks_of rows_in (known_objects heap.owner held) c.args.args.now in
    let known = remembered_alike memory rows.made.now made rows.known.heap.now heap rows.known.foreign.now foreign c.in-Some.ensures.2 c.in-Some.ensures.0 c.in-Some.ensures.1 c.memory.ensures in
    let lie = subst (λ found. IfSome found (λ items. lie_as rows_in items ≡ map {B = Thing × Lying} (λ x. (x, thing_lies rows_in blocks x)) things)) c.in-Some-2.is c.in_ok-items-in-Some.ensures.load in
    are_known rows_in memory blocks known c.in-Some-2.items things lie

pub returns-in-Some-2-clause-load : goal.returns-in-Some-2-clause-load
returns-in-Some-2-clause-load g c =
    let s = c.args.self.now in
    let read = c.rows_with-rows.ensures in
    let rows = c.rows_with-rows.result in
    let places = c.in-Some.places in
    let heap = places.known.rows.heap.now in
    let foreign = places.known.rows.foreign.now in
    let made = places.made.now in
    let own = c.in-Some.ensures.0 ∙ read.0 in
    let others = c.in-Some.ensures.1 ∙ read.1 in
    let now = c.in-Some.ensures.2 ∙ read.2 in
    let held = with_made made (holdings_of 0 heap foreign) in
    let rows_in = row_of heap.owner held in
    let blocks = turn_block made heap foreign in
    let memory = remembered c.memory.result in
    let things = marks_of rows_in (known_objects heap.owner held) c.args.args.now in
    let known = remembered_alike memory rows.made.now made rows.known.heap.now heap rows.known.foreign.now foreign c.in-Some.ensures.2 c.in-Some.ensures.0 c.in-Some.ensures.1 c.memory.ensures in
    let lie = subst (λ found. IfSome found (λ items. lie_as rows_in items ≡ map {B = Thing × Lying} (λ x. (x, thing_lies rows_in blocks x)) things)) c.in-Some-2.is c.in_ok-items-in-Some.ensures.load in
    ap as_load c.with.ensures
    ∙ load_lying_is rows_in memory blocks known c.in-Some-2.items things lie
    ∙ (λ i. let h = with_made (now i) (holdings_of 0 (own i) (others i)) in load_of (row_of (own i).owner h) (known_objects (own i).owner h) c.args.args.now)
    ∙ load_same c.args.made.now s.count s.heap s.foreign c.args.args.now

pub returns-in-Some-2-clause-told : goal.returns-in-Some-2-clause-told
returns-in-Some-2-clause-told g c =
    let s = c.args.self.now in
    let read = c.rows_with-rows.ensures in
    let rows = c.rows_with-rows.result in
    let places = c.in-Some.places in
    let heap = places.known.rows.heap.now in
    let foreign = places.known.rows.foreign.now in
    let made = places.made.now in
    let held = with_made made (holdings_of 0 heap foreign) in
    let rows_in = row_of heap.owner held in
    let blocks = turn_block made heap foreign in
    let memory = remembered c.memory.result in
    let things = marks_of rows_in (known_objects heap.owner held) c.args.args.now in
    let known = remembered_alike memory rows.made.now made rows.known.heap.now heap rows.known.foreign.now foreign c.in-Some.ensures.2 c.in-Some.ensures.0 c.in-Some.ensures.1 c.memory.ensures in
    let lie = subst (λ found. IfSome found (λ items. lie_as rows_in items ≡ map {B = Thing × Lying} (λ x. (x, thing_lies rows_in blocks x)) things)) c.in-Some-2.is c.in_ok-items-in-Some.ensures.load in
    told_lying (Tells s) rows_in blocks (turn_held s made heap foreign (c.in-Some.ensures.0 ∙ read.0) (c.in-Some.ensures.1 ∙ read.1)) things c.with.result
    (c.with.ensures ∙ same_lying rows_in memory blocks known c.in-Some-2.items things lie)
