use Rattle.std.proofs.Common.{◌≡◌, ◌∙◌, sym, subst}
use Rattle.std.specs.Prelude.{OnOk}
use Rattle.reach_walk.specs.Marks.{marks_of}
use Rattle.letter_kinds.specs.Holdings.{known_objects, row_of, with_made}
use Rattle.letter_kinds.specs.Telling.{HoldsTold}
use Rattle.known_rows.specs.Holdings.{holdings_of}
use Rattle.actor_cell.specs.Tells.{Tells}
use Rattle.actor_cell.proofs.Posting.{things_same}
use Rattle.actor_cell.proofs.Standing.{told_stand, turn_held}
use Rattle.actor_cell.proofs.cell.Cell.find_reached.Goals as goal

pub find_flat-requires : goal.find_flat-requires
find_flat-requires g c =
    let s = c.args.self.now in
    let rows = c.rows_with-rows.result in
    let read = c.rows_with-rows.ensures in
    told_stand (Tells s) _ _ (turn_held s rows.made.now rows.known.heap.now rows.known.foreign.now read.0 read.1) (g.W.RowWords.known c.args.words.now) c.requires.stand

pub of-requires : goal.of-requires
of-requires g c =
    let s = c.args.self.now in
    let rows = c.rows_with-rows.result in
    let read = c.rows_with-rows.ensures in
    told_stand (Tells s) _ _ (turn_held s rows.made.now rows.known.heap.now rows.known.foreign.now read.0 read.1) (g.W.RowWords.known c.find_flat.new.words)
    (subst (λ known. HoldsTold known (Tells s)) (sym c.find_flat.ensures.words.known) c.requires.stand)

pub returns-clause-things : goal.returns-clause-things
returns-clause-things g c =
    let s = c.args.self.now in
    let read = c.rows_with-rows.ensures in
    let same = (λ i. let r = c.of.ensures.rows i in let h = with_made r.made.now (holdings_of 0 r.known.heap.now r.known.foreign.now) in marks_of (row_of r.known.heap.now.owner h) (known_objects r.known.heap.now.owner h) c.args.args.now)
    ∙ (λ i. let h = with_made (read.2 i) (holdings_of 0 (read.0 i) (read.1 i)) in marks_of (row_of (read.0 i).owner h) (known_objects (read.0 i).owner h) c.args.args.now)
    ∙ things_same c.args.made.now s.count s.heap s.foreign c.args.args.now in
    subst (λ it. OnOk c.find_loaded.result (c.find_loaded.new.things ≡ it)) same c.find_loaded.ensures.things

pub returns-then-branch-clause-things : goal.returns-then-branch-clause-things
returns-then-branch-clause-things g c =
    let s = c.args.self.now in
    let read = c.rows_with-rows.ensures in
    c.in_ok-find_flat.ensures.things c.if-branch.true
    ∙ (λ i. let h = with_made (read.2 i) (holdings_of 0 (read.0 i) (read.1 i)) in marks_of (row_of (read.0 i).owner h) (known_objects (read.0 i).owner h) c.args.args.now)
    ∙ things_same c.args.made.now s.count s.heap s.foreign c.args.args.now
