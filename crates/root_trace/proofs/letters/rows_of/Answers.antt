use Rattle.std.proofs.Common.{sym, subst, ◌∙◌}
use Rattle.row_store.specs.Memory.{remembered}
use Rattle.row_store.proofs.Telling.{lie_same}
use Rattle.letter_kinds.specs.Load.{AreKnown}
use Rattle.reach_walk.specs.Marks.{marks_of}
use Rattle.root_trace.proofs.Lying.{lie_known}
use Rattle.root_trace.proofs.letters.rows_of.Goals as goal

pub with-requires : goal.with-requires
with-requires g c =
    let known = c.args.known.now in
    let rows = g.R.RowReader.rows known in
    let blocks = g.R.TellsRows.blocks known in
    let memory = remembered c.args.memory in
    let things = marks_of rows (g.R.RowReader.all known) c.args.args.now in
    let lie = c.in_ok-items.ensures.load in
    let same = lie_same rows memory blocks c.requires.known c.in_ok-items.items things lie in
    subst AreKnown (sym (same ∙ lie)) (lie_known rows blocks c.requires.known.there things)

pub returns-clause-rows : goal.returns-clause-rows
returns-clause-rows g c =
    let known = c.args.known.now in
    let rows = g.R.RowReader.rows known in
    let blocks = g.R.TellsRows.blocks known in
    let memory = remembered c.args.memory in
    let things = marks_of rows (g.R.RowReader.all known) c.args.args.now in
    let lie = c.in_ok-items.ensures.load in
    c.with.ensures ∙ lie_same rows memory blocks c.requires.known c.in_ok-items.items things lie ∙ lie
