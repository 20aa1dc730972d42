use Rattle.std.proofs.Common.{◌≡◌, Option, ap, sym, subst, ◌∙◌}
use Rattle.std.specs.Prelude.{IfOk}
use Rattle.std.specs.List.{find}
use Rattle.orca_names.specs.declared.names.ObjName.{ObjName}
use Rattle.orca_names.specs.declared.names.Thing.{Thing}
use Rattle.orca_names.specs.declared.trace.Trace.TheVariants.{Roots}
use Rattle.reach_walk.specs.Reach.{named_by}
use Rattle.turn_rules.specs.Segment.{Setting, Stop, gets_of, segment_of}
use Rattle.turn_step.specs.Held.{needed_in}
use Rattle.turn_step.specs.Turns.{HaltsAt, setting_in}
use Rattle.known_rows.specs.Known.{block_known, row_known}
use Rattle.known_rows.specs.declared.known.KnownRows.{KnownRows}
use Rattle.machine_rules.specs.Cell.{row_by}
use Rattle.machine_rules.specs.Go.{needed, setting_of}
use Rattle.actor_cell.specs.Cells.{as_cell}
use Rattle.actor_cell.specs.Tells.{Tells}
use Rattle.foreign_table.specs.Table.{holds_in}
use Rattle.actor_cell.proofs.Brought.{found_roots}
use Rattle.actor_cell.proofs.Needing.{needs_is}
use Rattle.actor_cell.proofs.Standing.{AreTold, brought_told, told_stand}
use Rattle.actor_cell.proofs.cell.Cell.run_roots.Goals as goal

pub of-rows-requires : goal.of-rows-requires
of-rows-requires g c =
    let s = c.args.self.now in
    let told = subst (λ t. AreTold (Tells s) (row_known s.heap t) (block_known s.heap t)) (sym c.held_or-foreign.ensures) (brought_told s) in
    told_stand (Tells s) _ _ told (g.W.RowWords.known c.args.words.now) c.requires.stand

pub returns-clause-halt : goal.returns-clause-halt
returns-clause-halt g c =
    let s = c.args.self.now in
    let code = c.args.code.now in
    let me = s.heap.owner in
    let frame = c.args.frame.now in
    let turn = c.segment_held_at.new.turn in
    let read = c.of-rows.result.rows.now in
    let before : Setting = setting_in code c.owner-me.result c.made-base.result (row_known read.heap.now read.foreign.now) in
    let its : Setting = setting_of Roots code me (as_cell s) in
    let rows : (n : ObjName) → row_known read.heap.now read.foreign.now n ≡ row_by Roots me (as_cell s) n =
    λ n. ap (λ (r : KnownRows). row_known r.heap.now r.foreign.now n) c.of-rows.ensures.rows ∙ ap (λ f. row_known s.heap f n) c.held_or-foreign.ensures ∙ found_roots s n in
    let settings : before ≡ its = λ i. setting_in code (c.owner-me.ensures i) (c.made-base.ensures i) (λ n. rows n i) in
    let first : needed_in (holds_in c.owner-me.result s.foreign) before frame s.fields ≡ needed Roots code me (as_cell s) frame =
    (λ i. needed_in (holds_in (c.owner-me.ensures i) s.foreign) (settings i) frame s.fields)
    ∙ (λ i. find (λ x. needs_is me s.count s.heap s.foreign x i) (named_by (gets_of its frame s.fields))) in
    let stop : segment_of before frame s.fields ≡ segment_of its frame s.fields = λ i. segment_of (settings i) frame s.fields in
    let halts : Option Thing → Stop → Type 0 = λ first stop. IfOk c.segment_held_at.result (λ halt. HaltsAt first stop halt turn) in
    subst (λ t. halts t (segment_of its frame s.fields)) first (subst (halts (needed_in (holds_in c.owner-me.result s.foreign) before frame s.fields)) stop c.segment_held_at.ensures.ok)
