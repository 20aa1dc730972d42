use Rattle.std.proofs.Common.{ap, sym, ◌∙◌, refl}
use Rattle.turn_rules.specs.Segment.{segment_of}
use Rattle.known_rows.specs.Known.{row_known}
use Rattle.known_rows.specs.declared.known.KnownRows.{KnownRows}
use Rattle.turn_step.specs.Turns.{setting_in}
use Rattle.actor_cell.specs.Tells.{Tells}
use Rattle.actor_cell.proofs.Brought.{found_deep}
use Rattle.actor_cell.proofs.Standing.{held_told, told_stand}
use Rattle.actor_cell.proofs.cell.Cell.run_deep.Goals as goal

pub of-rows-requires : goal.of-rows-requires
of-rows-requires g c = let s = c.args.self.now in told_stand (Tells s) _ _ (held_told s) (g.W.RowWords.known c.args.words.now) c.requires.stand

pub returns-in-Ok-clause-halt : goal.returns-in-Ok-clause-halt
returns-in-Ok-clause-halt g c =
    let s = c.args.self.now in
    let code = c.args.code.now in
    let frame = c.args.frame.now in (
      refl,
      (λ i. segment_of (setting_in code (sym c.owner-me.ensures i) (sym c.made-base.ensures i) (λ n. (sym (found_deep s n) ∙ ap (λ (r : KnownRows). row_known r.heap.now r.foreign.now n) (sym c.of-rows.ensures.rows)) i)) frame s.fields) ∙ c.in-Ok.ensures.ok,
    )
