use Rattle.std.proofs.Common.{◌∙◌}
use Rattle.std.proofs.lemmas.Result.{IfOk-weaker}
use Rattle.std.specs.FinMap as m
use Rattle.letter_kinds.specs.declared.note.Note.TheVariants.{Block}
use Rattle.actor_cell.proofs.Reporting.{on_actors-is}
use Rattle.actor_cell.proofs.cell.Cell.report.Goals as goal

pub returns : goal.returns
returns c =
    let held = on_actors-is (m.entries c.args.self.now.foreign.entries) in
    IfOk-weaker c.report.result _ _ (λ note same. same ∙ (λ i. Block (c.owner.ensures i) (c.get.ensures.count i) (held i))) c.report.ensures
