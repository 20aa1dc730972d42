use Rattle.turn_rules.specs.Segment.{Setting, gets_of}
use Rattle.turn_step.specs.Turns.{setting_in}
use Rattle.turn_step.proofs.NothingNeeded.{nothing_needed}
use Rattle.turn_step.proofs.answer.segment.Goals as goal

pub returns-clause-ok : goal.returns-clause-ok
returns-clause-ok g c =
    let p : Setting = setting_in c.args.code.now c.args.me c.args.base (g.R.RowReader.rows c.args.rows.now) in
    rw (nothing_needed (gets_of p c.args.frame.now c.args.fields.now)) at c.segment_held.ensures.ok
