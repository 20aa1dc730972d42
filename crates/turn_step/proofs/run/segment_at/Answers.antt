use Rattle.std.proofs.Common.{true, subst}
use Rattle.turn_rules.specs.Segment.{Setting, Turn, gets_of, segment_of}
use Rattle.turn_step.specs.Held.{needed_in}
use Rattle.turn_step.specs.Turns.{HaltsAt, setting_of}
use Rattle.turn_step.proofs.NothingNeeded.{nothing_needed}
use Rattle.turn_step.proofs.run.segment_at.Goals as goal

pub unreachable-requires : goal.unreachable-requires
unreachable-requires g c =
    let p : Setting = setting_of c.args.setting.now (g.R.RowReader.rows c.args.rows.now) in
    let frame = c.args.frame.now in
    let fields = c.args.fields.now in
    let t : Turn = c.segment_held_at.new.turn in
    let none = nothing_needed (gets_of p frame fields) in
    let some = subst (λ halt. HaltsAt (needed_in (λ _. true) p frame fields) (segment_of p frame fields) halt t) c.in-Needs.is c.in-Ok.ensures.ok in
    cc
