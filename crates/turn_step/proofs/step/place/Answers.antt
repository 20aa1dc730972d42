use Rattle.std.proofs.Common.{◌∙◌, ap}
use Rattle.std.specs.Prelude.{option_and_then, slice_get, unwrap_or}
use Rattle.orca_names.specs.declared.names.Value.TheVariants.{Null}
use Rattle.turn_rules.specs.Segment.{Setting, row_in}
use Rattle.turn_step.specs.Turns.{setting_of}
use Rattle.turn_step.proofs.Runs.{place_or_null}
use Rattle.turn_step.proofs.step.place.Goals as goal

pub returns-in-Obj-clause-value : goal.returns-in-Obj-clause-value
returns-in-Obj-clause-value g c =
    let p : Setting = setting_of c.args.setting.now (g.R.RowReader.rows c.args.rows.now) in
    rw (← c.value.ensures, c.in-Obj.is)
    (c.unwrap_or.ensures
    ∙ ap (λ o. unwrap_or o Null) (c.look.ensures.value ∙ ap (λ made. option_and_then (λ values. slice_get values c.args.i) (row_in p made c.in-Obj.n)) c.made.ensures)
    ∙ place_or_null (row_in p c.args.turn.now.made c.in-Obj.n) c.args.i)
