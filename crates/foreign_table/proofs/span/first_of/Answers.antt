use Rattle.std.proofs.Common.{◌≤◌, length, arith}
use Rattle.std.proofs.lemmas.List.{length-map}
use Rattle.foreign_table.specs.Entry.{amount_of}
use Rattle.foreign_table.proofs.Owners.{lower_before, no_lower_after, no_lower_from}
use Rattle.foreign_table.proofs.span.first_of.Goals as goal

pub returns-in-Ok-clause-below : goal.returns-in-Ok-clause-below
returns-in-Ok-clause-below c =
    let within : c.in-Ok.i ≤ length c.args.held.now = omega (arith, c.in-Ok.ensures.in_range, length-map c.args.held.now amount_of) in
    lower_before c.args.held.now c.args.owner c.in-Ok.i within c.in-Ok.ensures.before

pub returns-in-Ok-clause-behind : goal.returns-in-Ok-clause-behind
returns-in-Ok-clause-behind c = no_lower_from c.args.held.now c.args.owner c.in-Ok.i c.in-Ok.ensures

pub returns-in-Err-clause-below : goal.returns-in-Err-clause-below
returns-in-Err-clause-below c =
    let within : c.in-Err.i ≤ length c.args.held.now = omega (arith, c.in-Err.ensures.in_range, length-map c.args.held.now amount_of) in
    lower_before c.args.held.now c.args.owner c.in-Err.i within c.in-Err.ensures.before

pub returns-in-Err-clause-behind : goal.returns-in-Err-clause-behind
returns-in-Err-clause-behind c = no_lower_after c.args.held.now c.args.owner c.in-Err.i c.in-Err.ensures.after
