use Rattle.std.proofs.Common.{◌≢◌, not, eqb, leb-true, sym, ap, ◌∙◌, arith}
use Rattle.orca_names.specs.Names.{owner_of}
use Rattle.trace_send.proofs.Steps.{apart, held-is}
use Rattle.cell_check.proofs.going.is_spare.Goals as goal

pub returns : goal.returns
returns c = λ yes.
    let me = c.owner-me.result in
    let cell = c.args.cell.now in
    let thing = c.args.loaded.now.0 in
    let other : owner_of thing ≢ me = apart (owner_of thing) me
    (ap not (ap (λ a. eqb a me) (sym c.owner.ensures) ∙ sym c.eq.ensures ∙ c.if-eq.false)) in
    let held = held-is cell.count cell.heap cell.foreign thing ∙ sym c.count.ensures.count in
    let enough = leb-true c.args.least c.count.result yes in
    (λ same. other (same ∙ sym c.owner-me.ensures), omega (arith, held, enough))
