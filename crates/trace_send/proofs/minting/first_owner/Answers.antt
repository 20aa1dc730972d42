use Rattle.std.proofs.Common.{Some, ap, sym, ◌∙◌, arith}
use Rattle.std.specs.Prelude.{option_map}
use Rattle.orca_names.specs.Names.{owner_of}
use Rattle.trace_send.specs.Lacking.{is_lacked}
use Rattle.trace_send.proofs.First.{filter-first}
use Rattle.trace_send.proofs.minting.first_owner.Goals as goal

pub returns-then-is_lacked : goal.returns-then-is_lacked
returns-then-is_lacked c =
    let first = filter-first (is_lacked c.args.me c.args.foreign.now) c.args.things.now c.loop-thing.thing-index c.thing-item.result (omega arith) c.thing-item.is c.loop-thing.invariant
    (sym c.is_lacked.ensures ∙ c.if-is_lacked.true) in
    ap Some c.owner.ensures ∙ ap (option_map owner_of) (sym first)
