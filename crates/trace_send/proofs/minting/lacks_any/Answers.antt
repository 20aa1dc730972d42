use Rattle.std.proofs.Common.{Bool, sym, ap, take_all, ◌∙◌}
use Rattle.std.specs.List.{list_any}
use Rattle.std.proofs.lemmas.List.Folds.{list_any_at}
use Rattle.orca_names.specs.declared.names.Thing.{Thing}
use Rattle.row_store.specs.Memory.{remembered}
use Rattle.row_store.specs.declared.told.Told.{Told}
use Rattle.letter_kinds.specs.Counting.{Loaded, is_lacking}
use Rattle.letter_kinds.specs.Load.{as_load}
use Rattle.known_rows.specs.Holdings.{holdings_of}
use Rattle.trace_send.specs.Lacking.{is_lacked}
use Rattle.trace_send.proofs.First.{any_lacking-is}
use Rattle.trace_send.proofs.minting.lacks_any.Goals as goal

pub returns-then-is_lacked : goal.returns-then-is_lacked
returns-then-is_lacked c = λ count heap.
    let items = c.parts.result.0.now in
    let i = c.loop-loaded.loaded-index in
    let e = c.loaded-item.result in
    let its : Thing × Told → Bool = λ x. is_lacked c.args.me c.args.foreign.now x.0 in
    let held = holdings_of count heap c.args.foreign.now in
    let found = list_any_at its items i e c.loop-loaded-test.true (ap its (sym c.loaded-item.is) ∙ sym c.is_lacked.ensures ∙ c.if-is_lacked.true) in
    sym found ∙ any_lacking-is c.args.me count heap c.args.foreign.now (remembered c.parts.result.1.now) items
    ∙ ap (λ load. list_any (λ (e : Loaded). is_lacking c.args.me held e.0) (as_load load)) c.parts.ensures.load

pub returns : goal.returns
returns c = λ count heap.
    let items = c.parts.result.0.now in
    let its : Thing × Told → Bool = λ x. is_lacked c.args.me c.args.foreign.now x.0 in
    let held = holdings_of count heap c.args.foreign.now in
    let all = take_all c.loop-loaded.loaded-index items c.loop-loaded-test.false in
    sym c.loop-loaded.invariant ∙ ap (list_any its) all ∙ any_lacking-is c.args.me count heap c.args.foreign.now (remembered c.parts.result.1.now) items
    ∙ ap (λ load. list_any (λ (e : Loaded). is_lacking c.args.me held e.0) (as_load load)) c.parts.ensures.load
