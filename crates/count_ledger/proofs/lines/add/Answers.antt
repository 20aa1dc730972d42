use Rattle.std.proofs.Common.{◌<◌, length, set, sym, ap, ◌∙◌, arith}
use Rattle.std.proofs.lemmas.List.{length-map}
use Rattle.count_ledger.specs.Lines.{key_of}
use Rattle.count_ledger.proofs.Adding.{at_others, at_there, gap_others, none_there, one_there, room_there}
use Rattle.count_ledger.proofs.lines.add.Goals as goal

pub raise-requires : goal.raise-requires
raise-requires c =
    let sums = c.args.sums.now in
    let at = c.in-Ok.ensures in
    let l : c.in-Ok.i < length sums = omega (arith, at.in_range, length-map sums key_of) in
    let d = c.index-sums-i.result in
    room_there c.args.column c.args.thing.now c.args.by sums c.in-Ok.i d l
    (at_there c.args.thing.now sums c.in-Ok.i d at) c.requires.room

pub returns-in-Ok : goal.returns-in-Ok
returns-in-Ok c =
    let sums = c.args.sums.now in
    let x = c.args.thing.now in
    let at = c.in-Ok.ensures in
    let l : c.in-Ok.i < length sums = omega (arith, at.in_range, length-map sums key_of) in
    let d = c.index-sums-i.result in
    ap (set sums c.in-Ok.i) c.raise.ensures
    ∙ sym (one_there c.args.column x c.args.by sums c.in-Ok.i d l (at_there x sums c.in-Ok.i d at)
    (at_others x sums c.in-Ok.i at))

pub returns-in_default : goal.returns-in_default
returns-in_default c =
    let sums = c.args.sums.now in
    let x = c.args.thing.now in
    sym (none_there c.args.column x c.args.by sums
    (gap_others x sums c.in_default.field-0 c.in_default.ensures))
