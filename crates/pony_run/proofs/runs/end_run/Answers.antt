use Rattle.std.proofs.Common.{arith}
use Rattle.pony_run.specs.Inner.{RunAnswers}
use Rattle.pony_run.proofs.Answering.{nothing_written, report_answers}
use Rattle.pony_run.proofs.Running.{ends_with, goes_on_under_way, run_under_way}
use Rattle.pony_run.proofs.runs.end_run.Goals as goal

pub returns-in_default : goal.returns-in_default
returns-in_default g c =
    let least = c.requires.range.weight.0 in
    let done = c.finish-end.ensures in
    let order = c.args.order.now in
    let program = c.args.code.now in
    let orca = c.finish-end.new.orca in
    let book = c.finish-end.new.book in
    let on = goes_on_under_way order program c.args.orca orca c.args.book book c.requires.range.rows
    c.requires.run done.run done.program done.options done.book done.within done.home done.size done.on in
    RunAnswers.starved (run_under_way order program orca book (omega arith) on).0 (nothing_written _ _)

pub write_report-status-requires-clause-run : goal.write_report-status-requires-clause-run
write_report-status-requires-clause-run g c =
    let done = c.finish-end.ensures in
    goes_on_under_way c.args.order.now c.args.code.now c.args.orca c.finish-end.new.orca c.args.book c.finish-end.new.book c.requires.range.rows
    c.requires.run done.run done.program done.options done.book done.within done.home done.size done.on

pub returns : goal.returns
returns g c =
    let least = c.requires.range.weight.0 in
    let done = c.finish-end.ensures in
    let order = c.args.order.now in
    let program = c.args.code.now in
    let orca = c.finish-end.new.orca in
    let book = c.finish-end.new.book in
    let on = goes_on_under_way order program c.args.orca orca c.args.book book c.requires.range.rows
    c.requires.run done.run done.program done.options done.book done.within done.home done.size done.on in
    let run = run_under_way order program orca book (omega arith) on in
    report_answers order program _ book run.0 c.in-Some.answer c.write_report-status.result orca.state orca.blocks run.1 run.2
    (ends_with c.finish-end.result c.in-Some.answer c.in-Some.ensures orca.state orca.blocks book.entries order.budget done.end)
    c.write_report-status.ensures
