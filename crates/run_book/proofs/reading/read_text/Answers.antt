use Rattle.std.proofs.Common.{ℕ}
use Rattle.std.proofs.lemmas.Result.{IfErr-weaker, IfOk-weaker}
use Rattle.run_book.specs.Reading.{AreAlike, HasFault, IsBookText, TellsFirst, TellsNone}
use Rattle.run_book.proofs.Alike.{one_book}
use Rattle.run_book.proofs.Faults.{faultless, no_book}
use Rattle.run_book.proofs.FirstLine.{feed_fault, header_fault}
use Rattle.run_book.proofs.reading.read_text.Goals as goal

pub returns-in_default-clause-fault : goal.returns-in_default-clause-fault
returns-in_default-clause-fault c =
    let e = c.line_end-end.ensures in
    header_fault c.args.text.now c.line_end-end.result e.within e.before e.found
    c.in_default.ensures

pub returns-in_default-clause-none : goal.returns-in_default-clause-none
returns-in_default-clause-none c b t =
    let e = c.line_end-end.ensures in
    let f = header_fault c.args.text.now c.line_end-end.result e.within e.before e.found
    c.in_default.ensures in
    faultless c.args.text.now b t 1 1 f.there

pub returns-then-end-text-clause-fault : goal.returns-then-end-text-clause-fault
returns-then-end-text-clause-fault c =
    let e = c.line_end-end.ensures in
    feed_fault c.args.text.now c.line_end-end.result e.within e.before e.found c.in-Some.header
    c.in-Some.ensures c.if-end-text.true

pub returns-then-end-text-clause-none : goal.returns-then-end-text-clause-none
returns-then-end-text-clause-none c b t =
    let e = c.line_end-end.ensures in
    let f = feed_fault c.args.text.now c.line_end-end.result e.within e.before e.found
    c.in-Some.header c.in-Some.ensures c.if-end-text.true in
    faultless c.args.text.now b t 1 4 f.there

pub returns-clause-only : goal.returns-clause-only
returns-clause-only c b t =
    IfOk-weaker c.read_entries.result (IsBookText c.args.text.now) (λ found. AreAlike found b)
    (λ found s. one_book c.args.text.now found b s t) c.read_entries.ensures.text

pub returns-clause-none : goal.returns-clause-none
returns-clause-none c =
    IfErr-weaker c.read_entries.result (TellsFirst c.args.text.now) (TellsNone c.args.text.now)
    (λ e f. no_book c.args.text.now e f) c.read_entries.ensures.fault

pub returns-clause-sound : goal.returns-clause-sound
returns-clause-sound c =
    IfOk-weaker c.read_entries.result (IsBookText c.args.text.now) (λ found. (number kind : ℕ) →
    ¬ HasFault c.args.text.now number kind) (λ found s. faultless c.args.text.now found s)
    c.read_entries.ensures.text
