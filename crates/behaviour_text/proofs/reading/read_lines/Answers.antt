use Rattle.std.proofs.Common.{◌≡◌, ◌+◌, ap, sym, subst, refl, OnOk, IfErr, Ok, ◌≤◌, Result, None, arith, length, ℕ}
use Rattle.text_lines.specs.Lines.{lines_of}
use Rattle.behaviour_text.specs.Faults.{Tells}
use Rattle.behaviour_text.specs.Reading.{read_from, start, fault_of}
use Rattle.text_lines.specs.declared.LineSpan.{LineSpan}
use Rattle.behaviour_text.specs.declared.reader.Reader.{Reader}
use Rattle.behaviour_text.proofs.Steps.{few_more, step_taken, step_refused, all_read}
use Rattle.behaviour_text.proofs.reading.read_lines.Goals as goal
use Rattle.behaviour_text.specs.declared.errors.FaultKind.{FaultKind}

pub loop-span-init : goal.loop-span-init
unfolding start
loop-span-init c = record {
  rest = ap (λ (r : Reader). read_from 0 r (lines_of c.args.bytes.now)) c.requires.begun;
  number = refl;
  few = omega (arith, ap (λ (r : Reader). length r.names) c.requires.begun);
}

-- the place past the spans
abbrev none : LineSpan
none = record { from = 0; to = 0; fault = None }

pub loop-span-preserved : goal.loop-span-preserved
loop-span-preserved c =
    let e = c.in_default.ensures.ok in
    let few : length c.take_line-taken.new.reader.names ≤ length c.loop-span.reader.names + 1 =
    subst (λ (r : Reader). length r.names ≤ length c.loop-span.reader.names + 1) (sym e.next) (few_more c.loop-span.reader _) in
    record {
      rest = step_taken c.args.bytes.now c.args.spans.now (lines_of c.args.bytes.now) c.loop-span.span-index none c.loop-span.reader _ _ c.requires.lines c.loop-span-test.true e c.loop-span.invariant.rest;
      number = omega arith;
      few = omega arith;
    }

pub returns-in-Err-clause-fault : goal.returns-in-Err-clause-fault
returns-in-Err-clause-fault c =
    step_refused c.args.bytes.now c.args.spans.now (lines_of c.args.bytes.now) c.loop-span.span-index (c.loop-span.line + 1) none c.loop-span.reader _ c.in-Err.e
    c.requires.lines c.loop-span-test.true (omega arith) c.in-Err.ensures.fault c.loop-span.invariant.rest

pub returns-clause-ok : goal.returns-clause-ok
returns-clause-ok c =
    let told = all_read c.args.bytes.now c.args.spans.now (lines_of c.args.bytes.now) c.loop-span.span-index c.loop-span.line c.loop-span.reader _ c.requires.lines (omega arith) c.loop-span.invariant.number c.loop-span.invariant.rest in
    subst (λ (whole : Result Reader (ℕ × FaultKind)). OnOk c.read_end.result (whole ≡ Ok c.loop-span.reader)) told c.read_end.ensures.ok

pub returns-clause-fault : goal.returns-clause-fault
returns-clause-fault c =
    let told = all_read c.args.bytes.now c.args.spans.now (lines_of c.args.bytes.now) c.loop-span.span-index c.loop-span.line c.loop-span.reader _ c.requires.lines (omega arith) c.loop-span.invariant.number c.loop-span.invariant.rest in
    subst (λ (whole : Result Reader (ℕ × FaultKind)). IfErr c.read_end.result (Tells (fault_of whole))) told c.read_end.ensures.fault
