use Rattle.std.proofs.Common.{sym, subst, ◌∙◌}
use Rattle.std.proofs.lemmas.Result.{IfOk-weaker}
use Rattle.machine_rules.specs.State.{first_state}
use Rattle.report_text.specs.WhyLines.{why_lines}
use Rattle.why_path.specs.Partings.{partings_of}
use Rattle.pony_run.specs.Headline.{AreWhys}
use Rattle.pony_run.proofs.Explaining.{tell_why}
use Rattle.pony_run.proofs.reporting.whys.Goals as goal

pub returns-in_ok-reasons-in-Why : goal.returns-in_ok-reasons-in-Why
returns-in_ok-reasons-in-Why c =
    let s = c.args.orca.now.state in
    let book = c.args.book.now.entries in
    let went = c.in_ok-partings-in-Why.ensures ∙ (λ i. partings_of book (first_state (sym c.requires.program i) (sym c.requires.options i))) in
    IfOk-weaker c.why_lines.result _ _ (λ lines said. subst (λ job. AreWhys job book s lines.items) (sym c.in-Why.is)
    (tell_why book s c.requires.run.run c.weight_is_above_zero.ensures c.in_ok-reasons-in-Why.reasons.items c.in_ok-reasons-in-Why.ensures
    c.in_ok-partings-in-Why.partings.items went lines.items
    (said ∙ (λ i. why_lines (c.deref.ensures.value i) (c.deref-in-Why.ensures.value i)))))
    c.why_lines.ensures
