use Rattle.std.proofs.Common.{sym, ap, ◌∙◌}
use Rattle.std.specs.Prelude.{is_some}
use Rattle.why_path.proofs.Finding.{copied_some, has_one}
use Rattle.why_path.proofs.lines.has_line.Goals as goal

pub returns : goal.returns
returns c =
    let rs = c.args.reasons.now in
    let x = c.args.thing.now in
    let is = c.is_some.ensures ∙ sym (copied_some c.line_of.result) ∙ ap is_some c.line_of.ensures in
    let has = has_one x rs in
    ((λ e. has.0 (sym is ∙ e)), (λ there. is ∙ has.1 there))
