use Rattle.std.proofs.Common.{◌∙◌, ap₂}
use Rattle.std.proofs.lemmas.Result.{IfOk-weaker}
use Rattle.word_line.specs.Commands.{command_line, with_line}
use Rattle.word_line.proofs.command.command.Goals as goal

pub returns : goal.returns
unfolding command_line
returns c =
    let first = c.in_ok-command.ensures ∙ ap₂ with_line c.base_command.ensures.app c.in_ok-run_command.ensures.app in
    let second = c.in_ok-command-2.ensures ∙ ap₂ with_line first c.in_ok-load_command.ensures.app in
    let third = c.in_ok-command-3.ensures ∙ ap₂ with_line second c.new.ensures.app in
    let fourth = ap₂ with_line third c.in_ok-why_command.ensures.app in
    IfOk-weaker c.with_line-4.result _ _ (λ m last. last ∙ fourth) c.with_line-4.ensures
