use Rattle.std.proofs.Common.{◌∙◌, ap, ap₂}
use Rattle.std.proofs.lemmas.Result.{IfOk-weaker}
use Rattle.clap.specs.Words.{app_of, with_rule}
use Rattle.word_line.proofs.command.with_options.Goals as goal

pub returns-clause-app : goal.returns-clause-app
returns-clause-app c =
    let start = with_rule (app_of c.args.command) in
    let first = c.in_ok-command.ensures.app ∙ ap start c.option.ensures.rule in
    let second = c.in_ok-command-2.ensures.app ∙ ap₂ with_rule first c.option-2.ensures.rule in
    let third = c.in_ok-command-3.ensures.app ∙ ap₂ with_rule second c.flag.ensures.rule in
    let fourth = c.in_ok-command-4.ensures.app ∙ ap₂ with_rule third c.flag-2.ensures.rule in
    let fifth = c.in_ok-command-5.ensures.app ∙ ap₂ with_rule fourth c.option-3.ensures.rule in
    let sixth = c.in_ok-command-6.ensures.app ∙ ap₂ with_rule fifth c.option-4.ensures.rule in
    let seventh = ap₂ with_rule sixth c.option-5.ensures.rule in
    IfOk-weaker c.with_arg-7.result _ _ (λ m last. last ∙ seventh) c.with_arg-7.ensures.app
