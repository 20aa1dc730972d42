use Rattle.std.proofs.Common.{ℕ, List, sym, subst, ◌∙◌}
use Rattle.std.proofs.lemmas.Result.{IfErr-weaker}
use Rattle.run_book.specs.Reading.{IsBookText}
use Rattle.run_book.proofs.FirstLine.{refused_for_memory}
use Rattle.run_book.proofs.reading.read_again.Goals as goal

pub returns-in-Ok-clause-ok : goal.returns-in-Ok-clause-ok
returns-in-Ok-clause-ok c =
    c.read_text.ensures.only c.args.book.now
    (subst (λ (bytes : List ℕ). IsBookText bytes c.args.book.now)
    (sym (c.deref.ensures.value ∙ c.in-Ok.ensures.text)) (c.text.ensures.form c.requires))

pub returns-in-Ok-clause-err : goal.returns-in-Ok-clause-err
returns-in-Ok-clause-err c =
    let written = subst (λ (bytes : List ℕ). IsBookText bytes c.args.book.now)
    (sym (c.deref.ensures.value ∙ c.in-Ok.ensures.text)) (c.text.ensures.form c.requires) in
    IfErr-weaker c.read_text.result _ _
    (λ e none. refused_for_memory _ c.args.book.now e written none) c.read_text.ensures.none
