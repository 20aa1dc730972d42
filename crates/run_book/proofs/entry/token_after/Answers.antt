use Rattle.std.proofs.Common.{decimal, None, Some}
use Rattle.std.proofs.lemmas.Bool.Decides.{Decides-eqb}
use Rattle.std.proofs.lemmas.Slice.Eq.{strip_prefix_is}
use Rattle.run_book.proofs.Numerals.{behind_words}
use Rattle.run_book.proofs.entry.token_after.Goals as goal

pub returns-in-None : goal.returns-in-None
returns-in-None c n fits spelled =
    strip_prefix_is Decides-eqb c.args.line.now c.args.words.now None c.in-None.ensures.cases
    (decimal n) spelled

pub returns-in-Some : goal.returns-in-Some
returns-in-Some c =
    behind_words c.args.line.now c.args.words.now c.in-Some.rest.now c.number_of.result
    (strip_prefix_is Decides-eqb c.args.line.now c.args.words.now (Some c.in-Some.rest)
    c.in-Some.ensures.cases) c.number_of.ensures
