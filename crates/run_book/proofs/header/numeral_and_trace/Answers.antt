use Rattle.std.proofs.Common.{codes, Some}
use Rattle.std.proofs.lemmas.Bool.Decides.{Decides-eqb}
use Rattle.std.proofs.lemmas.Slice.Eq.{strip_suffix_is}
use Rattle.run_book.proofs.header.numeral_and_trace.Goals as goal

pub returns-in-Some-clause-whole : goal.returns-in-Some-clause-whole
returns-in-Some-clause-whole c =
    strip_suffix_is Decides-eqb c.args.rest.now (codes " roots") (Some c.in-Some.word)
    c.in-Some.ensures.cases
