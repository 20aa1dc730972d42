use Rattle.std.proofs.Common.{codes, Some}
use Rattle.std.proofs.lemmas.Bool.Decides.{Decides-eqb}
use Rattle.std.proofs.lemmas.Slice.Eq.{strip_prefix_is}
use Rattle.run_book.proofs.Headers.{no_new_header}
use Rattle.run_book.proofs.header.new_header_of.Goals as goal

pub returns-in-None : goal.returns-in-None
returns-in-None c h =
    let taken = c.numeral_and_trace-trace in
    no_new_header c.args.line.now c.in-Some.rest.now _ _ h
    (strip_prefix_is Decides-eqb c.args.line.now (codes "book 2 ") (Some c.in-Some.rest)
    c.in-Some.ensures.cases)
    taken.ensures.whole taken.ensures.roots c.in-None.ensures
