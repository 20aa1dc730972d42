use Rattle.std.proofs.Common.{[], arith}
use Rattle.std.proofs.lemmas.List.{ext_get_or}
use Rattle.book_hall.proofs.programs.same_names.Goals as goal

pub returns : goal.returns
returns c = λ is. ext_get_or [] c.args.one.now c.args.other.now (omega (arith, c.len.ensures, c.len-2.ensures, c.if-len.false))
    (λ k below. c.loop-k.invariant k (omega (arith, below, c.loop-k-test.false, c.in-Ok.ensures, c.len-3.ensures)))
