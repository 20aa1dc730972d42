use Rattle.std.proofs.Common.{arith, sym, ◌∙◌, ◌<◌, ◌^◌, decimal}
use Rattle.std.proofs.lemmas.Fmt.{decimal_injective}
use Rattle.std.proofs.lemmas.List.{append_cancel_left}
use Rattle.run_book.proofs.entry.actor_after.Goals as goal

pub returns-else-number-from : goal.returns-else-number-from
returns-else-number-from c n fits spelled =
    let large : c.in-Some.number < 2 ^ 64 = omega arith in
    let same = decimal_injective c.in-Some.number n large (omega arith)
    (append_cancel_left c.args.words.now (decimal c.in-Some.number) (decimal n)
    (sym c.in-Some.ensures ∙ spelled)) in
    omega (arith, same, c.if-number-from.false)
