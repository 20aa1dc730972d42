use Rattle.std.proofs.Common.{rules, ◌≡◌}
use Rattle.std.proofs.lemmas.Fmt.{parse-decimal}
use Rattle.run_book.proofs.entry.number_in.Goals as goal

pub returns-else-eq : goal.returns-else-eq
returns-else-eq c n fits spelled =
    let read = parse-decimal 64 n _ _ fits fits spelled c.parse.ensures.value.0 in
    let text : c.format.result.now ≡ c.args.text.now = cc spelled in absurd (search rules)

pub returns-in-Err : goal.returns-in-Err
returns-in-Err c n fits spelled =
    cc (parse-decimal 64 n _ _ fits fits spelled c.parse.ensures.value.0)
