use Rattle.std.proofs.Common.{subst, sym}
use Rattle.std.specs.Str.{IsUtf8}
use Rattle.std.proofs.lemmas.Fmt.{IsAscii-decimal}
use Rattle.std.proofs.lemmas.Str.{IsUtf8-from_ascii}
use Rattle.run_book.proofs.entry.number_of.Goals as goal

pub returns-in-Err : goal.returns-in-Err
returns-in-Err c n fits spelled =
    c.in-Err.ensures.cases.0
    (subst IsUtf8 (sym spelled) (IsUtf8-from_ascii _ (IsAscii-decimal n fits)))
