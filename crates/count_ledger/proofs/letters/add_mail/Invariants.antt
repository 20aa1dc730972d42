use Rattle.std.proofs.Common.{◌≡◌, map, take}
use Rattle.count_ledger.specs.Lines.{with_mail}
use Rattle.count_ledger.proofs.letters.add_mail.Given as goal

abbrev pub invariant-loop-i : goal.invariant-loop-i
invariant-loop-i l = l.sums ≡ map (with_mail l.to (take l.i l.mail.letters)) l.fn.sums
