use Rattle.std.proofs.Common.{take}
use Rattle.std.specs.Prelude.{All}
use Rattle.why_path.specs.Edges.{args_of}
use Rattle.why_path.specs.Named.{NamesNoneLoose}
use Rattle.why_path.proofs.checks.letters_name_none_loose.Given as goal

abbrev pub invariant-loop-k : goal.invariant-loop-k
invariant-loop-k l = All (λ m. All (NamesNoneLoose l.reasons) (args_of m)) (take l.k l.mail.letters)
