use Rattle.std.proofs.Common.{take}
use Rattle.std.specs.Prelude.{All}
use Rattle.why_path.specs.Named.{NamesNoneLoose}
use Rattle.why_path.proofs.checks.name_none_loose.Given as goal

abbrev pub invariant-loop-value : goal.invariant-loop-value
invariant-loop-value l = All (NamesNoneLoose l.reasons) (take l.value-index l.values)
