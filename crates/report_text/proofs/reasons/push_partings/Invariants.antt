use Rattle.std.proofs.Common.{◌≡◌, ◌++◌, take}
use Rattle.std.specs.Prelude.{string_bytes}
use Rattle.std.specs.List.{flat_map}
use Rattle.report_text.specs.WhyLines.{parting_lines}
use Rattle.report_text.proofs.reasons.push_partings.Given as goal

abbrev pub invariant-loop-parting : goal.invariant-loop-parting
invariant-loop-parting l = string_bytes l.out ≡ string_bytes l.initial.out ++ flat_map parting_lines (take l.parting-index l.partings)
