use Rattle.std.proofs.Common.{◌≡◌, ◌++◌, take}
use Rattle.std.specs.Prelude.{string_bytes}
use Rattle.std.specs.List.{flat_map}
use Rattle.report_text.specs.WhyLines.{reason_line}
use Rattle.report_text.proofs.reasons.push_reasons.Given as goal

abbrev pub invariant-loop-reason : goal.invariant-loop-reason
invariant-loop-reason l = string_bytes l.out ≡ string_bytes l.initial.out ++ flat_map reason_line (take l.reason-index l.reasons)
