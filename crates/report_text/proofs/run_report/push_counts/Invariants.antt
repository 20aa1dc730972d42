use Rattle.std.proofs.Common.{◌≡◌, ◌++◌, take}
use Rattle.std.specs.Prelude.{string_bytes}
use Rattle.std.specs.List.{flat_map}
use Rattle.report_text.specs.Reports.{count_line}
use Rattle.report_text.proofs.run_report.push_counts.Given as goal

abbrev pub invariant-loop-sums : goal.invariant-loop-sums
invariant-loop-sums l = string_bytes l.out ≡ string_bytes l.initial.out ++ flat_map count_line (take l.sums-index l.counts)
