use Rattle.std.proofs.Common.{◌≡◌, ◌++◌, take}
use Rattle.std.specs.Prelude.{string_bytes}
use Rattle.std.specs.List.{flat_map}
use Rattle.report_text.specs.WhyLines.{member_line}
use Rattle.report_text.proofs.reasons.push_members.Given as goal

abbrev pub invariant-loop-member : goal.invariant-loop-member
invariant-loop-member l = string_bytes l.out ≡ string_bytes l.initial.out ++ flat_map member_line (take l.member-index l.members)
