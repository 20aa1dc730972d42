use Rattle.std.proofs.Common.{◌≡◌, ◌++◌, take}
use Rattle.std.specs.Prelude.{string_bytes}
use Rattle.std.specs.List.{flat_map}
use Rattle.report_text.specs.WhyLines.{held_text}
use Rattle.report_text.proofs.reasons.push_held.Given as goal

abbrev pub invariant-loop-actor : goal.invariant-loop-actor
invariant-loop-actor l = string_bytes l.out ≡ string_bytes l.initial.out ++ flat_map held_text (take l.actor-index l.held)
