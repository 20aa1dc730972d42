use Rattle.std.proofs.Common.{◌≡◌, ◌++◌, map, take}
use Rattle.std.specs.Prelude.{slice_range}
use Rattle.picture_rules.specs.Words.{text_of_lines}
use Rattle.picture_rules.specs.Pictures.{text_line}
use Rattle.picture_lines.proofs.heading.push_text.Given as goal

abbrev pub invariant-loop-span : goal.invariant-loop-span
invariant-loop-span l =
    l.out.items ≡ l.fn.out.items ++ text_of_lines (map (λ s. text_line (slice_range l.text s.from s.to)) (take l.span-index l.span-items))
