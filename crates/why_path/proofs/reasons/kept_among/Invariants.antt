use Rattle.std.proofs.Common.{◌≡◌, map, take}
use Rattle.std.specs.Prelude.{not}
use Rattle.std.specs.List.{filter}
use Rattle.why_path.specs.Checks.{is_loose}
use Rattle.why_path.proofs.reasons.kept_among.Given as goal

abbrev pub invariant-loop-line : goal.invariant-loop-line
invariant-loop-line l = l.things.items ≡ map (λ r. r.thing) (filter (λ r. not (is_loose r.why)) (take l.line-index l.reasons))
