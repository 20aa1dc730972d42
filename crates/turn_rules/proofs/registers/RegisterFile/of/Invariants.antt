use Rattle.std.proofs.Common.{◌≡◌, ◌-◌, ◌++◌, take, replicate}
use Rattle.orca_names.specs.declared.names.Value.TheVariants.{Null}
use Rattle.turn_rules.proofs.registers.RegisterFile.of.Given as goal

abbrev pub invariant-loop-i : goal.invariant-loop-i
invariant-loop-i l = l.places ≡ take l.i l.values ++ replicate (16 - l.i) Null
