use Rattle.std.proofs.Common.{◌-◌, ◌≤◌, ◌++◌, ◌∙◌, length, replicate, ap, arith, length-append}
use Rattle.std.proofs.lemmas.List.{length-replicate}
use Rattle.orca_names.specs.declared.names.Value.TheVariants.{Null}
use Rattle.turn_rules.proofs.Places.{padded_more}
use Rattle.turn_rules.proofs.registers.RegisterFile.start.Goals as goal

pub returns : goal.returns
returns c =
    let values = c.args.args.now in
    let rest = 8 - length values in
    let few : length values ≤ 8 = omega (arith, c.places.ensures.eight, ap length c.places.ensures.value, length-append values (replicate rest Null), length-replicate rest Null) in
    (λ i. (c.copy_from_slice.ensures.after ∙ c.places.ensures.value) i ++ c.copy_from_slice-2.ensures.after i) ∙ padded_more values few
