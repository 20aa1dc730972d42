-- Eight places in front of eight nulls.
use Rattle.std.proofs.Common.{◌≡◌, ◌-◌, ◌+◌, ◌≤◌, ◌++◌, ◌∙◌, List, length, replicate, ap, arith}
use Rattle.std.proofs.lemmas.List.{append_assoc, replicate-append-replicate}
use Rattle.orca_names.specs.declared.names.Value.{Value}
use Rattle.orca_names.specs.declared.names.Value.TheVariants.{Null}
use Rattle.orca_names.specs.Places.{padded}

pub padded_more : (values : List Value) → length values ≤ 8 → padded values ++ replicate 8 Null ≡ values ++ replicate (16 - length values) Null
padded_more values few =
    let sum : 8 - length values + 8 ≡ 16 - length values = omega (arith, few) in
    append_assoc values (replicate (8 - length values) Null) (replicate 8 Null)
    ∙ ap (λ ys. values ++ ys) (replicate-append-replicate (8 - length values) 8 Null ∙ ap (λ n. replicate n Null) sum)
