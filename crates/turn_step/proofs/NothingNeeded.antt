-- Who holds everything needs nothing.
use Rattle.std.proofs.Common.{◌≡◌, List, [], ◌∷◌, None, true, refl}
use Rattle.std.specs.List.{find}
use Rattle.orca_names.specs.declared.names.Thing.{Thing}
use Rattle.orca_names.specs.declared.names.Value.{Value}
use Rattle.reach_walk.specs.Reach.{named_by}
use Rattle.turn_step.specs.Held.{first_needed, is_needed}

none_needed : (things : List Thing) → find (is_needed (λ _. true)) things ≡ None
none_needed [] = refl
none_needed (x ∷ xs) = none_needed xs

pub nothing_needed : (values : List Value) → first_needed (λ _. true) values ≡ None
nothing_needed values = none_needed (named_by values)
