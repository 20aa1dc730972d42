-- The counts on actors, as the table tells them.
use Rattle.std.proofs.Common.{◌≡◌, ℕ, Option, List, [], ◌∷◌, refl, ap}
use Rattle.std.specs.List.{filter_map}
use Rattle.orca_names.specs.declared.names.Thing.{Thing}
use Rattle.orca_names.specs.declared.names.Thing.TheVariants.{Actor, Obj}
use Rattle.letter_kinds.specs.Holdings.{Row}
use Rattle.foreign_table.specs.Table.{on_actors}
use Rattle.machine_rules.specs.Block.{actor_entry}

pub on_actors-is : (es : List (Thing × (ℕ × Option Row))) → on_actors es ≡ filter_map actor_entry es
on_actors-is [] = refl
on_actors-is ((Actor a, e) ∷ es) = ap (λ xs. (a, e.0) ∷ xs) (on_actors-is es)
on_actors-is ((Obj n, e) ∷ es) = on_actors-is es
