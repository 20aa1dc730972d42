-- Maps from things whose values are mapped.
use Rattle.std.specs.Prelude.{map}
use Rattle.std.specs.FinMap as m
use Rattle.orca_names.specs.Names.{thing_cmp}
use Rattle.orca_names.specs.declared.names.Thing.{Thing}

-- with what a function makes of each thing and its value
abbrev pub mapped : {X Y : Type 0} → (Thing → X → Y) → m.FinMap thing_cmp X → m.FinMap thing_cmp Y
mapped f t = m.from_sorted (map (λ e. (e.0, f e.0 e.1)) (m.entries t))
