-- Tables none of whose rows lies in a block.
use Rattle.std.proofs.Common.{◌≡◌, ℕ, Bool, true, false, cond, Option, Some, None, refl, ap, ◌∙◌}
use Rattle.std.specs.Prelude.{option_and_then}
use Rattle.std.specs.FinMap as m
use Rattle.letter_kinds.specs.Holdings.{Row}
use Rattle.orca_names.specs.Names.{is_thing}
use Rattle.orca_names.specs.declared.names.Thing.{Thing}
use Rattle.orca_names.proofs.ThingOrder.{thing_total}
use Rattle.foreign_table.specs.Table.{AllHere, Table, entered, no_table}
use Rattle.orca_names.specs.Names.{thing_cmp}

here_or : (b : Bool) (o : Option (Option ℕ)) → option_and_then (λ p. p) o ≡ None → option_and_then (λ p. p) (cond b (Some None) o) ≡ None
here_or true o none = refl
here_or false o none = none

pub none_here : AllHere no_table
none_here x = ap (option_and_then (λ p. p)) (m.get-empty thing_cmp x)

-- none does once a row at hand is told
pub entered_here : (change : ℕ → ℕ) (x : Thing) (row : Option Row) (t : Table) → AllHere t → AllHere (entered change x row None t)
entered_here change x row t here = λ q.
    ap (option_and_then (λ p. p)) (m.get-insert thing_total t.blocks x None q)
    ∙ here_or (is_thing q x) (m.get t.blocks q) (here q)
