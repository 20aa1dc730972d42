-- Loads by what is told in them.
use Rattle.std.proofs.Common.{◌≡◌, ◌<◌, ℕ, List, Option, get_or, length, sym, ap, ◌∙◌}
use Rattle.std.proofs.lemmas.List.{get_or-map, length-map}
use Rattle.orca_names.specs.declared.names.ObjName.{ObjName}
use Rattle.orca_names.specs.declared.names.Thing.{Thing}
use Rattle.orca_names.specs.declared.names.Value.{Value}
use Rattle.row_store.specs.Told.{Lying, lie_as, lies_as}
use Rattle.row_store.specs.declared.told.Told.{Told}

-- a thing that is told, in the load that is seen
module _ (rows : ObjName → Option (List Value)) (items : List (Thing × Told)) (load : List (Thing × Lying)) (is : lie_as rows items ≡ load) where
  pub long_load : length items ≡ length load
  long_load = sym (length-map items (lies_as rows)) ∙ ap length is

  pub seen_at : (i : ℕ) (e : Thing × Told) → i < length items → e ≡ get_or items i e → lies_as rows e ≡ get_or load i (lies_as rows e)
  seen_at i e l here = ap (lies_as rows) here ∙ sym (get_or-map (lies_as rows) items i e (lies_as rows e) l) ∙ ap (λ xs. get_or xs i (lies_as rows e)) is
