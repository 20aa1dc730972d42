-- Rows as edges: what the code itself has to prove of them, which it can cite from specs/ alone.
use Rattle.std.proofs.Common.{◌≡◌, ◌≢◌, List, [], Option, None, Some, map, Contains, refl, sym, ap, subst, ◌∙◌, ◌<◌}
use Rattle.std.specs.Prelude.{unwrap_or}
use Rattle.std.proofs.lemmas.List.{length-map, get_or-map}
use Rattle.orca_names.specs.declared.names.ObjName.{ObjName}
use Rattle.orca_names.specs.declared.names.Thing.{Thing}
use Rattle.orca_names.specs.declared.names.Thing.TheVariants.{Actor, Obj}
use Rattle.orca_names.specs.declared.names.Value.{Value}
use Rattle.reach_walk.specs.Marks.{Covers}
use Rattle.reach_walk.specs.Reach.{row_edges}

pub Contains-map : {X Y : Type 0} (f : X → Y) (xs : List X) (x : X) → Contains xs x
    → Contains (map f xs) (f x)
Contains-map f xs x c = (
  c.0,
  subst (λ n. c.0 < n) (sym (length-map xs f)) c.1,
  get_or-map f xs c.0 x
      (f x) c.1 ∙ ap f c.2,
)

-- what leads on is among the objects of all names
pub row_edges-within : (rows : ObjName → Option (List Value)) (all : List ObjName)
    → Covers all rows → (t : Thing) → row_edges rows t ≢ [] → Contains (map Obj all) t
row_edges-within rows all covers (Actor a) leads = absurd (leads refl)
row_edges-within rows all covers (Obj n) leads = cases (rows n) refl leads
  where
    cases : (row : Option (List Value)) → rows n ≡ row → unwrap_or row [] ≢ []
        → Contains (map Obj all) (Obj n)
    cases None e h = absurd (h refl)
    cases (Some row) e h = Contains-map Obj all n (covers n row e)
