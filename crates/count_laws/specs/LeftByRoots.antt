-- What is left at quiet with root-only tracing.
use Rattle.std.specs.Prelude.{ℕ, ◌<◌, ◌≡◌, Contains, List}
use Rattle.orca_names.specs.declared.names.ObjName.{ObjName}
use Rattle.orca_names.specs.declared.names.Thing.{Thing}
use Rattle.orca_names.specs.declared.names.Thing.TheVariants.{Actor, Obj}
use Rattle.reach_walk.specs.Reach.{named_by}
use Rattle.letter_kinds.specs.Holdings.{held_in}
use Rattle.letter_kinds.specs.Letters.{Letter}
use Rattle.machine_rules.specs.Actors.{Actors, seat, seat_at}
use Rattle.machine_rules.specs.Cell.{Cell}
use Rattle.plain_rules.specs.Machine.{PlainState}
use Rattle.plain_rules.specs.Reach.{plain_edges, roots_from}

-- reached from the roots by the edges of the machine that frees nothing, and one more: from an
-- actor to each own object that some actor that is left holds
pub data IsReachedOrHeld (p : PlainState) (s : Actors) : Thing → Type 0 where
  from_root : {x : Thing} → Contains (roots_from 0 p.actors) x → IsReachedOrHeld p s x
  by_edge : (t : Thing) {x : Thing} → IsReachedOrHeld p s t
      → Contains (named_by (plain_edges p.actors t)) x → IsReachedOrHeld p s x
  to_owner : {n : ObjName} → IsReachedOrHeld p s (Obj n) → IsReachedOrHeld p s (Actor n.owner)
  to_held : {n : ObjName} (b : ℕ) (c : Cell) (mail : List Letter)
      → IsReachedOrHeld p s (Actor n.owner) → seat_at s b ≡ seat c mail
      → 0 < held_in c.holdings (Obj n) → IsReachedOrHeld p s (Obj n)
