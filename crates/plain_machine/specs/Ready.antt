-- Which actors can do something, and an index of them.
use Rattle.std.specs.Prelude.{ℕ, ◌≡◌, ◌≤◌, ◌||◌, Bool, false, is_some, not, List, length, slice_get, slice_index_or}
use Rattle.std.specs.Option.{option_map_or}
use Rattle.plain_rules.specs.declared.PlainActor.{PlainActor}
use Rattle.plain_list.specs.Lists.{is_empty}

-- it has a frame or a letter
abbrev pub can_act : PlainActor → Bool
can_act x = is_some x.frame || not (is_empty x.letters)

-- each actor has a place, which is on exactly where the actor can do something; the places past the
-- last actor are off
pub record IsIndex (ready : List Bool) (actors : List PlainActor) : Type 0 where
  pub room : length actors ≤ length ready
  pub at : (a : ℕ) → slice_index_or ready a false ≡ option_map_or can_act (slice_get actors a) false
