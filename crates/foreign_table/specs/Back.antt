-- Counts that go back to their owners.
use Rattle.std.specs.Prelude.{ℕ, ◌+◌, ◌-◌, Bool, false, not, List, is_some, T}
use Rattle.std.specs.Option.{option_map_or}
use Rattle.std.specs.Ordering.{nat_cmp}
use Rattle.std.specs.List.{list_all}
use Rattle.std.specs.FinMap as m
use Rattle.std.specs.FinMap.Entries.{find, is_sorted}
use Rattle.orca_names.specs.Names.{owner_of, thing_cmp}
use Rattle.orca_names.specs.declared.names.Thing.{Thing}
use Rattle.letter_kinds.specs.Counting.{Amount}
use Rattle.foreign_table.specs.Table.{Table, count_values}

-- owners rise, and the things of each
pub record BackRises (back : List (ℕ × List Amount)) : Type 0 where
  pub owners : T (is_sorted nat_cmp back)
  pub things : T (list_all (λ group. is_sorted thing_cmp group.1) back)

-- the thing stands in the group of its owner
abbrev pub goes_back : List (ℕ × List Amount) → Thing → Bool
goes_back back x =
    option_map_or (λ things. is_some (find thing_cmp x things)) (find nat_cmp (owner_of x) back)
    false

-- an entry that does not go back
abbrev pub is_kept : {X : Type 0} → List (ℕ × List Amount) → Thing × X → Bool
is_kept back e = not (goes_back back e.0)

-- the others stay
abbrev pub with_kept : List (ℕ × List Amount) → Table → Table
with_kept back t = record t {
  entries = m.retain_keys t.entries (λ x. not (goes_back back x));
  blocks = m.retain_keys t.blocks (λ x. not (goes_back back x));
}

-- and the places of these and of their values are room
abbrev pub given_up : List (ℕ × List Amount) → Table → Table
given_up back t =
    let kept = with_kept back t in
    record kept {
      spare = t.spare + (m.len t.entries - m.len kept.entries);
      spare_values = t.spare_values + (count_values t - count_values kept);
    }
