-- Collect: an idle actor that did something frees what its fields do not reach (Orca, OOPSLA 2017).
use Rattle.std.specs.Prelude.{ℕ, ◌==◌, not, false, Bool, List, ◌++◌, filter, map, set}
use Rattle.std.specs.List.{list_any}
use Rattle.std.specs.FinMap as m
use Rattle.orca_names.specs.Names.{is_thing}
use Rattle.orca_names.specs.declared.names.Thing.{Thing}
use Rattle.orca_names.specs.declared.names.Value.{Value}
use Rattle.orca_names.specs.declared.names.Value.TheVariants as values
use Rattle.reach_walk.specs.Marks.{marks_of}
use Rattle.letter_kinds.specs.Letters.{Letter}
use Rattle.letter_kinds.specs.Holdings.{known_objects, row_of}
use Rattle.letter_kinds.specs.Counting.{by_owner, given_back, sweep}
use Rattle.machine_rules.specs.Actors.{Actors, push_decs, seat}
use Rattle.machine_rules.specs.Cell.{Cell, listed_objects, own_row_of, row_by_roots}
use Rattle.orca_names.specs.declared.trace.Trace.{Trace}
use Rattle.orca_names.specs.declared.trace.Trace.TheVariants.{Deep, Roots}
use Rattle.event_rule.specs.Runs.{Step, Goes}
use Rattle.machine_rules.specs.State.{State}

-- what the actor's fields reach, as far as it knows
unfoldable pub is_marked_deep : ℕ → Cell → Thing → Bool
is_marked_deep a c x =
    list_any (is_thing x)
    (marks_of (row_of a c.holdings) (known_objects a c.holdings) c.fields.values)

-- its fields, and its own objects that are counted
unfoldable pub start_of_marks : ℕ → Cell → List Value
start_of_marks a c =
    c.fields.values ++ map (λ e. values.Obj (record { owner = a; serial = e.0 }))
    (filter (λ e. not (e.1.1 == 0)) (m.entries c.holdings.rows))

-- what they reach through own rows alone
unfoldable pub is_marked_by_roots : ℕ → Cell → Thing → Bool
is_marked_by_roots a c x =
    list_any (is_thing x)
    (marks_of (own_row_of a c.holdings) (listed_objects a c) (start_of_marks a c))

-- what they reach through all rows that it has: the rows of these objects stay
unfoldable pub is_in_use : ℕ → Cell → Thing → Bool
is_in_use a c x =
    list_any (is_thing x) (marks_of (row_by_roots a c) (listed_objects a c) (start_of_marks a c))

abbrev pub is_marked : Trace → ℕ → Cell → Thing → Bool
is_marked Deep a c = is_marked_deep a c
is_marked Roots a c = is_marked_by_roots a c

-- without the rows that letters brought and that are in use no more
abbrev pub without_unused : Trace → ℕ → Cell → Cell
without_unused Deep a c = c
without_unused Roots a c = record c { known = m.retain_keys c.known (is_in_use a c) }

-- the actor without what is not marked, and to each owner a Dec with what was held
abbrev pub after_collect : (Thing → Bool) → ℕ → Cell → List Letter → Actors → Actors
after_collect marked a c mail actors =
    push_decs (by_owner (given_back marked c.holdings)) (set actors a (seat (record c {
      holdings = sweep marked a c.holdings;
      dirty = false;
    }) mail))

abbrev pub collect : Trace → State → ℕ → Cell → List Letter → Step State
collect trace s a c mail =
    Goes (record s {
      actors = after_collect (is_marked trace a c) a (without_unused trace a c) mail s.actors;
    })
