-- The table of an actor.
use Rattle.std.specs.Prelude.{ℕ, ◌≡◌, ◌+◌, ◌-◌, ◌==◌, ◌||◌, not, Bool, if◌then◌else◌, is_some, IsSome, List, [], ◌∷◌, Option, Some, None, T, refl, map, length, option_and_then}
use Rattle.std.specs.FinMap as m
use Rattle.std.specs.FinMap.Entries.{is_sorted}
use Rattle.std.specs.List.{sum_by}
use Rattle.std.specs.Option.{option_map_or}
use Rattle.std.specs.Coded.{Coded, code_by, coded×, coded_ℕ, coded_option}
use Rattle.orca_names.specs.Codes.{coded_thing, coded_row}
use Rattle.orca_names.specs.Names.{owner_of, thing_cmp}
use Rattle.orca_names.specs.declared.names.ObjName.{ObjName}
use Rattle.orca_names.specs.declared.names.Thing.{Thing}
use Rattle.orca_names.specs.declared.names.Thing.TheVariants.{Actor, Obj}
use Rattle.orca_names.specs.declared.names.Value.{Value}
use Rattle.letter_kinds.specs.Holdings.{Entries, Row, entry_count, entry_row}
use Rattle.row_store.specs.Told.{Lying, thing_row}
use Rattle.foreign_table.specs.Mapped.{mapped}
use Rattle.foreign_table.specs.declared.search.Entry.{Entry}
use Rattle.foreign_table.specs.Entry.{amount_of, pair_of}

-- of each thing the block in which its row lies, if it does
abbrev pub Blocks : Type 0
Blocks = m.FinMap thing_cmp (Option ℕ)

-- the room for new entries and for values of their rows, the entries, and the blocks of their rows
pub record Table : Type 0 where
  pub spare : ℕ
  pub spare_values : ℕ
  pub entries : Entries
  pub blocks : Blocks

abbrev pub coded_blocks : Coded Blocks
coded_blocks = m.code coded_thing (coded_option coded_ℕ)

abbrev pub coded_table : Coded Table
coded_table =
    code_by (ℕ × (ℕ × (Entries × Blocks)))
    (coded× coded_ℕ (coded× coded_ℕ
    (coded× (m.code coded_thing (coded× coded_ℕ (coded_option coded_row))) coded_blocks)))
    (λ t. (t.spare, (t.spare_values, (t.entries, t.blocks))))
    (λ p. record { spare = p.0; spare_values = p.1.0; entries = p.1.1.0; blocks = p.1.1.1 })
    (λ _. refl)

-- no entry, and no room
abbrev pub no_table : Table
no_table = record { spare = 0; spare_values = 0; entries = m.empty; blocks = m.empty }

-- ---- as it is kept

-- each thing with its count and how its row lies; of one in a block no row is kept
abbrev pub Kept : Type 0
Kept = m.FinMap thing_cmp (ℕ × Lying)

-- the map of these entries, with rows of these values
abbrev pub kept_in : List Value → List Entry → Kept
kept_in values held = m.from_sorted (map (pair_of values) held)

-- the row of a thing, where one in a block is remembered
abbrev pub row_seen : (ObjName → Option Row) → Thing → Lying → Option Row
row_seen memory x l = if is_some l.block then thing_row memory x else l.row

abbrev pub seen : (ObjName → Option Row) → Thing → ℕ × Lying → ℕ × Option Row
seen memory x v = (v.0, row_seen memory x v.1)

abbrev pub block_seen : Thing → ℕ × Lying → Option ℕ
block_seen x v = v.1.block

-- the table that is kept so
abbrev pub seen_by : (ObjName → Option Row) → ℕ → ℕ → Kept → Table
seen_by memory spare spare_values kept = record {
  spare = spare;
  spare_values = spare_values;
  entries = mapped (seen memory) kept;
  blocks = mapped block_seen kept;
}

-- a row that lies in a block is remembered
abbrev pub AreRecalled : (ObjName → Option Row) → Kept → Type 0
AreRecalled memory kept = (x : Thing) (v : ℕ × Lying) → m.get kept x ≡ Some v → IsSome v.1.block
    → IsSome (thing_row memory x)

-- things rise
abbrev pub DoRise : List Entry → Type 0
DoRise held = T (is_sorted thing_cmp (map amount_of held))

-- the number of values of a row, where one is known
abbrev pub row_length : Option Row → ℕ
row_length row = option_map_or length row 0

-- the block of a thing's row, if it lies in one
abbrev pub block_at : Blocks → Thing → Option ℕ
block_at blocks x = option_and_then (λ b. b) (m.get blocks x)

-- the number of values that lie aside: those of a row that lies in no block
abbrev pub length_aside : Option Row → Option ℕ → ℕ
length_aside row block = if is_some block then 0 else row_length row

-- those of a thing's row
abbrev pub values_at : Table → Thing → ℕ
values_at t x = length_aside (entry_row (m.get t.entries x)) (block_at t.blocks x)

-- those of all rows
abbrev pub count_values : Table → ℕ
count_values t = sum_by (values_at t) (m.keys t.entries)

-- the count that is held on a thing
abbrev pub count_on : Table → Thing → ℕ
count_on t x = entry_count (m.get t.entries x)

-- the thing is the actor's own, or held by the table
abbrev pub holds_in : ℕ → Table → Thing → Bool
holds_in me foreign x = (owner_of x == me) || not (count_on foreign x == 0)

-- the row that is known of an object
abbrev pub known_row : Table → ObjName → Option Row
known_row t n = entry_row (m.get t.entries (Obj n))

-- and the block in which it lies, if it does
abbrev pub known_block : Table → ObjName → Option ℕ
known_block t n = block_at t.blocks (Obj n)

-- no row lies in a block
abbrev pub AllHere : Table → Type 0
AllHere t = (x : Thing) → block_at t.blocks x ≡ None

-- all but the room is the same
abbrev pub IsSame : Table → Table → Type 0
IsSame t u = (t.entries ≡ u.entries) × (t.blocks ≡ u.blocks)

-- how many of these things are not held
abbrev pub count_unheld : {X : Type 0} → List (Thing × ℕ) → m.FinMap thing_cmp X → ℕ
count_unheld things entries = sum_by (λ e. if is_some (m.get entries e.0) then 0 else 1) things

-- its count changed, its row and block as given; an entry that is new takes room, and a row in place
-- of another
abbrev pub entered : (ℕ → ℕ) → Thing → Option Row → Option ℕ → Table → Table
entered change x row block t = record {
  spare = t.spare - (if is_some (m.get t.entries x) then 0 else 1);
  spare_values = t.spare_values + values_at t x - length_aside row block;
  entries = m.insert t.entries x (change (count_on t x), row);
  blocks = m.insert t.blocks x block;
}

-- its count changed
abbrev pub counted : (ℕ → ℕ) → Thing → Table → Table
counted change x t =
    record t { entries = m.insert t.entries x (change (count_on t x), entry_row (m.get t.entries x)) }

-- one entry less
abbrev pub without : Thing → Table → Table
without x t = record {
  spare = t.spare + 1;
  spare_values = t.spare_values + values_at t x;
  entries = m.remove t.entries x;
  blocks = m.remove t.blocks x;
}

-- before the others, where the thing is an actor
abbrev pub on_actor : Thing → ℕ → List (ℕ × ℕ) → List (ℕ × ℕ)
on_actor (Actor a) count rest = (a, count) ∷ rest
on_actor (Obj n) count rest = rest

-- the counts on actors, in their order
abbrev pub on_actors : {X : Type 0} → List (Thing × (ℕ × X)) → List (ℕ × ℕ)
on_actors [] = []
on_actors (e ∷ es) = on_actor e.0 e.1.0 (on_actors es)
