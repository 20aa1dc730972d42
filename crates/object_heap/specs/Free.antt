-- Objects that are freed together.
use Rattle.std.specs.Prelude.{ℕ, ◌==◌, ◌<◌, ◌+◌, ◌-◌, Bool, not, List, length, slice_index_or}
use Rattle.std.specs.List.{list_any}
use Rattle.std.specs.FinMap as m
use Rattle.orca_names.specs.declared.names.ObjName.{ObjName}
use Rattle.std.proofs.lemmas.List.Filters.{FiltersInPlace}
use Rattle.object_heap.specs.declared.search.Key.{Key}
use Rattle.object_heap.specs.Entry.{AreKept, Item, Own}
use Rattle.object_heap.specs.Heap.{Heap}

-- each serial is below those behind it
abbrev pub SerialsRise : List ObjName → Type 0
SerialsRise names = (i j : ℕ) (d : ObjName) → i < j → j < length names
    → (slice_index_or names i d).serial < (slice_index_or names j d).serial

-- the serial is not among those that go
abbrev pub stays : List ObjName → ℕ → Bool
stays gone k = not (list_any (λ n. n.serial == k) gone)

-- an object that is not among them
abbrev pub is_kept : List ObjName → Own → Bool
is_kept gone e = stays gone e.serial

-- of all these, the ones before place i were looked at: those of them that stay stand first
abbrev pub FiltersKept : ℕ → List ObjName → List Own → List Key → List Item → ℕ → ℕ → Type 0
FiltersKept owner gone all keys objects kept i =
    (own : List Own) × AreKept owner keys objects own
    × FiltersInPlace (is_kept gone) all own kept i

-- the others stay, and the places of these are room
abbrev pub freed : List ObjName → Heap → Heap
freed gone h =
    let rows = m.retain_keys h.rows (stays gone) in
    record h {
      spare = h.spare + (m.len h.rows - m.len rows);
      rows = rows;
      blocks = m.retain_keys h.blocks (stays gone);
    }
