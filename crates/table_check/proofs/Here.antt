-- Tables none of whose rows lies in a block, and what leaves them so.
use Rattle.std.proofs.Common.{◌≡◌, ℕ, false, Option, Some, None, refl, ap, ◌∙◌}
use Rattle.std.specs.Prelude.{is_some, option_and_then}
use Rattle.std.specs.FinMap as m
use Rattle.std.specs.Ordering.{nat_cmp}
use Rattle.orca_names.specs.declared.names.Thing.{Thing}
use Rattle.letter_kinds.specs.Holdings.{Row}
use Rattle.object_heap.specs.Heap.{Heap}
use Rattle.object_heap.specs.Heap as heaps
use Rattle.foreign_table.specs.Table.{Table, no_table}
use Rattle.foreign_table.specs.Table as tables
use Rattle.foreign_table.proofs.Here.{entered_here, none_here}
use Rattle.row_table.specs.Table.{AllKnownHere, KnownRows, as_held, learnt, nothing_known}

pub no_block : (block : Option ℕ) → is_some block ≡ false → block ≡ None
no_block None none = refl
no_block (Some block) none = cc

-- at the start
pub new_here : (h : Heap) → h.blocks ≡ m.empty → heaps.AllHere h
new_here h none q = ap (λ blocks. heaps.block_at blocks q) none ∙ ap (option_and_then (λ p. p)) (m.get-empty nat_cmp q)

pub none_held : (t : Table) → t ≡ no_table → tables.AllHere t
none_held t none q = ap (λ (u : Table). tables.block_at u.blocks q) none ∙ none_here q

pub nothing_here : (t : KnownRows) → t ≡ nothing_known → AllKnownHere t
nothing_here t none q = ap (λ (u : KnownRows). tables.block_at u.blocks q) none ∙ none_here q

-- blocks are as before
pub heap_here : (g h : Heap) → g.blocks ≡ h.blocks → heaps.AllHere h → heaps.AllHere g
heap_here g h same here q = ap (λ blocks. heaps.block_at blocks q) same ∙ here q

pub held_here : (t u : Table) → t.blocks ≡ u.blocks → tables.AllHere u → tables.AllHere t
held_here t u same here q = ap (λ blocks. tables.block_at blocks q) same ∙ here q

pub known_here : (t u : KnownRows) → t.blocks ≡ u.blocks → AllKnownHere u → AllKnownHere t
known_here t u same here q = ap (λ blocks. tables.block_at blocks q) same ∙ here q

-- a row at hand is told
pub learnt_here : (x : Thing) (row : Row) (t : KnownRows) → AllKnownHere t → AllKnownHere (learnt x (Some row) None t)
learnt_here x row t here = entered_here (λ count. count) x (Some row) (as_held t) here
