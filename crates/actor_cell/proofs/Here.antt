-- Tables none of whose rows lies in a block, and cells that tell of no row that it lies in one.
use Rattle.std.proofs.Common.{◌≡◌, inl, inr, ℕ, ◌==◌, Bool, true, false, cond, Option, Some, None, IsSome, eq-eqb, refl, sym, ap, subst, ◌∙◌}
use Rattle.std.specs.Prelude.{option_and_then}
use Rattle.std.specs.FinMap as m
use Rattle.std.specs.Ordering.{nat_cmp}
use Rattle.orca_names.specs.declared.names.ObjName.{ObjName}
use Rattle.orca_names.specs.declared.names.Thing.TheVariants.{Obj}
use Rattle.row_store.specs.Standing.{AreRemembered}
use Rattle.letter_kinds.specs.Holdings.{Row}
use Rattle.object_heap.specs.Heap.{Heap, own_block, own_row}
use Rattle.object_heap.specs.Heap as heaps
use Rattle.foreign_table.specs.Table.{Table, no_table}
use Rattle.foreign_table.specs.Table as tables
use Rattle.foreign_table.proofs.Here.{none_here}
use Rattle.row_table.specs.Table.{KnownRows, nothing_known}
use Rattle.actor_cell.specs.Tells.{BroughtTells, OwnTells}
use Rattle.actor_cell.proofs.Tells.{PartsTell}

-- nothing is told where own rows and those of what is held are at hand, and nothing is of what was brought
pub here_tells : (heap : Heap) (foreign : Table) (known : KnownRows) → heaps.AllHere heap → tables.AllHere foreign
    → ((n : ObjName) (row : Row) (block : ℕ) → BroughtTells known n row block → ⊥)
    → (n : ObjName) (row : Row) (block : ℕ) → PartsTell heap foreign known n row block → ⊥
here_tells heap foreign known own held brought n row block (inl told) = by (n.owner == heap.owner) told.1
  where
    by : (t : Bool) → cond t (heaps.block_at heap.blocks n.serial) None ≡ Some block → ⊥
    by true lies = let none = own n.serial in cc
    by false lies = cc
here_tells heap foreign known own held brought n row block (inr (inl told)) = let lies = told.1 in let none = held (Obj n) in cc
here_tells heap foreign known own held brought n row block (inr (inr told)) = brought n row block told

-- so at the start
pub fresh_tells : (heap : Heap) (foreign : Table) (known : KnownRows) → heap.blocks ≡ m.empty → foreign ≡ no_table → known ≡ nothing_known
    → (n : ObjName) (row : Row) (block : ℕ) → PartsTell heap foreign known n row block → ⊥
fresh_tells heap foreign known own held brought =
    here_tells heap foreign known
    (λ q. ap (λ blocks. heaps.block_at blocks q) own ∙ ap (option_and_then (λ p. p)) (m.get-empty nat_cmp q))
    (λ x. ap (λ (t : Table). tables.block_at t.blocks x) held ∙ none_here x)
    (λ n row block told. let lies = told.1 in let none = ap (λ (t : KnownRows). tables.block_at t.blocks (Obj n)) brought ∙ none_here (Obj n) in cc)

-- of own objects, where nothing is told all rows are at hand: one that lies in a block is known
pub own_untold : (h : Heap) (memory : ObjName → Option Row) → AreRemembered (own_row h) (own_block h) memory
    → ((n : ObjName) (row : Row) (block : ℕ) → OwnTells h n row block → ⊥) → heaps.AllHere h
own_untold h memory known nothing serial = by (heaps.block_at h.blocks serial) refl
  where
    n : ObjName
    n = record { owner = h.owner; serial = serial }

    its : own_block h n ≡ heaps.block_at h.blocks serial
    its = ap (λ t. cond t (heaps.block_at h.blocks serial) None) (eq-eqb h.owner h.owner refl)

    told : (block : ℕ) → own_block h n ≡ Some block → (r : Option Row) → own_row h n ≡ r → IsSome r → ⊥
    told block lies None is some = cc
    told block lies (Some row) is some = nothing n row block (is, lies)

    by : (o : Option ℕ) → heaps.block_at h.blocks serial ≡ o → o ≡ None
    by None is = refl
    by (Some block) is =
        let lies = its ∙ is in
        absurd (told block lies (own_row h n) refl (known.there n (subst IsSome (sym lies) refl)))
