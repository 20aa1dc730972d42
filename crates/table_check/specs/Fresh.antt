-- Heaps that have made nothing yet.
use Rattle.std.specs.Prelude.{ℕ, ◌≡◌}
use Rattle.std.specs.FinMap as m
use Rattle.object_heap.specs.Heap.{Heap}

-- it is this actor's, and has made no object
pub record IsFresh (whose : ℕ) (heap : Heap) : Type 0 where
  pub owner : heap.owner ≡ whose
  pub next : heap.next ≡ 0
  pub rows : heap.rows ≡ m.empty
  pub blocks : heap.blocks ≡ m.empty
