-- Objects are known by their maps.
use Rattle.std.proofs.Common.{◌≡◌, ℕ, List, [], ◌∷◌, Option, None, map, Bool, true, false, ◌&&◌, rules, refl, sym, ap, ◌∙◌}
use Rattle.std.specs.Bool.{Decides}
use Rattle.std.specs.List.{All}
use Rattle.std.specs.Ordering.{nat_cmp}
use Rattle.std.specs.FinMap as m
use Rattle.std.specs.Prelude.{unwrap_or}
use Rattle.std.proofs.lemmas.List.Elements.{All-head, All-tail}
use Rattle.letter_kinds.specs.Holdings.{Row}
use Rattle.orca_names.proofs.EqualRows.{row_eq-Decides}
use Rattle.orca_names.specs.contracts.names.ThingPartialEq.TheImpl.{eq-value as thing_eq}
use Rattle.orca_names.specs.declared.names.ObjName.{ObjName}
use Rattle.orca_names.specs.declared.names.Thing.{Thing}
use Rattle.row_store.specs.contracts.told.ToldPartialEq.TheImpl.{eq-value as told_eq}
use Rattle.row_store.specs.declared.told.Told.{Told}
use Rattle.row_store.specs.declared.told.Told.TheVariants.{Nothing, Here, In}
use Rattle.row_store.specs.Told.{told_block, told_row}
use Rattle.object_heap.specs.declared.search.Key.{Key}
use Rattle.object_heap.specs.Entry.{Item, Own, block_of, joined, key_of, object_of, pair_of}
use Rattle.object_heap.specs.Heap.{AreOwn, AreStored, block_at, blocks_in, rows_in}
use Rattle.object_heap.proofs.Kept.{are_here}
use Rattle.object_heap.proofs.Placed.{rise}

alike : (es fs : List Own) → map pair_of es ≡ map pair_of fs → map block_of es ≡ map block_of fs → es ≡ fs
alike [] [] e b = refl
alike [] (f ∷ fs) e b = cc
alike (o ∷ es) [] e b = cc
alike (o ∷ es) (f ∷ fs) e b =
    let first : pair_of o ≡ pair_of f = cc in
    let serial : o.serial ≡ f.serial = ap (λ p. p.0) first in
    let count : o.count ≡ f.count = ap (λ p. p.1.1) first in
    let row : o.row ≡ f.row = ap (λ p. p.1.0) first in
    let place : block_of o ≡ block_of f = cc in
    let block : o.block ≡ f.block = ap (λ p. p.1) place in
    let others : map pair_of es ≡ map pair_of fs = cc in
    let placed : map block_of es ≡ map block_of fs = cc in
    λ i. record { serial = serial i; count = count i; row = row i; block = block i } ∷ alike es fs others placed i

pub known_by_maps : (next more : ℕ) (es fs : List Own) → AreOwn next es → AreOwn more fs → rows_in es ≡ rows_in fs → blocks_in es ≡ blocks_in fs → es ≡ fs
known_by_maps next more es fs h k e b = alike es fs
    (sym (m.entries-from_sorted nat_cmp (map pair_of es) h.sorted) ∙ ap m.entries e ∙ m.entries-from_sorted nat_cmp (map pair_of fs) k.sorted)
    (sym (m.entries-from_sorted nat_cmp (map block_of es) (rise es h.sorted)) ∙ ap m.entries b ∙ m.entries-from_sorted nat_cmp (map block_of fs) (rise fs k.sorted))

-- and so are their keys and the things with their rows
module _ (owner other next more : ℕ) (memory later : ObjName → Option Row) (ks ls : List Key) (xs ys : List Item) (s : AreStored owner next memory ks xs) (t : AreStored other more later ls ys) where
  pub same_kept : owner ≡ other → rows_in (joined memory ks xs) ≡ rows_in (joined later ls ys) → blocks_in (joined memory ks xs) ≡ blocks_in (joined later ls ys) → (ks ≡ ls) × (xs ≡ ys)
  same_kept same rows blocks =
      let known = known_by_maps next more (joined memory ks xs) (joined later ls ys) s.own t.own rows blocks in (
        s.kept.0 ∙ ap (map key_of) known ∙ sym t.kept.0,
        s.kept.1 ∙ (λ j. map (object_of (same j)) (known j)) ∙ sym t.kept.1,
      )

-- where none lies in a block it does not matter what is remembered
told_same : (memory later : ObjName → Option Row) (x : Thing) (told : Told) → told_block told ≡ None → told_row memory x told ≡ told_row later x told
told_same memory later x Nothing e = refl
told_same memory later x (Here row) e = refl
told_same memory later x (In block) e = cc

pub joined_here : (memory later : ObjName → Option Row) (keys : List Key) (objects : List Item) → All (λ (x : Item). told_block x.1 ≡ None) objects → joined memory keys objects ≡ joined later keys objects
joined_here memory later [] objects here = refl
joined_here memory later (k ∷ keys) [] here = refl
joined_here memory later (k ∷ keys) (x ∷ objects) here =
    let row = ap (λ o. unwrap_or o []) (told_same memory later x.0 x.1 (All-head (λ (x : Item). told_block x.1 ≡ None) x objects here)) in
    let others = joined_here memory later keys objects (All-tail (λ (x : Item). told_block x.1 ≡ None) x objects here) in
    λ j. record { serial = k.serial; count = k.count; row = row j; block = told_block x.1 } ∷ others j

-- and the blocks follow from the objects
abbrev unplaced : ℕ × (Row × ℕ) → ℕ × Option ℕ
unplaced p = (p.0, None)

nowhere : (memory : ObjName → Option Row) (keys : List Key) (objects : List Item) → All (λ (x : Item). told_block x.1 ≡ None) objects
    → map block_of (joined memory keys objects) ≡ map unplaced (map pair_of (joined memory keys objects))
nowhere memory [] objects here = refl
nowhere memory (k ∷ keys) [] here = refl
nowhere memory (k ∷ keys) (x ∷ objects) here =
    let none = All-head (λ (x : Item). told_block x.1 ≡ None) x objects here in
    let others = nowhere memory keys objects (All-tail (λ (x : Item). told_block x.1 ≡ None) x objects here) in
    λ j. (k.serial, none j) ∷ others j

module _ (owner other next more : ℕ) (memory later : ObjName → Option Row) (ks ls : List Key) (xs ys : List Item) (s : AreStored owner next memory ks xs) (t : AreStored other more later ls ys) where
  pub blocks_alike : ((q : ℕ) → block_at (blocks_in (joined memory ks xs)) q ≡ None) → ((q : ℕ) → block_at (blocks_in (joined later ls ys)) q ≡ None)
      → rows_in (joined memory ks xs) ≡ rows_in (joined later ls ys) → blocks_in (joined memory ks xs) ≡ blocks_in (joined later ls ys)
  blocks_alike here there rows =
      let pairs = sym (m.entries-from_sorted nat_cmp (map pair_of (joined memory ks xs)) s.own.sorted) ∙ ap m.entries rows ∙ m.entries-from_sorted nat_cmp (map pair_of (joined later ls ys)) t.own.sorted in
      ap m.from_sorted (
      nowhere memory ks xs (are_here owner next memory ks xs s here)
      ∙ ap (map unplaced) pairs
      ∙ sym (nowhere later ls ys (are_here other more later ls ys t there)))

-- ---- things with their rows are compared exactly

both : (p q : Bool) → p && q ≡ true → (p ≡ true) × (q ≡ true)
both true q e = (refl, e)
both false q e = cc

told-Decides : (a b : Told) → Decides (told_eq.it a b) (a ≡ b)
told-Decides a b = search (row_eq-Decides, rules)

thing-Decides : (a b : Thing) → Decides (thing_eq.it a b) (a ≡ b)
thing-Decides a b = search rules

pub item-Decides : (a b : Item) → Decides (thing_eq.it a.0 b.0 && told_eq.it a.1 b.1) (a ≡ b)
item-Decides a b = (
  λ e.
      let tests = both (thing_eq.it a.0 b.0) (told_eq.it a.1 b.1) e in
      let thing = (thing-Decides a.0 b.0).0 tests.0 in
      let row = (told-Decides a.1 b.1).0 tests.1 in
      λ j. (thing j, row j),
  λ e. λ j. (thing-Decides a.0 b.0).1 (ap (λ x. x.0) e) j && (told-Decides a.1 b.1).1 (ap (λ x. x.1) e) j,
)
