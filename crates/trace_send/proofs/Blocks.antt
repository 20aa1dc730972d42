-- The blocks of a table after a load, and after a mint.
use Rattle.std.proofs.Common.{◌≡◌, ◌≢◌, ⊎_elim, ℕ, cond, List, [], ◌∷◌, Option, Some, refl, sym, ap, ◌∙◌}
use Rattle.std.specs.Prelude.{option_and_then}
use Rattle.std.specs.FinMap as m
use Rattle.orca_names.specs.Names.{owner_of}
use Rattle.orca_names.specs.declared.names.Thing.{Thing}
use Rattle.orca_names.proofs.ThingOrder.{cases_thing, is_eq_true, is_ne_false, thing_total}
use Rattle.row_store.specs.Told.{Lying}
use Rattle.letter_kinds.specs.Counting.{Amount}
use Rattle.letter_kinds.proofs.Counts.{cond_eq, cond_ne}
use Rattle.foreign_table.specs.Table.{Blocks, block_at}
use Rattle.trace_send.specs.Blocks.{block_received, blocks_minted, blocks_received}

-- ---- one block

put_same : (blocks : Blocks) (k x : Thing) (block : Option ℕ) → x ≡ k → block_at (m.insert blocks k block) x ≡ block
put_same blocks k x block is =
    ap (option_and_then (λ p. p)) (m.get-insert thing_total blocks k block x ∙ ap (λ b. cond b (Some block) (m.get blocks x)) (is_eq_true x k is))

put_other : (blocks : Blocks) (k x : Thing) (block : Option ℕ) → x ≢ k → block_at (m.insert blocks k block) x ≡ block_at blocks x
put_other blocks k x block not =
    ap (option_and_then (λ p. p)) (m.get-insert thing_total blocks k block x ∙ ap (λ b. cond b (Some block) (m.get blocks x)) (is_ne_false x k not))

put_itself : (blocks : Blocks) (k x : Thing) → block_at (m.insert blocks k (block_at blocks k)) x ≡ block_at blocks x
put_itself blocks k x = ⊎_elim
    (λ is. put_same blocks k x (block_at blocks k) is ∙ ap (block_at blocks) (sym is))
    (λ not. put_other blocks k x (block_at blocks k) not)
    (cases_thing x k)

-- ---- a load

pub blocks_received-nil : (me : ℕ) (blocks : Blocks) → blocks_received me [] blocks ≡ blocks
unfolding blocks_received
blocks_received-nil me blocks = refl

pub blocks_received-cons : (me : ℕ) (e : Thing × Lying) (load : List (Thing × Lying)) (blocks : Blocks)
    → blocks_received me (e ∷ load) blocks ≡ blocks_received me load (block_received me e blocks)
unfolding blocks_received
blocks_received-cons me e load blocks = refl

module _ (me : ℕ) (e : Thing × Lying) (blocks : Blocks) where
  pub own_received : owner_of e.0 ≡ me → blocks ≡ block_received me e blocks
  own_received same = sym (cond_eq (owner_of e.0) me blocks (m.insert blocks e.0 e.1.block) same)

  pub other_received : owner_of e.0 ≢ me → m.insert blocks e.0 e.1.block ≡ block_received me e blocks
  other_received other = sym (cond_ne (owner_of e.0) me blocks (m.insert blocks e.0 e.1.block) other)

-- ---- a mint

pub blocks_minted-nil : (blocks : Blocks) → blocks_minted [] blocks ≡ blocks
unfolding blocks_minted
blocks_minted-nil blocks = refl

pub blocks_minted-cons : (e : Amount) (things : List Amount) (blocks : Blocks)
    → blocks_minted (e ∷ things) blocks ≡ blocks_minted things (m.insert blocks e.0 (block_at blocks e.0))
unfolding blocks_minted
blocks_minted-cons e things blocks = refl

-- each thing lies in the block that it lay in
pub minted_block : (things : List Amount) (blocks : Blocks) (x : Thing) → block_at (blocks_minted things blocks) x ≡ block_at blocks x
unfolding blocks_minted
minted_block [] blocks x = refl
minted_block (e ∷ things) blocks x =
    minted_block things (m.insert blocks e.0 (block_at blocks e.0)) x ∙ put_itself blocks e.0 x
