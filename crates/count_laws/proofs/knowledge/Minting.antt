-- Who mints knows what it knew.
use Rattle.std.proofs.Common.{◌≡◌, ℕ, zero, suc, ◌+◌, ◌<◌, Option, List, sym, ap, ◌∙◌, arith, inl, inr}
use Rattle.orca_names.specs.declared.names.Thing.{Thing}
use Rattle.reach_walk.specs.Reach.{root, thing_row}
use Rattle.letter_kinds.proofs.Amounts.{held-mint_all}
use Rattle.letter_kinds.specs.Counting.{mint_all}
use Rattle.letter_kinds.specs.Holdings.{Row, held_in}
use Rattle.letter_kinds.specs.Sums.{amount_of}
use Rattle.count_laws.proofs.knowledge.Paths.{reach_more}
use Rattle.count_laws.proofs.knowledge.Sending.{has-mint_all}
use Rattle.letter_kinds.proofs.Minting.{row-mint_all}
use Rattle.machine_rules.specs.Cell.{Cell}
use Rattle.count_laws.specs.Known.{IsKnown, StartsWalks, in_fields, in_frame, in_table, IsClosedAt, RowsAreAt}

module _ (all : Thing → Option Row) (me : ℕ) (c : Cell) (es : List (Thing × ℕ)) (has : (x : Thing) → 0 < amount_of x es → 0 < held_in c.holdings x)
    (closed : IsClosedAt all me c) (rows : RowsAreAt all me c.holdings) where
  abbrev minted : Cell
  minted = record c { holdings = mint_all es c.holdings }

  minted_held : (x : Thing) → 0 < held_in minted.holdings x → 0 < held_in c.holdings x
  minted_held x h = pos (held_in c.holdings x) (amount_of x es) (held-mint_all x es c.holdings) (has x)
    where
      pos : (n m : ℕ) → held_in minted.holdings x ≡ n + m → (0 < m → 0 < n) → 0 < n
      pos n zero e f = omega arith
      pos n (suc m) e f = f (omega arith)

  minted_back : (x : Thing) → IsKnown me minted.holdings x → IsKnown me c.holdings x
  minted_back x (inl own) = inl (own.0, sym (has-mint_all x es c.holdings) ∙ own.1)
  minted_back x (inr other) = inr (other.0, minted_held x other.1)

  minted_on : (x : Thing) → IsKnown me c.holdings x → IsKnown me minted.holdings x
  minted_on x (inl own) = inl (own.0, has-mint_all x es c.holdings ∙ own.1)
  minted_on x (inr other) = inr (other.0, let z = held-mint_all x es c.holdings in let o = other.1 in omega arith)

  minted_root : (x : Thing) → StartsWalks minted x → StartsWalks c x
  minted_root x (in_fields h) = in_fields h
  minted_root x (in_frame h) = in_frame h
  minted_root x (in_table h) = in_table (minted_held x h)

  pub mint_closed : IsClosedAt all me minted
  mint_closed x h = minted_on x (closed x (reach_more _ (λ x r. root (minted_root x r)) h))

  pub mint_rows : RowsAreAt all me minted.holdings
  mint_rows x k = ap (λ rows. thing_row rows x) (λ i n. row-mint_all me n es c.holdings i) ∙ rows x (minted_back x k)
