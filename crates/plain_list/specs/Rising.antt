-- Entries whose keys rise: where a key stands, or would stand.
use Rattle.std.specs.Prelude.{◌≡◌, ℕ, ◌<◌, ◌≤◌, List, length, slice_index_or}
use Rattle.std.specs.declared.cmp.Ordering.{Ordering}
use Rattle.std.specs.declared.cmp.Ordering.TheVariants.{Less, Greater}

module _ {K X : Type 0} (R : K → K → Ordering) where
  -- the entry at place i has the key
  pub record IsAt (es : List (K × X)) (q : K) (i : ℕ) : Type 0 where
    pub in_range : i < length es
    pub has_key : (d : K × X) → (slice_index_or es i d).0 ≡ q
    pub before : (j : ℕ) (d : K × X) → j < i → R q (slice_index_or es j d).0 ≡ Greater
    pub after : (j : ℕ) (d : K × X) → i < j → j < length es → R q (slice_index_or es j d).0 ≡ Less

  -- the key would go at place i
  pub record IsGap (es : List (K × X)) (q : K) (i : ℕ) : Type 0 where
    pub in_range : i ≤ length es
    pub before : (j : ℕ) (d : K × X) → j < i → R q (slice_index_or es j d).0 ≡ Greater
    pub after : (j : ℕ) (d : K × X) → i ≤ j → j < length es → R q (slice_index_or es j d).0 ≡ Less
