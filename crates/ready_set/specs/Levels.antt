-- Levels of words: each level above tells which words of the one below are not 0.
use Rattle.std.specs.Prelude.{ℕ, ◌≡◌, ◌*◌, ◌/◌, ◌%◌, ◌≤◌, ◌==◌, Bool, if◌then◌else◌, List, [], ◌∷◌, map, length, slice_index}
use Rattle.std.specs.Int.{bit_at}
use Rattle.std.specs.List.{range_with_len}

-- the bit with number k, 64 bits a word; past the last word it is 0
abbrev pub bit : List ℕ → ℕ → ℕ
bit words k = bit_at (slice_index words (k / 64)) (k % 64)

-- for each bit, whether it is set
unfoldable pub places : List ℕ → List Bool
places words = map (λ k. bit words k == 1) (range_with_len 0 (64 * length words))

-- a bit of the summary is set exactly where the word of its number is not 0
pub record Summarizes (summary words : List ℕ) : Type 0 where
  pub at : (j : ℕ) → bit summary j ≡ (if slice_index words j == 0 then 0 else 1)

-- the summary has a bit for each word, and the top word one for each word of the summary
pub record AreLevels (words summary : List ℕ) (top : ℕ) : Type 0 where
  pub words_within : length words ≤ length summary * 64
  pub summary_within : length summary ≤ 64
  pub words_told : Summarizes summary words
  pub summary_told : Summarizes (top ∷ []) summary
