-- Words that passes fill, one a turn: the rule of the log beside which they lie.
use Rattle.std.specs.Prelude.{ℕ, ◌≡◌, ◌+◌, ◌*◌, ◌<◌, ◌≤◌, List, length, slice_index, sum_by, Some}
use Rattle.turn_log.specs.declared.rule.Known.{Known}
use Rattle.turn_log.specs.declared.table.SeatView.{SeatView}
use Rattle.turn_log.specs.Queue.{last_put}

-- how many words there are
abbrev pub many : ℕ
many = 64

-- so many are filled, each with what belongs at its place
abbrev pub AreFilled : ℕ → List ℕ → Type 0
AreFilled count words = (at : ℕ) → at < count → slice_index words at ≡ 2 * at + 1

-- as many words are filled as the log has items; passes have eight parts together
pub record Filled (log : List ℕ) (count : ℕ) (passes : List (Known ℕ ℕ)) (words : List ℕ) : Type 0 where
  pub many_words : length words ≡ many
  pub one_a_turn : count ≡ length log
  pub within : count ≤ many
  pub filled : AreFilled count words
  pub parts : sum_by (λ k. k.client) passes ≡ 8

-- a read tells a word that was filled when the pass had its last turn, and one that it put under this turn
abbrev pub Tells : SeatView ℕ ℕ ℕ → ℕ → ℕ → Type 0
Tells view at w = (at < length view.known.seen → w ≡ 2 * at + 1)
    × ((v : ℕ) → at < many → last_put view.puts at ≡ Some v → w ≡ v)
