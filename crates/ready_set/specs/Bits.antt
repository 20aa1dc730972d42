-- One bit of a word of 64.
use Rattle.std.specs.Prelude.{ℕ, ◌≡◌, ◌≢◌, ◌<◌, Bool, if◌then◌else◌}
use Rattle.std.specs.Int.{bit_at}

-- the bit is set or cleared, and the others stay
pub record PutsBit (old new k : ℕ) (on : Bool) : Type 0 where
  pub same : bit_at new k ≡ (if on then 1 else 0)
  pub others : (i : ℕ) → i < 64 → i ≢ k → bit_at new i ≡ bit_at old i

-- the bit is set, and none below it
pub record IsLowestBit (word k : ℕ) : Type 0 where
  pub within : k < 64
  pub on : bit_at word k ≡ 1
  pub below : (i : ℕ) → i < k → bit_at word i ≡ 0
