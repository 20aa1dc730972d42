-- When a device may fail, when a source has ended, and what a write does.
use Rattle.std.specs.Prelude.{◌≡◌, ℕ, ◌+◌, ◌-◌, ◌^◌, ◌≤◌, ◌<◌, ◌⊎◌, ◌==◌, Bool, false, List, length, min, take, Result, Ok, Err, MatchResult, OnErr, OnOk, IfOk}
use Rattle.std.specs.declared.option.Option.{Option}
use Rattle.std.specs.Io.KnownBytes.{Appends, Keeps}

-- the count is greater than before, or stands at the end of its 64 bits
abbrev pub Rose : ℕ → ℕ → Type 0
Rose before now = (before < now) ⊎ (now ≡ 2 ^ 64 - 1)

-- one more, up to the end of 64 bits
abbrev pub one_more : ℕ → ℕ
one_more n = min (n + 1) (2 ^ 64 - 1)

-- the count of faults has not fallen: it is as before at `Ok`, and rose at `Err`
pub record CountsFaults {T E : Type 0} (before now : ℕ) (result : Result T E) : Type 0 where
  pub stays : before ≤ now
  pub well : OnOk result (now ≡ before)
  pub failed : OnErr result (Rose before now)

-- a read that answers `Ok(0)` has come to the end
abbrev pub is_end : {E : Type 0} → Result ℕ E → Bool
is_end (Ok n) = n == 0
is_end (Err e) = false

-- at `Ok(n)` at least one byte was taken, and no more than the piece has
abbrev pub TakesSome : {E : Type 0} → Result ℕ E → List ℕ → Type 0
TakesSome result piece = IfOk result (λ n. (1 ≤ n) × (n ≤ length piece))

-- at `Ok(n)` the first n bytes of the piece were appended; at `Err` nothing was
abbrev pub WritesFront : {E : Type 0} → Option (List ℕ) → Option (List ℕ) → Result ℕ E → List ℕ
    → Type 0
WritesFront old new result piece =
    MatchResult result (λ n. Appends old new (take n piece)) (λ _. Keeps old new)
