-- Devices in memory, as contracts see them.
use Rattle.std.specs.Prelude.{ℕ, Bool, List, drop, ◌++◌, ◌==◌}
use Rattle.outside_world.specs.Device.{one_more}

-- a source in memory: the bytes that are left, the most that a call gives, the numbers of the calls
-- that fail, counted from 1, the calls and faults so far, and whether a call has answered 0
pub record MemoryLeft : Type 0 where
  pub left : List ℕ
  pub piece : ℕ
  pub fails : List ℕ
  pub calls : ℕ
  pub faults : ℕ
  pub ended : Bool

-- a source in memory that never fails: the bytes that are left, and whether a call has answered 0
pub record SureLeft : Type 0 where
  pub left : List ℕ
  pub ended : Bool

-- a sink in memory: the bytes that were written, the most that it has room for and the most that a
-- call takes, the numbers of the calls that fail, counted from 1, and the calls and faults so far
pub record MemoryWritten : Type 0 where
  pub written : List ℕ
  pub room : ℕ
  pub piece : ℕ
  pub fails : List ℕ
  pub calls : ℕ
  pub faults : ℕ

-- a call that gave n bytes
abbrev pub after_read : MemoryLeft → ℕ → MemoryLeft
after_read m n = record m { left = drop n m.left; calls = one_more m.calls; ended = n == 0 }

-- a call that failed
abbrev pub after_failed_read : MemoryLeft → MemoryLeft
after_failed_read m = record m { calls = one_more m.calls; faults = one_more m.faults }

-- a call that took these bytes
abbrev pub after_write : MemoryWritten → List ℕ → MemoryWritten
after_write m bytes = record m { written = m.written ++ bytes; calls = one_more m.calls }

-- a call that failed
abbrev pub after_failed_write : MemoryWritten → MemoryWritten
after_failed_write m = record m { calls = one_more m.calls; faults = one_more m.faults }
