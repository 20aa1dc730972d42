-- How far counts rise.
use Rattle.std.specs.Prelude.{ℕ, ◌^◌}

-- every count stays below this: fewer than 2^27 events, none raises a count by more than 2^16
abbrev pub count_limit : ℕ
count_limit = 2 ^ 43
