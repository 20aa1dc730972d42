-- Lines of a tally, into which amounts are added.
use Rattle.std.specs.Prelude.{ℕ, ◌+◌, ◌<◌, ◌==◌, ◌^◌, nat_lt, if◌then◌else◌, List, Option, map, sum_by, take}
use Rattle.std.specs.List.{All}
use Rattle.std.specs.List.Sorted.{IsStrictlySortedBy}
use Rattle.orca_names.specs.Names.{is_thing, owner_of, thing_cmp}
use Rattle.orca_names.specs.declared.names.Thing.{Thing}
use Rattle.orca_names.specs.declared.tally.Sums.{Sums}
use Rattle.letter_kinds.specs.Sums.{dec_of, inc_of, load_count}
use Rattle.letter_kinds.specs.Letters.{Letter}
use Rattle.machine_rules.specs.Actors.{Actors, Seat, letters_of}
use Rattle.machine_rules.specs.Balance.{decs_at, held_at, incs_at, loads_at, own_at, owner_seat}
use Rattle.count_ledger.specs.declared.lines.Column.{Column}
use Rattle.count_ledger.specs.declared.lines.Column.TheVariants.{Inc, Dec, Held, Letters}

-- ---- the order of lines

abbrev pub things_in : List Sums → List Thing
things_in sums = map (λ s. s.thing) sums

-- the things of the lines rise
abbrev pub Rise : List Sums → Type 0
Rise sums = IsStrictlySortedBy thing_cmp (things_in sums)

-- a line by its thing
abbrev pub key_of : Sums → Thing × ℕ
key_of s = (s.thing, s.count)

-- ---- one column

-- the number in a column
abbrev pub read : Column → Sums → ℕ
read Inc s = s.inc
read Dec s = s.dec
read Held s = s.held
read Letters s = s.letters

-- so much more in a column
abbrev pub raised : Column → ℕ → Sums → Sums
raised Inc by s = record s { inc = s.inc + by }
raised Dec by s = record s { dec = s.dec + by }
raised Held by s = record s { held = s.held + by }
raised Letters by s = record s { letters = s.letters + by }

-- as much more as is said of its thing
abbrev pub raised_by : Column → (Thing → ℕ) → Sums → Sums
raised_by column said s = raised column (said s.thing) s

-- then the column of each line still fits in 64 bits
abbrev pub HasRoom : Column → (Thing → ℕ) → List Sums → Type 0
HasRoom column said sums = All (λ s. read column s + said s.thing < 2 ^ 64) sums

-- ---- what is said of things

-- of one thing alone
abbrev pub only : Thing → ℕ → Thing → ℕ
only x amount y = if is_thing y x then amount else 0

-- of an actor's things alone
abbrev pub own_only : ℕ → (Thing → ℕ) → Thing → ℕ
own_only a said x = if owner_of x == a then said x else 0

-- ---- letters

-- with what these letters to an actor say
abbrev pub with_mail : ℕ → List Letter → Sums → Sums
with_mail to letters s = record s {
  inc = s.inc + own_only to (λ x. sum_by (inc_of x) letters) s.thing;
  dec = s.dec + own_only to (λ x. sum_by (dec_of x) letters) s.thing;
  letters = s.letters + sum_by (load_count s.thing) letters;
}

-- every number that amounts are added to fits in 64 bits
abbrev pub Fits : Sums → Type 0
Fits s = (column : Column) → read column s < 2 ^ 64

abbrev pub HasRoomForMail : ℕ → List Letter → List Sums → Type 0
HasRoomForMail to letters sums = All (λ s. Fits (with_mail to letters s)) sums

-- ---- actors

-- with what the actor at this seat holds, and what waits for it
abbrev pub with_seat : ℕ → Option Seat → Sums → Sums
with_seat a seat s = with_mail a (letters_of seat) (raised_by Held (λ x. held_at x seat) s)

-- with its owner's count, what the first n actors hold, and what waits for them
abbrev pub line_below : ℕ → Actors → Thing → Sums
line_below n actors x = record {
  thing = x;
  count = own_at x (owner_seat actors x);
  inc = if nat_lt (owner_of x) n then incs_at x (owner_seat actors x) else 0;
  dec = if nat_lt (owner_of x) n then decs_at x (owner_seat actors x) else 0;
  held = sum_by (held_at x) (take n actors);
  letters = sum_by (loads_at x) (take n actors);
}
