-- The five sums of a thing's counts, as a page adds them up from the lines of a state.
use Rattle.std.specs.Prelude.{ℕ, ◌+◌, ◌≡◌, List, [], ◌∷◌, ◌++◌, bytes_eq, codes, drop, if◌then◌else◌, sum_by}
use Rattle.orca_names.specs.declared.names.Thing.{Thing}
use Rattle.orca_names.specs.declared.tally.Sums.{Sums}
use Rattle.behaviour_code.specs.WellFormed.{IsWellFormed}
use Rattle.behaviour_code.specs.declared.code.Program.{Program}
use Rattle.behaviour_text.specs.Words.{number_at, number_of, word_at}
use Rattle.event_rule.specs.declared.event.Event.{Event}
use Rattle.machine_rules.specs.Actors.{Actors}
use Rattle.machine_rules.specs.Balance.{decs_at, held_sum, incs_at, load_sum, own_at, owner_seat}
use Rattle.machine_rules.specs.Options.{Options}
use Rattle.machine_rules.specs.State.{State}
use Rattle.cell_laws.specs.Runs.{IsShortRun}
use Rattle.picture_rules.specs.Parts.{state_lines}
use Rattle.picture_rules.specs.Words.{Line, Word, thing_word}
use Rattle.picture_laws.specs.Applying.{further}

-- ---- words; x is the word of the thing

-- the number, where the word is the thing's
abbrev pub if_of : Word → Word → ℕ → ℕ
if_of x word n = if bytes_eq word x then n else 0

-- of things with an amount behind each, the amounts of this one
abbrev pub amounts : Word → List Word → ℕ
amounts x (word ∷ n ∷ words) = if_of x word (number_of n) + amounts x words
amounts x words = 0

-- how often the thing stands among words
abbrev pub times : Word → List Word → ℕ
times x words = sum_by (λ word. if_of x word 1) words

-- ---- lines

-- what the further words say in the lines that begin with this one
abbrev pub said_by : Word → (List Word → ℕ) → List Line → ℕ
said_by first said lines =
    sum_by (λ line. if bytes_eq (word_at line 0) first then said (drop 1 line) else 0) lines

-- the count of an object, in a line of the actor with this number
abbrev pub object_count : Word → Word → Line → ℕ
object_count x a line =
    if bytes_eq (word_at line 0) (codes "object")
    then if_of x (codes "o" ++ a ++ codes "." ++ word_at line 1) (number_at line 2) else 0

-- the count of an actor, in its first line, and those of its objects, in the further ones
abbrev pub own_count : Word → Line → List Line → ℕ
own_count x line lines =
    if bytes_eq (word_at line 0) (codes "actor")
    then if_of x (codes "a" ++ word_at line 1) (number_at line 6)
    + sum_by (object_count x (word_at line 1)) (further lines) else 0

-- the count of the thing, wherever it stands
abbrev pub count_in : Word → List Line → ℕ
count_in x [] = 0
count_in x (line ∷ lines) = own_count x line lines + count_in x lines

-- its count, increments and decrements under way, what is held, and how many letters load it
abbrev pub sums_in : List Line → Thing → Sums
sums_in lines x = record {
  thing = x;
  count = count_in (thing_word x) lines;
  inc = said_by (codes "inc") (amounts (thing_word x)) lines;
  dec = said_by (codes "dec") (amounts (thing_word x)) lines;
  held = said_by (codes "holds") (amounts (thing_word x)) lines;
  letters = said_by (codes "loads") (times (thing_word x)) lines;
}

-- ---- they are those of the state

-- what its owner counts of the thing, what waits for the owner, what all hold, and how many letters
-- load it: the numbers of its line in a report
pub record AreCounts (actors : Actors) (sums : Sums) : Type 0 where
  pub count : sums.count ≡ own_at sums.thing (owner_seat actors sums.thing)
  pub inc : sums.inc ≡ incs_at sums.thing (owner_seat actors sums.thing)
  pub dec : sums.dec ≡ decs_at sums.thing (owner_seat actors sums.thing)
  pub held : sums.held ≡ held_sum sums.thing actors
  pub letters : sums.letters ≡ load_sum sums.thing actors

-- after each run whose counts fit their bits, of each thing
abbrev pub SumsAreCounts : Type 0
SumsAreCounts =
    (program : Program) (options : Options) (book : List Event) (s : State) → IsWellFormed program
    → IsShortRun program options book s → (x : Thing)
    → AreCounts s.actors (sums_in (state_lines s) x)
