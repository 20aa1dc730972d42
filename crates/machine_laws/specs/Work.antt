-- What a state has left to do besides choices, as a number. What a thing can still bring about counts
-- less than the thing itself, so each event that is no choice makes the number smaller.
use Rattle.std.specs.Prelude.{ℕ, suc, ◌+◌, ◌*◌, ◌==◌, if◌then◌else◌, Option, None, Some, [], ◌∷◌, filter, length, sum_by}
use Rattle.std.specs.FinMap as m
use Rattle.behaviour_code.specs.declared.code.Program.{Program}
use Rattle.reach_walk.specs.Reach.{named_by}
use Rattle.turn_rules.specs.Segment.{gets_of}
use Rattle.turn_rules.specs.declared.act.Frame.{Frame}
use Rattle.letter_kinds.specs.Detector.{Detector}
use Rattle.letter_kinds.specs.Holdings.{Holdings}
use Rattle.letter_kinds.specs.Letters.{Letter, App, Inc, Dec, Confirm}
use Rattle.letter_kinds.specs.declared.note.Note.{Note}
use Rattle.letter_kinds.specs.declared.note.Note.TheVariants.{Block, Unblock, Ack}
use Rattle.machine_rules.specs.Actors.{Actors, Seat}
use Rattle.machine_rules.specs.Cell.{Cell}
use Rattle.machine_rules.specs.Go.{needs, setting_of}
use Rattle.orca_names.specs.declared.trace.Trace.{Trace}
use Rattle.orca_names.specs.declared.trace.Trace.TheVariants.{Deep, Roots}
use Rattle.machine_rules.specs.State.{State}

-- ---- one thing to do, where n actors were made

-- news leads to a scan: it opens a token, which counts 1 until it is reaped, and asks at most n
-- actors
abbrev pub news_work : ℕ → ℕ
news_work n = 2 + 2 * n

-- a Block or an Unblock under way is news; an Ack counts 1
abbrev pub note_work : ℕ → Note → ℕ
note_work n (Block a count held) = suc (news_work n)
note_work n (Unblock a) = suc (news_work n)
note_work n (Ack token a) = 1

-- an actor that has no report out may post a Block
abbrev pub silence_work : ℕ → ℕ
silence_work n = 2 + news_work n

-- an Inc or a Dec makes an actor dirty, which counts 1 until it collects, and may make it post an
-- Unblock and so have no report out
abbrev pub count_work : ℕ → ℕ
count_work n = 3 + news_work n + silence_work n

-- a Confirm is answered by an Ack; the take of an application letter is a choice
abbrev pub letter_work : ℕ → Letter → ℕ
letter_work n (App behaviour args load rows) = 0
letter_work n (Inc things) = count_work n
letter_work n (Dec things) = count_work n
letter_work n (Confirm token) = 2

-- an entry of a table may go back by a Dec, and at count 1 it may be minted, which sends an Inc
abbrev pub entry_work : ℕ → ℕ → ℕ
entry_work n count = count_work n + (if count == 1 then suc (count_work n) else 0)

-- with root-only tracing a value that a turn gets may be needed: the mint makes at most two entries
-- more, and sends an Inc
abbrev pub get_work : ℕ → ℕ
get_work n = 3 + 5 * count_work n

-- ---- a state

abbrev pub table_work : ℕ → Holdings → ℕ
table_work n h = sum_by (λ e. entry_work n e.1.0) (m.entries h.foreign)

-- an actor's table, its letters, and whether it is dirty and has no report out
abbrev pub seat_work : ℕ → Option Seat → ℕ
seat_work n None = 0
seat_work n (Some o) =
    table_work n o.cell.holdings + sum_by (letter_work n) o.mail + (if o.cell.dirty then 1 else 0)
    + (if o.cell.reported then 0 else silence_work n)

abbrev pub actors_work : ℕ → Actors → ℕ
actors_work n actors = sum_by (seat_work n) actors

-- each open token, and news
abbrev pub detector_work : ℕ → Detector → ℕ
detector_work n d = length d.tokens + (if d.news then news_work n else 0)

-- how many of the values that its turn gets an actor needs; with deep tracing none
abbrev pub needed_gets : Trace → Program → ℕ → Cell → Option Frame → ℕ
needed_gets Deep program a c frame = 0
needed_gets Roots program a c None = 0
needed_gets Roots program a c (Some frame) =
    length (filter (needs a c.holdings)
    (named_by (gets_of (setting_of Roots program a c) frame c.fields)))

abbrev pub needed_at : Trace → Program → ℕ → Option Seat → ℕ
needed_at trace program a None = 0
needed_at trace program a (Some o) = needed_gets trace program a o.cell o.cell.frame

-- a sum over all actors, by their numbers
abbrev pub sum_at : (ℕ → Option Seat → ℕ) → Actors → ℕ
sum_at f [] = 0
sum_at f (o ∷ actors) = f 0 o + sum_at (λ a. f (suc a)) actors

abbrev pub gets_left : State → ℕ
gets_left s = sum_at (needed_at s.options.trace s.program) s.actors

abbrev pub work_left : State → ℕ
work_left s =
    let n = length s.actors in
    actors_work n s.actors + detector_work n s.detector + sum_by (note_work n) s.notes
    + gets_left s * get_work n
