-- Hear, scan and reap: the detector's events (MAC, OOPSLA 2013).
use Rattle.std.specs.Prelude.{ℕ, suc, List, [], ◌∷◌, ◌++◌, if◌then◌else◌, set, Option, Some, None, option_and_then}
use Rattle.orca_names.specs.Names.{owner_of}
use Rattle.letter_kinds.specs.Letters.{Confirm}
use Rattle.letter_kinds.specs.declared.note.Note.{Note}
use Rattle.letter_kinds.specs.Counting.{Amount, by_owner, given_back}
use Rattle.letter_kinds.specs.Detector.{Detector, Token, all_acked, close_token, closed_set, has, hear_note, after_scan, token_numbered}
use Rattle.machine_rules.specs.Actors.{Actors, Seat, push_decs, push_letter, seat_at}
use Rattle.event_rule.specs.Runs.{Step, NotEnabled, Goes}
use Rattle.machine_rules.specs.State.{State}

-- ---- hear: the detector takes the first of its notes

abbrev pub hear : State → List Note → Step State
hear s [] = NotEnabled
hear s (note ∷ notes) = Goes (record s { detector = hear_note note s.detector; notes = notes })

-- ---- scan: where there is news, the largest closed set becomes a token, and its members are asked

-- a Confirm of the token to each of these
abbrev pub ask_all : List ℕ → ℕ → Actors → Actors
ask_all [] token actors = actors
ask_all (a ∷ members) token actors = ask_all members token (push_letter a (Confirm token) actors)

abbrev pub scan : State → Step State
scan s =
    let closed = closed_set s.detector in
    Goes (record s {
      actors = ask_all closed (suc s.detector.opened) s.actors;
      detector = after_scan s.detector closed;
    })

-- ---- reap: the members of a token that all acknowledged go, with all that they own

-- what a member held on things whose owners are not in the set
abbrev pub held_outside : List ℕ → Option Seat → List Amount
held_outside members None = []
held_outside members (Some o) = given_back (λ x. has members (owner_of x)) o.cell.holdings

-- the seats of these are emptied
unfoldable pub empty_seats : List ℕ → Actors → Actors
empty_seats [] actors = actors
empty_seats (a ∷ rest) actors = empty_seats rest (set actors a None)

-- the Decs that return what each of the rest held outside of the set, one after another
unfoldable pub reap_decs : List ℕ → List ℕ → Actors → List (ℕ × List Amount)
reap_decs members [] actors = []
reap_decs members (a ∷ rest) actors =
    by_owner (held_outside members (seat_at actors a)) ++ reap_decs members rest (set actors a None)

-- the members of a set go, and Decs return what they held outside of it
abbrev pub reap_members : List ℕ → Actors → Actors
reap_members members actors =
    push_decs (reap_decs members members actors) (empty_seats members actors)

-- the open token of this number, if all its members acknowledged
abbrev pub acked_token : ℕ → Detector → Option Token
acked_token number d =
    option_and_then (λ t. if all_acked t then Some t else None) (token_numbered number d)

abbrev pub reap : State → Token → Step State
reap s token =
    Goes (record s {
      actors = reap_members token.members s.actors;
      detector = close_token token s.detector;
    })
