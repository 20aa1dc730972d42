-- The detector of blocked actors: the reports that it keeps, its open tokens, and what it makes of
-- notes.
use Rattle.std.specs.Prelude.{ℕ, suc, ◌==◌, ◌||◌, not, if◌then◌else◌, Bool, true, false, List, [], ◌∷◌, ◌++◌, filter, map, Option, option_map}
use Rattle.std.specs.List.{filter_map, list_all, list_any, find}
use Rattle.orca_names.specs.declared.kept_report.KeptReport.{KeptReport}
use Rattle.letter_kinds.specs.declared.note.Note.{Note}
use Rattle.letter_kinds.specs.declared.note.Note.TheVariants.{Block, Unblock, Ack}
use Rattle.letter_kinds.specs.declared.note.Report.{Report}
use Rattle.letter_kinds.specs.Closed.{largest_closed}
use Rattle.letter_kinds.specs.Reports.{report_told, keep_report, kept_report, drop_report}

-- a closed set that was found: its members are asked, and some acknowledged that they are still
-- blocked
pub record Token : Type 0 where
  pub number : ℕ
  pub members : List ℕ
  pub acked : List ℕ

-- kept reports, open tokens, how many tokens were ever opened, and whether there is news since the
-- last scan
pub record Detector : Type 0 where
  pub kept : List Report
  pub tokens : List Token
  pub opened : ℕ
  pub news : Bool

-- before the first note
abbrev pub fresh_detector : Detector
fresh_detector = record { kept = []; tokens = []; opened = 0; news = false }

-- whether the number is among these
abbrev pub has : List ℕ → ℕ → Bool
has xs a = list_any (λ x. x == a) xs

-- the open token of this number
abbrev pub token_numbered : ℕ → Detector → Option Token
token_numbered number d = find (λ t. t.number == number) d.tokens

-- ---- hear: what the detector makes of a note

-- the actor acknowledged the token of this number; of members alone this is noted, in their order
abbrev pub note_ack : ℕ → ℕ → Token → Token
note_ack number a t =
    record t {
      acked = if number == t.number then filter (λ m. has t.acked m || (m == a)) t.members
          else t.acked;
    }

-- a report is kept; an actor that has work again loses its report, and cancels each token of which it
-- is a member; an acknowledgement is noted if its token is open
abbrev pub hear_note : Note → Detector → Detector
hear_note (Block a count held) d =
    record d { kept = keep_report (report_told a count held) d.kept; news = true }
hear_note (Unblock a) d = record d {
  kept = drop_report a d.kept;
  tokens = filter (λ t. not (has t.members a)) d.tokens;
  news = true;
}
hear_note (Ack number a) d = record d { tokens = map (note_ack number a) d.tokens }

-- ---- scan: the largest closed set becomes a token

-- whether one of these tokens has the actor as a member
abbrev pub in_token : List Token → ℕ → Bool
in_token tokens a = list_any (λ t. has t.members a) tokens

-- the kept reports of actors in no open token
abbrev pub candidates : Detector → List Report
candidates d = filter (λ r. not (in_token d.tokens r.actor)) d.kept

-- the members of the largest closed set among the candidates
abbrev pub closed_set : Detector → List ℕ
closed_set d = map (λ r. r.actor) (largest_closed (candidates d))

-- with a further token, of these members
abbrev pub open_token : List ℕ → Detector → Detector
open_token members d =
    record d {
      tokens = d.tokens ++ record { number = suc d.opened; members = members; acked = [] } ∷ [];
      opened = suc d.opened;
    }

-- with no news
abbrev pub without_news : Detector → Detector
without_news d = record d { news = false }

-- after a scan that found this closed set: a token is opened where there are members
abbrev pub after_scan : Detector → List ℕ → Detector
after_scan d [] = without_news d
after_scan d (m ∷ ms) = open_token (m ∷ ms) (without_news d)

-- ---- reap: a token that all members acknowledged is closed

-- whether all members acknowledged
abbrev pub all_acked : Token → Bool
all_acked t = list_all (has t.acked) t.members

-- without the token and the reports of its members
abbrev pub close_token : Token → Detector → Detector
close_token t d =
    record d {
      kept = filter (λ r. not (has t.members r.actor)) d.kept;
      tokens = filter (λ u. not (u.number == t.number)) d.tokens;
    }

-- ---- reports that are handed out

-- a report as it is handed out
abbrev pub handed_out : Report → KeptReport
handed_out r = record { actor = r.actor; count = r.count; held = r.held }

-- the report of an actor, as it is handed out
abbrev pub handed_of : List Report → ℕ → Option KeptReport
handed_of kept a = option_map handed_out (kept_report kept a)

-- the reports of these actors, in their order
abbrev pub reports_of : List Report → List ℕ → List KeptReport
reports_of kept actors = filter_map (handed_of kept) actors
