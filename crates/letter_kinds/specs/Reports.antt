-- What blocked actors report of their counts, and how reports are kept.
use Rattle.std.specs.Prelude.{ℕ, ◌==◌, nat_lt, not, if◌then◌else◌, List, [], ◌∷◌, filter, sum_by, Option, Some, None}
use Rattle.letter_kinds.specs.declared.note.Note.{Note}
use Rattle.letter_kinds.specs.declared.note.Note.TheVariants.{Block}
use Rattle.letter_kinds.specs.declared.note.Report.{Report}

-- ---- a report and its note

-- what a blocked actor with this count, and these counts on others, reports
abbrev pub report_told : ℕ → ℕ → List (ℕ × ℕ) → Report
report_told actor count held = record { actor = actor; count = count; held = held }

-- the note that brings a report
abbrev pub block_note : Report → Note
block_note r = Block r.actor r.count r.held

-- ---- the counts that reports tell

-- the count on actor x among these
abbrev pub count_on : List (ℕ × ℕ) → ℕ → ℕ
count_on held x = sum_by (λ e. if e.0 == x then e.1 else 0) held

-- the count that the report of an actor other than x tells on x
abbrev pub told_on : ℕ → Report → ℕ
told_on x r = if r.actor == x then 0 else count_on r.held x

-- the sum of the counts on x that these reports of other actors tell
abbrev pub told_on_by : ℕ → List Report → ℕ
told_on_by x reports = sum_by (told_on x) reports

-- ---- kept reports, in rising order of their actors

-- the kept report of an actor
abbrev pub kept_report : List Report → ℕ → Option Report
kept_report [] a = None
kept_report (r ∷ rs) a = if r.actor == a then Some r else kept_report rs a

-- with this report, which takes the place of an older one of its actor
abbrev pub keep_report : Report → List Report → List Report
keep_report r [] = r ∷ []
keep_report r (k ∷ ks) =
    if r.actor == k.actor then r ∷ ks
    else (if nat_lt r.actor k.actor then r ∷ (k ∷ ks) else k ∷ keep_report r ks)

-- without the report of an actor
abbrev pub drop_report : ℕ → List Report → List Report
drop_report a ks = filter (λ k. not (k.actor == a)) ks
