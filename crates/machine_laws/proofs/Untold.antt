-- Nothing is told of a reaped actor, and it stays so.
use Rattle.std.proofs.Common.{◌≡◌, ◌≢◌, ℕ, not, filter, Bool, true, false, Some, None, List, [], ◌∷◌, refl, ap, sym, ◌∙◌, subst, arith, ⊎_elim}
use Rattle.std.proofs.lemmas.Bool.{cases_Bool}
use Rattle.orca_names.specs.declared.names.Thing.TheVariants.{Actor}
use Rattle.event_rule.specs.declared.event.Event.{Event}
use Rattle.event_rule.specs.declared.event.Event.TheVariants.{Reap}
use Rattle.letter_kinds.proofs.Counts.{has_actor}
use Rattle.letter_kinds.specs.Detector.{closed_set, has, hear_note}
use Rattle.letter_kinds.specs.Letters.{Letter, Confirm}
use Rattle.letter_kinds.specs.declared.note.Note.{Note}
use Rattle.letter_kinds.specs.declared.note.Note.TheVariants.{Block}
use Rattle.letter_kinds.specs.declared.note.Report.{Report}
use Rattle.machine_rules.proofs.Stepping.{step_of}
use Rattle.machine_rules.specs.Rules.{IsStep}
use Rattle.machine_rules.specs.Rules as rule
use Rattle.machine_rules.proofs.Guards.{acked_open}
use Rattle.count_laws.proofs.agreement.Follows.{step_here}
use Rattle.plain_rules.specs.Machine.{PlainState, plain_row}
use Rattle.machine_laws.specs.AllFacts.{AllFacts}
use Rattle.machine_rules.specs.Actors.{Seat, cell_of, seat_at}
use Rattle.machine_rules.specs.Block.{held_actors}
use Rattle.orca_names.specs.declared.trace.Trace.{Trace}
use Rattle.machine_rules.specs.State.{State, first_state}
use Rattle.machine_rules.specs.Take.{note_of, notes_after}
use Rattle.reach_walk.specs.Reach.{thing_row}
use Rattle.count_laws.proofs.events.Reap.{length-reap}
use Rattle.count_laws.proofs.gone.Staying.{gone_stays}
use Rattle.count_laws.specs.Agreement.{people_of}
use Rattle.count_laws.specs.Gone.{IsGone}
use Rattle.detector_laws.proofs.Acked.{acked_sealed}
use Rattle.detector_laws.proofs.Cells.{some_not_none}
use Rattle.detector_laws.proofs.Hear.{unmade-heard}
use Rattle.detector_laws.proofs.Named.{numbered_is_open}
use Rattle.detector_laws.proofs.Notes.{IsSilentOn-push, SaysNothing}
use Rattle.detector_laws.proofs.Reap.{kept_report-in, kept_report-out}
use Rattle.detector_laws.proofs.Scan.{scanned_kept}
use Rattle.detector_laws.specs.Reports.{IsSilentOn}
use Rattle.letter_kinds.specs.Reports.{kept_report}
use Rattle.machine_laws.proofs.Balancing.{present_below}
use Rattle.machine_laws.proofs.Reaping.{departs}
use Rattle.machine_laws.proofs.Seen.{world}
use Rattle.machine_laws.proofs.StayingFreed.{split_leads}
use Rattle.machine_laws.proofs.WholeRuns.{run_has_facts}
use Rattle.machine_laws.specs.Untold.{IsUntold, ReapsLeaveNoneTold, RunsTellNoneOfTheReaped, TellsNoneOf, UntoldStaysUntold}

-- ---- a reap

module _ (trace : Trace) (p : PlainState) (s : State) (facts : AllFacts trace p s) where
  tells_none : {number : ℕ} {t : State} → IsStep trace s (Reap number) t → TellsNoneOf number s t
  tells_none (rule.reaps number token is) =
      let found = acked_open number s.detector token is in
      let sealed = acked_sealed (world s) token facts.detector.tokens (numbered_is_open s.detector number token found.0).0 found.1 in
      let clears = (departs s.actors s.detector s.detector s.notes token.members trace (thing_row (plain_row p.actors)) (people_of p.actors) facts.beside.counts).clears in
      record {
        token = token;
        is_open = found.0;
        gone = λ a member. (
          (let b = (sealed a member).blocked in let below = present_below s.actors a b.cell b.here in let l = length-reap token.members s.actors in omega arith),
          λ left. some_not_none (ap cell_of left.present) (clears a member).0,
        );
        untold = λ a member. record { unkept = kept_report-out token.members s.detector.kept a member; silent = (sealed a member).silent };
      }

pub reaps_leave_none_told : ReapsLeaveNoneTold
reaps_leave_none_told trace p s t number facts goes = tells_none trace p s facts (step_here trace p s facts.beside t (Reap number) goes)

-- ---- it stays so

abbrev Stays : State → Event → State → Type 0
Stays s e t = (a : ℕ) → IsGone s.actors (Actor a) → IsUntold s a → IsUntold t a

-- who is present is another
other : (s : State) (a b : ℕ) (o : Seat) → IsGone s.actors (Actor a) → seat_at s.actors b ≡ Some o → b ≢ a
other s a b o gone at same = gone.1 (record { seat = o; present = ap (seat_at s.actors) (sym same) ∙ at; kept = has_actor o.cell.holdings a })

note_of_other : (a b : ℕ) (l : Letter) → b ≢ a → SaysNothing a (note_of b l)
note_of_other a b (Confirm token) apart = tt
note_of_other a b l apart = apart

silent_after : (a : ℕ) (reported : Bool) (note : Note) (notes : List Note) → SaysNothing a note → IsSilentOn a notes → IsSilentOn a (notes_after reported note notes)
silent_after a true note notes says silent = IsSilentOn-push a notes note silent says
silent_after a false note notes says silent = silent

-- the same reports and notes
same : (s t : State) (a : ℕ) → kept_report t.detector.kept a ≡ kept_report s.detector.kept a → IsSilentOn a t.notes → IsUntold s a → IsUntold t a
same s t a kept silent un = record { unkept = kept ∙ un.unkept; silent = silent }

heard_after : (s : State) (a : ℕ) (note : Note) (later : List Note) → s.notes ≡ note ∷ later → IsUntold s a → (kept_report (hear_note note s.detector).kept a ≡ None) × IsSilentOn a later
heard_after s a note later is un = unmade-heard (world s) note later a (un.unkept, subst (IsSilentOn a) is un.silent)

without_members : (members : List ℕ) (kept : List Report) (a : ℕ) → kept_report kept a ≡ None → kept_report (filter (λ r. not (has members r.actor)) kept) a ≡ None
without_members members kept a none = ⊎_elim
    (λ (member : has members a ≡ true). kept_report-out members kept a member)
    (λ apart. kept_report-in members kept a apart ∙ none)
    (cases_Bool (has members a))

stays : (trace : Trace) (s : State) {e : Event} {t : State} → IsStep trace s e t → Stays s e t
stays trace s (rule.takes b c l mail at is) a gone un = same s _ a refl (silent_after a c.reported (note_of b l) s.notes (note_of_other a b l (other s a b _ gone at)) un.silent) un
stays trace s (rule.blocks b c mail at may) a gone un = same s _ a refl (IsSilentOn-push a s.notes (Block b c.holdings.count (held_actors c.holdings)) un.silent (other s a b _ gone at)) un
stays trace s (rule.hears note later is) a gone un = let z = heard_after s a note later is un in record { unkept = z.0; silent = z.1 }
stays trace s (rule.scans news) a gone un = same s _ a (ap (λ kept. kept_report kept a) (scanned_kept s.detector (closed_set s.detector))) un.silent un
stays trace s (rule.reaps number token is) a gone un = record { unkept = without_members token.members s.detector.kept a un.unkept; silent = un.silent }
stays trace s is a gone un = same s _ a refl un.silent un

pub untold_stays : UntoldStaysUntold
untold_stays [] s t a is gone un = subst (λ (u : State). IsUntold u a) is un
untold_stays (e ∷ book) s t a (u, goes, leads) gone un =
    untold_stays book u t a leads (gone_stays (e ∷ []) s u (u, goes, refl) (Actor a) gone) (stays s.options.trace s (step_of s u e goes) a gone un)

-- ---- in each run

pub runs_tell_none : RunsTellNoneOfTheReaped
runs_tell_none program options heavy book later number t run =
    let parts = split_leads book (Reap number ∷ later) (first_state program options) t run in
    let s = parts.0 in
    let facts = run_has_facts program options heavy book s parts.1 in
    let u = parts.2.0 in
    let first = reaps_leave_none_told options.trace facts.0 s u number facts.2 parts.2.1 in (
      s,
      parts.1,
      record {
        token = first.token;
        is_open = first.is_open;
        gone = λ a member. gone_stays later u t parts.2.2 (Actor a) (first.gone a member);
        untold = λ a member. untold_stays later u t a parts.2.2 (first.gone a member) (first.untold a member);
      },
    )
