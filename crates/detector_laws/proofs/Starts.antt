-- All facts hold where a run starts.
use Rattle.std.proofs.Common.{sym, subst, refl, []}
use Rattle.letter_kinds.specs.Detector.{Detector, fresh_detector}
use Rattle.detector_laws.proofs.Letters.{confirm_count-none}
use Rattle.detector_laws.proofs.Members.{none_in_empty}
use Rattle.detector_laws.proofs.Order.{rising_none}
use Rattle.detector_laws.specs.Acknowledged.{OnlyMembersAcknowledge}
use Rattle.detector_laws.specs.News.{NoNewsNoClosedSet}
use Rattle.detector_laws.specs.Reports.{ExactReports, IsRising}
use Rattle.detector_laws.specs.Run.{IsStart}
use Rattle.detector_laws.specs.Tokens.{SoundTokens}
use Rattle.detector_laws.specs.World.{World, ReportsAreExact, TokensAreSound, MembersAcknowledge, FactsHold}

start_reports : (w : World) → IsStart w → ReportsAreExact w
start_reports w s =
    subst (λ (d : Detector). ExactReports w.made w.cell d.kept w.notes) (sym s.detector)
    (subst (λ ns. ExactReports w.made w.cell [] ns) (sym s.notes) record { last = s.unreported; unmade = λ a past. (refl, tt) })

start_tokens : (w : World) → IsStart w → TokensAreSound w
start_tokens w s =
    subst (λ d. SoundTokens d w.cell w.mail w.loaded w.notes) (sym s.detector)
    (subst (λ ns. SoundTokens fresh_detector w.cell w.mail w.loaded ns) (sym s.notes)
    record {
      apart = λ t u i. absurd (none_in_empty t i);
      kept = λ t i. absurd (none_in_empty t i);
      unique = λ t u i. absurd (none_in_empty t i);
      numbers = λ t i. absurd (none_in_empty t i);
      letters = λ a n lt. confirm_count-none n (w.mail a) (s.unasked a);
      heard = λ a n lt. refl;
      once = λ t i. absurd (none_in_empty t i);
      state = λ t i. absurd (none_in_empty t i);
    })

start_members : (w : World) → IsStart w → MembersAcknowledge w
start_members w s =
    subst (λ d. OnlyMembersAcknowledge d w.mail w.notes) (sym s.detector)
    record { asked = λ t i. absurd (none_in_empty t i); acks = λ t i. absurd (none_in_empty t i) }

pub start_facts : (w : World) → IsStart w → FactsHold w
start_facts w s = record {
  reports = start_reports w s;
  tokens = start_tokens w s;
  members = start_members w s;
  news = subst NoNewsNoClosedSet (sym s.detector) (λ e. refl);
  rising = subst (λ (d : Detector). IsRising d.kept) (sym s.detector) rising_none;
}
