-- Each event keeps all facts, and so does each run.
use Rattle.std.proofs.Common.{◌≡◌, ℕ, Some, sym, subst}
use Rattle.letter_kinds.specs.Detector.{Detector, closed_set}
use Rattle.machine_rules.specs.Cell.{Cell}
use Rattle.detector_laws.proofs.Acknowledged.{block_members, confirm_members, hear_members, leave_members, moves_members, reap_members, scan_members}
use Rattle.detector_laws.proofs.ActorReports.{block_reports, confirm_reports, moves_reports}
use Rattle.detector_laws.proofs.ActorTokens.{block_tokens, confirm_tokens, moves_tokens}
use Rattle.detector_laws.proofs.Hear.{hear_reports}
use Rattle.detector_laws.proofs.HearTokens.{hear_tokens}
use Rattle.detector_laws.proofs.News.{hear_news, scan_news, reap_news, heard_rising, closed_rising}
use Rattle.detector_laws.proofs.Quiet.{quiet_all_reached}
use Rattle.detector_laws.proofs.Reap.{leave_reports, leave_tokens, reap_reports, reap_tokens}
use Rattle.detector_laws.proofs.Scan.{scan_tokens, scanned_kept, scan_reports}
use Rattle.detector_laws.specs.Balance.{ActorsAreBalanced}
use Rattle.detector_laws.specs.News.{NoNewsNoClosedSet}
use Rattle.detector_laws.specs.Quiet.{IsQuiet, IsReached}
use Rattle.detector_laws.specs.Reports.{IsRising}
use Rattle.detector_laws.specs.Run.{IsStep, Hears, Scans, ReapsOne, LeavesOne, Blocks, TakesConfirm, MovesOne, IsRun, Stays, GoesOn}
use Rattle.detector_laws.specs.World.{World, FactsHold}

pub step_keeps : (w u : World) → ActorsAreBalanced w → IsStep w u → FactsHold w → FactsHold u
step_keeps w u bal (Hears {n} {ns} e) k = record {
  reports = hear_reports w n ns e k.reports;
  tokens = hear_tokens w n ns e k.tokens;
  members = hear_members w n ns e k.members;
  news = hear_news n w.detector k.news;
  rising = heard_rising n w.detector k.rising;
}
step_keeps w u bal (Scans e) k = record {
  reports = scan_reports w k.reports;
  tokens = scan_tokens w bal k.rising k.reports k.tokens;
  members = scan_members w k.tokens k.members;
  news = scan_news w.detector;
  rising = subst IsRising (sym (scanned_kept w.detector (closed_set w.detector))) k.rising;
}
step_keeps w u bal (ReapsOne {t} r) k = record {
  reports = reap_reports w u t r k.reports k.tokens;
  tokens = reap_tokens w u t r k.tokens;
  members = reap_members w u t r k.members;
  news = subst NoNewsNoClosedSet (sym r.detector) (reap_news w.detector t r.is_open (λ v i e. k.tokens.unique v t i r.is_open e) k.news);
  rising = subst (λ (d : Detector). IsRising d.kept) (sym r.detector) (closed_rising t w.detector k.rising);
}
step_keeps w u bal (LeavesOne {a} l) k = record {
  reports = leave_reports w u a l k.reports;
  tokens = leave_tokens w u a l k.tokens;
  members = leave_members w u a l k.members;
  news = subst NoNewsNoClosedSet (sym l.detector) k.news;
  rising = subst (λ (d : Detector). IsRising d.kept) (sym l.detector) k.rising;
}
step_keeps w u bal (Blocks {a} {c} {r} can) k = record {
  reports = block_reports w a c r can k.reports;
  tokens = block_tokens w a c r can k.tokens;
  members = block_members w r k.members;
  news = k.news;
  rising = k.rising;
}
step_keeps w u bal (TakesConfirm {a} {token = t} {mail = ls} e) k = record {
  reports = confirm_reports w a t ls e k.reports;
  tokens = confirm_tokens w a t ls e k.tokens;
  members = confirm_members w a t ls e k.members;
  news = k.news;
  rising = k.rising;
}
step_keeps w u bal (MovesOne {a} m) k = record {
  reports = moves_reports w u a m k.reports;
  tokens = moves_tokens w u a m k.tokens;
  members = moves_members w u a m k.members;
  news = subst NoNewsNoClosedSet (sym m.detector) k.news;
  rising = subst (λ (d : Detector). IsRising d.kept) (sym m.detector) k.rising;
}

pub run_keeps : (w u : World) → IsRun w u → FactsHold w → FactsHold u
run_keeps w u Stays k = k
run_keeps w u (GoesOn {v} run bal step) k = step_keeps v u bal step (run_keeps w v run k)

pub quiet_run : (w u : World) → FactsHold w → IsRun w u → ActorsAreBalanced u → IsQuiet u → (a : ℕ) (c : Cell) → u.cell a ≡ Some c → IsReached u a
quiet_run w u k run bal q =
    let now = run_keeps w u run k in
    quiet_all_reached u q now.reports now.tokens now.news bal now.rising
