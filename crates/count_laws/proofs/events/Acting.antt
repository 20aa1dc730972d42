-- The laws of take, go and collect, and of what speaks of one actor alone.
use Rattle.std.proofs.Common.{Bool, true, false, refl}
use Rattle.event_rule.specs.declared.event.Event.{Event}
use Rattle.event_rule.specs.declared.event.Event.TheVariants.{Take, Go}
use Rattle.count_laws.proofs.local.Cleaning.{clean-first, clean-next}
use Rattle.count_laws.proofs.agreement.Following.{Follows}
use Rattle.count_laws.proofs.agreement.Follows.{collect_kept, go_kept, leave_beside, take_kept}
use Rattle.count_laws.proofs.local.NoSelf.{no_self-first, no_self-next}
use Rattle.orca_names.specs.declared.trace.Trace.{Trace}
use Rattle.count_laws.specs.Facts.{Facts}
use Rattle.count_laws.specs.Laws.{CleanStaySwept, CollectsKeepFacts, GoesKeepFacts, LeavesKeepFacts, NoneGetsItsOwn, TakesKeepFacts}
use Rattle.plain_rules.specs.Run.{plain_next}
use Rattle.plain_rules.specs.Machine.{PlainState}
use Rattle.machine_rules.specs.Run.{PlainFollows, is_choice}
use Rattle.machine_rules.specs.State.{State}

-- the facts beside, and where the plain machine is then
abbrev pub Beside : Trace → Bool → PlainState → Event → State → Type 0
Beside trace choice p e t = (q : PlainState) × PlainFollows choice p e q × Facts trace q t

pub followed : (trace : Trace) (choice : Bool) (p : PlainState) (e : Event) (t : State) → Follows trace choice (plain_next p e) p t → Beside trace choice p e t
followed trace true p e t h = h
followed trace false p e t h = (p, refl, h)

pub takes_keep : TakesKeepFacts
takes_keep a trace p s t facts goes = followed trace (is_choice s (Take a)) p (Take a) t (take_kept trace p s facts t a goes)

pub goes_keep : GoesKeepFacts
goes_keep a trace p s t facts goes = followed trace (is_choice s (Go a)) p (Go a) t (go_kept trace p s facts t a goes)

pub collects_keep : CollectsKeepFacts
collects_keep a trace p s t facts goes = (p, refl, collect_kept trace p s facts t a goes)

pub leaves_keep : LeavesKeepFacts
leaves_keep a trace p s t facts goes = (p, refl, leave_beside trace p s facts t a goes)

pub clean_stay_swept : CleanStaySwept
clean_stay_swept = (clean-first, clean-next)

pub none_gets_its_own : NoneGetsItsOwn
none_gets_its_own = (no_self-first, no_self-next)
