-- A book leads to one state, one event is first, and a run ends in one way.
use Rattle.std.proofs.Common.{◌≡◌, ◌≢◌, ℕ, [], ◌∷◌, refl, sym, ◌∙◌, ap, subst, arith}
use Rattle.event_rule.proofs.Ordered.{upto_both}
use Rattle.event_rule.proofs.Steps.{goes_to}
use Rattle.event_rule.specs.Runs.{ActorsFull, Budget, EndsInOneWay, IsFull, IsFullAt, IsQuiet, IsSpent, Leads, LeadsToOneState, Machine, NoneIsFirstAtQuiet, NotEnabled, OneIsFirst, Quiet}
use Rattle.event_rule.specs.declared.event.Event.TheVariants.{Go}

pub leads_to_one : {S : Type 0} (next : Machine S) → LeadsToOneState next
leads_to_one next [] r s t one other = sym one ∙ other
leads_to_one next (e ∷ book) r s t one other =
    leads_to_one next book one.0 s t one.2 (subst (λ u. Leads next u book t) (goes_to other.0 one.0 (sym other.1 ∙ one.1)) other.2)

pub one_is_first : {S : Type 0} (next : Machine S) → OneIsFirst next
one_is_first next s e f one other = upto_both e f (one.least f other.enabled) (other.least e one.enabled)

pub none_at_quiet : {S : Type 0} (next : Machine S) → NoneIsFirstAtQuiet next
none_at_quiet next s e quiet first = first.enabled (quiet e)

-- ---- ends

same_actor : (a b : ℕ) → Go a ≡ Go b → a ≡ b
same_actor a b e = cc

full_is_enabled : {S : Type 0} (next : Machine S) (s : S) (a : ℕ) → IsQuiet next s → next s (Go a) ≢ IsFull
full_is_enabled next s a quiet full = let e : NotEnabled ≡ IsFull = sym (quiet (Go a)) ∙ full in cc

spent_or_room : {S : Type 0} (next : Machine S) (s : S) (actor entries budget : ℕ) → IsSpent next s entries budget → ¬ IsFullAt next actor s entries budget
spent_or_room next s actor entries budget spent full = let e = spent.spent in let r = full.room in omega arith

pub one_ending : {S : Type 0} (next : Machine S) → EndsInOneWay next
one_ending next Quiet Quiet s entries budget one other = refl
one_ending next Quiet Budget s entries budget one other = absurd (other.enabled.enabled (one other.next))
one_ending next Quiet (ActorsFull a) s entries budget one other = absurd (full_is_enabled next s a one other.full)
one_ending next Budget Quiet s entries budget one other = absurd (one.enabled.enabled (other one.next))
one_ending next Budget Budget s entries budget one other = refl
one_ending next Budget (ActorsFull a) s entries budget one other = absurd (spent_or_room next s a entries budget one other)
one_ending next (ActorsFull a) Quiet s entries budget one other = absurd (full_is_enabled next s a other one.full)
one_ending next (ActorsFull a) Budget s entries budget one other = absurd (spent_or_room next s a entries budget other one)
one_ending next (ActorsFull a) (ActorsFull b) s entries budget one other =
    ap ActorsFull (same_actor a b (one_is_first next s (Go a) (Go b) one.first other.first))
