-- Where no event is enabled, every actor is at rest.
use Rattle.std.proofs.Common.{◌≡◌, ◌≢◌, Bool, true, false, Option, Some, None, List, [], ◌∷◌, is_some, refl}
use Rattle.std.proofs.lemmas.Bool.{false_from_ne_true}
use Rattle.event_rule.specs.declared.event.Event.{Event}
use Rattle.event_rule.specs.declared.event.Event.TheVariants.{Take, Go, Collect, Block}
use Rattle.event_rule.specs.Runs.{IsQuiet}
use Rattle.letter_kinds.specs.Letters.{Letter}
use Rattle.machine_rules.proofs.Enabling.{enabled}
use Rattle.machine_rules.proofs.Guards.{may_collect-dirty, may_take-first, reporter}
use Rattle.machine_rules.specs.Actors.{Actors, Every}
use Rattle.machine_rules.specs.Cell.{Cell}
use Rattle.machine_rules.specs.Enabled.{CanHappen}
use Rattle.machine_rules.specs.Guards.{may_take}
use Rattle.machine_rules.specs.Next.{IsAtRest, next}
use Rattle.machine_rules.specs.State.{State}

abbrev pub AtRest : Actors → Type 0
AtRest actors = Every (λ a c mail. IsAtRest c mail) actors

no_frame : {A : Type 0} (o : Option A) → is_some o ≢ true → o ≡ None
no_frame None h = refl
no_frame (Some x) h = absurd (h refl)

no_letter : (c : Cell) (mail : List Letter) → c.frame ≡ None → may_take c mail ≢ true → mail ≡ []
no_letter c [] idle h = refl
no_letter c (l ∷ mail) idle h = absurd (h (may_take-first c l mail idle))

pub is_nil : {A : Type 0} (xs : List A) → ¬ (xs ≢ []) → xs ≡ []
is_nil [] h = refl
is_nil (x ∷ xs) h = absurd (h (λ e. cc))

pub none_can : (s : State) → IsQuiet next s → (e : Event) → ¬ CanHappen s e
none_can s quiet e can = enabled s e can (quiet e)

pub quiet_rest : (s : State) → IsQuiet next s → AtRest s.actors
quiet_rest s quiet a c mail at =
    let idle = no_frame c.frame (λ may. none_can s quiet (Go a) (c, mail, at, may)) in
    record {
      idle = idle;
      clean = false_from_ne_true c.dirty (λ dirty. none_can s quiet (Collect a) (c, mail, at, may_collect-dirty c mail idle dirty));
      empty = no_letter c mail idle (λ may. none_can s quiet (Take a) (c, mail, at, may));
    }

-- one that is not pinned has its report out
pub quiet_told : (s : State) → IsQuiet next s → Every (λ a c mail. c.fields.pinned ≡ false → c.reported ≡ true) s.actors
quiet_told s quiet a c mail at unpinned = told c.reported refl
  where
    told : (q : Bool) → c.reported ≡ q → q ≡ true
    told true is = refl
    told false is = absurd (none_can s quiet (Block a) (c, mail, at, reporter c mail (record { rest = quiet_rest s quiet a c mail at; unpinned = unpinned; unreported = is })))
