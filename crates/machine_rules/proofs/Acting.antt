-- An actor acts exactly where it is present and may.
use Rattle.std.proofs.Common.{◌≡◌, ◌≢◌, Bool, true, false, Option, Some, None, List, refl, ap, ◌∙◌}
use Rattle.std.specs.Prelude.{if◌then◌else◌}
use Rattle.event_rule.specs.Runs.{Step, NotEnabled}
use Rattle.letter_kinds.specs.Letters.{Letter}
use Rattle.machine_rules.specs.Actors.{Seat, seat}
use Rattle.machine_rules.specs.Cell.{Cell}
use Rattle.machine_rules.specs.Next.{acting}
use Rattle.machine_rules.specs.State.{State}

module _ (may : Cell → List Letter → Bool) (act : Cell → List Letter → Step State) where
  -- the actor is present and may, and acts so
  pub record Acts (o : Option Seat) : Type 0 where
    pub cell : Cell
    pub mail : List Letter
    pub at : o ≡ seat cell mail
    pub allowed : may cell mail ≡ true
    pub same : acting may act o ≡ act cell mail

  if_allowed : (o : Seat) (q : Bool) → may o.cell o.mail ≡ q → (if q then act o.cell o.mail else NotEnabled) ≢ NotEnabled → Acts (Some o)
  if_allowed o false is on = absurd (on refl)
  if_allowed o true is on = record { cell = o.cell; mail = o.mail; at = refl; allowed = is; same = ap (λ q. if q then act o.cell o.mail else NotEnabled) is }

  pub acts : (o : Option Seat) → acting may act o ≢ NotEnabled → Acts o
  acts None on = absurd (on refl)
  acts (Some o) on = if_allowed o (may o.cell o.mail) refl (λ off. on off)

  pub acting-is : (o : Option Seat) (c : Cell) (mail : List Letter) → o ≡ seat c mail → may c mail ≡ true → acting may act o ≡ act c mail
  acting-is o c mail at is = ap (acting may act) at ∙ ap (λ q. if q then act c mail else NotEnabled) is
