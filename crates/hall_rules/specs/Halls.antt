-- A hall, as its callers see it.
use Rattle.std.specs.Prelude.{ℕ, Bool, List, [], ◌∷◌}
use Rattle.orca_names.specs.declared.options.Options.{Options}
use Rattle.behaviour_code.specs.declared.code.Program.{Program}
use Rattle.event_rule.specs.Runs.{Step, NotEnabled, IsFull, Goes}
use Rattle.event_rule.specs.declared.event.Event.{Event}
use Rattle.machine_rules.specs.Next.{next}
use Rattle.machine_rules.specs.State.{State, first_state}
use Rattle.hall_rules.specs.declared.claim.Claim.{Claim}

-- its program, the options of its run, how many entries it may make, the book, the claims that are out,
-- and whether a stop was asked; its state is that after the book
pub record HallValue : Type 0 where
  pub program : Program
  pub options : Options
  pub budget : ℕ
  pub book : List Event
  pub claims : List Claim
  pub stopped : Bool

-- where a step leads; where it leads nowhere, the state stays
abbrev pub after_step : State → Step State → State
after_step s NotEnabled = s
after_step s IsFull = s
after_step s (Goes t) = t

-- the state after the events of a book
abbrev pub state_after : State → List Event → State
state_after s [] = s
state_after s (e ∷ book) = state_after (after_step s (next s e)) book

-- its state
abbrev pub hall_state : HallValue → State
hall_state h = state_after (first_state h.program h.options) h.book
