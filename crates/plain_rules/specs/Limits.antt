-- How large a state of the plain machine may be.
use Rattle.std.specs.Prelude.{◌*◌, ◌≤◌, length, ⊤}
use Rattle.event_rule.specs.Runs.{Step, NotEnabled, IsFull, Goes}
use Rattle.plain_rules.specs.Machine.{PlainState, objects_made}
use Rattle.orca_names.specs.declared.limits.TheConstants.{ACTORS_LIMIT, BODY_LIMIT}

-- no more actors than may be made, and no more objects than the events so far can have made
pub record IsWithinLimits (s : PlainState) : Type 0 where
  pub actors : length s.actors ≤ ACTORS_LIMIT
  pub objects : objects_made s.actors ≤ BODY_LIMIT * s.steps

-- what holds of the state that an event leads to, if it leads to one
abbrev pub OnGoes : (PlainState → Type 0) → Step PlainState → Type 0
OnGoes P NotEnabled = ⊤
OnGoes P IsFull = ⊤
OnGoes P (Goes s) = P s
