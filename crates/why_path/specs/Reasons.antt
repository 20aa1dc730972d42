-- Why each thing that is left is left.
use Rattle.std.specs.Prelude.{ℕ, zero, suc, ◌≡◌, ◌≢◌, ◌↔◌, ◌≤◌, ◌+◌, Bool, true, false, if◌then◌else◌, List, map, All, Contains, Option, Some, None, IsSome, is_some, option_and_then}
use Rattle.std.specs.List.{list_any}
use Rattle.std.specs.List.Sorted.{IsStrictlySortedBy}
use Rattle.std.specs.declared.cmp.Ordering.TheVariants.{Greater}
use Rattle.orca_names.specs.Names.{thing_cmp}
use Rattle.orca_names.specs.declared.names.Thing.{Thing}
use Rattle.orca_names.specs.declared.names.Thing.TheVariants.{Actor, Obj}
use Rattle.orca_names.specs.declared.reason.Edge.{Edge}
use Rattle.orca_names.specs.declared.reason.Reason.{Reason}
use Rattle.orca_names.specs.declared.reason.Why.{Why}
use Rattle.orca_names.specs.declared.reason.Why.TheVariants.{Pinned, Frame, Letter, By, Loose}
use Rattle.letter_kinds.specs.Letters as letters
use Rattle.letter_kinds.specs.Letters.{App, Inc, Dec, Confirm}
use Rattle.machine_rules.specs.Actors.{Actors, Seat, seat_at}
use Rattle.machine_rules.specs.Left.{IsLeft}
use Rattle.why_path.specs.Edges.{LeadsTo, first_to, leads_of}

-- ---- roots

abbrev pub is_app : letters.Letter → Bool
is_app (App behaviour args load rows) = true
is_app (Inc things) = false
is_app (Dec things) = false
is_app (Confirm token) = false

-- the actor is pinned; it stands within a turn; an application letter waits for it
abbrev pub applies : Why → Seat → Bool
applies Pinned o = o.cell.fields.pinned
applies Frame o = is_some o.cell.frame
applies Letter o = list_any is_app o.mail
applies (By parent edge) o = false
applies Loose o = false

-- the first of these that applies, if one does
abbrev pub cause_at : Seat → Option Why
cause_at o =
    if applies Pinned o then Some Pinned
    else (if applies Frame o then Some Frame else (if applies Letter o then Some Letter else None))

-- why a thing is a root, if it is one; an object is none
unfoldable pub cause_of : Actors → Thing → Option Why
cause_of actors (Actor a) = option_and_then cause_at (seat_at actors a)
cause_of actors (Obj n) = None

abbrev pub IsRoot : Actors → Thing → Type 0
IsRoot actors x = IsSome (cause_of actors x)

-- ---- levels

-- a path of so many edges leads to the thing from a root
unfoldable pub IsLedTo : Actors → ℕ → Thing → Type 0
IsLedTo actors zero x = IsRoot actors x
IsLedTo actors (suc n) x = (t : Thing) × IsLedTo actors n t × LeadsTo actors t x

-- the least number of edges from a root
pub record IsLevel (actors : Actors) (x : Thing) (level : ℕ) : Type 0 where
  pub led : IsLedTo actors level x
  pub least : (n : ℕ) → IsLedTo actors n x → level ≤ n

-- ---- reasons

-- the parent is the least thing, one level lower, that leads to x, and the edge is its first that does
pub record HasParent (actors : Actors) (x : Thing) (level : ℕ) (parent : Thing) (edge : Edge)
    : Type 0 where
  pub reached : IsLevel actors x level
  pub lower : ℕ
  pub above : lower + 1 ≡ level
  pub below : IsLevel actors parent lower
  pub least : (t : Thing) → IsLevel actors t lower → LeadsTo actors t x
      → thing_cmp parent t ≢ Greater
  pub first : first_to x (leads_of actors parent) ≡ Some edge

-- a root has level 0 and its cause, what is reached its parent; to the rest no path leads
abbrev pub IsReasonOf : Actors → Thing → ℕ → Why → Type 0
IsReasonOf actors x level Pinned = (level ≡ 0) × (cause_of actors x ≡ Some Pinned)
IsReasonOf actors x level Frame = (level ≡ 0) × (cause_of actors x ≡ Some Frame)
IsReasonOf actors x level Letter = (level ≡ 0) × (cause_of actors x ≡ Some Letter)
IsReasonOf actors x level (By parent edge) = HasParent actors x level parent edge
IsReasonOf actors x level Loose = (level ≡ 0) × ((n : ℕ) → ¬ IsLedTo actors n x)

abbrev pub IsReason : Actors → Reason → Type 0
IsReason actors r = IsReasonOf actors r.thing r.level r.why

abbrev pub things_in : List Reason → List Thing
things_in reasons = map (λ r. r.thing) reasons

-- the lines are those of exactly the things that are left, each once, in the order of things
pub record ListsLeft (actors : Actors) (reasons : List Reason) : Type 0 where
  pub left : (x : Thing) → Contains (things_in reasons) x ↔ IsLeft actors x
  pub rising : IsStrictlySortedBy thing_cmp (things_in reasons)

-- each thing that is left, in the order of things, with its reason
pub record AreReasons (actors : Actors) (reasons : List Reason) : Type 0 where
  pub lists : ListsLeft actors reasons
  pub each : All (IsReason actors) reasons
