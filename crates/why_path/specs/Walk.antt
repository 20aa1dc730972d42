-- A walk along edges, level by level.
use Rattle.std.specs.Prelude.{ℕ, ◌≡◌, ◌↔◌, ◌+◌, ◌<◌, ◌≤◌, All, count_by, length, true, false, if◌then◌else◌, List, [], ◌∷◌, Contains, Option, Some, None, IsSomeAnd, unwrap_or}
use Rattle.orca_names.specs.declared.names.Thing.{Thing}
use Rattle.orca_names.specs.declared.reason.Edge.{Edge}
use Rattle.orca_names.specs.declared.reason.Edge.TheVariants as edges
use Rattle.orca_names.specs.declared.reason.Reason.{Reason}
use Rattle.orca_names.specs.declared.reason.Why.TheVariants.{By, Loose}
use Rattle.machine_rules.specs.Actors.{Actors}
use Rattle.why_path.specs.Checks.{is_loose, line_of}
use Rattle.why_path.specs.Edges.{Lead, first_to, leads_of}
use Rattle.why_path.specs.Lines.{Rise}
use Rattle.why_path.specs.Reasons.{IsLedTo, IsReason, ListsLeft, cause_of}
use Rattle.why_path.specs.declared.walk.Holder.{Holder}
use Rattle.why_path.specs.declared.walk.Holder.TheVariants.{Fields, Registers, Letter, Row}
use Rattle.why_path.specs.declared.walk.Walk.{Walk}

-- the edge of a place of what holds values
abbrev pub edge_in : Holder → ℕ → Edge
edge_in Fields i = edges.Field i
edge_in Registers i = edges.Register i
edge_in (Letter k) i = edges.Letter k i
edge_in Row i = edges.Place i

-- the line with which a walk begins
abbrev pub first_line : Actors → Thing → Reason
first_line actors x =
    record { thing = x; level = 0; why = unwrap_or (cause_of actors x) Loose }

abbrev pub by_edge : Thing → ℕ → Option Edge → Reason → Reason
by_edge parent level None r = r
by_edge parent level (Some e) r = record r { level = level; why = By parent e }

-- a loose line whose thing one of these edges of the parent leads to: by the first that does
abbrev pub reached : Thing → ℕ → List Lead → Reason → Reason
reached parent level leads r =
    if is_loose r.why then by_edge parent level (first_to r.thing leads) r else r

-- by the edges of these parents, one parent after the other
abbrev pub reached_from : Actors → ℕ → List Thing → Reason → Reason
reached_from actors level [] r = r
reached_from actors level (t ∷ ts) r =
    reached_from actors level ts (reached t level (leads_of actors t) r)

-- the thing's line is not loose, and stands at the level
abbrev pub StandsAt : List Reason → ℕ → Thing → Type 0
StandsAt reasons level x =
    IsSomeAnd (line_of reasons x) (λ r. (is_loose r.why ≡ false) × (r.level ≡ level))

-- just these things stand at the level
abbrev pub AreAt : List Reason → ℕ → List Thing → Type 0
AreAt reasons level things = (x : Thing) → Contains things x ↔ StandsAt reasons level x

-- the lines rise, and just what stands at the level comes next
pub record IsUnderWay (level : ℕ) (w : Walk) : Type 0 where
  pub rising : Rise w.reasons.items
  pub next : AreAt w.reasons.items level w.next.items

-- what is known of a line once all paths of at most n edges were walked
pub record IsKnownTo (actors : Actors) (n : ℕ) (r : Reason) : Type 0 where
  pub kept : is_loose r.why ≡ false → (r.level ≤ n) × IsReason actors r
  pub loose : is_loose r.why ≡ true
      → (r.level ≡ 0) × ((m : ℕ) → m ≤ n → ¬ IsLedTo actors m r.thing)

-- all paths of at most so many edges were walked; then at least one thing stands at each level so far
pub record IsDoneTo (actors : Actors) (level : ℕ) (w : Walk) : Type 0 where
  pub lists : ListsLeft actors w.reasons.items
  pub known : All (IsKnownTo actors level) w.reasons.items
  pub next : AreAt w.reasons.items level w.next.items
  pub few : 0 < length w.next.items
      → level + 1 + count_by (λ r. is_loose r.why) w.reasons.items ≤ length w.reasons.items
