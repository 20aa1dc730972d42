-- Where every actor is at rest and each that is present is needed, what is left is just what is reachable
-- in the plain machine; and the actors that do not live hold all counts on themselves.
use Rattle.std.proofs.Common.{◌≡◌, ◌↔◌, ℕ, ◌<◌, true, Option, List, sym, subst, inl}
use Rattle.orca_names.specs.declared.names.Thing.{Thing}
use Rattle.orca_names.specs.declared.names.Thing.TheVariants.{Actor}
use Rattle.reach_walk.specs.Reach.{thing_row}
use Rattle.letter_kinds.specs.Letters.{Letter}
use Rattle.letter_kinds.specs.Holdings.{Row, held_in}
use Rattle.count_laws.proofs.knowledge.Living.{Lives, stands}
use Rattle.count_laws.proofs.rest.ObjectsAtQuiet.{by_rows, exactly_left, held_reached, over_all}
use Rattle.count_laws.proofs.agreement.Reachable.{reachable_lives, lives_reachable}
use Rattle.machine_rules.proofs.Rest.{AtRest}
use Rattle.orca_names.specs.declared.trace.Trace.TheVariants.{Deep}
use Rattle.machine_rules.specs.Actors.{Actors, seat, seat_at, Every}
use Rattle.count_laws.specs.Agreement.{Person, IsRootPerson, people_of}
use Rattle.machine_rules.specs.Cell.{Cell}
use Rattle.count_laws.specs.Clean.{CleanAreSwept}
use Rattle.count_laws.specs.Facts.{Facts, KeepsCounts}
use Rattle.machine_rules.specs.Left.{IsLeft}
use Rattle.plain_rules.specs.Machine.{PlainState, plain_row}
use Rattle.plain_rules.specs.Reach.{IsReachable}
use Rattle.machine_rules.specs.State.{State}

-- pinned, or held by an actor that is needed
pub data IsNeeded (s : Actors) : ℕ → Type 0 where
  is_pinned : {a : ℕ} {c : Cell} {mail : List Letter} → seat_at s a ≡ seat c mail → c.fields.pinned ≡ true → IsNeeded s a
  is_held : {a b : ℕ} {c : Cell} {mail : List Letter} → IsNeeded s a → seat_at s a ≡ seat c mail → 0 < held_in c.holdings (Actor b) → IsNeeded s b

abbrev pub AllNeeded : Actors → Type 0
AllNeeded s = Every (λ a c mail. IsNeeded s a) s

module _ (all : Thing → Option Row) (people : List Person) (s : Actors) (inv : KeepsCounts Deep all people s) (clean : CleanAreSwept s) (rest : AtRest s) where
  -- what a living actor holds, lives
  pub held_on : (a : ℕ) (c : Cell) (mail : List Letter) (x : Thing) → seat_at s a ≡ seat c mail → Lives all people (Actor a) → 0 < held_in c.holdings x → Lives all people x
  held_on a c mail x at lives h = by_rows all people s inv clean rest a c mail at lives
      (over_all all a c mail (inv.sound a c mail at) x (held_reached s inv.balanced clean rest a c mail x at h))

  pub pinned_lives : (a : ℕ) (c : Cell) (mail : List Letter) → seat_at s a ≡ seat c mail → c.fields.pinned ≡ true → Lives all people (Actor a)
  pinned_lives a c mail at pin = stands (subst IsRootPerson (sym (inv.agrees.present a c mail at)) (inl pin))

  pub needed_lives : {a : ℕ} → IsNeeded s a → Lives all people (Actor a)
  needed_lives (is_pinned {a = a} {c = c} {mail = mail} at pin) = pinned_lives a c mail at pin
  needed_lives (is_held {a = a} {b = b} {c = c} {mail = mail} n at h) = held_on a c mail (Actor b) at (needed_lives n) h

  pub needed_exact : AllNeeded s → (x : Thing) → IsLeft s x ↔ Lives all people x
  needed_exact needed x = exactly_left all people s inv clean rest (λ a c mail at. needed_lives (needed a c mail at)) x

-- ---- in the words of the plain machine

module _ (p : PlainState) (s : State) (facts : Facts Deep p s) (clean : CleanAreSwept s.actors) (rest : AtRest s.actors) where
  abbrev all : Thing → Option Row
  all = thing_row (plain_row p.actors)

  to_reachable : {x : Thing} → IsLeft s.actors x ↔ Lives all (people_of p.actors) x → IsLeft s.actors x ↔ IsReachable p x
  to_reachable both = ((λ left. lives_reachable p (both.0 left)), (λ r. both.1 (reachable_lives p r)))

  -- from each present actor's being needed
  pub left_is_exact : AllNeeded s.actors → (x : Thing) → IsLeft s.actors x ↔ IsReachable p x
  left_is_exact needed x = to_reachable (needed_exact all (people_of p.actors) s.actors facts.counts clean rest needed x)
