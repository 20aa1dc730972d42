-- A leave keeps the facts: nobody holds the actor, by the balance, so it goes as a sealed set does.
use Rattle.std.proofs.Common.{◌≡◌, ℕ, true, false, Option, None, List, [], ◌∷◌, ◌∙◌, ap, arith, subst}
use Rattle.std.specs.Prelude.{sum_by}
use Rattle.orca_names.specs.declared.names.Thing.{Thing}
use Rattle.orca_names.specs.declared.names.Thing.TheVariants.{Actor}
use Rattle.reach_walk.specs.Reach.{thing_row}
use Rattle.letter_kinds.proofs.Members.{is_member, only_member}
use Rattle.letter_kinds.proofs.Sums.{sum-at, sum-nil}
use Rattle.letter_kinds.specs.Detector.{has}
use Rattle.letter_kinds.specs.Holdings.{Row, held_in, own_in}
use Rattle.letter_kinds.specs.Sums.{inc_of, load_count}
use Rattle.letter_kinds.specs.Letters.{Letter}
use Rattle.count_laws.proofs.events.EitherMode.{reap_keeps}
use Rattle.count_laws.proofs.events.Reap.{Sealed}
use Rattle.count_laws.proofs.balance.SeatReads.{incs_at-seat, loads_at-seat, own_at-seat}
use Rattle.machine_rules.proofs.Present.{present_below}
use Rattle.count_laws.proofs.balance.Sends.{held_below}
use Rattle.orca_names.specs.declared.trace.Trace.{Trace}
use Rattle.machine_rules.specs.Actors.{Actors, seat, seat_at}
use Rattle.count_laws.specs.Agreement.{Person, app_letters, people_of}
use Rattle.machine_rules.specs.Balance.{held_sum, incs_at, load_sum, loads_at, own_at}
use Rattle.machine_rules.specs.Cell.{Cell}
use Rattle.count_laws.specs.Facts.{Facts, KeepsCounts}
use Rattle.plain_rules.specs.Machine.{PlainState, plain_row}
use Rattle.machine_rules.specs.Detect.{reap_members}
use Rattle.machine_rules.specs.State.{State}
use Rattle.machine_rules.proofs.Guards.{MayReport, leaver}
use Rattle.machine_rules.specs.Guards.{may_leave}

-- the one member of a set of one
no_sum : (f : Letter → ℕ) (ls : List Letter) → ls ≡ [] → sum_by f ls ≡ 0
no_sum f ls e = ap (sum_by f) e ∙ sum-nil f

module _ (trace : Trace) (all : Thing → Option Row) (ps : List Person) (s : Actors) (inv : KeepsCounts trace all ps s)
    (a : ℕ) (c : Cell) (ls : List Letter) (at : seat_at s a ≡ seat c ls) (may : MayReport c ls) (uncounted : c.holdings.count ≡ 0) where
  -- nobody holds the actor, and no letter loads it
  own_none : own_at (Actor a) (seat_at s a) ≡ 0
  unfolding own_in
  own_none = ap (own_at (Actor a)) at ∙ own_at-seat (Actor a) c ls ∙ uncounted

  incs_none : incs_at (Actor a) (seat_at s a) ≡ 0
  incs_none = ap (incs_at (Actor a)) at ∙ incs_at-seat (Actor a) c ls ∙ no_sum (inc_of (Actor a)) ls may.rest.empty

  pub unheld : held_sum (Actor a) s ≡ 0
  unheld = let z = inv.balanced (Actor a) in omega (arith, own_none, incs_none)

  pub unloaded : load_sum (Actor a) s ≡ 0
  unloaded = let z = inv.balanced (Actor a) in omega (arith, own_none, incs_none)

  pub alone : (m i : ℕ) (d : Cell) (ms : List Letter) → has (a ∷ []) m ≡ true → has (a ∷ []) i ≡ false → seat_at s i ≡ seat d ms
      → (held_in d.holdings (Actor m) ≡ 0) × (sum_by (load_count (Actor m)) ms ≡ 0)
  alone m i d ms ins out there =
      let w = sum-at (loads_at (Actor a)) s i None (present_below s i _ there) in
      let v = rw there at w in
      subst (λ m. (held_in d.holdings (Actor m) ≡ 0) × (sum_by (load_count (Actor m)) ms ≡ 0)) (only_member a m ins)
      (omega (arith, unheld, held_below (Actor a) s i d ms there), omega (arith, unloaded, v, loads_at-seat (Actor a) d ms))

  pub sealed : Sealed s a
  sealed = record {
    cell = c;
    mail = ls;
    at = at;
    idle = may.rest.idle;
    free = may.unpinned;
    bare = ap app_letters may.rest.empty;
    quiet = λ x. no_sum (load_count x) ls may.rest.empty;
  }

-- an actor that may leaves
pub leave_kept : (trace : Trace) (p : PlainState) (s : State) → Facts trace p s → (a : ℕ) (c : Cell) (ls : List Letter) → seat_at s.actors a ≡ seat c ls → may_leave c ls ≡ true
    → Facts trace p (record s { actors = reap_members (a ∷ []) s.actors })
leave_kept trace p s facts a c ls at may =
    let able = leaver c ls may in
    let all = thing_row (plain_row p.actors) in
    let people = people_of p.actors in
    record {
      counts = reap_keeps trace all people s.actors facts.counts (a ∷ []) (is_member a, tt)
          (sealed trace all people s.actors facts.counts a c ls at able.0 able.1, tt)
          (alone trace all people s.actors facts.counts a c ls at able.0 able.1);
      program = facts.program;
      prints = facts.prints;
      objects = facts.objects;
      weight = facts.weight;
      mode = facts.mode;
    }
