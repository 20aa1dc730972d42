-- With root-only tracing: where every actor is at rest and each that is present is needed, what is left is just
-- what is reached from the roots, where an actor leads to its own objects that are held as well.
use Rattle.std.proofs.Common.{◌≡◌, ◌↔◌, ℕ, ◌<◌, Option, Some, None, List, [], refl, sym, ◌∙◌, ap, arith, subst, inl}
use Rattle.std.specs.Option.{option_map_or}
use Rattle.std.specs.Prelude.{Contains}
use Rattle.orca_names.specs.declared.names.ObjName.{ObjName}
use Rattle.orca_names.specs.declared.names.Thing.{Thing}
use Rattle.orca_names.specs.declared.names.Thing.TheVariants.{Actor, Obj}
use Rattle.orca_names.specs.declared.names.Value.{Value}
use Rattle.reach_walk.specs.Reach.{thing_row}
use Rattle.letter_kinds.specs.Holdings.{Row, own_in}
use Rattle.letter_kinds.specs.Letters.{Letter}
use Rattle.count_laws.proofs.events.EitherMode.{lives_left}
use Rattle.count_laws.proofs.balance.InHand.{Balanced, in_hand}
use Rattle.count_laws.proofs.knowledge.Living.{Holds, stands}
use Rattle.count_laws.proofs.rest.Needs.{AllNeeded, IsNeeded, is_held, is_pinned}
use Rattle.count_laws.proofs.rest.ObjectsAtQuiet.{all_held, entry_of, sum-some}
use Rattle.count_laws.proofs.knowledge.Paths.{reach_into}
use Rattle.count_laws.proofs.agreement.Reachable.{edge_held, edge_row, held_edge, listed_root, no_names, root_listed}
use Rattle.machine_rules.proofs.Rest.{AtRest}
use Rattle.count_laws.proofs.roots.Left.{along_left, held_left, owner_left, person_left}
use Rattle.count_laws.proofs.balance.SeatReads.{held_at-none, held_at-seat}
use Rattle.machine_rules.specs.Actors.{Actors, Seat, seat, seat_at, Every}
use Rattle.count_laws.specs.Agreement.{IsRootPerson, Person, people_of}
use Rattle.machine_rules.specs.Balance.{held_at}
use Rattle.machine_rules.specs.Cell.{Cell, own_row_of}
use Rattle.count_laws.specs.Clean.{IsCleanByRootsAt, IsInOwnReach, StartsMarks, of_count, of_field}
use Rattle.count_laws.specs.Facts.{KeepsCounts}
use Rattle.count_laws.specs.Known.{Names}
use Rattle.machine_rules.specs.Left.{IsLeft}
use Rattle.count_laws.specs.LeftByRoots.{IsReachedOrHeld, by_edge, from_root, to_held, to_owner}
use Rattle.orca_names.specs.declared.trace.Trace.TheVariants as options
use Rattle.plain_rules.specs.Machine.{PlainState, plain_row}
use Rattle.plain_rules.specs.Reach.{plain_edges, roots_from}

module _ (p : PlainState) (s : Actors) (inv : KeepsCounts options.Roots (thing_row (plain_row p.actors)) (people_of p.actors) s) where
  abbrev all : Thing → Option Row
  all = thing_row (plain_row p.actors)

  abbrev people : List Person
  people = people_of p.actors

  bal : Balanced s
  bal = in_hand s inv.balanced

  -- ---- what is reached or held is left

  on_left : (t x : Thing) → IsLeft s t → Names (plain_edges p.actors t) x → IsLeft s x
  on_left (Actor a) x left n = person_left all s bal inv.sound inv.bare people inv.agrees x a left.seat.cell left.seat.mail left.present
      (subst (λ q. Holds q x) (inv.agrees.present a left.seat.cell left.seat.mail left.present) (edge_held p.actors a x n))
  on_left (Obj o) x left n = by_row (plain_row p.actors o) refl n
    where
      by_row : (r : Option (List Value)) → plain_row p.actors o ≡ r → Names (option_map_or (λ v. v) r []) x → IsLeft s x
      by_row None e n = no_names x _ n
      by_row (Some r) e n = along_left all s bal inv.sound inv.bare (Obj o) x r left e n

  pub reached_left : {x : Thing} → IsReachedOrHeld p s x → IsLeft s x
  reached_left (from_root {x = x} c) = let z = listed_root 0 p.actors x c in subst (IsLeft s) (sym (z.1 ∙ ap Actor (omega arith))) (lives_left options.Roots all people s inv (Actor z.0) (stands z.2))
  reached_left (by_edge t {x = x} r n) = on_left t x (reached_left r) n
  reached_left (to_owner {n = n} r) = owner_left all s bal inv.sound n (reached_left r)
  reached_left (to_held {n = n} b c mail r at h) = held_left all s bal inv.sound b c mail (Obj n) at h

  -- ---- what is left is reached or held

  module _ (clean : Every IsCleanByRootsAt s) (rest : AtRest s) (needed : AllNeeded s) where
    abbrev Kept : Thing → Type 0
    Kept x = IsReachedOrHeld p s x

    held_by_one : (n : ObjName) (c : Cell) (mail : List Letter) → seat_at s n.owner ≡ seat c mail → 0 < own_in c.holdings (Obj n) → Kept (Actor n.owner) → Kept (Obj n)
    held_by_one n c mail at some k =
        let total = all_held s inv.balanced rest (Obj n) c mail at in
        let z = sum-some (held_at (Obj n)) s None (omega arith) in
        by_seat (seat_at s z.0) z.0 refl z.1
      where
        by_seat : (o : Option Seat) (b : ℕ) → seat_at s b ≡ o → 0 < held_at (Obj n) o → Kept (Obj n)
        by_seat None b e h = absurd (omega (arith, held_at-none (Obj n)))
        by_seat (Some o) b e h = to_held b o.cell o.mail k e (let z = held_at-seat (Obj n) o.cell o.mail in omega arith)

    field_on : (a : ℕ) (c : Cell) (mail : List Letter) → seat_at s a ≡ seat c mail → Kept (Actor a) → (x : Thing) → Names c.fields.values x → Kept x
    field_on a c mail at k x n = by_edge (Actor a) k (held_edge p.actors a x (subst (λ q. Holds q x) (sym (inv.agrees.present a c mail at)) (inl n)))

    -- what an actor reaches from its fields and its counted objects over own rows
    own_on : (a : ℕ) (c : Cell) (mail : List Letter) → seat_at s a ≡ seat c mail → Kept (Actor a) → {x : Thing} → IsInOwnReach a c x → Kept x
    own_on a c mail at k h = reach_into (thing_row (own_row_of a c.holdings)) Kept start row_on (λ n q. to_owner q) h
      where
        start : (x : Thing) → StartsMarks a c x → Kept x
        start x (of_field n) = field_on a c mail at k x n
        start y (of_count {n = n} o some) = held_by_one n c mail (ap (seat_at s) o ∙ at) some (subst (λ i. Kept (Actor i)) (sym o) k)

        row_on : (x y : Thing) (r : Row) → Kept x → thing_row (own_row_of a c.holdings) x ≡ Some r → Names r y → Kept y
        row_on (Actor i) y r q e n = cc
        row_on (Obj o) y r q e n = by_edge (Obj o) q (edge_row p (plain_row p.actors o) r y ((inv.sound a c mail at).mine o r e) n)

    needed_kept : {a : ℕ} → IsNeeded s a → Kept (Actor a)
    needed_kept (is_pinned {a = a} {c = c} {mail = mail} at pin) = from_root (subst (λ n. Contains (roots_from 0 p.actors) (Actor n)) (omega arith) (root_listed 0 p.actors a (subst IsRootPerson (sym (inv.agrees.present a c mail at)) (inl pin))))
    needed_kept (is_held {a = a} {b = b} {c = c} {mail = mail} n at h) =
        let entry = entry_of c (Actor b) h in
        let q = rest a c mail at in
        own_on a c mail at (needed_kept n) ((clean a c mail at q.idle q.clean).foreign (Actor b) entry.0 entry.1)

    pub left_reached : (x : Thing) → IsLeft s x → Kept x
    left_reached (Actor a) left = needed_kept (needed a left.seat.cell left.seat.mail left.present)
    left_reached (Obj n) left =
        let c = left.seat.cell in
        let mail = left.seat.mail in
        let q = rest n.owner c mail left.present in
        own_on n.owner c mail left.present (needed_kept (needed n.owner c mail left.present)) ((clean n.owner c mail left.present q.idle q.clean).own n refl left.kept)

    pub exact_by_roots : (x : Thing) → IsLeft s x ↔ IsReachedOrHeld p s x
    exact_by_roots x = (left_reached x, λ r. reached_left r)
