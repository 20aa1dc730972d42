-- With root-only tracing: of the rows that letters brought those stay at a collection that marked things reach.
use Rattle.std.proofs.Common.{◌≡◌, ◌≢◌, ◌↔◌, ℕ, ◌<◌, cond, Bool, true, false, Option, Some, None, List, set, refl, sym, ◌∙◌, ap, arith, subst, inl, inr, ⊎_elim}
use Rattle.std.specs.FinMap as m
use Rattle.std.proofs.lemmas.Bool.{cases_eq}
use Rattle.orca_names.proofs.ThingOrder.{thing_exact}
use Rattle.orca_names.specs.Names.{owner_of}
use Rattle.orca_names.specs.declared.names.ObjName.{ObjName}
use Rattle.orca_names.specs.declared.names.Thing.{Thing}
use Rattle.orca_names.specs.declared.names.Thing.TheVariants.{Actor, Obj}
use Rattle.event_rule.specs.declared.event.Event.TheVariants.{Collect}
use Rattle.reach_walk.specs.Reach.{root, owned, thing_row}
use Rattle.letter_kinds.proofs.Counts.{counted_has}
use Rattle.letter_kinds.specs.Counting.{by_owner, given_back, sweep}
use Rattle.letter_kinds.specs.Holdings.{Row, held_in}
use Rattle.letter_kinds.specs.Letters.{Letter}
use Rattle.machine_rules.proofs.Present.{present_below}
use Rattle.machine_rules.specs.Actors.{Actors, cell_at, cell_of, seat, seat_at}
use Rattle.machine_rules.specs.Cell.{Cell, own_row_of, row_by_roots}
use Rattle.machine_rules.specs.Collect.{after_collect, is_in_use, is_marked_by_roots, start_of_marks, without_unused}
use Rattle.orca_names.specs.declared.trace.Trace.TheVariants as options
use Rattle.machine_rules.specs.State.{State}
use Rattle.count_laws.proofs.away.Untouched.{adds_decs}
use Rattle.count_laws.proofs.balance.InHand.{Balanced, in_hand}
use Rattle.count_laws.proofs.balance.Seats.{at_same}
use Rattle.count_laws.proofs.balance.Sends.{held_below}
use Rattle.count_laws.proofs.knowledge.Paths.{along_row, reach_into, reach_more}
use Rattle.count_laws.proofs.roots.Collect.{IsKept, IsMarked, IsUsed, backed_kept, marked_used, own_row-stayed, use_sound, use_whole}
use Rattle.count_laws.proofs.roots.Left.{held_backed, reached_left}
use Rattle.count_laws.proofs.roots.Rows.{by_brought, by_own, rows_sound}
use Rattle.count_laws.proofs.roots.Same.{has_own_row}
use Rattle.count_laws.specs.Agreement.{Person, people_of}
use Rattle.count_laws.specs.Clean.{IsInOwnReach, StartsMarks, of_count, of_field}
use Rattle.count_laws.specs.Facts.{KeepsCounts, Facts}
use Rattle.count_laws.specs.KeptRows.{KeepsWhatMarkedReach, KnownRowsStayWhereMarkedReach, MarkedReach}
use Rattle.count_laws.specs.Known.{IsKnown, Names, ReachesThrough}
use Rattle.count_laws.specs.KnownByRoots.{IsRootsAt, WalkRoots, by_field, by_row, mine, named}
use Rattle.plain_rules.specs.Machine.{plain_row, PlainState}
use Rattle.count_laws.proofs.roots.Starts.{starts, starts_counted, starts_field}
use Rattle.machine_rules.specs.Rules.{IsStep}
use Rattle.machine_rules.specs.Rules as rule
use Rattle.machine_rules.proofs.Guards.{collector}
use Rattle.count_laws.proofs.agreement.Follows.{step_here}

-- ---- what is marked, in the words and by the walk

module _ (a : ℕ) (c : Cell) where
  own_marked : {x : Thing} → IsInOwnReach a c x → IsMarked a c x
  own_marked h = reach_more (thing_row (own_row_of a c.holdings)) (λ x s. root (start x s)) h
    where
      start : (x : Thing) → StartsMarks a c x → Names (start_of_marks a c) x
      start x (of_field n) = starts_field a c x n
      start y (of_count {n = n} o some) = starts_counted a c n o some

  marked_own : {x : Thing} → IsMarked a c x → IsInOwnReach a c x
  marked_own h = reach_more (thing_row (own_row_of a c.holdings)) (λ x n. root (starts a c x n)) h

  used_marked : {x : Thing} → ReachesThrough (thing_row (row_by_roots a c)) (Names (start_of_marks a c)) x → MarkedReach a c c x
  used_marked h = reach_more (thing_row (row_by_roots a c)) (λ x n. root (root (starts a c x n))) h

-- ---- a collection

module _ (all : Thing → Option Row) (ps : List Person) (s : Actors) (inv : KeepsCounts options.Roots all ps s)
    (a : ℕ) (c : Cell) (ls : List Letter) (at : seat_at s a ≡ seat c ls) (idle : c.frame ≡ None) where
  abbrev d : Cell
  d = record (without_unused options.Roots a c) { holdings = sweep (is_marked_by_roots a c) a c.holdings; dirty = false }

  bal : Balanced s
  bal = in_hand s inv.balanced

  here : IsRootsAt all a c ls
  here = inv.sound a c ls at

  abbrev Kept : Thing → Type 0
  Kept x = IsKept all ps s inv a c ls at idle x

  abbrev Used : Thing → Type 0
  Used x = IsUsed all ps s inv a c ls at idle x

  known_after : (x : Thing) → m.get d.known x ≡ cond (is_in_use a c x) (m.get c.known x) None
  known_after x = m.get-retain_keys c.known (is_in_use a c) x (λ y t. ap (is_in_use a c) (sym (thing_exact x y t)))

  marked_reach_used : {x : Thing} → MarkedReach a c c x → Used x
  marked_reach_used h = reach_more (thing_row (row_by_roots a c)) (λ x m. marked_used all ps s inv a c ls at idle (own_marked a c m)) h

  stays : (x : Thing) (row : Row) → m.get d.known x ≡ Some row ↔ (m.get c.known x ≡ Some row) × MarkedReach a c c x
  stays x row = (
    λ e. by_use (is_in_use a c x) refl (sym (known_after x) ∙ e),
    λ both. known_after x ∙ ap (λ b. cond b (m.get c.known x) None) (use_whole a c x (marked_reach_used both.1)) ∙ both.0,
  )
    where
      by_use : (b : Bool) → is_in_use a c x ≡ b → cond b (m.get c.known x) None ≡ Some row → (m.get c.known x ≡ Some row) × MarkedReach a c c x
      by_use true used e = (e, used_marked a c (use_sound a c x used))
      by_use false used e = cc

  -- ---- through the rows that it had and through those that it has

  own_made : (x : Thing) (r : Row) → thing_row (own_row_of a c.holdings) x ≡ Some r → all x ≡ Some r
  own_made (Actor i) r e = cc
  own_made (Obj n) r e = here.mine n r e

  start_walked : (x : Thing) → StartsMarks a c x → ReachesThrough all (WalkRoots a c) x
  start_walked x (of_field n) = root (named (by_field n))
  start_walked y (of_count {n = n} o some) = root (mine o (counted_has c.holdings (Obj n) some))

  own_walked : {x : Thing} → IsInOwnReach a c x → ReachesThrough all (WalkRoots a c) x
  own_walked h = reach_into (thing_row (own_row_of a c.holdings)) (ReachesThrough all (WalkRoots a c)) start_walked (λ x y r p e n. along_row all p (own_made x r e) n) (λ n p. owned p) h

  -- of what is reached: its walks reach it, it is in use, it is marked if it is the actor's own object, and it is
  -- reached through the rows that stay
  record Along (x : Thing) : Type 0 where
    walks : ReachesThrough all (WalkRoots a c) x
    used : Used x
    own : owner_of x ≡ a → Kept x
    after : MarkedReach a c d x

  from_marked : (x : Thing) → IsInOwnReach a c x → Along x
  from_marked x m = record {
    walks = own_walked m;
    used = marked_used all ps s inv a c ls at idle (own_marked a c m);
    own = λ o. inl (own_marked a c m);
    after = root m;
  }

  up : (n : ObjName) → Along (Obj n) → Along (Actor n.owner)
  up n p = record { walks = owned p.walks; used = owned p.used; own = λ o. inr (ap Actor o); after = owned p.after }

  not_actor : (n : ObjName) → Obj n ≢ Actor a
  not_actor n e = cc

  -- an own thing that another's object names is held by that other, so the counted lead to it
  named_there : (n : ObjName) (y : Thing) (r : Row) → n.owner ≢ a → ReachesThrough all (WalkRoots a c) (Obj n) → all (Obj n) ≡ Some r → Names r y → owner_of y ≡ a → Kept y
  named_there n y r out walks is nm o =
      let left = reached_left all s bal inv.sound inv.bare a c ls at walks in
      let q = inv.sound n.owner left.seat.cell left.seat.mail left.present in
      let own = has_own_row n.owner left.seat.cell.holdings n refl left.kept in
      let same : own.0 ≡ r = let z = q.mine n own.0 own.1 in cc in
      let holds = by_known left.seat.cell (q.named y (by_row n own.0 own.1 (subst (λ r. Names r y) (sym same) nm))).0 in
      let below = held_below y s n.owner left.seat.cell left.seat.mail left.present in
      backed_kept all ps s inv a c ls at idle y o (held_backed all s bal inv.sound inv.bare y a c ls at o (omega arith) 0)
    where
      by_known : (e : Cell) → IsKnown n.owner e.holdings y → 0 < held_in e.holdings y
      by_known e (inl own) = absurd (out (sym own.0 ∙ o))
      by_known e (inr other) = other.1

  by_row_on : (x y : Thing) (r : Row) → Along x → thing_row (row_by_roots a c) x ≡ Some r → Names r y → Along y
  by_row_on (Actor i) y r p e nm = cc
  by_row_on (Obj n) y r p e nm = ⊎_elim
      (λ o.
      let m = ⊎_elim (λ m. m) (λ self. absurd (not_actor n self)) (p.own o) in
      from_marked y (marked_own a c (along_row (thing_row (own_row_of a c.holdings)) m (sym (by_own a c n o) ∙ e) nm)))
      (λ o.
      let is = rows_sound all a c ls here (Obj n) r e in
      let stay : row_by_roots a d n ≡ Some r = by_brought a d n o ∙ known_after (Obj n) ∙ ap (λ b. cond b (m.get c.known (Obj n)) None) (use_whole a c (Obj n) p.used) ∙ sym (by_brought a c n o) ∙ e in
      record {
        walks = along_row all p.walks is nm;
        used = along_row (thing_row (row_by_roots a c)) p.used e nm;
        own = named_there n y r o p.walks is nm;
        after = along_row (thing_row (row_by_roots a d)) p.after stay nm;
      })
      (cases_eq n.owner a)

  still_reached : {x : Thing} → MarkedReach a c c x → MarkedReach a c d x
  still_reached h = (reach_into (thing_row (row_by_roots a c)) Along from_marked by_row_on up h).after

  row_before : (x : Thing) (r : Row) → thing_row (row_by_roots a d) x ≡ Some r → thing_row (row_by_roots a c) x ≡ Some r
  row_before (Actor i) r e = cc
  row_before (Obj n) r e = ⊎_elim
      (λ o. by_own a c n o ∙ (own_row-stayed (is_marked_by_roots a c) a c.holdings n r (sym (by_own a d n o) ∙ e)).0)
      (λ o. by_brought a c n o ∙ ((stays (Obj n) r).0 (sym (by_brought a d n o) ∙ e)).0)
      (cases_eq n.owner a)

  was_reached : {x : Thing} → MarkedReach a c d x → MarkedReach a c c x
  was_reached h = reach_into (thing_row (row_by_roots a d)) (MarkedReach a c c) (λ x m. root m) (λ x y r p e n. along_row (thing_row (row_by_roots a c)) p (row_before x r e) n) (λ n p. owned p) h

  pub keeps_reached : (t : State) → t.actors ≡ after_collect (is_marked_by_roots a c) a (without_unused options.Roots a c) ls s → (before : State) → before.actors ≡ s → KeepsWhatMarkedReach before t a
  keeps_reached t is before was = record {
    before = c;
    had = ap (λ actors. cell_at actors a) was ∙ ap cell_of at;
    after = d;
    has = ap (λ actors. cell_at actors a) is ∙ (adds_decs (by_owner (given_back (is_marked_by_roots a c) c.holdings)) (set s a (seat d ls)) a).cell
        ∙ ap cell_of (at_same s a (seat c ls) (seat d ls) (present_below s a _ at) at a refl);
    stays = stays;
    same = λ x. (still_reached, was_reached);
  }

-- ---- the event

module _ (p : PlainState) (s : State) (facts : Facts options.Roots p s) where
  rows_stay : {a : ℕ} {t : State} → IsStep options.Roots s (Collect a) t → KeepsWhatMarkedReach s t a
  rows_stay {t = t} (rule.collects a c mail at may) =
      keeps_reached (thing_row (plain_row p.actors)) (people_of p.actors) s.actors facts.counts a c mail at (collector c mail may).0 t refl s refl

pub known_rows_stay : KnownRowsStayWhereMarkedReach
known_rows_stay p s t a facts goes = rows_stay p s facts (step_here options.Roots p s facts t (Collect a) goes)
