-- Receiving a load changes no row that is known, and who knows all that it reaches still does.
use Rattle.std.proofs.Common.{◌≡◌, ◌≢◌, ◌⊎◌, ℕ, zero, suc, ◌+◌, ◌-◌, ◌<◌, ◌==◌, cond, true, false, Option, Some, None, List, [], ◌∷◌, refl, sym, ◌∙◌, ap, arith, subst, inl, inr, ⊎_elim, eq-eqb, ne_eqb}
use Rattle.std.proofs.lemmas.Bool.{cases_eq}
use Rattle.std.proofs.lemmas.Cmp.{nat_cmp_total}
use Rattle.std.specs.Ordering.{nat_cmp}
use Rattle.std.specs.Cmp.{unsigned_tied}
use Rattle.std.specs.FinMap as m
use Rattle.orca_names.proofs.ThingOrder.{cases_thing, thing_total, is_self, is_ne_false}
use Rattle.orca_names.specs.Names.{owner_of, thing_cmp}
use Rattle.orca_names.specs.declared.names.ObjName.{ObjName}
use Rattle.orca_names.specs.declared.names.Thing.{Thing}
use Rattle.orca_names.specs.declared.names.Thing.TheVariants.{Actor, Obj}
use Rattle.orca_names.specs.declared.names.Value.{Value}
use Rattle.turn_rules.specs.declared.act.Frame.{Frame}
use Rattle.reach_walk.specs.Reach.{root, owned}
use Rattle.letter_kinds.proofs.Counts.{cond_eq, cond_ne, held_set_own, held_set_other, has_set_own, has_set_held, held-receive, held-receive_own}
use Rattle.letter_kinds.specs.Counting.{Loaded, with_row_count, set_own, lower, set_held, gain, receive_one, receive}
use Rattle.letter_kinds.specs.Holdings.{Row, Holdings, held_in, has_own, row_of, entry_row}
use Rattle.letter_kinds.specs.Sums.{times_loaded}
use Rattle.count_laws.proofs.knowledge.Paths.{along_row, reach_into}
use Rattle.machine_rules.specs.Cell.{Cell}
use Rattle.count_laws.specs.Known.{Names, ReachesThrough, row_at, IsKnown, InFrame, StartsWalks, in_fields, in_frame, in_table, IsClosedAt, RowsAreAt, RowsAreIn, IsLoadOf}
pub use Rattle.letter_kinds.proofs.Known.{own_row}

-- ---- rows through changes of counts

row_with : (rows : m.FinMap nat_cmp (Row × ℕ)) (j : ℕ) (f : ℕ → ℕ) (o : Option (Row × ℕ)) (k : ℕ) → m.get rows j ≡ o → own_row (m.get (with_row_count rows j f o) k) ≡ own_row (m.get rows k)
row_with rows j f None k e = refl
row_with rows j f (Some r) k e = rw (m.get-insert nat_cmp_total, unsigned_tied k j) (⊎_elim
    (λ same. rw (eq-eqb k j same) (rw (same, e) refl))
    (λ other. rw (ne_eqb k j other) refl)
    (cases_eq k j))

pub row_set_own : (me : ℕ) (f : ℕ → ℕ) (y x : Thing) (c : Holdings) → row_at me (set_own f y c) x ≡ row_at me c x
unfolding row_of set_own
row_set_own me f y (Actor a) c = refl
row_set_own me f (Actor d) (Obj n) c = refl
row_set_own me f (Obj q) (Obj n) c = ap (λ o. cond (n.owner == me) o (entry_row (m.get c.foreign (Obj n)))) (row_with c.rows q.serial f _ n.serial refl)

pub get_other : (es : m.FinMap thing_cmp (ℕ × Option Row)) (y x : Thing) (v : ℕ × Option Row) → x ≢ y → m.get (m.insert es y v) x ≡ m.get es x
get_other es y x v n = rw (m.get-insert thing_total) (rw (is_ne_false x y n) refl)

pub row_set_held_other : (me : ℕ) (f : ℕ → ℕ) (y : Thing) (r : Option Row) (x : Thing) (c : Holdings) → x ≢ y → row_at me (set_held f y r c) x ≡ row_at me c x
unfolding row_of set_held
row_set_held_other me f y r (Actor a) c n = refl
row_set_held_other me f y r (Obj q) c n = ap (λ o. cond (q.owner == me) (own_row (m.get c.rows q.serial)) (entry_row o)) (get_other c.foreign y (Obj q) (f (held_in c y), r) n)

pub row_set_held_own : (me : ℕ) (f : ℕ → ℕ) (y : Thing) (r : Option Row) (x : Thing) (c : Holdings) → owner_of x ≡ me → row_at me (set_held f y r c) x ≡ row_at me c x
unfolding row_of set_held
row_set_held_own me f y r (Actor a) c o = refl
row_set_held_own me f y r (Obj q) c o = rw (eq-eqb q.owner me o) refl

pub row_set_held_same : (me : ℕ) (f : ℕ → ℕ) (q : ObjName) (r : Option Row) (c : Holdings) → q.owner ≢ me → row_at me (set_held f (Obj q) r c) (Obj q) ≡ r
unfolding row_of set_held
row_set_held_same me f q r c o = rw (ne_eqb q.owner me o) (rw (m.get-insert thing_total) (rw (is_self (Obj q)) refl))

-- actors have no rows
abbrev pub NoActorRows : (Thing → Option Row) → Type 0
NoActorRows all = (a : ℕ) → all (Actor a) ≡ None

known_set_own : (me : ℕ) (f : ℕ → ℕ) (y x : Thing) (c : Holdings) → IsKnown me (set_own f y c) x → IsKnown me c x
known_set_own me f y x c (inl own) = inl (own.0, sym (has_set_own f x y c) ∙ own.1)
known_set_own me f y x c (inr other) = inr (other.0, subst (λ n. 0 < n) (held_set_own f x y c) other.1)

known_set_other : (me : ℕ) (f : ℕ → ℕ) (y : Thing) (r : Option Row) (x : Thing) (c : Holdings) → x ≢ y → IsKnown me (set_held f y r c) x → IsKnown me c x
known_set_other me f y r x c n (inl own) = inl (own.0, sym (has_set_held f x y r c) ∙ own.1)
known_set_other me f y r x c n (inr other) = inr (other.0, subst (λ n. 0 < n) (held_set_other f x y r c n) other.1)

module _ (all : Thing → Option Row) (none : NoActorRows all) (me : ℕ) where
  rows_set_own : (f : ℕ → ℕ) (y : Thing) (c : Holdings) → RowsAreAt all me c → RowsAreAt all me (set_own f y c)
  rows_set_own f y c rows x k = row_set_own me f y x c ∙ rows x (known_set_own me f y x c k)

  same_held : (f : ℕ → ℕ) (y : Thing) (r : Option Row) (c : Holdings) → owner_of y ≢ me → r ≡ all y → row_at me (set_held f y r c) y ≡ all y
  same_held f (Actor a) r c o e = sym (none a)
  same_held f (Obj q) r c o e = row_set_held_same me f q r c o ∙ e

  rows_set_held : (f : ℕ → ℕ) (y : Thing) (r : Option Row) (c : Holdings) → owner_of y ≢ me → r ≡ all y → RowsAreAt all me c → RowsAreAt all me (set_held f y r c)
  rows_set_held f y r c o e rows x k = ⊎_elim
      (λ same. subst (λ x. row_at me (set_held f y r c) x ≡ all x) (sym same) (same_held f y r c o e))
      (λ other. row_set_held_other me f y r x c other ∙ rows x (known_set_other me f y r x c other k))
      (cases_thing x y)

  pub rows_received : (es : List Loaded) (c : Holdings) → RowsAreIn all es → RowsAreAt all me c → RowsAreAt all me (receive me es c)
  unfolding receive
  rows_received [] c ins rows = rows
  rows_received (e ∷ es) c ins rows = rows_received es (receive_one me e c) ins.1 (⊎_elim
      (λ same. rw (cond_eq (owner_of e.0) me (lower 1 e.0 c) (gain 1 e.0 e.1 c) same) (rows_set_own (λ h. h - 1) e.0 c rows))
      (λ other. rw (cond_ne (owner_of e.0) me (lower 1 e.0 c) (gain 1 e.0 e.1 c) other) (rows_set_held (λ h. h + 1) e.0 e.1 c other ins.0 rows))
      (cases_eq (owner_of e.0) me))

has_received_one : (me : ℕ) (x : Thing) (e : Loaded) (c : Holdings) → has_own (receive_one me e c) x ≡ has_own c x
has_received_one me x e c = ⊎_elim
    (λ same. rw (cond_eq (owner_of e.0) me (lower 1 e.0 c) (gain 1 e.0 e.1 c) same) (has_set_own (λ h. h - 1) x e.0 c))
    (λ other. rw (cond_ne (owner_of e.0) me (lower 1 e.0 c) (gain 1 e.0 e.1 c) other) (has_set_held (λ h. h + 1) x e.0 e.1 c))
    (cases_eq (owner_of e.0) me)

pub has-receive : (me : ℕ) (x : Thing) (es : List Loaded) (c : Holdings) → has_own (receive me es c) x ≡ has_own c x
unfolding receive
has-receive me x [] c = refl
has-receive me x (e ∷ es) c = has-receive me x es (receive_one me e c) ∙ has_received_one me x e c

-- ---- taking a letter keeps what the actor has closed

module _ (all : Thing → Option Row) (none : NoActorRows all) (me : ℕ) (c : Cell) (args : List Value) (load : List Loaded) (frame : Option Frame) (brought : m.FinMap thing_cmp Row)
    (starts : (x : Thing) → InFrame frame x → Names args x)
    (exact : IsLoadOf all args load)
    (mine : (x : Thing) → owner_of x ≡ me → 0 < times_loaded x load → has_own c.holdings x ≡ true)
    (closed : IsClosedAt all me c) (rows : RowsAreAt all me c.holdings) where
  abbrev after : Cell
  after = record c { frame = frame; holdings = receive me load c.holdings; known = brought; dirty = true; reported = false }

  held-after : (x : Thing) → 0 < held_in after.holdings x → (0 < held_in c.holdings x) ⊎ (0 < times_loaded x load)
  held-after x h = ⊎_elim
      (λ same. inl (subst (λ n. 0 < n) (held-receive_own me x load c.holdings same) h))
      (λ other. either (held_in c.holdings x) (times_loaded x load) (subst (λ n. 0 < n) (held-receive me x load c.holdings other) h))
      (cases_eq (owner_of x) me)
    where
      either : (m n : ℕ) → 0 < m + n → (0 < m) ⊎ (0 < n)
      either zero n h = inr (omega arith)
      either (suc m) n h = inl (omega arith)

  from_root : (x : Thing) → StartsWalks after x → ReachesThrough all (StartsWalks c) x ⊎ (0 < times_loaded x load)
  from_root x (in_fields h) = inl (root (in_fields h))
  from_root x (in_frame h) = inr (exact.whole x (root (starts x h)))
  from_root x (in_table h) = ⊎_elim (λ old. inl (root (in_table old))) (λ new. inr new) (held-after x h)

  either_reached : (x : Thing) → ReachesThrough all (StartsWalks after) x → ReachesThrough all (StartsWalks c) x ⊎ (0 < times_loaded x load)
  either_reached x h = reach_into all (λ x. ReachesThrough all (StartsWalks c) x ⊎ (0 < times_loaded x load)) from_root
      (λ x y r p e n. ⊎_elim (λ old. inl (along_row all old e n)) (λ new. inr (exact.whole y (along_row all (exact.reached x new) e n))) p)
      (λ q p. ⊎_elim (λ old. inl (owned old)) (λ new. inr (exact.whole (Actor q.owner) (owned (exact.reached (Obj q) new)))) p) h

  known_old : (x : Thing) → IsKnown me c.holdings x → IsKnown me after.holdings x
  known_old x (inl own) = inl (own.0, has-receive me x load c.holdings ∙ own.1)
  known_old x (inr other) = inr (other.0, let b = held-receive me x load c.holdings other.0 in let h = other.1 in omega arith)

  known_new : (x : Thing) → 0 < times_loaded x load → IsKnown me after.holdings x
  known_new x h = ⊎_elim
      (λ same. inl (same, has-receive me x load c.holdings ∙ mine x same h))
      (λ other. inr (other, let b = held-receive me x load c.holdings other in omega arith))
      (cases_eq (owner_of x) me)

  pub take_closed : IsClosedAt all me after
  take_closed x h = ⊎_elim (λ old. known_old x (closed x old)) (λ new. known_new x new) (either_reached x h)

  pub take_rows : RowsAreAt all me after.holdings
  take_rows x k = rows_received all none me load c.holdings exact.rows rows x k
