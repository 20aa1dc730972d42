-- A turn makes rows at the next serials, and who knows all that it reaches still does, with the rows.
use Rattle.std.proofs.Common.{◌≡◌, ◌⊎◌, ℕ, ◌+◌, ◌<◌, ◌≤◌, Bool, true, Option, Some, None, is_some, List, [], length, get_or, refl, sym, ◌∙◌, ap, ap₂, arith, subst, inl, inr, ⊎_elim, eq-eqb, ne_eqb}
use Rattle.std.proofs.lemmas.Bool.{cases_lt}
use Rattle.std.specs.FinMap as m
use Rattle.orca_names.specs.Names.{owner_of}
use Rattle.orca_names.specs.declared.names.ObjName.{ObjName}
use Rattle.orca_names.specs.declared.names.Thing.{Thing}
use Rattle.orca_names.specs.declared.names.Thing.TheVariants.{Actor, Obj}
use Rattle.orca_names.specs.declared.row.Fields.{Fields}
use Rattle.turn_rules.specs.declared.act.Frame.{Frame}
use Rattle.reach_walk.specs.Reach.{root, owned}
use Rattle.letter_kinds.proofs.Counts.{has_actor}
use Rattle.letter_kinds.specs.Holdings.{Row, Holdings, own_in, held_in, has_own, row_of, row_count, add_rows}
use Rattle.count_laws.proofs.knowledge.Paths.{along_row, reach_into}
use Rattle.count_laws.proofs.knowledge.Receiving.{own_row, NoActorRows}
use Rattle.machine_rules.specs.Cell.{Cell}
use Rattle.count_laws.specs.Known.{Names, ReachesThrough, row_at, IsKnown, InFrame, StartsWalks, in_fields, in_frame, in_table, IsClosedAt, RowsAreAt}
pub use Rattle.letter_kinds.proofs.MadeRows.{add_rows-below, add_rows-made, add_rows-past, cases_serial}

-- rows made from a serial on
abbrev pub made_from : ℕ → List Row → Holdings → Holdings
made_from base made h = record h { rows = add_rows base made h.rows; next = base + length made }

-- an object made there
abbrev pub MadeIn : ℕ → ℕ → ℕ → Thing → Type 0
MadeIn me base count x = (i : ℕ) × (i < count) × (x ≡ Obj (record { owner = me; serial = base + i }))

abbrev pub Made : ℕ → ℕ → List Row → Thing → Type 0
Made me base made x = MadeIn me base (length made) x

-- ---- the rows made

module _ (me base : ℕ) (made : List Row) (c : Holdings) (fresh : (k : ℕ) → base ≤ k → m.get c.rows k ≡ None) where
  pub own-made : (x : Thing) → own_in (made_from base made c) x ≡ own_in c x
  unfolding own_in
  own-made (Actor a) = refl
  own-made (Obj n) = ⊎_elim
      (λ below. ap row_count (add_rows-below base made c.rows n.serial below))
      (λ p. ⊎_elim
      (λ at. ap row_count (add_rows-made base made c.rows at.0 n.serial at.1 at.2) ∙ sym (ap row_count (fresh n.serial (let e = at.2 in omega arith))))
      (λ past. ap row_count (add_rows-past base made c.rows n.serial past))
      p)
      (cases_serial base (length made) n.serial)

  pub held-made : (x : Thing) → held_in (made_from base made c) x ≡ held_in c x
  unfolding held_in
  held-made x = refl

  pub old_below : (n : ObjName) → has_own c (Obj n) ≡ true → n.serial < base
  unfolding has_own
  old_below n h = ⊎_elim (λ l. l) (λ g. let f = fresh n.serial g in cc) (cases_lt n.serial base)

  pub has-made_old : (x : Thing) → has_own c x ≡ true → has_own (made_from base made c) x ≡ true
  unfolding has_own
  has-made_old (Actor a) h = refl
  has-made_old (Obj n) h = ap is_some (add_rows-below base made c.rows n.serial (old_below n h)) ∙ h

  pub has-made_new : (i : ℕ) (n : ObjName) → i < length made → n.serial ≡ base + i → has_own (made_from base made c) (Obj n) ≡ true
  unfolding has_own
  has-made_new i n h e = ap is_some (add_rows-made base made c.rows i n.serial h e)

  pub row-made_new : (i : ℕ) (n : ObjName) → i < length made → n.owner ≡ me → n.serial ≡ base + i → row_at me (made_from base made c) (Obj n) ≡ Some (get_or made i [])
  unfolding row_of
  row-made_new i n h o e = rw (eq-eqb n.owner me o) (ap own_row (add_rows-made base made c.rows i n.serial h e))

  pub row-made_old : (x : Thing) → IsKnown me c x → row_at me (made_from base made c) x ≡ row_at me c x
  unfolding row_of
  row-made_old (Actor a) k = refl
  row-made_old (Obj n) (inl own) = rw (eq-eqb n.owner me own.0) (ap own_row (add_rows-below base made c.rows n.serial (old_below n own.1)))
  row-made_old (Obj n) (inr other) = rw (ne_eqb n.owner me other.0) refl

  pub has-made_back : (x : Thing) → owner_of x ≡ me → has_own (made_from base made c) x ≡ true → IsKnown me c x ⊎ Made me base made x
  unfolding has_own
  has-made_back (Actor a) o h = inl (inl (o, refl))
  has-made_back (Obj n) o h = ⊎_elim
      (λ below. inl (inl (o, sym (ap is_some (add_rows-below base made c.rows n.serial below)) ∙ h)))
      (λ p. ⊎_elim
      (λ at. inr (at.0, at.1, ap₂ (λ b k. Obj (record { owner = b; serial = k })) o at.2))
      (λ past. inl (inl (o, sym (ap is_some (add_rows-past base made c.rows n.serial past)) ∙ h)))
      p)
      (cases_serial base (length made) n.serial)

-- ---- a turn names nothing but what it could reach, the actor itself, and what it made

abbrev pub Source : (Thing → Option Row) → ℕ → Cell → ℕ → List Row → Thing → Type 0
Source all me c base made x = ReachesThrough all (StartsWalks c) x ⊎ ((x ≡ Actor me) ⊎ Made me base made x)

module _ (all all' : Thing → Option Row) (none : NoActorRows all') (me base : ℕ) (made : List Row) (c : Cell)
    (fresh : (k : ℕ) → base ≤ k → m.get c.holdings.rows k ≡ None)
    (news : (i : ℕ) → i < length made → all' (Obj (record { owner = me; serial = base + i })) ≡ Some (get_or made i []))
    (only : (x : Thing) → (all' x ≡ all x) ⊎ Made me base made x)
    (fields : Fields) (frame : Option Frame) (dirty : Bool)
    (seg_fields : (x : Thing) → Names fields.values x → Source all me c base made x)
    (seg_frame : (x : Thing) → InFrame frame x → Source all me c base made x)
    (seg_made : (i : ℕ) (x : Thing) → i < length made → Names (get_or made i []) x → Source all me c base made x)
    (closed : IsClosedAt all me c) (rows : RowsAreAt all me c.holdings) where
  abbrev after : Cell
  after = record c { fields = fields; frame = frame; dirty = dirty; holdings = made_from base made c.holdings }

  -- a thing that was known is none of those made
  pub known_not_made : (x : Thing) → IsKnown me c.holdings x → ¬ Made me base made x
  known_not_made x k (i, h, e) = known_not i h (subst (IsKnown me c.holdings) e k)
    where
      known_not : (i : ℕ) → i < length made → ¬ IsKnown me c.holdings (Obj (record { owner = me; serial = base + i }))
      known_not i h (inl own) = let b = old_below me base made c.holdings fresh (record { owner = me; serial = base + i }) own.1 in absurd (omega arith)
      known_not i h (inr other) = other.0 refl

  from_root : (x : Thing) → StartsWalks after x → Source all me c base made x
  from_root x (in_fields h) = seg_fields x h
  from_root x (in_frame h) = seg_frame x h
  from_root x (in_table h) = inl (root (in_table (subst (λ n. 0 < n) (held-made me base made c.holdings fresh x) h)))

  pub along : (x y : Thing) (r : Row) → Source all me c base made x → all' x ≡ Some r → Names r y → Source all me c base made y
  along x y r (inl old) e n = ⊎_elim
      (λ same. inl (along_row all old (sym same ∙ e) n))
      (λ new. absurd (known_not_made x (closed x old) new))
      (only x)
  along x y r (inr (inl self)) e n = let z = none me in cc
  along x y r (inr (inr new)) e n = seg_made new.0 y new.1 (subst (λ r. Names r y) (row_is new) n)
    where
      row_is : (new : Made me base made x) → r ≡ get_or made new.0 []
      row_is new = let z = news new.0 new.1 in let q = new.2 in cc

  pub up : (n : ObjName) → Source all me c base made (Obj n) → Source all me c base made (Actor n.owner)
  up n (inl old) = inl (owned old)
  up n (inr (inl self)) = cc
  up n (inr (inr new)) = inr (inl (let q = new.2 in cc))

  pub reached_from : (x : Thing) → ReachesThrough all' (StartsWalks after) x → Source all me c base made x
  reached_from x h = reach_into all' (Source all me c base made) from_root along up h

  pub known_source : (x : Thing) → Source all me c base made x → IsKnown me after.holdings x
  known_source x (inl old) = known_old (closed x old)
    where
      known_old : IsKnown me c.holdings x → IsKnown me after.holdings x
      known_old (inl own) = inl (own.0, has-made_old me base made c.holdings fresh x own.1)
      known_old (inr other) = inr (other.0, subst (λ n. 0 < n) (sym (held-made me base made c.holdings fresh x)) other.1)
  known_source x (inr (inl self)) = inl (ap owner_of self, subst (λ x. has_own after.holdings x ≡ true) (sym self) (has_actor after.holdings me))
  known_source x (inr (inr new)) = inl (
    ap owner_of new.2,
    subst (λ x. has_own after.holdings x ≡ true) (sym new.2) (has-made_new me base made c.holdings fresh new.0 (record { owner = me; serial = base + new.0 }) new.1 refl),
  )

  pub seg_closed : IsClosedAt all' me after
  seg_closed x h = known_source x (reached_from x h)

  -- what is known afterwards was known, or was made
  pub known_back : (x : Thing) → IsKnown me after.holdings x → IsKnown me c.holdings x ⊎ Made me base made x
  known_back x (inl own) = has-made_back me base made c.holdings fresh x own.0 own.1
  known_back x (inr other) = inl (inr (other.0, subst (λ n. 0 < n) (held-made me base made c.holdings fresh x) other.1))

  pub seg_rows : RowsAreAt all' me after.holdings
  seg_rows x k = ⊎_elim
      (λ old. row-made_old me base made c.holdings fresh x old ∙ rows x old ∙ sym (⊎_elim (λ same. same) (λ new. absurd (known_not_made x old new)) (only x)))
      (λ new. subst (λ x. row_at me after.holdings x ≡ all' x) (sym new.2)
      (row-made_new me base made c.holdings fresh new.0 (record { owner = me; serial = base + new.0 }) new.1 refl refl ∙ sym (news new.0 new.1)))
      (known_back x k)
