-- Increments, decrements and mints, one thing at a time.
use Rattle.std.proofs.Common.{◌≡◌, ◌≢◌, ℕ, ◌+◌, ◌-◌, ◌<◌, ◌≤◌, ◌==◌, true, false, cond, List, [], ◌∷◌, refl, sym, ap, ◌∙◌, subst}
use Rattle.std.specs.FinMap as m
use Rattle.orca_names.specs.Names.{owner_of}
use Rattle.orca_names.specs.declared.names.ObjName.{ObjName}
use Rattle.orca_names.specs.declared.names.Thing.{Thing}
use Rattle.orca_names.specs.declared.names.Thing.TheVariants.{Actor, Obj}
use Rattle.letter_kinds.specs.Counting.{Amount, lower, lower_all, mint_all, mint_one, raise, raise_all, set_held, set_own}
use Rattle.letter_kinds.specs.Holdings.{Entries, Holdings, held_in, own_in, row_count}
use Rattle.letter_kinds.proofs.Counts.{cond_eq, cond_ne}
use Rattle.object_heap.specs.Heap.{Heap}
use Rattle.foreign_table.specs.Table.{Table}
use Rattle.ref_weights.specs.Limit.{count_limit}
use Rattle.known_rows.specs.Holdings.{holdings_of}
use Rattle.trace_send.specs.Can.{CanLower, CanMint, CanRaise}
use Rattle.trace_send.proofs.Steps.{own-actor, own-object}

module _ (me : ℕ) (e : Amount) (h : Holdings) where
  pub raise_own : owner_of e.0 ≡ me → raise e.1 e.0 h ≡ raise_all me (e ∷ []) h
  unfolding raise_all
  raise_own same = sym (cond_eq (owner_of e.0) me (raise e.1 e.0 h) h same)

  pub raise_other : owner_of e.0 ≢ me → h ≡ raise_all me (e ∷ []) h
  unfolding raise_all
  raise_other other = sym (cond_ne (owner_of e.0) me (raise e.1 e.0 h) h other)

  pub raise_all-cons : (things : List Amount) → raise_all me (e ∷ things) h ≡ raise_all me things (raise_all me (e ∷ []) h)
  unfolding raise_all
  raise_all-cons things = refl

  pub lower_own : owner_of e.0 ≡ me → lower e.1 e.0 h ≡ lower_all me (e ∷ []) h
  unfolding lower_all
  lower_own same = sym (cond_eq (owner_of e.0) me (lower e.1 e.0 h) h same)

  pub lower_other : owner_of e.0 ≢ me → h ≡ lower_all me (e ∷ []) h
  unfolding lower_all
  lower_other other = sym (cond_ne (owner_of e.0) me (lower e.1 e.0 h) h other)

  pub lower_all-cons : (things : List Amount) → lower_all me (e ∷ things) h ≡ lower_all me things (lower_all me (e ∷ []) h)
  unfolding lower_all
  lower_all-cons things = refl

pub raise_all-nil : (me : ℕ) (h : Holdings) → raise_all me [] h ≡ h
unfolding raise_all
raise_all-nil me h = refl

pub lower_all-nil : (me : ℕ) (h : Holdings) → lower_all me [] h ≡ h
unfolding lower_all
lower_all-nil me h = refl

pub mint_all-nil : (h : Holdings) → mint_all [] h ≡ h
unfolding mint_all
mint_all-nil h = refl

pub mint_all-cons : (e : Amount) (things : List Amount) (h : Holdings) → mint_all (e ∷ things) h ≡ mint_all things (mint_one e h)
unfolding mint_all
mint_all-cons e things h = refl

-- ---- what is asked of a thing of one's own

module _ (count : ℕ) (heap : Heap) (foreign : Table) where
  pub own_at_actor : (x : Thing) (a : ℕ) → x ≡ Actor a → own_in (holdings_of count heap foreign) x ≡ count
  own_at_actor x a is = ap (own_in (holdings_of count heap foreign)) is ∙ own-actor count heap foreign a

  pub own_at_object : (x : Thing) (n : ObjName) → x ≡ Obj n → own_in (holdings_of count heap foreign) x ≡ row_count (m.get heap.rows n.serial)
  own_at_object x n is = ap (own_in (holdings_of count heap foreign)) is ∙ own-object count heap foreign n

-- nothing held, and nothing owned
pub no_table : Table
no_table = record { spare = 0; spare_values = 0; entries = m.empty; blocks = m.empty }

pub no_heap : Heap
no_heap = record { owner = 0; next = 0; spare = 0; rows = m.empty; blocks = m.empty }

-- ---- own counts change alike, whatever is held of others

module _ (t : Entries) where
  abbrev pub holding : Holdings → Holdings
  holding h = record h { foreign = t }

  own_same : (x : Thing) (h : Holdings) → own_in (holding h) x ≡ own_in h x
  unfolding own_in
  own_same (Actor a) h = refl
  own_same (Obj n) h = refl

  set_same : (f : ℕ → ℕ) (x : Thing) (h : Holdings) → set_own f x (holding h) ≡ holding (set_own f x h)
  unfolding set_own
  set_same f (Actor a) h = refl
  set_same f (Obj n) h = refl

  raised_same : (me : ℕ) (e : Amount) (h : Holdings) → raise_all me (e ∷ []) (holding h) ≡ holding (raise_all me (e ∷ []) h)
  unfolding raise_all
  raised_same me e h = elim (owner_of e.0 == me) as (λ b. cond b (raise e.1 e.0 (holding h)) (holding h) ≡ holding (cond b (raise e.1 e.0 h) h)) [
    | true ↦ set_same (λ count. count + e.1) e.0 h
    | false ↦ refl
  ]

  lowered_same : (me : ℕ) (e : Amount) (h : Holdings) → lower_all me (e ∷ []) (holding h) ≡ holding (lower_all me (e ∷ []) h)
  unfolding lower_all
  lowered_same me e h = elim (owner_of e.0 == me) as (λ b. cond b (lower e.1 e.0 (holding h)) (holding h) ≡ holding (cond b (lower e.1 e.0 h) h)) [
    | true ↦ set_same (λ count. count - e.1) e.0 h
    | false ↦ refl
  ]

  pub can_raise_with : (me : ℕ) (things : List Amount) (h : Holdings) → CanRaise me things h → CanRaise me things (holding h)
  can_raise_with me [] h can = tt
  can_raise_with me (e ∷ things) h can = (
    λ same. subst (λ n. n + e.1 < count_limit) (sym (own_same e.0 h)) (can.0 same),
    subst (CanRaise me things) (sym (raised_same me e h)) (can_raise_with me things (raise_all me (e ∷ []) h) can.1),
  )

  pub can_lower_with : (me : ℕ) (things : List Amount) (h : Holdings) → CanLower me things h → CanLower me things (holding h)
  can_lower_with me [] h can = tt
  can_lower_with me (e ∷ things) h can = (
    λ same. subst (λ n. e.1 ≤ n) (sym (own_same e.0 h)) (can.0 same),
    subst (CanLower me things) (sym (lowered_same me e h)) (can_lower_with me things (lower_all me (e ∷ []) h) can.1),
  )

-- ---- what is held changes alike, whatever is one's own

held_same : (h k : Holdings) → h.foreign ≡ k.foreign → (x : Thing) → held_in h x ≡ held_in k x
unfolding held_in
held_same h k same x = ap (λ es. held_in (record k { foreign = es }) x) same

minted_same : (e : Amount) (h k : Holdings) → h.foreign ≡ k.foreign → (mint_one e h).foreign ≡ (mint_one e k).foreign
unfolding set_held held_in
minted_same e h k same = ap (λ es. (mint_one e (record k { foreign = es })).foreign) same

pub can_mint_with : (things : List Amount) (h k : Holdings) → h.foreign ≡ k.foreign → CanMint things h → CanMint things k
can_mint_with [] h k same can = tt
can_mint_with (e ∷ things) h k same can = (
  subst (λ n. n + e.1 < count_limit) (held_same h k same e.0) can.0,
  can_mint_with things (mint_one e h) (mint_one e k) (minted_same e h k same) can.1,
)
