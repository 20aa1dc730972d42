-- Values that name only what is known: reading and writing them keeps that.
use Rattle.std.proofs.Common.{◌≡◌, ℕ, zero, suc, inl, inr, List, [], ◌∷◌, ◌++◌, map, Contains, Option, None, Some, subst, sym, refl}
use Rattle.std.specs.List.{AllByRecursion}
use Rattle.std.specs.Prelude.{IfSome, slice_get, slice_index_or, slice_set, unwrap_or}
use Rattle.std.specs.Option.{option_map_or}
use Rattle.orca_names.specs.declared.names.Thing.{Thing}
use Rattle.orca_names.specs.declared.names.Value.{Value}
use Rattle.orca_names.specs.declared.names.Value.TheVariants.{Null, Num, Actor, Obj}
use Rattle.reach_walk.specs.Reach.{thing_of, named_by}
use Rattle.reach_walk.proofs.Elements.{Contains-head, Contains-later, Contains-cons_cases, none_in_nil}
use Rattle.turn_rules.specs.Segment.{Turn, value_at}

-- the thing that the value names, if it names one, is known
abbrev pub KnowsValue : (Thing → Type 0) → Value → Type 0
KnowsValue K v = IfSome (thing_of v) K

abbrev pub Knows : (Thing → Type 0) → List Value → Type 0
Knows K values = AllByRecursion (KnowsValue K) values

abbrev pub KnowsRow : (Thing → Type 0) → Option (List Value) → Type 0
KnowsRow K row = IfSome row (Knows K)

pub record KnowsTurn (K : Thing → Type 0) (t : Turn) : Type 0 where
  pub registers : Knows K t.registers
  pub fields : Knows K t.fields.values
  pub made : AllByRecursion (Knows K) t.made

-- one value more names a thing more, or none
named_first : (v : Value) (vs : List Value) (x : Thing) → thing_of v ≡ Some x → Contains (named_by (v ∷ vs)) x
named_first Null vs x e = cc
named_first (Num n) vs x e = cc
named_first (Actor a) vs x e = let same : _ ≡ x = cc in subst (λ y. Contains (y ∷ named_by vs) x) (sym same) (Contains-head x (named_by vs))
named_first (Obj n) vs x e = let same : _ ≡ x = cc in subst (λ y. Contains (y ∷ named_by vs) x) (sym same) (Contains-head x (named_by vs))

named_later : (v : Value) (vs : List Value) (x : Thing) → Contains (named_by vs) x → Contains (named_by (v ∷ vs)) x
named_later Null vs x c = c
named_later (Num n) vs x c = c
named_later (Actor a) vs x c = Contains-later _ (named_by vs) x c
named_later (Obj n) vs x c = Contains-later _ (named_by vs) x c

module _ (K : Thing → Type 0) where
  -- from what is said of the things that values name, and back
  value_from : (v : Value) → ((x : Thing) → thing_of v ≡ Some x → K x) → KnowsValue K v
  value_from Null h = tt
  value_from (Num n) h = tt
  value_from (Actor a) h = h _ refl
  value_from (Obj n) h = h _ refl

  pub Knows-from_named : (vs : List Value) → ((x : Thing) → Contains (named_by vs) x → K x) → Knows K vs
  Knows-from_named [] h = tt
  Knows-from_named (v ∷ vs) h = (value_from v (λ x e. h x (named_first v vs x e)), Knows-from_named vs (λ x c. h x (named_later v vs x c)))

  first_or_later : (y : Thing) (vs : List Value) (x : Thing) → K y → ((z : Thing) → Contains (named_by vs) z → K z) → Contains (y ∷ named_by vs) x → K x
  first_or_later y vs x k h c = elim (Contains-cons_cases y (named_by vs) x c) as (λ _. K x) [ inl e ↦ subst K e k | inr d ↦ h x d ]

  pub named_is_known : (vs : List Value) → Knows K vs → (x : Thing) → Contains (named_by vs) x → K x
  named_is_known [] h x c = none_in_nil x (K x) c
  named_is_known (Null ∷ vs) h x c = named_is_known vs h.1 x c
  named_is_known (Num n ∷ vs) h x c = named_is_known vs h.1 x c
  named_is_known (Actor a ∷ vs) h x c = first_or_later _ vs x h.0 (named_is_known vs h.1) c
  named_is_known (Obj n ∷ vs) h x c = first_or_later _ vs x h.0 (named_is_known vs h.1) c

  pub row_is_known : (rows : List (List Value)) → AllByRecursion (Knows K) rows → (row : List Value) → Contains rows row → Knows K row
  row_is_known [] h row c = none_in_nil row (Knows K row) c
  row_is_known (r ∷ rows) h row c = elim (Contains-cons_cases r rows row c) as (λ _. Knows K row) [ inl e ↦ subst (Knows K) e h.0 | inr d ↦ row_is_known rows h.1 row d ]

  -- ---- reading

  pub Knows-at : (vs : List Value) (i : ℕ) → Knows K vs → KnowsValue K (slice_index_or vs i Null)
  Knows-at [] i h = tt
  Knows-at (v ∷ vs) zero h = h.0
  Knows-at (v ∷ vs) (suc i) h = Knows-at vs i h.1

  pub Knows-map : (t : Turn) → Knows K t.registers → (numbers : List ℕ) → Knows K (map (value_at t) numbers)
  Knows-map t h [] = tt
  Knows-map t h (r ∷ numbers) = (Knows-at t.registers r h, Knows-map t h numbers)

  pub KnowsRow-get : (rows : List (List Value)) (i : ℕ) → AllByRecursion (Knows K) rows → KnowsRow K (slice_get rows i)
  KnowsRow-get [] i h = tt
  KnowsRow-get (r ∷ rows) zero h = h.0
  KnowsRow-get (r ∷ rows) (suc i) h = KnowsRow-get rows i h.1

  pub KnowsRow-from : (row : Option (List Value)) → Knows K (unwrap_or row []) → KnowsRow K row
  KnowsRow-from None h = tt
  KnowsRow-from (Some row) h = h

  pub KnowsValue-in_row : (row : Option (List Value)) (i : ℕ) → KnowsRow K row → KnowsValue K (option_map_or (λ r. slice_index_or r i Null) row Null)
  KnowsValue-in_row None i h = tt
  KnowsValue-in_row (Some row) i h = Knows-at row i h

  -- ---- writing

  pub Knows-set : (vs : List Value) (i : ℕ) (v : Value) → Knows K vs → KnowsValue K v → Knows K (slice_set vs i v)
  Knows-set [] i v h k = tt
  Knows-set (x ∷ vs) zero v h k = (k, h.1)
  Knows-set (x ∷ vs) (suc i) v h k = (h.0, Knows-set vs i v h.1 k)

  pub AllByRecursion-push : (rows : List (List Value)) (row : List Value) → AllByRecursion (Knows K) rows → Knows K row → AllByRecursion (Knows K) (rows ++ row ∷ [])
  AllByRecursion-push [] row h k = (k, tt)
  AllByRecursion-push (r ∷ rows) row h k = (h.0, AllByRecursion-push rows row h.1 k)

-- what knows more
module _ (K L : Thing → Type 0) (more : (x : Thing) → K x → L x) where
  value_more : (v : Value) → KnowsValue K v → KnowsValue L v
  value_more Null h = tt
  value_more (Num n) h = tt
  value_more (Actor a) h = more _ h
  value_more (Obj n) h = more _ h

  pub Knows-more : (vs : List Value) → Knows K vs → Knows L vs
  Knows-more [] h = tt
  Knows-more (v ∷ vs) h = (value_more v h.0, Knows-more vs h.1)

  pub rows_more : (rows : List (List Value)) → AllByRecursion (Knows K) rows → AllByRecursion (Knows L) rows
  rows_more [] h = tt
  rows_more (r ∷ rows) h = (Knows-more r h.0, rows_more rows h.1)

  pub KnowsTurn-more : (t : Turn) → KnowsTurn K t → KnowsTurn L t
  KnowsTurn-more t h = record { registers = Knows-more t.registers h.registers; fields = Knows-more t.fields.values h.fields; made = rows_more t.made h.made }
