-- One thing of a load, in the tables.
use Rattle.std.proofs.Common.{◌≡◌, ◌≢◌, not, false, eq-eqb, ℕ, ◌+◌, ◌-◌, ◌<◌, ◌≤◌, eqb, true, Option, Some, None, IsSome, List, [], ◌∷◌, length, get_or, drop, refl, sym, ap, subst, ◌∙◌, arith}
use Rattle.std.specs.Prelude.{is_some}
use Rattle.std.specs.FinMap as m
use Rattle.std.proofs.lemmas.Bool.{eqb-true, not-false}
use Rattle.std.specs.List.{sum_by}
use Rattle.std.proofs.lemmas.List.{drop_more}
use Rattle.std.proofs.lemmas.List.Sums.{sum_by-cons}
use Rattle.orca_names.specs.Names.{owner_of}
use Rattle.orca_names.specs.declared.names.ObjName.{ObjName}
use Rattle.orca_names.specs.declared.names.Thing.{Thing}
use Rattle.orca_names.specs.declared.names.Thing.TheVariants.{Actor, Obj}
use Rattle.letter_kinds.specs.Counting.{Loaded, set_own, set_held, lower, raise, gain, spend, receive, receive_one, send, send_one}
use Rattle.letter_kinds.specs.Holdings.{Holdings, Row, own_in, held_in, has_own, row_count, entry_count, entry_row}
use Rattle.ref_weights.specs.Limit.{count_limit}
use Rattle.letter_kinds.specs.Load.{AreKnown}
use Rattle.orca_names.specs.declared.names.Value.{Value}
use Rattle.row_store.specs.Told.{Lying, lie_as, lies_as, row_here, told_block, told_row}
use Rattle.row_store.specs.declared.told.Told.{Told}
use Rattle.row_store.specs.declared.told.Told.TheVariants.{Nothing, Here, In}
use Rattle.letter_kinds.proofs.Loads.{long_load, seen_at}
use Rattle.letter_kinds.proofs.Counts.{cond_eq, cond_ne}
use Rattle.object_heap.specs.Heap.{Heap, Has, counted}
use Rattle.foreign_table.specs.Table.{Table, count_on, entered, length_aside, row_length}
use Rattle.foreign_table.specs.Table as tables
use Rattle.known_rows.specs.Holdings.{holdings_of}
use Rattle.trace_send.specs.Can.{CanSendOne}
use Rattle.trace_send.specs.Room.{values_of}

module _ (count : ℕ) (heap : Heap) (foreign : Table) where
  pub set-actor : (f : ℕ → ℕ) (a : ℕ) → set_own f (Actor a) (holdings_of count heap foreign) ≡ holdings_of (f count) heap foreign
  unfolding set_own
  set-actor f a = refl

  pub set-object : (f : ℕ → ℕ) (n : ObjName) → set_own f (Obj n) (holdings_of count heap foreign) ≡ holdings_of count (counted f n heap) foreign
  unfolding set_own
  set-object f n = refl

  pub set-held : (f : ℕ → ℕ) (x : Thing) (row : Option Row) (block : Option ℕ) → set_held f x row (holdings_of count heap foreign) ≡ holdings_of count heap (entered f x row block foreign)
  unfolding set_held held_in
  set-held f x row block = refl

  pub set-spent : (f : ℕ → ℕ) (x : Thing) → set_held f x (entry_row (m.get foreign.entries x)) (holdings_of count heap foreign) ≡ holdings_of count heap (tables.counted f x foreign)
  unfolding set_held held_in
  set-spent f x = refl

  pub own-actor : (a : ℕ) → own_in (holdings_of count heap foreign) (Actor a) ≡ count
  unfolding own_in
  own-actor a = refl

  pub own-object : (n : ObjName) → own_in (holdings_of count heap foreign) (Obj n) ≡ row_count (m.get heap.rows n.serial)
  unfolding own_in
  own-object n = refl

  pub held-is : (x : Thing) → held_in (holdings_of count heap foreign) x ≡ count_on foreign x
  unfolding held_in
  held-is x = refl

  pub has-object : (n : ObjName) → has_own (holdings_of count heap foreign) (Obj n) ≡ is_some (m.get heap.rows n.serial)
  unfolding has_own
  has-object n = refl

pub counted_some : (o : Option (Row × ℕ)) → 1 ≤ row_count o → IsSome o
counted_some None h = absurd (omega arith)
counted_some (Some e) h = refl

pub held_some : (o : Option (ℕ × Option Row)) → 1 ≤ entry_count o → IsSome o
held_some None h = absurd (omega arith)
held_some (Some e) h = refl

-- ---- one thing received

module _ (me count : ℕ) (heap : Heap) (foreign : Table) (e : Loaded) where
  pub receives_other : (block : Option ℕ) → owner_of e.0 ≢ me → holdings_of count heap (entered (λ n. n + 1) e.0 e.1 block foreign) ≡ receive_one me e (holdings_of count heap foreign)
  receives_other block other = sym (cond_ne (owner_of e.0) me (lower 1 e.0 (holdings_of count heap foreign)) (gain 1 e.0 e.1 (holdings_of count heap foreign)) other ∙ set-held count heap foreign (λ n. n + 1) e.0 e.1 block)

  pub receives_own : owner_of e.0 ≡ me → lower 1 e.0 (holdings_of count heap foreign) ≡ receive_one me e (holdings_of count heap foreign)
  receives_own same = sym (cond_eq (owner_of e.0) me (lower 1 e.0 (holdings_of count heap foreign)) (gain 1 e.0 e.1 (holdings_of count heap foreign)) same)

  pub sends_other : owner_of e.0 ≢ me → holdings_of count heap (tables.counted (λ n. n - 1) e.0 foreign) ≡ send_one me e (holdings_of count heap foreign)
  sends_other other = sym (cond_ne (owner_of e.0) me (raise 1 e.0 (holdings_of count heap foreign)) (spend 1 e.0 (holdings_of count heap foreign)) other ∙ set-spent count heap foreign (λ n. n - 1) e.0)

  pub sends_own : owner_of e.0 ≡ me → raise 1 e.0 (holdings_of count heap foreign) ≡ send_one me e (holdings_of count heap foreign)
  sends_own same = sym (cond_eq (owner_of e.0) me (raise 1 e.0 (holdings_of count heap foreign)) (spend 1 e.0 (holdings_of count heap foreign)) same)

-- ---- the rest of a load

pub receive-nil : (me : ℕ) (h : Holdings) → receive me [] h ≡ h
unfolding receive
receive-nil me h = refl

pub receive-cons : (me : ℕ) (e : Loaded) (load : List Loaded) (h : Holdings) → receive me (e ∷ load) h ≡ receive me load (receive_one me e h)
unfolding receive
receive-cons me e load h = refl

pub send-nil : (me : ℕ) (h : Holdings) → send me [] h ≡ h
unfolding send
send-nil me h = refl

pub send-cons : (me : ℕ) (e : Loaded) (load : List Loaded) (h : Holdings) → send me (e ∷ load) h ≡ send me load (send_one me e h)
unfolding send
send-cons me e load h = refl

pub rest_of : {A : Type 0} (load : List A) (i : ℕ) (e : A) → i < length load → e ≡ get_or load i e → drop i load ≡ e ∷ drop (i + 1) load
rest_of load i e l is = drop_more load i e l ∙ ap (λ f. f ∷ drop (i + 1) load) (sym is)

-- the values of what is left of a load are those of its first thing and of the others
pub values_rest : (load : List (Thing × Lying)) (i : ℕ) (e : Thing × Lying) → drop i load ≡ e ∷ drop (i + 1) load
    → values_of (drop i load) ≡ length_aside e.1.row e.1.block + values_of (drop (i + 1) load)
values_rest load i e rest = ap values_of rest ∙ sum_by-cons (λ (x : Thing × Lying). length_aside x.1.row x.1.block) e (drop (i + 1) load)

-- ---- rows at hand

-- those at hand lie aside
pub values_aside : (rows : ObjName → Option (List Value)) (x : Thing) (told : Told)
    → length_aside (told_row rows x told) (told_block told) ≡ row_length (row_here told)
values_aside rows x Nothing = refl
values_aside rows x (Here row) = refl
values_aside rows x (In block) = refl

-- so do those of a load
pub values_at_hand : (rows : ObjName → Option (List Value)) (items : List (Thing × Told))
    → sum_by (λ (e : Thing × Told). row_length (row_here e.1)) items ≡ values_of (lie_as rows items)
values_at_hand rows [] = refl
values_at_hand rows (e ∷ items) =
    sum_by-cons (λ (e : Thing × Told). row_length (row_here e.1)) e items
    ∙ (λ j. sym (values_aside rows e.0 e.1) j + values_at_hand rows items j)
    ∙ sym (sum_by-cons (λ (x : Thing × Lying). length_aside x.1.row x.1.block) (lies_as rows e) (lie_as rows items))

-- what its sender's counts allow is no matter of its row
pub can_send_bare : (me : ℕ) (e : Loaded) (h : Holdings) → CanSendOne me e h → CanSendOne me (e.0, None) h
can_send_bare me e h can = record { there = can.there; own = can.own; held = can.held }

-- a thing that is told at a place of a load's items
module _ (rows : ObjName → Option (List Value)) (items : List (Thing × Told)) (load : List (Thing × Lying)) (is : lie_as rows items ≡ load)
    (i : ℕ) (e : Thing × Told) (l : i < length items) (there : e ≡ get_or items i e) where
  pub within_load : i < length load
  within_load = let long = long_load rows items load is in omega arith

  -- the rest of the load begins with it
  pub seen_rest : drop i load ≡ lies_as rows e ∷ drop (i + 1) load
  seen_rest = rest_of load i (lies_as rows e) within_load (seen_at rows items load is i e l there)

  -- its row is known where it lies in a block
  pub seen_known : AreKnown load → IsSome (told_block e.1) → IsSome (told_row rows e.0 e.1)
  seen_known known =
      subst (λ (x : Thing × Lying). IsSome x.1.block → IsSome x.1.row) (sym (seen_at rows items load is i e l there)) (known i (lies_as rows e) within_load)

-- ---- tests on owners

pub apart : (a b : ℕ) → not (eqb a b) ≡ true → a ≢ b
apart a b e same = let f = eq-eqb a b same in cc

pub alike : (a b : ℕ) → not (eqb a b) ≡ false → a ≡ b
alike a b e = eqb-true a b (not-false (eqb a b) e)

-- ---- what is asked of each table

module _ (count : ℕ) (heap : Heap) (foreign : Table) where
  pub fits-held : (x : Thing) → held_in (holdings_of count heap foreign) x + 1 < count_limit → count_on foreign x + 1 < count_limit
  fits-held x h = let e = held-is count heap foreign x in omega arith

  pub enough-held : (x : Thing) → 1 ≤ held_in (holdings_of count heap foreign) x → 0 < count_on foreign x
  enough-held x h = let e = held-is count heap foreign x in omega arith

  pub there-held : (x : Thing) → 1 ≤ held_in (holdings_of count heap foreign) x → IsSome (m.get foreign.entries x)
  there-held x h = held_some (m.get foreign.entries x) (enough-held x h)

  pub enough-actor : (x : Thing) (a : ℕ) → x ≡ Actor a → 1 ≤ own_in (holdings_of count heap foreign) x → 1 ≤ count
  enough-actor x a is h = let e = own-actor count heap foreign a in let f = ap (own_in (holdings_of count heap foreign)) is in omega arith

  pub fits-actor : (x : Thing) (a : ℕ) → x ≡ Actor a → own_in (holdings_of count heap foreign) x + 1 < count_limit → count + 1 < count_limit
  fits-actor x a is h = let e = own-actor count heap foreign a in let f = ap (own_in (holdings_of count heap foreign)) is in omega arith

  pub enough-object : (x : Thing) (n : ObjName) → x ≡ Obj n → 1 ≤ own_in (holdings_of count heap foreign) x → 1 ≤ row_count (m.get heap.rows n.serial)
  enough-object x n is h = let e = own-object count heap foreign n in let f = ap (own_in (holdings_of count heap foreign)) is in omega arith

  pub fits-object : (x : Thing) (n : ObjName) → x ≡ Obj n → own_in (holdings_of count heap foreign) x + 1 < count_limit → row_count (m.get heap.rows n.serial) + 1 < count_limit
  fits-object x n is h = let e = own-object count heap foreign n in let f = ap (own_in (holdings_of count heap foreign)) is in omega arith

  pub counted-object : (x : Thing) (n : ObjName) → x ≡ Obj n → owner_of x ≡ heap.owner → 1 ≤ own_in (holdings_of count heap foreign) x → Has heap n
  counted-object x n is mine h = record { owner = sym (ap owner_of is) ∙ mine; there = counted_some (m.get heap.rows n.serial) (enough-object x n is h) }

  pub there-object : (x : Thing) (n : ObjName) → x ≡ Obj n → owner_of x ≡ heap.owner → has_own (holdings_of count heap foreign) x ≡ true → Has heap n
  there-object x n is mine h = record { owner = sym (ap owner_of is) ∙ mine; there = sym (has-object count heap foreign n) ∙ ap (has_own (holdings_of count heap foreign)) (sym is) ∙ h }

  pub set-actor-at : (f : ℕ → ℕ) (x : Thing) (a : ℕ) → x ≡ Actor a → holdings_of (f count) heap foreign ≡ set_own f x (holdings_of count heap foreign)
  set-actor-at f x a is = sym (ap (λ y. set_own f y (holdings_of count heap foreign)) is ∙ set-actor count heap foreign f a)

  pub set-object-at : (f : ℕ → ℕ) (x : Thing) (n : ObjName) → x ≡ Obj n → holdings_of count (counted f n heap) foreign ≡ set_own f x (holdings_of count heap foreign)
  set-object-at f x n is = sym (ap (λ y. set_own f y (holdings_of count heap foreign)) is ∙ set-object count heap foreign f n)
