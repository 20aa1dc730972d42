-- The first thing that is lacked, and those of its owner.
use Rattle.std.proofs.Common.{◌≡◌, ℕ, zero, suc, ◌<◌, ◌==◌, ◌&&◌, ◌||◌, Bool, true, false, cond, Option, List, [], ◌∷◌, length, get_or, take, map, Some, None, refl, sym, ap, ◌∙◌, arith}
use Rattle.std.specs.Prelude.{slice_get, option_map}
use Rattle.std.specs.List.{filter, list_any}
use Rattle.orca_names.specs.Names.{owner_of}
use Rattle.orca_names.specs.declared.names.ObjName.{ObjName}
use Rattle.orca_names.specs.declared.names.Thing.{Thing}
use Rattle.orca_names.specs.declared.names.Value.{Value}
use Rattle.row_store.specs.Told.{lie_as}
use Rattle.row_store.specs.declared.told.Told.{Told}
use Rattle.letter_kinds.specs.Load.{as_load}
use Rattle.letter_kinds.specs.Counting.{Amount, Loaded, is_lacking}
use Rattle.letter_kinds.specs.Holdings.{held_in}
use Rattle.foreign_table.specs.Table.{Table}
use Rattle.object_heap.specs.Heap.{Heap}
use Rattle.known_rows.specs.Holdings.{holdings_of}
use Rattle.trace_send.specs.Lacking.{is_lacked, of_first_owner}

module _ {X : Type 0} (p : X → Bool) where
  cons_not_nil : {A : Type 0} (x : X) (xs : List X) → x ∷ xs ≡ [] → A
  cons_not_nil x xs e = cc

  passes_first : (x : X) (xs : List X) (b : Bool) → p x ≡ b → cond b (x ∷ filter p xs) (filter p xs) ≡ [] → p x ≡ false
  passes_first x xs true e h = cons_not_nil x (filter p xs) h
  passes_first x xs false e h = e

  -- what comes first is the first that passes
  pub filter-first : (xs : List X) (i : ℕ) (x : X) → i < length xs → x ≡ get_or xs i x → filter p (take i xs) ≡ [] → p x ≡ true → slice_get (filter p xs) 0 ≡ Some x
  filter-first [] i x l is none pass = absurd (omega arith)
  filter-first (y ∷ ys) zero x l is none pass = ap (λ b. slice_get (cond b (y ∷ filter p ys) (filter p ys)) 0) (ap p (sym is) ∙ pass) ∙ ap Some (sym is)
  filter-first (y ∷ ys) (suc i) x l is none pass =
      let fails : p y ≡ false = passes_first y (take i ys) (p y) refl none in
      let rest : filter p (take i ys) ≡ [] = ap (λ b. cond b (y ∷ filter p (take i ys)) (filter p (take i ys))) (sym fails) ∙ none in
      ap (λ b. slice_get (cond b (y ∷ filter p ys) (filter p ys)) 0) fails ∙ filter-first ys i x (omega arith) is rest pass

  -- two tests at once
  pub filter-and : (q : X → Bool) (xs : List X) → filter (λ x. p x && q x) xs ≡ filter q (filter p xs)
  filter-and q [] = refl
  filter-and q (x ∷ xs) = by (p x) (filter-and q xs)
    where
      by : (b : Bool) → filter (λ y. p y && q y) xs ≡ filter q (filter p xs) → cond (b && q x) (x ∷ filter (λ y. p y && q y) xs) (filter (λ y. p y && q y) xs) ≡ filter q (cond b (x ∷ filter p xs) (filter p xs))
      by true rest = ap (λ ys. cond (q x) (x ∷ ys) ys) rest
      by false rest = rest

same_owner : (a b : ℕ) → Some a ≡ Some b → a ≡ b
same_owner a b e = cc

pub answers_first : (weight : ℕ) (lacked : List Thing) (owner : ℕ) (amounts : List Amount) → Some owner ≡ option_map owner_of (slice_get lacked 0) → amounts ≡ map (λ x. (x, weight)) (filter (λ x. owner_of x == owner) lacked) → Some (owner, amounts) ≡ of_first_owner weight lacked
answers_first weight [] owner amounts e h = cc
answers_first weight (x ∷ lacked) owner amounts e h =
    let same = same_owner owner (owner_of x) e in
    (λ i. Some (same i, h i)) ∙ ap (λ o. Some (owner_of x, map (λ (y : Thing). (y, weight)) (filter (λ (y : Thing). owner_of y == o) (x ∷ lacked)))) same

pub answers_none : (weight : ℕ) (lacked : List Thing) → None ≡ option_map owner_of (slice_get lacked 0) → None ≡ of_first_owner weight lacked
answers_none weight [] e = refl
answers_none weight (x ∷ lacked) e = cc

-- what is lacked is that of the definition
pub lacking-is : (me count : ℕ) (heap : Heap) (foreign : Table) (things : List Thing) → filter (is_lacked me foreign) things ≡ filter (is_lacking me (holdings_of count heap foreign)) things
unfolding held_in
lacking-is me count heap foreign things = refl

-- so is whether some of a load is lacked
pub any_lacking-is : (me count : ℕ) (heap : Heap) (foreign : Table) (rows : ObjName → Option (List Value)) (items : List (Thing × Told))
    → list_any (λ (e : Thing × Told). is_lacked me foreign e.0) items
    ≡ list_any (λ (e : Loaded). is_lacking me (holdings_of count heap foreign) e.0) (as_load (lie_as rows items))
unfolding held_in
any_lacking-is me count heap foreign rows [] = refl
any_lacking-is me count heap foreign rows (e ∷ items) =
    ap (λ b. is_lacked me foreign e.0 || b) (any_lacking-is me count heap foreign rows items)
