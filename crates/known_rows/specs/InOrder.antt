-- Lists of things in order, and places in them.
use Rattle.std.specs.Prelude.{ℕ, ◌≡◌, ◌≢◌, ◌<◌, ◌≤◌, ◌-◌, cond, nat_lt, List, ◌++◌, Some, None, length, position, slice_get, slice_index_or, refl}
use Rattle.std.proofs.Common.{inl, inr, sym, ap, ◌∙◌, get_or, arith, length-append}
use Rattle.std.specs.Ordering.{nat_cmp, ordering_reverse}
use Rattle.std.specs.Cmp.{nat_cmp_total, tied_itself}
use Rattle.std.specs.declared.cmp.Ordering.TheVariants.{Less}
use Rattle.std.proofs.lemmas.Bool.{cases_lt, lt-ltb}
use Rattle.std.proofs.lemmas.Bool.Decides.{nat_tests}
use Rattle.std.proofs.lemmas.List.{get_or_append_left, get_or-append_right}
use Rattle.std.proofs.lemmas.List.Quantifiers.{position-Some}
use Rattle.std.proofs.lemmas.List.Sums.{position_or_len_is}
use Rattle.std.proofs.lemmas.Option.{get_or_from_slice_get, slice_get-get_or, slice_get_within}
use Rattle.orca_names.specs.Names.{is_thing, thing_cmp}
use Rattle.orca_names.specs.declared.names.Thing.{Thing}
use Rattle.orca_names.specs.declared.names.Thing.TheVariants.{Actor}
use Rattle.orca_names.proofs.ThingOrder.{is_eq_true, is_ne_false, is_same, thing_total}

-- each comes before those behind it
abbrev pub AreInOrder : List Thing → Type 0
AreInOrder xs = (i j : ℕ) (d : Thing) → i < j → j < length xs
    → thing_cmp (slice_index_or xs i d) (slice_index_or xs j d) ≡ Less

-- the thing that has a place stands there
pub thing_at_place : (xs : List Thing) (x : Thing) (i : ℕ) → position (is_thing x) xs ≡ Some i
    → (i < length xs) × (slice_get xs i ≡ Some x)
thing_at_place xs x i e =
    let found = position-Some (is_thing x) xs i (Actor 0) e in
    let same = is_same x (get_or xs i (Actor 0)) found.1 in
    (found.0, slice_get-get_or xs i (Actor 0) found.0 ∙ ap Some (sym same))

apart : (x y : Thing) → thing_cmp y x ≡ Less → x ≢ y
apart x y l e =
    let same = tied_itself thing_total x in
    let here : thing_cmp x x ≡ Less = ap (λ z. thing_cmp z x) e ∙ l in
    cc

-- a thing that stands at i has this place
pub place_there : (xs : List Thing) (x : Thing) (i : ℕ) → AreInOrder xs → i < length xs
    → get_or xs i x ≡ x → position (is_thing x) xs ≡ Some i
place_there xs x i h l here =
    let first = position_or_len_is (is_thing x) xs i x (omega arith)
    (λ k m. is_ne_false x (get_or xs k x)
    (apart x (get_or xs k x) (ap (thing_cmp (get_or xs k x)) (sym here) ∙ h k i x m l)))
    (λ _. is_eq_true x (get_or xs i x) (sym here)) in
    ap (λ p. cond (nat_lt p (length xs)) (Some p) None) first
    ∙ ap (λ b. cond b (Some i) None) (lt-ltb i (length xs) l)

pub less : (p q : ℕ) → p < q → nat_cmp p q ≡ Less
less p q l = grind (arith, nat_tests)

-- places go in the order of things
pub order_of_places : (xs : List Thing) → AreInOrder xs → (x y : Thing) (p q : ℕ)
    → slice_get xs p ≡ Some x → slice_get xs q ≡ Some y → thing_cmp x y ≡ nat_cmp p q
order_of_places xs h x y p q e f = elim (cases_lt p q) as (λ _. thing_cmp x y ≡ nat_cmp p q) [
  | inl l ↦ above x y p q e f l ∙ sym (less p q l)
  | inr n ↦ elim (cases_lt q p) as (λ _. thing_cmp x y ≡ nat_cmp p q) [
    | inl l ↦
        thing_total.antisymm x y ∙ ap ordering_reverse (above y x q p f e l)
        ∙ ap ordering_reverse (sym (less q p l)) ∙ sym (nat_cmp_total.antisymm p q)
    | inr m ↦
        let same : p ≡ q = omega arith in
        let one : x ≡ y =
        sym (get_or_from_slice_get xs p x x e) ∙ ap (λ i. get_or xs i x) same
        ∙ get_or_from_slice_get xs q y x f in
        ap (thing_cmp x) (sym one) ∙ tied_itself thing_total x
        ∙ sym (ap (nat_cmp p) (sym same) ∙ tied_itself nat_cmp_total p)
  ]
]
  where
    above : (x y : Thing) (p q : ℕ) → slice_get xs p ≡ Some x → slice_get xs q ≡ Some y → p < q
        → thing_cmp x y ≡ Less
    above x y p q e f l =
        (λ i. thing_cmp (sym (get_or_from_slice_get xs p x x e) i)
        (sym (get_or_from_slice_get xs q y x f) i))
        ∙ h p q x l (slice_get_within xs q y f)

-- one list behind another whose things all come before
pub append_in_order : (xs ys : List Thing) → AreInOrder xs → AreInOrder ys
    → ((i j : ℕ) (d : Thing) → i < length xs → j < length ys
    → thing_cmp (slice_index_or xs i d) (slice_index_or ys j d) ≡ Less) → AreInOrder (xs ++ ys)
append_in_order xs ys hx hy across i j d l m =
    elim (cases_lt j (length xs)) as (λ _.
    thing_cmp (get_or (xs ++ ys) i d) (get_or (xs ++ ys) j d) ≡ Less) [
      | inl n ↦
          (λ k. thing_cmp (get_or_append_left xs ys d i (omega arith) k)
          (get_or_append_left xs ys d j n k))
          ∙ hx i j d l n
      | inr n ↦ elim (cases_lt i (length xs)) as (λ _.
          thing_cmp (get_or (xs ++ ys) i d) (get_or (xs ++ ys) j d) ≡ Less) [
            | inl k ↦
                (λ t. thing_cmp (get_or_append_left xs ys d i k t) (right j n t))
                ∙ across i (j - length xs) d k (omega (arith, length-append xs ys))
            | inr k ↦
                (λ t. thing_cmp (right i k t) (right j n t))
                ∙ hy (i - length xs) (j - length xs) d (omega arith)
                (omega (arith, length-append xs ys))
          ]
    ]
  where
    right : (k : ℕ) → length xs ≤ k → get_or (xs ++ ys) k d ≡ get_or ys (k - length xs) d
    right k n = get_or-append_right xs ys (length xs) k d refl n
