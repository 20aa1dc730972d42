-- Free blocks are those that no object has.
use Rattle.std.proofs.Common.{◌≡◌, ◌≢◌, ℕ, zero, suc, ◌+◌, ◌<◌, ◌≤◌, ◌==◌, Bool, true, false, cond, ◌&&◌, ◌||◌, List, [], ◌∷◌, length, map, slice_get, Option, Some, None, Ordering, refl, sym, ap, subst, ◌∙◌, arith, ⊎_elim}
use Rattle.std.specs.Prelude.{T}
use Rattle.std.specs.declared.cmp.Ordering.TheVariants.{Less, Equal, Greater}
use Rattle.std.specs.FinMap as m
use Rattle.std.specs.FinMap.Entries.{below_all, is_sorted}
use Rattle.std.specs.List.{AllByRecursion, IsDistinct, list_any}
use Rattle.std.specs.Ordering.{eq_by_cmp, is_eq, is_lt, nat_cmp}
use Rattle.std.specs.Cmp.{unsigned_tied}
use Rattle.std.proofs.lemmas.Bool.{cases_eq, eq-eqb, eqb-true, ne_eqb}
use Rattle.std.proofs.lemmas.Cmp.{eq_by_cmp_equiv, nat_cmp_total}
use Rattle.std.proofs.lemmas.List.{length-map}
use Rattle.machine_rules.proofs.Present.{present_below}
use Rattle.std.proofs.lemmas.Map.Made.{length-from_same_keys}
use Rattle.orca_names.specs.declared.names.ObjName.{ObjName}
use Rattle.orca_names.specs.declared.names.Thing.TheVariants.{Obj}
use Rattle.letter_kinds.specs.Holdings.{Holdings, has_own}
use Rattle.machine_rules.specs.Actors.{Actors, Seat, seat_at}
use Rattle.block_table.specs.Blocks.{OneBlockEach, Blocks, count_free}
use Rattle.row_laws.specs.Blocks.{AreBlocksOf, objects_left, rows_at}
use Rattle.row_laws.specs.Laws.{FreeAreTheRest, LackIsCounted}

-- ---- keys of a map are apart

first : (a b : Bool) → T (a && b) → T a
first true b p = tt
first false b p = p

second : (a b : Bool) → T (a && b) → T b
second true b p = p
second false b p = absurd p

not_equal : (o : Ordering) → T (is_lt o) → is_eq o ≡ false
not_equal Less p = refl
not_equal Equal p = absurd p
not_equal Greater p = absurd p

module _ {X : Type 0} where
  apart_head : (k : ℕ) (es : List (ℕ × X)) → T (below_all nat_cmp k es) → AllByRecursion (λ y. eq_by_cmp nat_cmp k y ≡ false) (map (λ e. e.0) es)
  apart_head k [] p = tt
  apart_head k (e ∷ es) p = (not_equal (nat_cmp k e.0) (first _ _ p), apart_head k es (second _ _ p))

  keys_apart : (es : List (ℕ × X)) → T (is_sorted nat_cmp es) → IsDistinct (eq_by_cmp nat_cmp) (map (λ e. e.0) es)
  unfolding IsDistinct
  keys_apart [] p = tt
  keys_apart (e ∷ es) p = (apart_head e.0 es (first _ _ p), keys_apart es (second _ _ p))

-- ---- the serials of one owner in blocks

pub serials_of : ℕ → Blocks → List ℕ
serials_of a [] = []
serials_of a (None ∷ bs) = serials_of a bs
serials_of a (Some n ∷ bs) = cond (n.owner == a) (n.serial ∷ serials_of a bs) (serials_of a bs)

abbrev among : ℕ → List ℕ → Bool
among q xs = list_any (eq_by_cmp nat_cmp q) xs

abbrev name : ℕ → ℕ → ObjName
name a q = record { owner = a; serial = q }

tied : (q x : ℕ) → eq_by_cmp nat_cmp q x ≡ true → q ≡ x
tied q x e = eqb-true q x (sym (unsigned_tied q x) ∙ e)

tied_same : (q x : ℕ) → q ≡ x → eq_by_cmp nat_cmp q x ≡ true
tied_same q x e = unsigned_tied q x ∙ eq-eqb q x e

tied_other : (q x : ℕ) → q ≢ x → eq_by_cmp nat_cmp q x ≡ false
tied_other q x e = unsigned_tied q x ∙ ne_eqb q x e

-- it is there where a block has it
pub listed : (a q : ℕ) (bs : Blocks) (k : ℕ) → slice_get bs k ≡ Some (Some (name a q)) → among q (serials_of a bs) ≡ true
unfolding serials_of
listed a q [] k e = cc
listed a q (None ∷ bs) zero e = cc
listed a q (None ∷ bs) (suc k) e = listed a q bs k e
listed a q (Some n ∷ bs) zero e =
    let is : n ≡ name a q = cc in
    ap (λ b. among q (cond b (n.serial ∷ serials_of a bs) (serials_of a bs))) (eq-eqb n.owner a (ap (λ x. x.owner) is))
    ∙ ap (λ b. b || among q (serials_of a bs)) (tied_same q n.serial (sym (ap (λ x. x.serial) is)))
listed a q (Some n ∷ bs) (suc k) e = by (n.owner == a) (listed a q bs k e)
  where
    or_true : (b c : Bool) → c ≡ true → b || c ≡ true
    or_true true c e = refl
    or_true false c e = e

    by : (b : Bool) → among q (serials_of a bs) ≡ true → among q (cond b (n.serial ∷ serials_of a bs) (serials_of a bs)) ≡ true
    by true there = or_true _ _ there
    by false there = there

pub found : (a q : ℕ) (bs : Blocks) → among q (serials_of a bs) ≡ true → (k : ℕ) × (slice_get bs k ≡ Some (Some (name a q)))
unfolding serials_of
found a q [] e = cc
found a q (None ∷ bs) e = let z = found a q bs e in (suc z.0, z.1)
found a q (Some n ∷ bs) e = by (n.owner == a) refl e (λ there. let z = found a q bs there in (suc z.0, z.1))
  where
    Found : Type 0
    Found = (k : ℕ) × (slice_get (Some n ∷ bs) k ≡ Some (Some (name a q)))

    here : (c : Bool) → eq_by_cmp nat_cmp q n.serial ≡ c → n.owner ≡ a → c || among q (serials_of a bs) ≡ true
        → (among q (serials_of a bs) ≡ true → Found) → Found
    here true is own e later = (0, λ i. Some (Some (record { owner = own i; serial = sym (tied q n.serial is) i })))
    here false is own e later = later e

    by : (b : Bool) → (n.owner == a) ≡ b → among q (cond b (n.serial ∷ serials_of a bs) (serials_of a bs)) ≡ true
        → (among q (serials_of a bs) ≡ true → Found) → Found
    by true own e later = here (eq_by_cmp nat_cmp q n.serial) refl (eqb-true n.owner a own) e later
    by false own e later = later e

-- they are apart
pub serials_apart : (a : ℕ) (bs : Blocks) → OneBlockEach bs → IsDistinct (eq_by_cmp nat_cmp) (serials_of a bs)
unfolding serials_of IsDistinct
serials_apart a [] once = tt
serials_apart a (None ∷ bs) once = serials_apart a bs (λ j k n e f. let s = once (suc j) (suc k) n e f in omega arith)
serials_apart a (Some n ∷ bs) once =
    by (n.owner == a) refl (serials_apart a bs (λ j k n e f. let s = once (suc j) (suc k) n e f in omega arith))
    (λ q own is there. let z = found a q bs there in
    let s = once 0 (suc z.0) (name a q) (λ i. Some (Some (record { owner = own i; serial = is i }))) z.1 in absurd (omega arith))
  where
    none : (q : ℕ) (xs : List ℕ) → ((x : ℕ) → among x xs ≡ true → q ≡ x → ⊥) → AllByRecursion (λ y. eq_by_cmp nat_cmp q y ≡ false) xs
    none q [] h = tt
    none q (x ∷ xs) h = (
      tied_other q x (h x (ap (λ b. b || among x xs) (tied_same x x refl))),
      none q xs (λ y there. h y (by_or (eq_by_cmp nat_cmp y x) (among y xs) there)),
    )
      where
        by_or : (b c : Bool) → c ≡ true → b || c ≡ true
        by_or true c e = refl
        by_or false c e = e

    by : (b : Bool) → (n.owner == a) ≡ b → IsDistinct (eq_by_cmp nat_cmp) (serials_of a bs)
        → ((q : ℕ) → n.owner ≡ a → n.serial ≡ q → among q (serials_of a bs) ≡ true → ⊥)
        → IsDistinct (eq_by_cmp nat_cmp) (cond b (n.serial ∷ serials_of a bs) (serials_of a bs))
    by true own rest other = (none n.serial (serials_of a bs) (λ x there is. other x (eqb-true n.owner a own) is there), rest)
    by false own rest other = rest

-- ---- one actor

either : (x y : Bool) → (x ≡ true → y ≡ true) → (y ≡ true → x ≡ true) → x ≡ y
either true true f g = refl
either true false f g = sym (f refl)
either false true f g = g refl
either false false f g = refl

has_key : (h : Holdings) (a q : ℕ) → has_own h (Obj (name a q)) ≡ true → among q (m.keys h.rows) ≡ true
unfolding has_own
has_key h a q has = sym (m.contains_key-keys h.rows q) ∙ has

key_has : (h : Holdings) (a q : ℕ) → among q (m.keys h.rows) ≡ true → has_own h (Obj (name a q)) ≡ true
unfolding has_own
key_has h a q key = m.contains_key-keys h.rows q ∙ key

of_seat : (o p : Seat) (a q : ℕ) → Some o ≡ Some p → has_own p.cell.holdings (Obj (name a q)) ≡ true → has_own o.cell.holdings (Obj (name a q)) ≡ true
of_seat o p a q same has =
    let e : p ≡ o = cc in subst (λ (x : Seat). has_own x.cell.holdings (Obj (name a q)) ≡ true) e has

module _ (s : Actors) (bs : Blocks) (are : AreBlocksOf s bs) where
  pub of_actor : (a : ℕ) → length (serials_of a bs) ≡ rows_at (seat_at s a)
  of_actor a = by (seat_at s a) refl
    where
      by : (o : Option Seat) → seat_at s a ≡ o → length (serials_of a bs) ≡ rows_at o
      by None at = empty (serials_of a bs) (λ q there.
          let z = found a q bs there in let left = are.left z.0 (name a q) z.1 in
          let none : None ≡ Some left.seat = sym at ∙ left.present in cc)
        where
          empty : (xs : List ℕ) → ((q : ℕ) → among q xs ≡ true → ⊥) → length xs ≡ 0
          empty [] h = refl
          empty (x ∷ xs) h = absurd (h x (ap (λ b. b || among x xs) (tied_same x x refl)))
      by (Some o) at =
          let rows = o.cell.holdings.rows in
          length-from_same_keys (eq_by_cmp_equiv nat_cmp_total) (serials_of a bs) (m.keys rows) (serials_apart a bs are.once)
          (keys_apart (m.entries rows) (m.entries_sorted rows))
          (λ q. either (among q (serials_of a bs)) (among q (m.keys rows))
          (λ there. let z = found a q bs there in let left = are.left z.0 (name a q) z.1 in
          has_key o.cell.holdings a q (of_seat o left.seat a q (sym at ∙ left.present) left.kept))
          (λ key. let z = are.has (name a q) (record { seat = o; present = at; kept = key_has o.cell.holdings a q key }) in
          listed a q bs z.0 z.1))
          ∙ (length-map (m.entries rows) (λ e. e.0) ∙ sym (m.len-entries rows))

-- ---- all actors

total : ℕ → ℕ → Blocks → ℕ
total a zero bs = 0
total a (suc n) bs = length (serials_of a bs) + total (suc a) n bs

all_actors : (bs : Blocks) (os : Actors) (a : ℕ) → ((i : ℕ) → length (serials_of (a + i) bs) ≡ rows_at (seat_at os i))
    → total a (length os) bs ≡ objects_left os
unfolding total
all_actors bs [] a h = refl
all_actors bs (o ∷ os) a h =
    let now : length (serials_of a bs) ≡ rows_at o = ap (λ k. length (serials_of k bs)) (let e : a ≡ a + 0 = omega arith in e) ∙ h 0 in
    let rest = all_actors bs os (suc a) (λ i. ap (λ k. length (serials_of k bs)) (let e : suc a + i ≡ a + suc i = omega arith in e) ∙ h (suc i)) in
    λ i. now i + rest i

-- a block of an owner before these
other_total : (n : ObjName) (bs : Blocks) (a k : ℕ) → n.owner < a → total a k (Some n ∷ bs) ≡ total a k bs
unfolding total serials_of
other_total n bs a zero below = refl
other_total n bs a (suc k) below =
    let here = ap (λ b. length (cond b (n.serial ∷ serials_of a bs) (serials_of a bs))) (ne_eqb n.owner a (λ is. omega arith)) in
    let rest = other_total n bs (suc a) k (omega arith) in λ i. here i + rest i

-- a block of one of these
own_total : (n : ObjName) (bs : Blocks) (a k : ℕ) → a ≤ n.owner → n.owner < a + k → total a k (Some n ∷ bs) ≡ suc (total a k bs)
unfolding total serials_of
own_total n bs a zero low high = absurd (omega arith)
own_total n bs a (suc k) low high = ⊎_elim
    (λ is.
    let here = ap (λ b. length (cond b (n.serial ∷ serials_of a bs) (serials_of a bs))) (eq-eqb n.owner a is) in
    let rest = other_total n bs (suc a) k (omega arith) in omega (arith, here, rest))
    (λ not.
    let here = ap (λ b. length (cond b (n.serial ∷ serials_of a bs) (serials_of a bs))) (ne_eqb n.owner a not) in
    let rest = own_total n bs (suc a) k (omega arith) (omega arith) in omega (arith, here, rest))
    (cases_eq n.owner a)

none_total : (bs : Blocks) (a k : ℕ) → total a k (None ∷ bs) ≡ total a k bs
unfolding total serials_of
none_total bs a zero = refl
none_total bs a (suc k) = let rest = none_total bs (suc a) k in λ i. length (serials_of a bs) + rest i

no_total : (a k : ℕ) → total a k [] ≡ 0
unfolding total serials_of
no_total a zero = refl
no_total a (suc k) = let rest = no_total (suc a) k in omega (arith, rest)

all_blocks : (bs : Blocks) (k : ℕ) → ((i : ℕ) (n : ObjName) → slice_get bs i ≡ Some (Some n) → n.owner < k)
    → count_free bs + total 0 k bs ≡ length bs
all_blocks [] k h = let none = no_total 0 k in omega (arith, none)
all_blocks (None ∷ bs) k h =
    let rest = all_blocks bs k (λ i n e. h (suc i) n e) in let same = none_total bs 0 k in omega (arith, rest, same)
all_blocks (Some n ∷ bs) k h =
    let rest = all_blocks bs k (λ i n e. h (suc i) n e) in
    let same = own_total n bs 0 k (omega arith) (let b = h 0 n refl in omega arith) in omega (arith, rest, same)

pub free_are_the_rest : FreeAreTheRest
free_are_the_rest s blocks has =
    let actors = s.actors in
    let all = all_blocks blocks (length actors) (λ i n e. let left = has.are.left i n e in present_below actors n.owner _ left.present) in
    let each = all_actors blocks actors 0 (λ i. ap (λ k. length (serials_of k blocks)) (let e : 0 + i ≡ i = omega arith in e) ∙ of_actor actors blocks has.are i) in
    ap (λ k. count_free blocks + k) (sym each) ∙ all

pub lack_is_counted : LackIsCounted
lack_is_counted s e blocks has =
    let rest = free_are_the_rest s blocks has in (
      λ lacks. record { to = lacks.to; goes = lacks.goes; more = (let more = lacks.more in omega (arith, rest, more)) },
      λ many. record { to = many.to; goes = many.goes; more = (let more = many.more in omega (arith, rest, more)) },
    )
