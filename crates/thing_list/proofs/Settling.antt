-- A thing moves down to its place among things in order.
use Rattle.std.proofs.Common.{◌≡◌, ℕ, zero, suc, ◌+◌, ◌-◌, ◌<◌, ◌≤◌, inl, inr, true, false, Some, List, [], ◌∷◌, ◌++◌, length, get_or, set, take, drop, All, Contains, refl, sym, ap, subst, ◌∙◌, arith}
use Rattle.std.specs.Prelude.{slice_get}
use Rattle.std.specs.FinMap.Entries.{by_order}
use Rattle.std.specs.List.Sorted.{IsStrictlySortedBy}
use Rattle.std.specs.Ordering.{is_lt, ordering_reverse}
use Rattle.std.specs.declared.cmp.Ordering.{Ordering}
use Rattle.std.specs.declared.cmp.Ordering.TheVariants.{Less, Equal, Greater}
use Rattle.std.proofs.Math.Seq.{drop-cons}
use Rattle.std.proofs.lemmas.List.{drop_all, drop-set, get_or-take, length-append, length-set, length-take-le, set_split, take-append-le, take-set-le, take-take, take_all}
use Rattle.std.proofs.lemmas.List.Elements.{All-contains, All-cons, All-nil}
use Rattle.std.proofs.lemmas.Map.Keys.{sorted_tail}
use Rattle.std.proofs.lemmas.Option.{slice_get_within, slice_get-get_or, get_or_from_slice_get}
use Rattle.orca_names.specs.Names.{thing_cmp}
use Rattle.orca_names.specs.declared.names.Thing.{Thing}
use Rattle.orca_names.proofs.ThingOrder.{thing_total}
use Rattle.thing_list.specs.Putting.{put_in_order}
use Rattle.thing_list.proofs.Elements.{Contains-head, Contains-later, Contains-cons_cases, none_in_nil}
use Rattle.thing_list.proofs.InOrder.{first_less, less_of}

pub less_from : (o : Ordering) → is_lt o ≡ true → o ≡ Less
less_from Less e = refl
less_from Equal e = cc
less_from Greater e = cc

-- what comes behind one of things in order comes behind those before
pub below_all : (xs : List Thing) (j : ℕ) (last x : Thing) → IsStrictlySortedBy thing_cmp xs → slice_get xs j ≡ Some last → thing_cmp last x ≡ Less → (y : Thing) → Contains (take (j + 1) xs) y → thing_cmp y x ≡ Less
below_all [] j last x sorted at less y c = cc
below_all (z ∷ zs) zero last x sorted at less y c = elim (Contains-cons_cases z [] y c) as (λ _. thing_cmp y x ≡ Less) [
  | inl e ↦ cc
  | inr d ↦ none_in_nil y _ d
]
below_all (z ∷ zs) (suc j) last x sorted at less y c =
    let there : Contains zs last = (j, slice_get_within zs j last at, get_or_from_slice_get zs j last last at) in
    let next : suc j + 1 ≡ suc (j + 1) = omega arith in
    elim (Contains-cons_cases z (take (j + 1) zs) y (subst (λ n. Contains (take n (z ∷ zs)) y) next c)) as (λ _. thing_cmp y x ≡ Less) [
      | inl e ↦ subst (λ w. thing_cmp w x ≡ Less) e (thing_total.trans z last x (first_less z zs sorted last there) less)
      | inr d ↦ below_all zs j last x (sorted_tail thing_cmp z zs sorted) at less y d
    ]

-- so far things moved one place up: the first i are where they were, and x comes before the others
pub record Settles (front : List Thing) (x : Thing) (things : List Thing) (i : ℕ) : Type 0 where
  pub within : i ≤ length front
  pub len : length things ≡ length front + 1
  pub below : take i things ≡ take i front
  pub moved : drop (i + 1) things ≡ drop i front
  pub above : All (λ y. thing_cmp x y ≡ Less) (drop i front)

split_put : (front : List Thing) (i : ℕ) (x : Thing) → ((y : Thing) → Contains (take i front) y → thing_cmp y x ≡ Less) → All (λ y. thing_cmp x y ≡ Less) (drop i front)
    → put_in_order x front ≡ take i front ++ x ∷ drop i front
split_put [] zero x below above = refl
split_put [] (suc i) x below above = refl
split_put (y ∷ ys) zero x below above =
    ap (λ o. by_order o (x ∷ y ∷ ys) (y ∷ ys) (y ∷ put_in_order x ys)) (All-contains (λ z. thing_cmp x z ≡ Less) (y ∷ ys) y above (Contains-head y ys))
split_put (y ∷ ys) (suc i) x below above =
    ap (λ o. by_order o (x ∷ y ∷ ys) (y ∷ ys) (y ∷ put_in_order x ys)) (thing_total.antisymm x y ∙ ap ordering_reverse (below y (Contains-head y (take i ys))))
    ∙ ap (λ zs. y ∷ zs) (split_put ys i x (λ z c. below z (Contains-later y (take i ys) z c)) above)

module _ (front : List Thing) (x : Thing) (things : List Thing) where
  -- one thing more moves up
  pub settles_on : (j : ℕ) (v : Thing) → Settles front x things (j + 1) → v ≡ get_or things j v → thing_cmp x v ≡ Less → Settles front x (set things (j + 1) v) j
  settles_on j v settles at less =
      let next : suc j ≡ j + 1 = omega arith in
      let there : get_or front j v ≡ v =
      sym (get_or-take (j + 1) front j v (omega arith)) ∙ ap (λ ts. get_or ts j v) (sym settles.below)
      ∙ get_or-take (j + 1) things j v (omega arith) ∙ sym at in
      let behind : drop j front ≡ v ∷ drop (j + 1) front =
      drop-cons front j v (omega (arith, settles.within))
      ∙ ap (λ n. get_or front j v ∷ drop n front) next ∙ ap (λ w. w ∷ drop (j + 1) front) there in
      record {
        within = omega (arith, settles.within);
        len = length-set things (j + 1) v ∙ settles.len;
        below = take-set-le j things (j + 1) v (omega arith) ∙ sym (take-take j (j + 1) things (omega arith))
            ∙ ap (take j) settles.below ∙ take-take j (j + 1) front (omega arith);
        moved = drop-set things (j + 1) v (omega (arith, settles.len, settles.within)) ∙ ap (λ ts. v ∷ ts) settles.moved ∙ sym behind;
        above = subst (All (λ y. thing_cmp x y ≡ Less)) (sym behind) (All-cons (λ y. thing_cmp x y ≡ Less) v (drop (j + 1) front) less settles.above);
      }

  module _ (sorted : IsStrictlySortedBy thing_cmp front) (fresh : Contains front x → ⊥) where
    set_there : (i : ℕ) → Settles front x things i → ((y : Thing) → Contains (take i front) y → thing_cmp y x ≡ Less) → set things i x ≡ put_in_order x front
    set_there i settles below =
        let next : suc i ≡ i + 1 = omega arith in
        set_split things i x (omega (arith, settles.len, settles.within))
        ∙ ap (λ ts. ts ++ x ∷ drop (suc i) things) settles.below ∙ ap (λ n. take i front ++ x ∷ drop n things) next
        ∙ ap (λ ts. take i front ++ x ∷ ts) settles.moved ∙ sym (split_put front i x below settles.above)

    -- it comes first
    pub settled_first : Settles front x things 0 → set things 0 x ≡ put_in_order x front
    settled_first settles = set_there 0 settles (λ y c. none_in_nil y _ c)

    -- it does not come before the thing below
    pub settled : (j : ℕ) (v : Thing) → Settles front x things (j + 1) → v ≡ get_or things j v → is_lt (thing_cmp x v) ≡ false → set things (j + 1) x ≡ put_in_order x front
    settled j v settles at stop =
        let there : get_or front j v ≡ v =
        sym (get_or-take (j + 1) front j v (omega arith)) ∙ ap (λ ts. get_or ts j v) (sym settles.below)
        ∙ get_or-take (j + 1) things j v (omega arith) ∙ sym at in
        let inside : j < length front = omega (arith, settles.within) in
        let found : slice_get front j ≡ Some v = slice_get-get_or front j v inside ∙ ap Some there in
        set_there (j + 1) settles (below_all front j v x sorted found (less_of v x stop (λ e. fresh (subst (Contains front) e (j, inside, there)))))

-- ---- a list whose last thing moves

-- nothing has moved yet
pub settles_begin : (things : List Thing) (x : Thing) → slice_get things (length things - 1) ≡ Some x → Settles (take (length things - 1) things) x things (length things - 1)
settles_begin things x last =
    let n = length things - 1 in
    let some : n < length things = slice_get_within things n x last in
    let front = take n things in
    let long : length front ≡ n = length-take-le n things (omega (arith, some)) in
    let none : drop n front ≡ [] = drop_all n front (omega (arith, long)) in
    record {
      within = omega (arith, long);
      len = omega (arith, long, some);
      below = sym (take-take n n things (omega arith));
      moved = drop_all (n + 1) things (omega (arith, some)) ∙ sym none;
      above = subst (All (λ y. thing_cmp x y ≡ Less)) (sym none) (All-nil (λ y. thing_cmp x y ≡ Less));
    }

pub settles_down : (front : List Thing) (x : Thing) (things : List Thing) (i : ℕ) (u v : Thing) → 0 < i → Settles front x things i → u ≡ get_or things (i - 1) u → v ≡ get_or things (i - 1) v → is_lt (thing_cmp x u) ≡ true
    → Settles front x (set things i v) (i - 1)
settles_down front x things i u v some settles it at lower =
    let back : i - 1 + 1 ≡ i = omega (arith, some) in
    let found : slice_get things (i - 1) ≡ Some u = slice_get-get_or things (i - 1) u (omega (arith, some, settles.len, settles.within)) ∙ ap Some (sym it) in
    let same : v ≡ u = at ∙ get_or_from_slice_get things (i - 1) u v found in
    let less = subst (λ w. is_lt (thing_cmp x w) ≡ true) (sym same) lower in
    subst (λ n. Settles front x (set things n v) (i - 1)) back
    (settles_on front x things (i - 1) v (subst (Settles front x things) (sym back) settles) at (less_from (thing_cmp x v) less))

last_of : (front : List Thing) (y : Thing) → slice_get (front ++ y ∷ []) (length front) ≡ Some y
last_of [] y = refl
last_of (z ∷ zs) y = last_of zs y

module _ (old front : List Thing) (y x : Thing) (whole : old ≡ front ++ y ∷ []) (last : slice_get old (length old - 1) ≡ Some x) where
  long : length old - 1 ≡ length front
  long = omega (arith, ap length whole ∙ length-append front (y ∷ []))

  same_front : take (length old - 1) old ≡ front
  same_front =
      ap (λ k. take k old) long ∙ ap (take (length front)) whole ∙ take-append-le (length front) front (y ∷ []) (omega arith) ∙ take_all (length front) front (omega arith)

  same_last : x ≡ y
  same_last =
      let two : Some x ≡ Some y = sym last ∙ ap (slice_get old) long ∙ ap (λ ts. slice_get ts (length front)) whole ∙ last_of front y in
      cc

  module _ (things : List Thing) (i : ℕ) (settles : Settles (take (length old - 1) old) x things i) (sorted : IsStrictlySortedBy thing_cmp front) (fresh : Contains front y → ⊥) where
    it_settles : Settles front x things i
    it_settles = subst (λ ts. Settles ts x things i) same_front settles

    is_fresh : Contains front x → ⊥
    is_fresh there = fresh (subst (Contains front) same_last there)

    pub settled_down_first : i ≡ 0 → set things i x ≡ put_in_order y front
    settled_down_first first =
        subst (λ n. set things n x ≡ put_in_order y front) (sym first)
        (settled_first front x things sorted is_fresh (subst (Settles front x things) first it_settles) ∙ ap (λ z. put_in_order z front) same_last)

    pub settled_down : (v : Thing) → 0 < i → v ≡ get_or things (i - 1) v → is_lt (thing_cmp x v) ≡ false → set things i x ≡ put_in_order y front
    settled_down v some at stop =
        let back : i - 1 + 1 ≡ i = omega (arith, some) in
        subst (λ n. set things n x ≡ put_in_order y front) back
        (settled front x things sorted is_fresh (i - 1) v (subst (Settles front x things) (sym back) it_settles) at stop ∙ ap (λ z. put_in_order z front) same_last)
