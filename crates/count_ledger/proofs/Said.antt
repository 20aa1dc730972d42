-- What lists of amounts say of things.
use Rattle.std.proofs.Common.{◌≡◌, ◌≢◌, ◌<◌, ◌≤◌, ◌+◌, ℕ, true, false, Bool, ◌==◌, cond, List, [], ◌∷◌, Option, Some, take, length, get_or, inl, inr, refl, sym, ap, ◌∙◌, arith}
use Rattle.std.specs.Prelude.{T, sum_by}
use Rattle.std.proofs.lemmas.Bool.{eq-eqb, ne_eqb, cases_eq}
use Rattle.std.proofs.lemmas.List.Sums.{sum_by-cons, sum_by_more, sum_by_more_le}
use Rattle.orca_names.specs.Names.{is_thing, owner_of, thing_cmp, times_among}
use Rattle.orca_names.specs.declared.names.Thing.{Thing}
use Rattle.letter_kinds.specs.Holdings.{Row, entry_count}
use Rattle.letter_kinds.specs.Sums.{amount_of}
use Rattle.std.specs.FinMap.Entries.{below_all, find, is_sorted}
use Rattle.orca_names.proofs.ThingOrder.{is_same}
use Rattle.std.specs.Ordering.{is_lt}
use Rattle.count_ledger.specs.Lines.{only, own_only}
use Rattle.orca_core.proofs.Listing.{first, less, second}
use Rattle.count_ledger.proofs.Adding.{less_other, only_other}

-- ---- a list of amounts

module _ {A : Type 0} (thing : A → Thing) (amount : A → ℕ) where
  -- the amounts that the list has for a thing
  abbrev pub said : List A → Thing → ℕ
  said xs y = sum_by (λ e. only (thing e) (amount e) y) xs

  -- one element more
  pub said_more : (xs : List A) (i : ℕ) (e : A) → i < length xs → e ≡ get_or xs i e → (y : Thing)
      → said (take i xs) y + only (thing e) (amount e) y ≡ said (take (i + 1) xs) y
  said_more xs i e l is y =
      ap (λ (a : A). said (take i xs) y + only (thing a) (amount a) y) is
      ∙ sym (sum_by_more (λ a. only (thing a) (amount a) y) xs i e l)

  -- no more than the whole list has
  pub said_more_le : (xs : List A) (i : ℕ) (e : A) → i < length xs → e ≡ get_or xs i e → (y : Thing)
      → said (take i xs) y + only (thing e) (amount e) y ≤ said xs y
  said_more_le xs i e l is y =
      let one = ap (λ (a : A). only (thing a) (amount a) y) is in
      omega (arith, one, sum_by_more_le (λ a. only (thing a) (amount a) y) xs i e l)

-- ---- of an actor's things alone

module _ (a : ℕ) where
  -- of its own things it is all that is said
  pub own_is : (f : Thing → ℕ) (y : Thing) → owner_of y ≡ a → own_only a f y ≡ f y
  own_is f y mine = ap (λ b. cond b (f y) 0) (eq-eqb (owner_of y) a mine)

  -- of others' things it is nothing
  pub own_not : (f : Thing → ℕ) (y : Thing) → owner_of y ≢ a → own_only a f y ≡ 0
  own_not f y other = ap (λ b. cond b (f y) 0) (ne_eqb (owner_of y) a other)

  -- both together
  pub own_both : (f g : Thing → ℕ) (y : Thing)
      → own_only a f y + own_only a g y ≡ own_only a (λ x. f x + g x) y
  own_both f g y = by (owner_of y == a)
    where
      by : (b : Bool) → cond b (f y) 0 + cond b (g y) 0 ≡ cond b (f y + g y) 0
      by true = refl
      by false = refl

  -- nothing where nothing is said
  pub own_none : (f : Thing → ℕ) → ((x : Thing) → f x ≡ 0) → (y : Thing) → own_only a f y ≡ 0
  own_none f none y = by (owner_of y == a)
    where
      by : (b : Bool) → cond b (f y) 0 ≡ 0
      by true = none y
      by false = refl

  -- the same where the same is said
  pub own_same : (f g : Thing → ℕ) → ((x : Thing) → f x ≡ g x) → (y : Thing) → own_only a f y ≡ own_only a g y
  own_same f g same y = ap (λ h. own_only a h y) (λ i x. same x i)

  -- more where more is said
  pub own_le : (f g : Thing → ℕ) → ((x : Thing) → f x ≤ g x) → (y : Thing) → own_only a f y ≤ own_only a g y
  own_le f g less y = by (owner_of y == a)
    where
      by : (b : Bool) → cond b (f y) 0 ≤ cond b (g y) 0
      by true = less y
      by false = omega arith

  -- what is said of one thing of its own
  pub own_thing : (x : Thing) (n : ℕ) → owner_of x ≡ a → (y : Thing) → own_only a (only x n) y ≡ only x n y
  own_thing x n mine y = elim (cases_eq (owner_of y) a) as (λ _. own_only a (only x n) y ≡ only x n y) [
    | inl same ↦ own_is (only x n) y same
    | inr other ↦ own_not (only x n) y other ∙ sym (only_other x y n (λ e. other (ap owner_of e ∙ mine)))
  ]

  -- what is said of one thing of another's is nothing
  pub others_thing : (x : Thing) (n : ℕ) → owner_of x ≢ a → (y : Thing) → own_only a (only x n) y ≡ 0
  others_thing x n other y = elim (cases_eq (owner_of y) a) as (λ _. own_only a (only x n) y ≡ 0) [
    | inl same ↦ own_is (only x n) y same ∙ only_other x y n (λ e. other (sym (ap owner_of e) ∙ same))
    | inr apart ↦ own_not (only x n) y apart
  ]

-- ---- what is held

-- the counts of these entries
abbrev pub held_by : List (Thing × (ℕ × Option Row)) → Thing → ℕ
held_by es = said (λ (e : Thing × (ℕ × Option Row)). e.0) (λ (e : Thing × (ℕ × Option Row)). e.1.0) es

-- where things rise, only one entry is that of a thing
module _ (x : Thing) where
  -- the first entry and the others
  held_first : (e : Thing × (ℕ × Option Row)) (es : List (Thing × (ℕ × Option Row)))
      → held_by (e ∷ es) x ≡ only e.0 e.1.0 x + held_by es x
  held_first e es = sum_by-cons (λ (e : Thing × (ℕ × Option Row)). only e.0 e.1.0 x) e es

  -- entries behind that of a thing are those of others
  said_above : (k : Thing) (es : List (Thing × (ℕ × Option Row))) → T (below_all thing_cmp k es) → x ≡ k
      → held_by es x ≡ 0
  said_above k [] h same = refl
  said_above k (e ∷ es) h same =
      let is = less (thing_cmp k e.0) (first (is_lt (thing_cmp k e.0)) (below_all thing_cmp k es) h) in
      let none = only_other e.0 x e.1.0 (λ one. less_other k e.0 is (sym one ∙ same)) in
      omega (
        arith,
        held_first e es,
        none,
        said_above k es (second (is_lt (thing_cmp k e.0)) (below_all thing_cmp k es) h) same,
      )

  -- the entries have for a thing what a look-up finds
  pub said_found : (es : List (Thing × (ℕ × Option Row))) → T (is_sorted thing_cmp es)
      → held_by es x ≡ entry_count (find thing_cmp x es)
  said_found [] h = refl
  said_found (e ∷ es) h =
      held_first e es ∙ by (is_thing x e.0) refl
      (said_found es (second (below_all thing_cmp e.0 es) (is_sorted thing_cmp es) h))
    where
      by : (b : Bool) → is_thing x e.0 ≡ b → held_by es x ≡ entry_count (find thing_cmp x es)
          → cond b e.1.0 0 + held_by es x ≡ entry_count (cond b (Some e.1) (find thing_cmp x es))
      by true is rest =
          let below = first (below_all thing_cmp e.0 es) (is_sorted thing_cmp es) h in
          let behind = said_above e.0 es below (is_same x e.0 is) in
          omega (arith, behind)
      by false is rest = omega (arith, rest)

-- ---- lists of amounts and loads

-- the thing and the amount of an entry
abbrev to_thing : Thing × ℕ → Thing
to_thing e = e.0

abbrev to_amount : Thing × ℕ → ℕ
to_amount e = e.1

-- amounts as a list says them
amount_said : (things : List (Thing × ℕ)) (x : Thing) → amount_of x things ≡ said to_thing to_amount things x
unfolding amount_of
amount_said things x = refl

-- an empty list says nothing
pub amount_none : (x : Thing) → amount_of x [] ≡ 0
unfolding amount_of
amount_none x = refl

module _ {A : Type 0} (load : List (Thing × A)) (i : ℕ) (e : Thing × A) (l : i < length load)
    (is : e ≡ get_or load i e) where
  -- one thing of a load more
  pub load_more : (x : Thing) → times_among x (take i load) + only e.0 1 x
      ≡ times_among x (take (i + 1) load)
  load_more x = said_more (λ (t : Thing × A). t.0) (λ t. 1) load i e l is x

  -- no more than the whole load
  pub load_more_le : (x : Thing) → times_among x (take i load) + only e.0 1 x ≤ times_among x load
  load_more_le x = said_more_le (λ (t : Thing × A). t.0) (λ t. 1) load i e l is x

module _ (a : ℕ) (things : List (Thing × ℕ)) (i : ℕ) (e : Thing × ℕ) (l : i < length things)
    (is : e ≡ get_or things i e) where
  -- what the first amounts say of the actor's own things
  abbrev pub own_amounts : ℕ → Thing → ℕ
  own_amounts n = own_only a (λ x. amount_of x (take n things))

  -- one amount more
  amounts_more : (x : Thing) → amount_of x (take i things) + only e.0 e.1 x
      ≡ amount_of x (take (i + 1) things)
  amounts_more x = ap (λ n. n + only e.0 e.1 x) (amount_said (take i things) x)
      ∙ said_more to_thing to_amount things i e l is x
      ∙ sym (amount_said (take (i + 1) things) x)

  -- no more than all amounts
  amounts_more_le : (x : Thing) → amount_of x (take i things) + only e.0 e.1 x ≤ amount_of x things
  amounts_more_le x = omega (
    arith,
    amount_said (take i things) x,
    amount_said things x,
    said_more_le to_thing to_amount things i e l is x,
  )

  -- one amount more, of the actor's own things alone
  split : (x : Thing) → own_amounts i x + own_only a (only e.0 e.1) x ≡ own_amounts (i + 1) x
  split x = own_both a (λ y. amount_of y (take i things)) (only e.0 e.1) x
      ∙ ap (λ f. own_only a f x) (λ k y. amounts_more y k)

  -- one amount of the actor's own things more
  pub own_amount_more : owner_of e.0 ≡ a → (x : Thing)
      → own_amounts i x + only e.0 e.1 x ≡ own_amounts (i + 1) x
  own_amount_more mine x = ap (λ n. own_amounts i x + n) (sym (own_thing a e.0 e.1 mine x)) ∙ split x

  -- no more than all amounts of its own things
  pub own_amount_le : owner_of e.0 ≡ a → (x : Thing)
      → own_amounts i x + only e.0 e.1 x ≤ own_only a (λ y. amount_of y things) x
  own_amount_le mine x =
      let whole = own_le a (λ y. amount_of y (take (i + 1) things)) (λ y. amount_of y things)
      (λ y. omega (arith, amounts_more y, amounts_more_le y)) x in
      omega (arith, own_amount_more mine x)

  -- one amount of another's things more
  pub others_amount : owner_of e.0 ≢ a → (x : Thing) → own_amounts i x ≡ own_amounts (i + 1) x
  others_amount other x = omega (arith, others_thing a e.0 e.1 other x, split x)
