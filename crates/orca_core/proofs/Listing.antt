-- The things that are left of the actors so far.
use Rattle.std.proofs.Common.{◌≡◌, ◌↔◌, ◌<◌, ◌≤◌, ◌+◌, ◌⊎◌, ◌≢◌, ℕ, Bool, true, false, ◌||◌, ◌&&◌, List, [], ◌∷◌, ◌++◌, map, length, Option, None, Some, Contains, refl, sym, ap, subst, ◌∙◌, arith, inl, inr}
use Rattle.std.specs.Prelude.{T, is_some, option_map, cond}
use Rattle.std.specs.FinMap as m
use Rattle.std.specs.FinMap.Entries.{below_all, find, is_sorted}
use Rattle.std.specs.List.{AllByRecursion}
use Rattle.std.specs.List.Sorted.{IsStrictlySortedBy}
use Rattle.std.specs.Ordering.{nat_cmp, ordering_then, eq_by_cmp, is_eq, is_lt}
use Rattle.std.specs.Option.{option_cmp}
use Rattle.std.specs.Cmp.{nat_cmp_total}
use Rattle.std.proofs.lemmas.Cmp.{tied_itself}
use Rattle.std.specs.declared.cmp.Ordering.{Ordering}
use Rattle.std.specs.declared.cmp.Ordering.TheVariants.{Less, Equal, Greater}
use Rattle.std.proofs.lemmas.Bool.{cases_eq, cases_lt, or_right}
use Rattle.std.proofs.lemmas.Bool.Decides.{nat_tests}
use Rattle.std.proofs.lemmas.List.{get_or_past}
use Rattle.std.proofs.lemmas.List.Elements.{Contains-append_cases, Contains-append_left, Contains-append_right, Contains-push_cases}
use Rattle.orca_names.specs.Names.{owner_of, serial_of, thing_cmp}
use Rattle.orca_names.specs.declared.names.Thing.{Thing}
use Rattle.orca_names.specs.declared.names.Thing.TheVariants.{Actor, Obj}
use Rattle.letter_kinds.specs.Holdings.{Row, has_own}
use Rattle.machine_rules.specs.Actors.{Actors, Seat, cell_at, seat_at}
use Rattle.machine_rules.specs.Cell as rules
use Rattle.machine_rules.specs.Left.{IsLeft}
use Rattle.actor_cell.specs.declared.cell.Cell.{Cell}
use Rattle.actor_cell.specs.Cells.{as_cell}
use Rattle.orca_parts.specs.Away.{is_out}
use Rattle.orca_core.specs.Left.{things_of}
use Rattle.orca_core.specs.Machine.{Machine, cell_here}

-- ---- tests

-- both hold
pub first : (a b : Bool) → T (a && b) → T a
first true b p = tt
first false b p = p

pub second : (a b : Bool) → T (a && b) → T b
second true b p = p
second false b p = absurd p

-- what passes the test for less
pub less : (o : Ordering) → T (is_lt o) → o ≡ Less
less Less p = refl
less Equal p = absurd p
less Greater p = absurd p

-- ---- lists

module _ {X : Type 0} where
  -- what stands in a list is its first or stands behind it
  first_or_later : (x y : X) (xs : List X) → Contains (x ∷ xs) y → (x ≡ y) ⊎ Contains xs y
  first_or_later x y xs h = elim (Contains-append_cases (x ∷ []) xs y h) as (λ _. (x ≡ y) ⊎ Contains xs y) [
    | inl one ↦ elim (Contains-push_cases [] x y one) as (λ _. (x ≡ y) ⊎ Contains xs y) [
      | inl none ↦ absurd (omega (arith, none.1))
      | inr same ↦ inl same
    ]
    | inr later ↦ inr later
  ]

  -- the first stands in its list
  at_first : (x : X) (xs : List X) → Contains (x ∷ xs) x
  at_first x xs = (0, omega arith, refl)

  -- what holds of all that stands there holds of each element
  all_of : (P : X → Type 0) (xs : List X) → ((y : X) → Contains xs y → P y) → AllByRecursion P xs
  all_of P [] h = tt
  all_of P (x ∷ xs) h =
      (h x (at_first x xs), all_of P xs (λ y c. h y (Contains-append_right (x ∷ []) xs y c)))

  -- what holds of each element of two lists holds of each of the joined one
  all_joined : (P : X → Type 0) (xs ys : List X) → AllByRecursion P xs → AllByRecursion P ys
      → AllByRecursion P (xs ++ ys)
  all_joined P [] ys h k = k
  all_joined P (x ∷ xs) ys h k = (h.0, all_joined P xs ys h.1 k)

  -- two lists rise together where each of the first is below each of the second
  rise_joined : (R : X → X → Ordering) (xs ys : List X) → IsStrictlySortedBy R xs
      → IsStrictlySortedBy R ys → ((x y : X) → Contains xs x → Contains ys y → R x y ≡ Less)
      → IsStrictlySortedBy R (xs ++ ys)
  unfolding IsStrictlySortedBy
  rise_joined R [] ys h k below = k
  rise_joined R (x ∷ xs) ys h k below =
      let behind = all_of (λ y. R x y ≡ Less) ys (λ y c. below x y (at_first x xs) c) in (
        all_joined (λ y. R x y ≡ Less) xs ys h.0 behind,
        rise_joined R xs ys h.1 k (λ z y c d. below z y (Contains-append_right (x ∷ []) xs z c) d),
      )

-- ---- the order of things

-- the order of two serials, where there are serials
abbrev by_serial : Thing → Thing → Ordering
by_serial x y = option_cmp nat_cmp (serial_of x) (serial_of y)

-- a thing of a lower owner is below
apart : (x y : Thing) → owner_of x < owner_of y → thing_cmp x y ≡ Less
apart x y l = ap (λ o. ordering_then o (by_serial x y)) (lesser (owner_of x) (owner_of y) l)
  where
    lesser : (a b : ℕ) → a < b → nat_cmp a b ≡ Less
    lesser a b h = grind (arith, nat_tests)

-- of one owner the order is that of the serials
beside : (x y : Thing) → owner_of x ≡ owner_of y → by_serial x y ≡ Less → thing_cmp x y ≡ Less
beside x y same less =
    let tied = ap (nat_cmp (owner_of x)) (sym same) ∙ tied_itself nat_cmp_total (owner_of x) in
    ap (λ o. ordering_then o (by_serial x y)) tied ∙ less

-- ---- the things of one actor

-- objects by serial, with their rows and counts
abbrev Items : Type 0
Items = List (ℕ × (Row × ℕ))

-- the object of this owner and serial
abbrev object : ℕ → ℕ → Thing
object a k = Obj (record { owner = a; serial = k })

-- the objects of these entries
abbrev objects : ℕ → Items → List Thing
objects a es = map (λ e. object a e.0) es

-- the object stands among these
abbrev has_object : Thing → Items → Bool
has_object (Actor b) es = false
has_object (Obj n) es = is_some (find nat_cmp n.serial es)

-- one of these objects, of this owner
abbrev IsAmong : ℕ → Items → Thing → Type 0
IsAmong a es x = (owner_of x ≡ a) × (has_object x es ≡ true)

-- a look-up finds the first, or among the others
found : (k : ℕ) (e : ℕ × (Row × ℕ)) (es : Items)
    → is_some (find nat_cmp k (e ∷ es)) ≡ (eq_by_cmp nat_cmp k e.0 || is_some (find nat_cmp k es))
found k e es = by (eq_by_cmp nat_cmp k e.0)
  where
    by : (b : Bool) → is_some (cond b (Some e.1) (find nat_cmp k es)) ≡ (b || is_some (find nat_cmp k es))
    by true = refl
    by false = refl

-- what a look-up finds is listed
listed : (a k : ℕ) (es : Items) → is_some (find nat_cmp k es) ≡ true → Contains (objects a es) (object a k)
listed a k [] h = cc
listed a k (e ∷ es) h = elim (cases_eq k e.0) as (λ _. Contains (objects a (e ∷ es)) (object a k)) [
  | inl same ↦ subst (λ j. Contains (objects a (e ∷ es)) (object a j)) (sym same)
      (at_first (object a e.0) (objects a es))
  | inr other ↦ Contains-append_right (object a e.0 ∷ []) (objects a es) (object a k)
      (listed a k es (later other))
]
  where
    later : k ≢ e.0 → is_some (find nat_cmp k es) ≡ true
    later other =
        let no : eq_by_cmp nat_cmp k e.0 ≡ false = grind (arith, nat_tests) in
        sym (ap (λ b. b || is_some (find nat_cmp k es)) no) ∙ sym (found k e es) ∙ h

-- what is listed is among them
among : (a : ℕ) (x : Thing) (es : Items) → Contains (objects a es) x → IsAmong a es x
among a x [] h = absurd (omega (arith, h.1))
among a x (e ∷ es) h = elim (first_or_later (object a e.0) x (objects a es) h) as (λ _. IsAmong a (e ∷ es) x) [
  | inl same ↦ subst (IsAmong a (e ∷ es)) same (refl, found e.0 e es ∙ here)
  | inr later ↦ further x (among a x es later)
]
  where
    here : (eq_by_cmp nat_cmp e.0 e.0 || is_some (find nat_cmp e.0 es)) ≡ true
    here = ap (λ o. is_eq o || is_some (find nat_cmp e.0 es)) (tied_itself nat_cmp_total e.0)

    further : (y : Thing) → IsAmong a es y → IsAmong a (e ∷ es) y
    further (Actor b) h = cc
    further (Obj n) h = (h.0, found n.serial e es ∙ or_right (eq_by_cmp nat_cmp n.serial e.0) _ h.1)

-- an object of a lower serial is below them
below_objects : (a k : ℕ) (es : Items) → T (below_all nat_cmp k es)
    → AllByRecursion (λ y. thing_cmp (object a k) y ≡ Less) (objects a es)
below_objects a k [] h = tt
below_objects a k (e ∷ es) h =
    let one = less (nat_cmp k e.0) (first (is_lt (nat_cmp k e.0)) (below_all nat_cmp k es) h) in (
      beside (object a k) (object a e.0) refl one,
      below_objects a k es (second (is_lt (nat_cmp k e.0)) (below_all nat_cmp k es) h),
    )

-- they rise where their serials do
objects_rise : (a : ℕ) (es : Items) → T (is_sorted nat_cmp es)
    → IsStrictlySortedBy thing_cmp (objects a es)
unfolding IsStrictlySortedBy
objects_rise a [] h = tt
objects_rise a (e ∷ es) h = (
  below_objects a e.0 es (first (below_all nat_cmp e.0 es) (is_sorted nat_cmp es) h),
  objects_rise a es (second (below_all nat_cmp e.0 es) (is_sorted nat_cmp es) h),
)

-- the thing is the actor's own, and it has it
abbrev IsIts : Cell → Thing → Type 0
IsIts c x = (owner_of x ≡ c.heap.owner) × (has_own (as_cell c).holdings x ≡ true)

module _ (c : Cell) where
  -- whose cell it is
  abbrev me : ℕ
  me = c.heap.owner

  -- its objects by serial
  abbrev es : Items
  es = m.entries c.heap.rows

  -- an actor's things are its own, and it has each
  pub its_own : (x : Thing) → Contains (things_of c) x → IsIts c x
  unfolding has_own
  its_own x h = elim (first_or_later (Actor me) x (objects me es) h) as (λ _. IsIts c x) [
    | inl same ↦ subst (IsIts c) same (refl, refl)
    | inr later ↦ of x (among me x es later)
  ]
    where
      of : (y : Thing) → IsAmong me es y → IsIts c y
      of (Actor b) h = cc
      of (Obj n) h = (h.0, ap is_some (m.get-entries c.heap.rows n.serial) ∙ h.1)

  -- they are all that it has of its own
  pub all_its_own : (x : Thing) → owner_of x ≡ me → has_own (as_cell c).holdings x ≡ true
      → Contains (things_of c) x
  unfolding has_own
  all_its_own (Actor b) mine there =
      subst (λ a. Contains (things_of c) (Actor a)) (sym mine) (at_first (Actor me) (objects me es))
  all_its_own (Obj n) mine there =
      let is = sym (ap is_some (m.get-entries c.heap.rows n.serial)) ∙ there in
      subst (λ a. Contains (things_of c) (object a n.serial)) (sym mine)
      (Contains-append_right (Actor me ∷ []) _ _ (listed me n.serial es is))

  -- they rise
  its_things_rise : IsStrictlySortedBy thing_cmp (things_of c)
  unfolding IsStrictlySortedBy
  its_things_rise = (
    all_of (λ y. thing_cmp (Actor me) y ≡ Less) (objects me es) (λ y h. before y (among me y es h)),
    objects_rise me es (m.entries_sorted c.heap.rows),
  )
    where
      before : (y : Thing) → IsAmong me es y → thing_cmp (Actor me) y ≡ Less
      before (Actor b) h = cc
      before (Obj n) h = beside (Actor me) (Obj n) (sym h.0) refl

-- where no cell is away, the cell of an actor is at home
pub here_at_home : (m : Machine) (a : ℕ) → is_out m.out a ≡ false → cell_at m.state.actors a ≡ cell_here m a
here_at_home m a home = ap (λ b. cond b None (cell_at m.state.actors a)) (sym home)

-- ---- the things of the first actors

-- these are the things that are left of the first n actors, in their order
pub record IsLeftBelow (actors : Actors) (n : ℕ) (things : List Thing) : Type 0 where
  pub exact : (x : Thing) → Contains things x ↔ (IsLeft actors x × (owner_of x < n))
  pub rises : IsStrictlySortedBy thing_cmp things

-- of no actor nothing
pub none_below : (actors : Actors) → IsLeftBelow actors 0 []
unfolding IsStrictlySortedBy
none_below actors = record {
  exact = λ x. ((λ h. absurd (omega (arith, h.1))), (λ h. absurd (omega (arith, h.1))));
  rises = tt;
}

module _ (actors : Actors) (n : ℕ) (things : List Thing) (h : IsLeftBelow actors n things) where
  -- an actor that is gone leaves nothing
  pub gone_below : cell_at actors n ≡ None → IsLeftBelow actors (n + 1) things
  gone_below gone = record { exact = λ x. (to x, from x); rises = h.rises }
    where
      to : (x : Thing) → Contains things x → IsLeft actors x × (owner_of x < n + 1)
      to x there = let left = (h.exact x).0 there in (left.0, omega (arith, left.1))

      from : (x : Thing) → IsLeft actors x × (owner_of x < n + 1) → Contains things x
      from x left = elim (cases_lt (owner_of x) n) as (λ _. Contains things x) [
        | inl l ↦ (h.exact x).1 (left.0, l)
        | inr past ↦
            let e : owner_of x ≡ n = omega (arith, left.1) in
            let none = sym (ap (option_map (λ o. o.cell)) left.0.present) ∙ ap (cell_at actors) e ∙ gone in
            cc
      ]

  -- an actor that is present leaves what it has
  pub more_below : (c : Cell) → cell_at actors n ≡ Some (as_cell c) → c.heap.owner ≡ n
      → IsLeftBelow actors (n + 1) (things ++ things_of c)
  more_below c here mine = record {
    exact = λ x. (to x, from x);
    rises = rise_joined thing_cmp things (things_of c) h.rises (its_things_rise c) lower;
  }
    where
      lower : (x y : Thing) → Contains things x → Contains (things_of c) y → thing_cmp x y ≡ Less
      lower x y a b = apart x y (omega (arith, ((h.exact x).0 a).1, (its_own c y b).0, mine))

      seated : (found : Option Seat) → option_map (λ (o : Seat). o.cell) found ≡ Some (as_cell c)
          → (o : Seat) × (found ≡ Some o) × (o.cell ≡ as_cell c)
      seated None e = cc
      seated (Some o) e = (o, refl, cc)

      kept_by : (a b : rules.Cell) (x : Thing) → a ≡ b → has_own b.holdings x ≡ true
          → has_own a.holdings x ≡ true
      kept_by a b x same kept = ap (λ cell. has_own cell.holdings x) same ∙ kept

      to : (x : Thing) → Contains (things ++ things_of c) x → IsLeft actors x × (owner_of x < n + 1)
      to x there = elim (Contains-append_cases things (things_of c) x there)
          as (λ _. IsLeft actors x × (owner_of x < n + 1)) [
            | inl before ↦ let left = (h.exact x).0 before in (left.0, omega (arith, left.1))
            | inr new ↦
                let own = its_own c x new in
                let o : (seat : Seat) × (seat_at actors n ≡ Some seat) × (seat.cell ≡ as_cell c) =
                seated (seat_at actors n) here in
                let e : owner_of x ≡ n = own.0 ∙ mine in
                let kept = kept_by o.0.cell (as_cell c) x o.2 own.1 in
                (record { seat = o.0; present = ap (seat_at actors) e ∙ o.1; kept = kept }, omega arith)
          ]

      same_cell : (o : Seat) → Some o.cell ≡ Some (as_cell c) → as_cell c ≡ o.cell
      same_cell o e = cc

      from : (x : Thing) → IsLeft actors x × (owner_of x < n + 1) → Contains (things ++ things_of c) x
      from x left = elim (cases_lt (owner_of x) n) as (λ _. Contains (things ++ things_of c) x) [
        | inl l ↦ Contains-append_left things (things_of c) x ((h.exact x).1 (left.0, l))
        | inr past ↦
            let o = left.0.seat in
            let e : owner_of x ≡ n = omega (arith, left.1) in
            let at = sym (ap (option_map (λ (o : Seat). o.cell)) left.0.present) ∙ ap (cell_at actors) e in
            let kept = kept_by (as_cell c) o.cell x (same_cell o (at ∙ here)) left.0.kept in
            Contains-append_right things (things_of c) x (all_its_own c x (e ∙ sym mine) kept)
      ]

  -- of all actors that is all that is left
  pub all_below : length actors ≤ n → (x : Thing) → Contains things x ↔ IsLeft actors x
  all_below all x = ((λ there. ((h.exact x).0 there).0), (λ left. (h.exact x).1 (left, below left)))
    where
      below : IsLeft actors x → owner_of x < n
      below left = elim (cases_lt (owner_of x) (length actors)) as (λ _. owner_of x < n) [
        | inl l ↦ omega arith
        | inr past ↦ let none = sym (get_or_past actors (owner_of x) None past) ∙ left.present in cc
      ]
