-- Whether lines are those of exactly the things that are left.
use Rattle.std.proofs.Common.{◌≡◌, ◌↔◌, inl, inr, ℕ, zero, suc, ◌+◌, ◌-◌, ◌<◌, ◌≤◌, true, List, [], ◌∷◌, length, get_or, Option, Some, None, Contains, Ordering, refl, sym, ap, subst, ◌∙◌, arith}
use Rattle.std.specs.Prelude.{All, option_map, slice_get}
use Rattle.std.specs.FinMap as m
use Rattle.std.specs.Ordering.{is_lt}
use Rattle.std.specs.declared.cmp.Ordering.TheVariants.{Less, Equal, Greater}
use Rattle.std.proofs.lemmas.Bool.{cases_lt}
use Rattle.std.proofs.lemmas.List.{get_or-map, get_or_default, length-map}
use Rattle.std.proofs.lemmas.List.Elements.{All-contains, Contains-get_or}
use Rattle.std.proofs.lemmas.Map.Keys.{sorted_tail}
use Rattle.std.proofs.lemmas.Option.{get_or_from_slice_get, slice_get_within}
use Rattle.orca_names.specs.Names.{owner_of, thing_cmp}
use Rattle.orca_names.specs.declared.names.ObjName.{ObjName}
use Rattle.orca_names.specs.declared.names.Thing.{Thing}
use Rattle.orca_names.specs.declared.names.Thing.TheVariants.{Actor, Obj}
use Rattle.orca_names.specs.declared.reason.Reason.{Reason}
use Rattle.orca_names.proofs.ThingOrder.{thing_total}
use Rattle.letter_kinds.specs.Holdings.{Row, has_own}
use Rattle.machine_rules.specs.Actors.{Actors, Seat, cell_at, seat_at}
use Rattle.machine_rules.specs.Left.{IsLeft}
use Rattle.reach_walk.specs.Rows.{Contains-map}
use Rattle.reach_walk.proofs.Elements.{Contains-cons_cases, Contains-from_map, Contains-head, none_in_nil}
use Rattle.reach_walk.proofs.InOrder.{first_less, sorted_cons, sorted_nil}
use Rattle.object_heap.specs.Heap.{Has}
use Rattle.actor_cell.specs.declared.cell.Cell.{Cell}
use Rattle.actor_cell.specs.Cells.{as_cell}
use Rattle.orca_core.specs.Left.{things_of}
use Rattle.orca_core.proofs.Listing.{all_its_own, its_own}
use Rattle.why_path.specs.Lines.{Rise}
use Rattle.why_path.specs.Reasons.{ListsLeft, things_in}

-- ---- lines that rise, each beside the next

pub less_true : (o : Ordering) → is_lt o ≡ true → o ≡ Less
less_true Less h = refl
less_true Equal h = cc
less_true Greater h = cc

pub rise_from : (rs : List Reason)
    → ((k : ℕ) (d : Reason) → suc k < length rs → thing_cmp (get_or rs k d).thing (get_or rs (suc k) d).thing ≡ Less)
    → Rise rs
rise_from [] h = sorted_nil
rise_from (r ∷ []) h = sorted_cons r.thing [] (λ z c. none_in_nil z _ c) sorted_nil
rise_from (r ∷ s ∷ rs) h =
    let rest : Rise (s ∷ rs) = rise_from (s ∷ rs) (λ k d l. h (suc k) d (omega arith)) in
    let less = h 0 r (omega arith) in
    sorted_cons r.thing (things_in (s ∷ rs)) (λ z c. elim (Contains-cons_cases s.thing (things_in rs) z c)
    as (λ _. thing_cmp r.thing z ≡ Less) [
      | inl e ↦ subst (λ y. thing_cmp r.thing y ≡ Less) e less
      | inr d ↦ thing_total.trans r.thing s.thing z less (first_less s.thing (things_in rs) rest z d)
    ]) rest

adjacent : (rs : List Reason) → Rise rs → (k : ℕ) (d : Reason) → suc k < length rs
    → thing_cmp (get_or rs k d).thing (get_or rs (suc k) d).thing ≡ Less
adjacent [] rise k d l = absurd (omega arith)
adjacent (r ∷ []) rise k d l = absurd (omega arith)
adjacent (r ∷ s ∷ rs) rise zero d l = first_less r.thing (things_in (s ∷ rs)) rise s.thing (Contains-head s.thing (things_in rs))
adjacent (r ∷ s ∷ rs) rise (suc k) d l =
    adjacent (s ∷ rs) (sorted_tail thing_cmp r.thing (things_in (s ∷ rs)) rise) k d (omega arith)

-- the line before a place and the one there
abbrev pub before_less : List Reason → ℕ → Reason → Reason → Ordering
before_less rs i r s = thing_cmp (get_or rs (i - 1) r).thing (get_or rs i s).thing

defaults : (rs : List Reason) (k i : ℕ) (d r s : Reason) → suc k ≡ i → suc k < length rs
    → thing_cmp (get_or rs k d).thing (get_or rs (suc k) d).thing ≡ before_less rs i r s
defaults rs k i d r s e l =
    let j : k ≡ i - 1 = omega arith in
    let low : k < length rs = omega arith in
    (λ t. thing_cmp (get_or_default rs k d r low t).thing (get_or_default rs (suc k) d s l t).thing)
    ∙ (λ t. thing_cmp (get_or rs (j t) r).thing (get_or rs (e t) s).thing)

pub rise_more : (rs : List Reason) (i : ℕ) (r s : Reason)
    → ((k : ℕ) (d : Reason) → suc k < i → suc k < length rs → thing_cmp (get_or rs k d).thing (get_or rs (suc k) d).thing ≡ Less)
    → before_less rs i r s ≡ Less
    → (k : ℕ) (d : Reason) → suc k < i + 1 → suc k < length rs → thing_cmp (get_or rs k d).thing (get_or rs (suc k) d).thing ≡ Less
rise_more rs i r s so_far less k d l within = elim (cases_lt (suc k) i)
    as (λ _. thing_cmp (get_or rs k d).thing (get_or rs (suc k) d).thing ≡ Less) [
      | inl m ↦ so_far k d m within
      | inr m ↦ let e : suc k ≡ i = omega arith in defaults rs k i d r s e within ∙ less
    ]

pub rise_at : (rs : List Reason) (i : ℕ) (r s : Reason) → 1 ≤ i → i < length rs → Rise rs → before_less rs i r s ≡ Less
rise_at rs i r s low l rise =
    let e : suc (i - 1) ≡ i = omega arith in
    let within : suc (i - 1) < length rs = omega arith in
    sym (defaults rs (i - 1) i r r s e within) ∙ adjacent rs rise (i - 1) r within

-- ---- what is left

-- of a present owner
pub left_where : (actors : Actors) (x : Thing) (o : Seat) → seat_at actors (owner_of x) ≡ Some o
    → has_own o.cell.holdings x ≡ true ↔ IsLeft actors x
left_where actors x o at = (λ h. record { seat = o; present = at; kept = h }, from)
  where
    from : IsLeft actors x → has_own o.cell.holdings x ≡ true
    from left =
        let both = sym left.present ∙ at in
        let same : left.seat ≡ o = cc in
        subst (λ (p : Seat). has_own p.cell.holdings x ≡ true) same left.kept

-- nothing of an actor that is gone
pub none_of : (actors : Actors) (a : ℕ) (x : Thing) → cell_at actors a ≡ None → owner_of x ≡ a → ¬ IsLeft actors x
none_of actors a x gone own left =
    let none = sym (ap (option_map (λ (p : Seat). p.cell)) left.present) ∙ ap (cell_at actors) own ∙ gone in cc

pub heap_has : (c : Cell) (n : ObjName) → n.owner ≡ c.heap.owner
    → Has c.heap n ↔ (has_own (as_cell c).holdings (Obj n) ≡ true)
unfolding has_own
heap_has c n mine = (λ h. h.there, λ there. record { owner = mine; there = there })

-- ---- the things of a cell

pub entry_thing : (c : Cell) (i : ℕ) (name : ObjName) (row : Row) (count : ℕ) (d : Thing)
    → slice_get (m.entries c.heap.rows) i ≡ Some (name.serial, (row, count)) → name.owner ≡ c.heap.owner
    → Obj name ≡ get_or (things_of c) (suc i) d
entry_thing c i name row count d at mine =
    let es = m.entries c.heap.rows in
    let entry : ℕ × (Row × ℕ) = (name.serial, (row, count)) in
    let object : ℕ × (Row × ℕ) → Thing = λ e. Obj (record { owner = c.heap.owner; serial = e.0 }) in
    sym (get_or-map object es i entry d (slice_get_within es i entry at)
    ∙ ap object (get_or_from_slice_get es i entry entry at)
    ∙ (λ t. Obj (record { owner = sym mine t; serial = name.serial })))

pub cell_listed : (P : Thing → Type 0) (c : Cell) (n : ℕ) → m.len c.heap.rows ≤ n → P (Actor c.heap.owner)
    → ((k : ℕ) (d : Thing) → k < n → P (get_or (things_of c) (suc k) d)) → All P (things_of c)
cell_listed P c n whole first others zero d l = first
cell_listed P c n whole first others (suc k) d l =
    others k d (omega (arith, whole, m.len-entries c.heap.rows, length-map (m.entries c.heap.rows) (objects_of c)))
  where
    objects_of : (c : Cell) → ℕ × (Row × ℕ) → Thing
    objects_of c e = Obj (record { owner = c.heap.owner; serial = e.0 })

pub cell_length : (c : Cell) (i : ℕ) → i < m.len c.heap.rows → suc i < length (things_of c)
cell_length c i l = omega (arith, m.len-entries c.heap.rows, length-map (m.entries c.heap.rows) (λ e. Obj (record { owner = c.heap.owner; serial = e.0 })))

-- all that is left of an actor is listed
pub listed_of : (actors : Actors) (rs : List Reason) (a : ℕ) (c : Cell) → cell_at actors a ≡ Some (as_cell c) → c.heap.owner ≡ a
    → All (Contains (things_in rs)) (things_of c)
    ↔ ((x : Thing) → IsLeft actors x → owner_of x ≡ a → Contains (things_in rs) x)
listed_of actors rs a c here mine = (to, from)
  where
    seated : (x : Thing) → owner_of x ≡ a → (o : Option Seat) → seat_at actors (owner_of x) ≡ o
        → option_map (λ (p : Seat). p.cell) o ≡ Some (as_cell c) → (p : Seat) × (seat_at actors (owner_of x) ≡ Some p) × (p.cell ≡ as_cell c)
    seated x own None at e = cc
    seated x own (Some p) at e = (p, at, cc)

    seat : (x : Thing) → owner_of x ≡ a → (p : Seat) × (seat_at actors (owner_of x) ≡ Some p) × (p.cell ≡ as_cell c)
    seat x own = seated x own (seat_at actors (owner_of x)) refl (ap (cell_at actors) own ∙ here)

    to : All (Contains (things_in rs)) (things_of c) → (x : Thing) → IsLeft actors x → owner_of x ≡ a → Contains (things_in rs) x
    to all x left own =
        let p = seat x own in
        let kept = (left_where actors x p.0 p.1).1 left in
        let has = subst (λ cell. has_own cell.holdings x ≡ true) p.2 kept in
        All-contains (Contains (things_in rs)) (things_of c) x all (all_its_own c x (own ∙ sym mine) has)

    from : ((x : Thing) → IsLeft actors x → owner_of x ≡ a → Contains (things_in rs) x) → All (Contains (things_in rs)) (things_of c)
    from all k d l =
        let x = get_or (things_of c) k d in
        let own = its_own c x (Contains-get_or (things_of c) k d l) in
        let p = seat x (own.0 ∙ mine) in
        let has = subst (λ cell. has_own cell.holdings x ≡ true) (sym p.2) own.1 in
        all x ((left_where actors x p.0 p.1).0 has) (own.0 ∙ mine)

-- ---- all together

pub lists_by : (actors : Actors) (rs : List Reason) → Rise rs → All (λ (r : Reason). IsLeft actors r.thing) rs
    → ((x : Thing) → IsLeft actors x → Contains (things_in rs) x) → ListsLeft actors rs
lists_by actors rs rise left listed = record { left = λ x. (only x, listed x); rising = rise }
  where
    only : (x : Thing) → Contains (things_in rs) x → IsLeft actors x
    only x c =
        let from = Contains-from_map (λ (r : Reason). r.thing) rs x c in
        subst (IsLeft actors) from.2 (All-contains (λ (r : Reason). IsLeft actors r.thing) rs from.0 left from.1)

pub lists_left : (actors : Actors) (rs : List Reason) → ListsLeft actors rs → All (λ (r : Reason). IsLeft actors r.thing) rs
lists_left actors rs lists k d l =
    (lists.left (get_or rs k d).thing).0 (Contains-map (λ (r : Reason). r.thing) rs (get_or rs k d) (Contains-get_or rs k d l))
