-- What the entries of a table have for a key is what a look-up finds.
use Rattle.std.proofs.Common.{◌≡◌, ◌≢◌, ◌+◌, ◌==◌, ◌&&◌, ℕ, Bool, true, false, cond, if◌then◌else◌, List, [], ◌∷◌, Option, Some, inl, inr, refl, ap, sym, ◌∙◌, arith, eq-eqb, ne_eqb}
use Rattle.std.specs.Prelude.{T, sum_by, unwrap_or}
use Rattle.std.specs.Option.{option_map_or}
use Rattle.std.specs.Cmp.{IsTotalOrder, nat_cmp_total}
use Rattle.std.specs.FinMap as m
use Rattle.std.specs.FinMap.{IsAntisymmetric, nat_cmp-IsAntisymmetric}
use Rattle.std.specs.FinMap.Entries.{below_all, find, is_sorted}
use Rattle.std.specs.Ordering.{eq_by_cmp, is_eq, is_lt, nat_cmp}
use Rattle.std.specs.declared.cmp.Ordering.{Ordering}
use Rattle.std.specs.declared.cmp.Ordering.TheVariants.{Less, Equal, Greater}
use Rattle.std.proofs.lemmas.Bool.{cases_eq}
use Rattle.std.proofs.lemmas.Cmp.{tied_itself}
use Rattle.std.proofs.lemmas.List.Sums.{sum_by-cons}
use Rattle.orca_names.proofs.ThingOrder.{is_eq_true, is_ne_false, thing_exact, thing_total}
use Rattle.orca_names.specs.Names.{is_thing, owner_of, serial_of, thing_cmp}
use Rattle.orca_names.specs.declared.names.ObjName.{ObjName}
use Rattle.orca_names.specs.declared.names.Thing.{Thing}
use Rattle.orca_names.specs.declared.names.Thing.TheVariants.{Actor, Obj}
use Rattle.letter_kinds.specs.Holdings.{Holdings, Row, entry_count, held_in, own_in, row_count}
use Rattle.picture_laws.proofs.Amounts.{has_of, of_thing}
use Rattle.picture_laws.proofs.Things.{one_name}

first : (a b : Bool) → T (a && b) → T a
first true b p = tt
first false b p = p

second : (a b : Bool) → T (a && b) → T b
second true b p = p
second false b p = absurd p

less : (o : Ordering) → T (is_lt o) → o ≡ Less
less Less p = refl
less Equal p = absurd p
less Greater p = absurd p

equal : (o : Ordering) → is_eq o ≡ true → o ≡ Equal
equal Less e = cc
equal Equal e = refl
equal Greater e = cc

off_where : (b : Bool) → (b ≡ true → ⊥) → b ≡ false
off_where true h = absurd (h refl)
off_where false h = refl

module _ {K : Type 0} (R : K → K → Ordering) (total : IsTotalOrder R) (exact : IsAntisymmetric R) where
  same_key : (x y : K) → x ≡ y → eq_by_cmp R x y ≡ true
  same_key x y e = ap (eq_by_cmp R x) (sym e) ∙ ap is_eq (tied_itself total x)

  other_key : (x y : K) → x ≢ y → eq_by_cmp R x y ≡ false
  other_key x y ne = off_where (eq_by_cmp R x y) (λ e. ne (exact x y (equal (R x y) e)))

  module _ {X : Type 0} (amount : X → ℕ) (q : K) where
    -- the entry's amount, where it is of the key
    abbrev at_key : K × X → ℕ
    at_key e = if eq_by_cmp R q e.0 then amount e.1 else 0

    none_behind : (k : K) (es : List (K × X)) → T (below_all R k es) → q ≡ k → sum_by at_key es ≡ 0
    none_behind k [] h same = refl
    none_behind k (e ∷ es) h same =
        let above = less (R k e.0) (first (is_lt (R k e.0)) (below_all R k es) h) in
        let other : eq_by_cmp R q e.0 ≡ false = ap (λ j. eq_by_cmp R j e.0) same ∙ ap is_eq above in
        let nothing = ap (λ (b : Bool). if b then amount e.1 else 0) other in
        omega (arith, sum_by-cons at_key e es, nothing, none_behind k es (second (is_lt (R k e.0)) (below_all R k es) h) same)

    found : (es : List (K × X)) → T (is_sorted R es) → sum_by at_key es ≡ option_map_or amount (find R q es) 0
    found [] h = refl
    found (e ∷ es) h = sum_by-cons at_key e es ∙ by (eq_by_cmp R q e.0) refl (found es (second (below_all R e.0 es) (is_sorted R es) h))
      where
        by : (b : Bool) → eq_by_cmp R q e.0 ≡ b → sum_by at_key es ≡ option_map_or amount (find R q es) 0
            → (if b then amount e.1 else 0) + sum_by at_key es ≡ option_map_or amount (cond b (Some e.1) (find R q es)) 0
        by true is later =
            let key = exact q e.0 (equal (R q e.0) is) in
            let none = none_behind e.0 es (first (below_all R e.0 es) (is_sorted R es) h) key in
            omega (arith, none)
        by false is later = omega (arith, later)

-- ---- what is held

abbrev pub held_thing : Thing × (ℕ × Option Row) → Thing
held_thing e = e.0

abbrev pub held_amount : Thing × (ℕ × Option Row) → ℕ
held_amount e = e.1.0

pub held_is : (x : Thing) (h : Holdings) → has_of held_thing held_amount x (m.entries h.foreign) ≡ held_in h x
unfolding held_in
held_is x h =
    found thing_cmp thing_total thing_exact (λ (y : ℕ × Option Row). y.0) x (m.entries h.foreign) (m.entries_sorted h.foreign)
    ∙ ap entry_count (sym (m.get-entries h.foreign x))

-- ---- what an actor counts

module _ (a : ℕ) where
  abbrev pub row_thing : ℕ × (Row × ℕ) → Thing
  row_thing e = Obj (record { owner = a; serial = e.0 })

  abbrev pub row_amount : ℕ × (Row × ℕ) → ℕ
  row_amount e = e.1.1

  no_rows : (x : Thing) (es : List (ℕ × (Row × ℕ))) → ((s : ℕ) → is_thing x (Obj (record { owner = a; serial = s })) ≡ false) → has_of row_thing row_amount x es ≡ 0
  no_rows x [] h = refl
  no_rows x (e ∷ es) h =
      let nothing = ap (λ (b : Bool). if b then e.1.1 else 0) (h e.0) in
      omega (arith, sum_by-cons (of_thing row_thing row_amount x) e es, nothing, no_rows x es h)

  not_object : (b : ℕ) (n : ObjName) → is_thing (Actor b) (Obj n) ≡ false
  not_object b n = is_ne_false (Actor b) (Obj n) (λ e. let z = ap serial_of e in cc)

  not_actor : (n : ObjName) (b : ℕ) → is_thing (Obj n) (Actor b) ≡ false
  not_actor n b = is_ne_false (Obj n) (Actor b) (λ e. let z = ap serial_of e in cc)

  row_test : (n : ObjName) (s : ℕ) → n.owner ≡ a → is_thing (Obj n) (Obj (record { owner = a; serial = s })) ≡ eq_by_cmp nat_cmp n.serial s
  row_test n s own = elim (cases_eq n.serial s) [
    | inl same ↦ is_eq_true (Obj n) (Obj (record { owner = a; serial = s })) (ap Obj (one_name n (record { owner = a; serial = s }) own same))
        ∙ sym (same_key nat_cmp nat_cmp_total nat_cmp-IsAntisymmetric n.serial s same)
    | inr other ↦ is_ne_false (Obj n) (Obj (record { owner = a; serial = s })) (λ e. other (ap (λ x. unwrap_or (serial_of x) 0) e))
        ∙ sym (other_key nat_cmp nat_cmp_total nat_cmp-IsAntisymmetric n.serial s other)
  ]

  rows_own : (n : ObjName) (h : Holdings) → n.owner ≡ a → has_of row_thing row_amount (Obj n) (m.entries h.rows) ≡ own_in h (Obj n)
  unfolding own_in
  rows_own n h own =
      ap (λ (f : ℕ × (Row × ℕ) → ℕ). sum_by f (m.entries h.rows)) (λ i e. if row_test n e.0 own i then e.1.1 else 0)
      ∙ found nat_cmp nat_cmp_total nat_cmp-IsAntisymmetric (λ (e : Row × ℕ). e.1) n.serial (m.entries h.rows) (m.entries_sorted h.rows)
      ∙ ap row_count (sym (m.get-entries h.rows n.serial))

  actor_own : (b : ℕ) (h : Holdings) → h.count ≡ own_in h (Actor b)
  unfolding own_in
  actor_own b h = refl

  -- the actor's own count, and those of its objects
  abbrev pub own_said : Thing → Holdings → ℕ
  own_said x h = (if is_thing x (Actor a) then h.count else 0) + has_of row_thing row_amount x (m.entries h.rows)

  pub own_is : (x : Thing) (h : Holdings) → own_said x h ≡ (if owner_of x == a then own_in h x else 0)
  own_is (Actor b) h = elim (cases_eq b a) [
    | inl same ↦
        let here = ap (λ (t : Bool). if t then h.count else 0) (is_eq_true (Actor b) (Actor a) (ap Actor same)) in
        let mine = ap (λ (t : Bool). if t then own_in h (Actor b) else 0) (eq-eqb b a same) in
        omega (arith, here, mine, actor_own b h, no_rows (Actor b) (m.entries h.rows) (λ s. not_object b (record { owner = a; serial = s })))
    | inr other ↦
        let here = ap (λ (t : Bool). if t then h.count else 0) (is_ne_false (Actor b) (Actor a) (λ e. other (ap owner_of e))) in
        let mine = ap (λ (t : Bool). if t then own_in h (Actor b) else 0) (ne_eqb b a other) in
        omega (arith, here, mine, no_rows (Actor b) (m.entries h.rows) (λ s. not_object b (record { owner = a; serial = s })))
  ]
  own_is (Obj n) h = elim (cases_eq n.owner a) [
    | inl same ↦
        let here = ap (λ (t : Bool). if t then h.count else 0) (not_actor n a) in
        let mine = ap (λ (t : Bool). if t then own_in h (Obj n) else 0) (eq-eqb n.owner a same) in
        omega (arith, here, mine, rows_own n h same)
    | inr other ↦
        let here = ap (λ (t : Bool). if t then h.count else 0) (not_actor n a) in
        let mine = ap (λ (t : Bool). if t then own_in h (Obj n) else 0) (ne_eqb n.owner a other) in
        omega (
          arith,
          here,
          mine,
          no_rows (Obj n) (m.entries h.rows)
              (λ s. is_ne_false (Obj n) (Obj (record { owner = a; serial = s })) (λ e. other (ap owner_of e))),
        )
  ]
