-- With root-only tracing: where an actor's marks start, as a list and in the words.
use Rattle.std.proofs.Common.{◌≡◌, ◌≢◌, ℕ, ◌<◌, ◌==◌, not, cond, Bool, true, false, Option, Some, None, List, [], ◌∷◌, ◌++◌, map, filter, refl, sym, ◌∙◌, ap, arith, subst, ⊎_elim, eq-eqb, ne_eqb, eqb-true, T}
use Rattle.std.specs.Prelude.{Contains}
use Rattle.std.specs.FinMap as m
use Rattle.std.specs.Ordering.{nat_cmp, eq_by_cmp, is_lt}
use Rattle.std.specs.Cmp.{unsigned_tied}
use Rattle.std.proofs.lemmas.Bool.{cases_eq}
use Rattle.std.proofs.lemmas.Cmp.{nat_cmp_total, tied_itself}
use Rattle.std.proofs.lemmas.List.Elements.{Contains-append_left, Contains-append_right, filter_map-append, Contains-append_cases}
use Rattle.orca_names.specs.declared.names.ObjName.{ObjName}
use Rattle.orca_names.specs.declared.names.Thing.{Thing}
use Rattle.orca_names.specs.declared.names.Thing.TheVariants.{Obj}
use Rattle.orca_names.specs.declared.names.Value.{Value}
use Rattle.orca_names.specs.declared.names.Value.TheVariants as values
use Rattle.reach_walk.proofs.Elements.{Contains-head, Contains-later, Contains-cons_cases, none_in_nil}
use Rattle.reach_walk.specs.Reach.{named_by, thing_of}
use Rattle.letter_kinds.specs.Holdings.{Row, own_in, row_count}
use Rattle.count_laws.proofs.balance.Sweeping.{both_true}
use Rattle.machine_rules.specs.Cell.{Cell}
use Rattle.machine_rules.specs.Collect.{start_of_marks}
use Rattle.count_laws.specs.Known.{Names}
use Rattle.std.specs.FinMap.Entries.{below_all}
use Rattle.count_laws.specs.Clean.{StartsMarks, of_count, of_field}

-- ---- where the walk starts

abbrev own_value : ℕ → ℕ × (Row × ℕ) → Value
own_value me e = values.Obj (record { owner = me; serial = e.0 })

abbrev is_counted : ℕ × (Row × ℕ) → Bool
is_counted e = not (e.1.1 == 0)

counted_found : (me k : ℕ) (es : List (ℕ × (Row × ℕ))) (r : Row × ℕ) → m.find nat_cmp k es ≡ Some r → 0 < r.1 → Names (map (own_value me) (filter is_counted es)) (Obj (record { owner = me; serial = k }))
counted_found me k [] r h some = cc
counted_found me k (e ∷ es) r h some = elim (eq_by_cmp nat_cmp k e.0) as
    (λ t. eq_by_cmp nat_cmp k e.0 ≡ t → cond t (Some e.1) (m.find nat_cmp k es) ≡ Some r → Names (map (own_value me) (filter is_counted (e ∷ es))) (Obj (record { owner = me; serial = k }))) [
      | true ↦ λ t h.
          let same : k ≡ e.0 = eqb-true k e.0 (sym (unsigned_tied k e.0) ∙ t) in
          let is : e.1 ≡ r = cc in
          let other : e.1.1 ≢ 0 = λ z. let w = ap (λ (p : Row × ℕ). p.1) is in omega arith in
          rw (ne_eqb e.1.1 0 other) (subst (λ i. Contains (Obj (record { owner = me; serial = e.0 }) ∷ named_by (map (own_value me) (filter is_counted es))) (Obj (record { owner = me; serial = i }))) (sym same) (Contains-head _ _))
      | false ↦ λ t h. later (is_counted e) (counted_found me k es r h some)
    ] refl h
  where
    later : (b : Bool) → Names (map (own_value me) (filter is_counted es)) (Obj (record { owner = me; serial = k })) → Names (map (own_value me) (cond b (e ∷ filter is_counted es) (filter is_counted es))) (Obj (record { owner = me; serial = k }))
    later true c = Contains-later _ _ _ c
    later false c = c

abbrev counted_values : ℕ → Cell → List Value
counted_values me c = map (own_value me) (filter is_counted (m.entries c.holdings.rows))

pub starts_counted : (me : ℕ) (c : Cell) (n : ObjName) → n.owner ≡ me → 0 < own_in c.holdings (Obj n) → Names (start_of_marks me c) (Obj n)
unfolding start_of_marks own_in
starts_counted me c n o some = by_row (m.get c.holdings.rows n.serial) refl some
  where
    by_row : (r : Option (Row × ℕ)) → m.get c.holdings.rows n.serial ≡ r → 0 < row_count r → Names (c.fields.values ++ counted_values me c) (Obj n)
    by_row None e h = absurd (omega arith)
    by_row (Some r) e h = subst (λ xs. Contains xs (Obj n)) (sym (filter_map-append thing_of c.fields.values (counted_values me c)))
        (Contains-append_right (named_by c.fields.values) (named_by (counted_values me c)) (Obj n)
        (subst (λ i. Names (counted_values me c) (Obj (record { owner = i; serial = n.serial }))) (sym o)
        (counted_found me n.serial (m.entries c.holdings.rows) r (sym (m.get-entries c.holdings.rows n.serial) ∙ e) h)))

pub starts_field : (me : ℕ) (c : Cell) (x : Thing) → Names c.fields.values x → Names (start_of_marks me c) x
unfolding start_of_marks
starts_field me c x h =
    subst (λ xs. Contains xs x) (sym (filter_map-append thing_of c.fields.values (counted_values me c))) (Contains-append_left (named_by c.fields.values) (named_by (counted_values me c)) x h)

-- ---- what stands among sorted entries is found

abbrev Entry : Type 0
Entry = ℕ × (Row × ℕ)

below : (k : ℕ) (es : List Entry) → T (below_all nat_cmp k es) → (e : Entry) → Contains es e → T (is_lt (nat_cmp k e.0))
below k [] h e c = none_in_nil e _ c
below k (y ∷ es) h e c = let p = both_true _ _ h in ⊎_elim (λ same. subst (λ (z : Entry). T (is_lt (nat_cmp k z.0))) same p.0) (λ later. below k es p.1 e later) (Contains-cons_cases y es e c)

apart : (k j : ℕ) → T (is_lt (nat_cmp k j)) → j ≢ k
apart k j h e = absurd (subst (λ o. T (is_lt o)) (ap (nat_cmp k) e ∙ tied_itself nat_cmp_total k) h)

found_in : (es : List Entry) → T (m.is_sorted nat_cmp es) → (e : Entry) → Contains es e → m.find nat_cmp e.0 es ≡ Some e.1
found_in [] s e c = none_in_nil e _ c
found_in (y ∷ es) s e c = let p = both_true _ _ s in ⊎_elim
    (λ (same : y ≡ e). let key : e.0 ≡ y.0 = ap (λ (z : Entry). z.0) (sym same) in let row : Some y.1 ≡ Some e.1 = ap (λ (z : Entry). Some z.1) same in rw (unsigned_tied e.0 y.0, eq-eqb e.0 y.0 key) row)
    (λ later. rw (unsigned_tied e.0 y.0, ne_eqb e.0 y.0 (apart y.0 e.0 (below y.0 es p.0 e later))) (found_in es p.1 e later))
    (Contains-cons_cases y es e c)

counted_is : (me : ℕ) (es : List Entry) (x : Thing) → Names (map (own_value me) (filter is_counted es)) x → (e : Entry) × Contains es e × (0 < e.1.1) × (Obj (record { owner = me; serial = e.0 }) ≡ x)
counted_is me [] x n = none_in_nil x _ n
counted_is me (y ∷ es) x n = by_count (is_counted y) refl n (counted_is me es x)
  where
    more : (e : Entry) × Contains es e × (0 < e.1.1) × (Obj (record { owner = me; serial = e.0 }) ≡ x) → (e : Entry) × Contains (y ∷ es) e × (0 < e.1.1) × (Obj (record { owner = me; serial = e.0 }) ≡ x)
    more z = (z.0, Contains-later y es z.0 z.1, z.2, z.3)

    some : not (y.1.1 == 0) ≡ true → 0 < y.1.1
    some t = ⊎_elim (λ z. absurd (let w = rw (eq-eqb y.1.1 0 z) at t in cc)) (λ ne. omega arith) (cases_eq y.1.1 0)

    by_count : (b : Bool) → is_counted y ≡ b → Names (map (own_value me) (cond b (y ∷ filter is_counted es) (filter is_counted es))) x → (Names (map (own_value me) (filter is_counted es)) x → (e : Entry) × Contains es e × (0 < e.1.1) × (Obj (record { owner = me; serial = e.0 }) ≡ x)) → (e : Entry) × Contains (y ∷ es) e × (0 < e.1.1) × (Obj (record { owner = me; serial = e.0 }) ≡ x)
    by_count true t n rest = ⊎_elim
        (λ same. (y, Contains-head y es, some t, same))
        (λ later. more (rest later))
        (Contains-cons_cases (Obj (record { owner = me; serial = y.0 })) (named_by (map (own_value me) (filter is_counted es))) x n)
    by_count false t n rest = more (rest n)

-- where marks begin
pub starts : (me : ℕ) (c : Cell) (x : Thing) → Names (start_of_marks me c) x → StartsMarks me c x
unfolding start_of_marks own_in
starts me c x n = ⊎_elim
    (λ field. of_field field)
    (λ counted.
    let z = counted_is me (m.entries c.holdings.rows) x counted in
    let got : m.get c.holdings.rows z.0.0 ≡ Some z.0.1 = m.get-entries c.holdings.rows z.0.0 ∙ found_in (m.entries c.holdings.rows) (m.entries_sorted c.holdings.rows) z.0 z.1 in
    subst (StartsMarks me c) z.3 (of_count {n = record { owner = me; serial = z.0.0 }} refl (subst (λ (o : Option (Row × ℕ)). 0 < row_count o) (sym got) z.2)))
    (Contains-append_cases (named_by c.fields.values) (named_by (counted_values me c)) x (subst (λ xs. Contains xs x) (filter_map-append thing_of c.fields.values (counted_values me c)) n))
