-- Every object of which an actor has a row is among those that it knows.
use Rattle.std.proofs.Common.{◌≡◌, ℕ, suc, cond, true, false, Option, Some, None, List, [], ◌∷◌, map, Contains, refl, ap, sym, ◌∙◌, subst, ⊎_elim, eqb-true, eq-eqb, ne_eqb, arith}
use Rattle.std.specs.Prelude.{option_map}
use Rattle.std.specs.List.{cons_option, filter_map}
use Rattle.std.proofs.lemmas.Bool.{cases_eq}
use Rattle.std.proofs.lemmas.List.Elements.{Contains-append_left, Contains-append_right}
use Rattle.std.specs.FinMap as m
use Rattle.std.specs.Ordering.{nat_cmp, eq_by_cmp}
use Rattle.std.specs.Cmp.{unsigned_tied}
use Rattle.orca_names.proofs.ThingOrder.{is_same}
use Rattle.orca_names.specs.Names.{is_thing, thing_cmp}
use Rattle.orca_names.specs.declared.names.ObjName.{ObjName}
use Rattle.orca_names.specs.declared.names.Thing.{Thing}
use Rattle.orca_names.specs.declared.names.Thing.TheVariants.{Obj}
use Rattle.letter_kinds.specs.Holdings.{Row, Holdings, known_objects, object_name, row_of, entry_row}

-- the row of an own object
abbrev pub own_row : Option (Row × ℕ) → Option Row
own_row entry = option_map (λ e. e.0) entry

-- the own objects of entries
abbrev own_names : ℕ → List (ℕ × (Row × ℕ)) → List ObjName
own_names me es = map (λ e. record { owner = me; serial = e.0 }) es

-- one that is found is among them
pub own_found : (me k : ℕ) (es : List (ℕ × (Row × ℕ))) (r : Row) → own_row (m.find nat_cmp k es) ≡ Some r → Contains (own_names me es) (record { owner = me; serial = k })
own_found me k [] r h = cc
own_found me k (e ∷ es) r h = elim (eq_by_cmp nat_cmp k e.0) as
    (λ t. eq_by_cmp nat_cmp k e.0 ≡ t → own_row (cond t (Some e.1) (m.find nat_cmp k es)) ≡ Some r → Contains (own_names me (e ∷ es)) (record { owner = me; serial = k })) [
      | true ↦ λ t h. subst (λ i. Contains (own_names me (e ∷ es)) (record { owner = me; serial = i })) (sym (eqb-true k e.0 (sym (unsigned_tied k e.0) ∙ t))) (0, omega arith, refl)
      | false ↦ λ t h. let c = own_found me k es r h in (suc c.0, omega (arith, c.1), c.2)
    ] refl h

pub first_option : (o : Option ObjName) (n : ObjName) (ns : List ObjName) → o ≡ Some n → Contains (cons_option o ns) n
first_option None n ns e = cc
first_option (Some q) n ns e = let same : q ≡ n = cc in subst (λ q. Contains (q ∷ ns) n) (sym same) (0, omega arith, refl)

pub later_option : (o : Option ObjName) (n : ObjName) (ns : List ObjName) → Contains ns n → Contains (cons_option o ns) n
later_option None n ns c = c
later_option (Some q) n ns c = (suc c.0, omega (arith, c.1), c.2)

entry_found : (n : ObjName) (es : List (Thing × (ℕ × Option Row))) (r : Row) → entry_row (m.find thing_cmp (Obj n) es) ≡ Some r
    → Contains (filter_map (λ e. object_name e.0) es) n
entry_found n [] r h = cc
entry_found n (e ∷ es) r h = elim (is_thing (Obj n) e.0) as
    (λ t. is_thing (Obj n) e.0 ≡ t → entry_row (cond t (Some e.1) (m.find thing_cmp (Obj n) es)) ≡ Some r → Contains (filter_map (λ e. object_name e.0) (e ∷ es)) n) [
      | true ↦ λ t h. first_option (object_name e.0) n _ (ap object_name (sym (is_same (Obj n) e.0 t)))
      | false ↦ λ t h. later_option (object_name e.0) n _ (entry_found n es r h)
    ] refl h

pub known_objects-cover : (me : ℕ) (c : Holdings) → (n : ObjName) (row : Row) → row_of me c n ≡ Some row → Contains (known_objects me c) n
unfolding known_objects row_of
known_objects-cover me c n r h = ⊎_elim
    (λ same. Contains-append_left _ _ n (subst (Contains (own_names me (m.entries c.rows))) (name same)
    (own_found me n.serial (m.entries c.rows) r (sym (ap own_row (m.get-entries c.rows n.serial)) ∙ rw (eq-eqb n.owner me same) at h))))
    (λ other. Contains-append_right _ _ n (entry_found n (m.entries c.foreign) r (sym (ap entry_row (m.get-entries c.foreign (Obj n))) ∙ rw (ne_eqb n.owner me other) at h)))
    (cases_eq n.owner me)
  where
    name : n.owner ≡ me → record { owner = me; serial = n.serial } ≡ n
    name o = λ i. record { owner = sym o i; serial = n.serial }
