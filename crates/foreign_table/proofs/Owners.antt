-- Owners in the order of things.
use Rattle.std.proofs.Common.{◌≡◌, ◌≢◌, inl, inr, ℕ, ◌+◌, ◌<◌, ◌≤◌, List, length, get_or, map, Option, Some, None, Ordering, refl, sym, ap, ◌∙◌, arith}
use Rattle.std.specs.Option.{option_cmp}
use Rattle.std.specs.Ordering.{nat_cmp, ordering_then}
use Rattle.std.specs.declared.cmp.Ordering.TheVariants.{Less, Equal, Greater}
use Rattle.std.proofs.lemmas.Bool.{cases_lt}
use Rattle.std.proofs.lemmas.Bool.Decides.{nat_tests}
use Rattle.std.proofs.lemmas.List.{length-map, get_or-map}
use Rattle.plain_list.specs.Rising.{IsAt}
use Rattle.plain_list.proofs.Rising.{rises}
use Rattle.orca_names.specs.Names.{owner_of, serial_of, thing_cmp}
use Rattle.orca_names.specs.declared.names.Thing.{Thing}
use Rattle.orca_names.specs.declared.names.Thing.TheVariants.{Actor}
use Rattle.orca_names.proofs.ThingOrder.{thing_total}
use Rattle.foreign_table.specs.declared.search.Entry.{Entry}
use Rattle.foreign_table.specs.declared.search.Place.TheVariants.{Here}
use Rattle.foreign_table.specs.Entry.{amount_of}
use Rattle.foreign_table.specs.Span.{IsSpan}
use Rattle.foreign_table.specs.Table.{DoRise}

nat_less : (a b : ℕ) → nat_cmp a b ≡ Less → a < b
nat_less a b e = grind (arith, nat_tests)

nat_equal : (a b : ℕ) → nat_cmp a b ≡ Equal → a ≡ b
nat_equal a b e = grind (arith, nat_tests)

nat_greater : (a b : ℕ) → nat_cmp a b ≡ Greater → b < a
nat_greater a b e = grind (arith, nat_tests)

not_above : (o : Ordering) (a b : ℕ) (r : Ordering) → nat_cmp a b ≡ o → ordering_then o r ≡ Less → a ≤ b
not_above Less a b r i e = let l = nat_less a b i in omega arith
not_above Equal a b r i e = omega (arith, nat_equal a b i)
not_above Greater a b r i e = cc

-- a thing before another has no higher owner
pub owners_in_order : (x y : Thing) → thing_cmp x y ≡ Less → owner_of x ≤ owner_of y
owners_in_order x y e = not_above (nat_cmp (owner_of x) (owner_of y)) (owner_of x) (owner_of y) (option_cmp nat_cmp (serial_of x) (serial_of y)) refl e

before_none : (o : Ordering) (a b : ℕ) (s : Option ℕ) → nat_cmp a b ≡ o → ordering_then o (option_cmp nat_cmp None s) ≡ Greater → b < a
before_none Less a b s i e = cc
before_none Equal a b None i e = cc
before_none Equal a b (Some n) i e = cc
before_none Greater a b s i e = nat_greater a b i

-- what comes before an actor has a lower owner
pub before_actor : (a : ℕ) (x : Thing) → thing_cmp (Actor a) x ≡ Greater → owner_of x < a
before_actor a x e = before_none (nat_cmp a (owner_of x)) a (owner_of x) (serial_of x) refl e

-- ---- among entries

module _ (es : List Entry) where
  key_at : (k : ℕ) (d : Entry) → k < length es → get_or (map amount_of es) k (amount_of d) ≡ amount_of (get_or es k d)
  key_at k d l = get_or-map amount_of es k d (amount_of d) l

  within_keys : (k : ℕ) → k < length es → k < length (map amount_of es)
  within_keys k l = omega (arith, length-map es amount_of)

  -- before an actor's place owners are lower
  pub lower_before : (a i : ℕ) → i ≤ length es → ((j : ℕ) (d : Thing × ℕ) → j < i → thing_cmp (Actor a) (get_or (map amount_of es) j d).0 ≡ Greater)
      → (k : ℕ) (d : Entry) → k < i → owner_of (get_or es k d).thing < a
  lower_before a i within before k d l =
      let m : k < length es = omega arith in
      before_actor a (get_or es k d).thing (ap (λ e. thing_cmp (Actor a) e.0) (sym (key_at k d m)) ∙ before k (amount_of d) l)

  pub no_lower_after : (a i : ℕ) → ((j : ℕ) (d : Thing × ℕ) → i ≤ j → j < length (map amount_of es) → thing_cmp (Actor a) (get_or (map amount_of es) j d).0 ≡ Less)
      → (k : ℕ) (d : Entry) → i ≤ k → k < length es → a ≤ owner_of (get_or es k d).thing
  no_lower_after a i after k d l m =
      owners_in_order (Actor a) (get_or es k d).thing (ap (λ e. thing_cmp (Actor a) e.0) (sym (key_at k d m)) ∙ after k (amount_of d) l (within_keys k m))

  pub no_lower_from : (a i : ℕ) → IsAt thing_cmp (map amount_of es) (Actor a) i → (k : ℕ) (d : Entry) → i ≤ k → k < length es → a ≤ owner_of (get_or es k d).thing
  no_lower_from a i p k d l m = elim (cases_lt i k) as (λ _. a ≤ owner_of (get_or es k d).thing) [
    | inl n ↦ no_lower_after a (i + 1) (λ j e o q. p.after j e (omega arith) q) k d (omega arith) m
    | inr n ↦
        let here : k ≡ i = omega arith in
        let own : owner_of (get_or es k d).thing ≡ a = ap (λ e. owner_of e.0) (sym (key_at k d m)) ∙ ap (λ j. owner_of (get_or (map amount_of es) j (amount_of d)).0) here ∙ ap owner_of (p.has_key (amount_of d)) in
        omega arith
  ]

  thing_there : (k : ℕ) (d : Thing) → k < length es → get_or (map (λ (e : Entry). e.thing) es) k d ≡ (get_or es k (record { thing = d; count = 0; first = 0; place = Here 0 })).thing
  thing_there k d l = get_or-map (λ (e : Entry). e.thing) es k (record { thing = d; count = 0; first = 0; place = Here 0 }) d l

  pub spans : (owner first end : ℕ) → DoRise es → first ≤ end → end ≤ length es
      → ((k : ℕ) (d : Entry) → k < first → owner_of (get_or es k d).thing < owner)
      → ((k : ℕ) (d : Entry) → first ≤ k → k < length es → owner ≤ owner_of (get_or es k d).thing)
      → ((k : ℕ) (d : Entry) → first ≤ k → k < end → owner_of (get_or es k d).thing ≡ owner)
      → (end < length es → (d : Entry) → owner_of (get_or es end d).thing ≢ owner) → IsSpan owner (map (λ (e : Entry). e.thing) es) first end
  spans owner first end h low high below behind own stop = record {
    first_within = low;
    end_within = omega (arith, length-map es (λ (e : Entry). e.thing));
    below = λ k d l. rw (thing_there k d (omega arith)) (below k (record { thing = d; count = 0; first = 0; place = Here 0 }) l);
    own = λ k d l m. rw (thing_there k d (omega arith)) (own k (record { thing = d; count = 0; first = 0; place = Here 0 }) l m);
    above = λ k d l m. let n : k < length es = omega (arith, length-map es (λ (e : Entry). e.thing)) in rw (thing_there k d n) (higher k (record { thing = d; count = 0; first = 0; place = Here 0 }) l n);
  }
    where
      at_end : (d : Entry) → end < length es → owner < owner_of (get_or es end d).thing
      at_end d l =
          let a = behind end d low l in
          elim (cases_lt owner (owner_of (get_or es end d).thing)) as (λ _. owner < owner_of (get_or es end d).thing) [
            | inl m ↦ m
            | inr m ↦ absurd (stop l d (omega arith))
          ]

      higher : (k : ℕ) (d : Entry) → end ≤ k → k < length es → owner < owner_of (get_or es k d).thing
      higher k d l m = elim (cases_lt end k) as (λ _. owner < owner_of (get_or es k d).thing) [
        | inl n ↦
            let e : end < length es = omega arith in
            let order = ap (λ x. thing_cmp x.0 (get_or (map amount_of es) k (amount_of d)).0) (sym (key_at end d e)) ∙ rises thing_total (map amount_of es) h end k (amount_of d) n (within_keys k m) in
            let up = owners_in_order (get_or es end d).thing (get_or es k d).thing (ap (λ x. thing_cmp (get_or es end d).thing x.0) (sym (key_at k d m)) ∙ order) in
            let first_up = at_end d e in
            omega arith
        | inr n ↦ let here : k ≡ end = omega arith in let e : end < length es = omega arith in let up = at_end d e in let same = ap (λ j. owner_of (get_or es j d).thing) here in omega arith
      ]
