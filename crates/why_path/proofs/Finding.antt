-- The line of a thing among lines that rise.
use Rattle.std.proofs.Common.{◌≡◌, ◌≢◌, inl, inr, ℕ, ◌<◌, Bool, true, false, ◌&&◌, cond, List, [], ◌∷◌, length, map, get_or, Option, Some, None, Contains, refl, sym, ap, subst, ◌∙◌, arith}
use Rattle.std.specs.Prelude.{T, ◌↔◌, is_some, option_map}
use Rattle.std.specs.Borrow.{Bor}
use Rattle.std.specs.Option.{option_copied}
use Rattle.std.specs.List.{AllByRecursion}
use Rattle.std.specs.List.Sorted.{IsStrictlySortedBy}
use Rattle.std.specs.FinMap.Entries.{below_all, is_sorted}
use Rattle.std.specs.Ordering.{is_eq, is_lt}
use Rattle.std.specs.declared.cmp.Ordering.TheVariants.{Less}
use Rattle.std.proofs.lemmas.Bool.{cases_lt}
use Rattle.std.proofs.lemmas.Cmp.{tied_itself}
use Rattle.std.proofs.lemmas.List.{get_or-map, length-map}
use Rattle.std.proofs.lemmas.List.Elements.{Contains-get_or}
use Rattle.orca_names.specs.Names.{is_thing, thing_cmp}
use Rattle.orca_names.specs.declared.names.Thing.{Thing}
use Rattle.orca_names.specs.declared.reason.Reason.{Reason}
use Rattle.orca_names.proofs.ThingOrder.{is_eq_true, is_same, thing_total}
use Rattle.plain_list.specs.Rising.{IsAt, IsGap}
use Rattle.reach_walk.proofs.Elements.{Contains-head, Contains-later, Contains-cons_cases, none_in_nil}
use Rattle.reach_walk.proofs.InOrder.{first_less}
use Rattle.reach_walk.specs.Rows.{Contains-map}
use Rattle.std.proofs.lemmas.Map.Keys.{sorted_tail}
use Rattle.why_path.specs.Checks.{line_of}
use Rattle.why_path.specs.Lines.{Rise, key_of}
use Rattle.why_path.specs.Reasons.{things_in}

-- ---- what is found

module _ (x : Thing) where
  -- a line that is found is one of the lines, and the thing's
  pub found_line : (rs : List Reason) (r : Reason) → line_of rs x ≡ Some r → Contains rs r × (r.thing ≡ x)
  found_line [] r e = cc
  found_line (s ∷ rs) r e = by (found_line rs r) (is_thing s.thing x) refl e
    where
      by : (line_of rs x ≡ Some r → Contains rs r × (r.thing ≡ x)) → (b : Bool) → is_thing s.thing x ≡ b → cond b (Some s) (line_of rs x) ≡ Some r
          → Contains (s ∷ rs) r × (r.thing ≡ x)
      by deeper true same e =
          let one : s ≡ r = cc in
          (subst (Contains (s ∷ rs)) one (Contains-head s rs), sym (ap (λ (q : Reason). q.thing) one) ∙ is_same s.thing x same)
      by deeper false other e =
          let later = deeper e in (Contains-later s rs r later.0, later.1)

  -- a thing that is listed has a line
  pub line_there : (rs : List Reason) → Contains (things_in rs) x → (r : Reason) × (line_of rs x ≡ Some r)
  line_there [] c = none_in_nil x _ c
  line_there (s ∷ rs) c = by (line_there rs) (is_thing s.thing x) refl
    where
      by : (Contains (things_in rs) x → (r : Reason) × (line_of rs x ≡ Some r)) → (b : Bool) → is_thing s.thing x ≡ b → (r : Reason) × (cond b (Some s) (line_of rs x) ≡ Some r)
      by deeper true same = (s, refl)
      by deeper false other = elim (Contains-cons_cases s.thing (things_in rs) x c)
          as (λ _. (r : Reason) × (line_of rs x ≡ Some r)) [
            | inl same ↦ let t = is_eq_true s.thing x same in cc
            | inr later ↦ deeper later
          ]

  -- a function that keeps things is applied to the thing's line
  pub line_map : (f : Reason → Reason) → ((r : Reason) → (f r).thing ≡ r.thing) → (rs : List Reason)
      → line_of (map f rs) x ≡ option_map f (line_of rs x)
  line_map f same [] = refl
  line_map f same (s ∷ rs) =
      ap (λ t. cond (is_thing t x) (Some (f s)) (line_of (map f rs) x)) (same s)
      ∙ by (line_map f same rs) (is_thing s.thing x)
    where
      by : line_of (map f rs) x ≡ option_map f (line_of rs x) → (b : Bool) → cond b (Some (f s)) (line_of (map f rs) x) ≡ option_map f (cond b (Some s) (line_of rs x))
      by deeper true = refl
      by deeper false = deeper

-- a line among lines that rise is the one that is found
pub line_found : (rs : List Reason) → Rise rs → (r : Reason) → Contains rs r → line_of rs r.thing ≡ Some r
line_found [] rise r c = none_in_nil r _ c
line_found (s ∷ rs) rise r c = elim (Contains-cons_cases s rs r c)
    as (λ _. line_of (s ∷ rs) r.thing ≡ Some r) [
      | inl one ↦
          let e = is_eq_true s.thing r.thing (ap (λ (q : Reason). q.thing) one) in
          ap (λ b. cond b (Some s) (line_of rs r.thing)) e ∙ ap Some one
      | inr later ↦
          let less = first_less s.thing (things_in rs) rise r.thing (Contains-map (λ q. q.thing) rs r later) in
          ap (λ o. cond (is_eq o) (Some s) (line_of rs r.thing)) less
          ∙ line_found rs (sorted_tail thing_cmp s.thing (things_in rs) rise) r later
    ]

-- a thing is listed where it has a line
pub has_one : (x : Thing) (rs : List Reason) → is_some (line_of rs x) ≡ true ↔ Contains (things_in rs) x
has_one x rs = (to (line_of rs x) refl, λ c. let line = line_there x rs c in ap is_some line.1)
  where
    to : (o : Option Reason) → line_of rs x ≡ o → is_some o ≡ true → Contains (things_in rs) x
    to None e h = cc
    to (Some r) e h =
        let found = found_line x rs r e in
        subst (Contains (things_in rs)) found.1 (Contains-map (λ (q : Reason). q.thing) rs r found.0)

-- a line that is lent is one
pub copied_some : (o : Option (Bor Reason)) → is_some (option_copied o) ≡ is_some o
copied_some None = refl
copied_some (Some r) = refl

-- ---- what a search finds

module _ (x : Thing) (rs : List Reason) where
  -- the key at a place is the line's thing
  key_there : (j : ℕ) (r : Reason) → j < length rs → (get_or (map key_of rs) j (key_of r)).0 ≡ (get_or rs j r).thing
  key_there j r l = ap (λ (e : Thing × ℕ). e.0) (get_or-map key_of rs j r (key_of r) l)

  pub line_at : Rise rs → (i : ℕ) → IsAt thing_cmp (map key_of rs) x i → (r : Reason)
      → line_of rs x ≡ Some (get_or rs i r)
  line_at rise i at r =
      let l : i < length rs = omega (arith, at.in_range, length-map rs key_of) in
      let is : (get_or rs i r).thing ≡ x = sym (key_there i r l) ∙ at.has_key (key_of r) in
      subst (λ y. line_of rs y ≡ Some (get_or rs i r)) is (line_found rs rise (get_or rs i r) (Contains-get_or rs i r l))

  -- the lines at other places are those of other things
  pub at_others : (i : ℕ) → IsAt thing_cmp (map key_of rs) x i → (j : ℕ) (r : Reason) → j ≢ i → j < length rs
      → (get_or rs j r).thing ≢ x
  at_others i at j r other l same =
      let key : (get_or (map key_of rs) j (key_of r)).0 ≡ x = key_there j r l ∙ same in
      let tied = ap (thing_cmp x) key ∙ tied_itself thing_total x in
      elim (cases_lt j i) as (λ _. ⊥) [
        | inl m ↦ let greater = at.before j (key_of r) m in cc
        | inr m ↦ let less = at.after j (key_of r) (omega arith) (omega (arith, length-map rs key_of)) in cc
      ]

  pub line_gap : (i : ℕ) → IsGap thing_cmp (map key_of rs) x i → line_of rs x ≡ None
  line_gap i gap = by (line_of rs x) refl
    where
      -- the thing stands neither below nor above itself
      nowhere : (k : ℕ) (r : Reason) → k < length rs → get_or rs k r ≡ r → r.thing ≢ x
      nowhere k r l is same =
          let key : (get_or (map key_of rs) k (key_of r)).0 ≡ x = key_there k r l ∙ ap (λ (q : Reason). q.thing) is ∙ same in
          let tied = ap (thing_cmp x) key ∙ tied_itself thing_total x in
          elim (cases_lt k i) as (λ _. ⊥) [
            | inl m ↦ let greater = gap.before k (key_of r) m in cc
            | inr m ↦ let less = gap.after k (key_of r) m (omega (arith, length-map rs key_of)) in cc
          ]

      by : (o : Option Reason) → line_of rs x ≡ o → o ≡ None
      by None e = refl
      by (Some r) e =
          let f = found_line x rs r e in absurd (nowhere f.0.0 r f.0.1 f.0.2 f.1)

-- ---- lines that rise are sorted by their keys

both : (a b : Bool) → T a → T b → T (a && b)
both true b p q = q
both false b p q = p

below_lines : (x : Thing) (rs : List Reason) → AllByRecursion (λ y. thing_cmp x y ≡ Less) (things_in rs)
    → T (below_all thing_cmp x (map key_of rs))
below_lines x [] h = tt
below_lines x (s ∷ rs) h =
    both _ _ (subst (λ o. T (is_lt o)) (sym h.0) tt) (below_lines x rs h.1)

pub sorted_lines : (rs : List Reason) → Rise rs → T (is_sorted thing_cmp (map key_of rs))
unfolding IsStrictlySortedBy
sorted_lines [] h = tt
sorted_lines (s ∷ rs) h = both _ _ (below_lines s.thing rs h.0) (sorted_lines rs h.1)
