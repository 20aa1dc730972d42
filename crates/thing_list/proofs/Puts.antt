-- A thing put in its place among things in order.
use Rattle.std.proofs.Common.{◌≡◌, ◌+◌, ◌-◌, ◌≤◌, ◌⊎◌, ◌↔◌, inl, inr, true, List, [], ◌∷◌, ◌++◌, length, Contains, Some, sym, subst, arith}
use Rattle.std.specs.Prelude.{slice_get}
use Rattle.std.specs.List.Sorted.{IsStrictlySortedBy}
use Rattle.std.specs.Ordering.{is_lt}
use Rattle.std.specs.declared.cmp.Ordering.TheVariants.{Less}
use Rattle.std.proofs.lemmas.List.{take_all}
use Rattle.std.proofs.lemmas.List.Elements.{Contains-append_left, Contains-append_right, Contains-append_cases, Contains-push_cases}
use Rattle.std.proofs.lemmas.Map.Keys.{sorted_tail}
use Rattle.orca_names.specs.Names.{thing_cmp}
use Rattle.orca_names.specs.declared.names.Thing.{Thing}
use Rattle.thing_list.specs.Putting.{put_in_order, Puts}
use Rattle.thing_list.proofs.Elements.{Contains-head, Contains-later, Contains-cons_cases, none_in_nil}
use Rattle.thing_list.proofs.InOrder.{first_less, put-keeps, put-only, put-sorted, put-there, sorted_cons, sorted_nil}
use Rattle.thing_list.proofs.Settling.{below_all, less_from}

-- what is behind the last is behind each
pub behind_all : (xs : List Thing) (last x : Thing) → IsStrictlySortedBy thing_cmp xs → slice_get xs (length xs - 1) ≡ Some last → is_lt (thing_cmp last x) ≡ true → (y : Thing) → Contains xs y → thing_cmp y x ≡ Less
behind_all xs last x sorted at less = λ y c.
    let end : length xs ≤ length xs - 1 + 1 = omega arith in
    below_all xs (length xs - 1) last x sorted at (less_from (thing_cmp last x) less) y (subst (λ ts. Contains ts y) (sym (take_all (length xs - 1 + 1) xs end)) c)

sorted_push : (xs : List Thing) (x : Thing) → IsStrictlySortedBy thing_cmp xs → ((y : Thing) → Contains xs y → thing_cmp y x ≡ Less) → IsStrictlySortedBy thing_cmp (xs ++ x ∷ [])
sorted_push [] x sorted behind = sorted_cons x [] (λ z c. none_in_nil z _ c) sorted_nil
sorted_push (y ∷ ys) x sorted behind = sorted_cons y (ys ++ x ∷ []) (λ z c. elim (Contains-push_cases ys x z c) as (λ _. thing_cmp y z ≡ Less) [
  | inl d ↦ first_less y ys sorted z d
  | inr same ↦ subst (λ w. thing_cmp y w ≡ Less) same (behind y (Contains-head y ys))
]) (sorted_push ys x (sorted_tail thing_cmp y ys sorted) (λ z c. behind z (Contains-later y ys z c)))

-- what a list has with one thing more
pushed : (xs : List Thing) (x y : Thing) → Contains (xs ++ x ∷ []) y ↔ (Contains xs y ⊎ Contains (x ∷ []) y)
pushed xs x y = (
  λ c. Contains-append_cases xs (x ∷ []) y c,
  λ s. elim s as (λ _. Contains (xs ++ x ∷ []) y) [ inl d ↦ Contains-append_left xs (x ∷ []) y d | inr d ↦ Contains-append_right xs (x ∷ []) y d ],
)

pub puts_last : (xs : List Thing) (x : Thing) → IsStrictlySortedBy thing_cmp xs → ((y : Thing) → Contains xs y → thing_cmp y x ≡ Less) → Puts (x ∷ []) xs (xs ++ x ∷ [])
puts_last xs x sorted behind = record { rising = sorted_push xs x sorted behind; there = pushed xs x }

pub puts_known : (xs : List Thing) (x : Thing) → IsStrictlySortedBy thing_cmp xs → Contains xs x → Puts (x ∷ []) xs xs
puts_known xs x sorted known = record {
  rising = sorted;
  there = λ y. (
    λ c. inl c,
    λ s. elim s as (λ _. Contains xs y) [
      | inl d ↦ d
      | inr d ↦ elim (Contains-cons_cases x [] y d) as (λ _. Contains xs y) [ inl e ↦ subst (Contains xs) e known | inr none ↦ none_in_nil y _ none ]
    ],
  );
}

pub puts_inserted : (xs : List Thing) (x : Thing) → IsStrictlySortedBy thing_cmp xs → Puts (x ∷ []) xs (put_in_order x xs)
puts_inserted xs x sorted = record {
  rising = put-sorted x xs sorted;
  there = λ y. (
    λ c. elim (put-only x xs y c) as (λ _. Contains xs y ⊎ Contains (x ∷ []) y) [ inl e ↦ inr (subst (Contains (x ∷ [])) e (Contains-head x [])) | inr d ↦ inl d ],
    λ s. elim s as (λ _. Contains (put_in_order x xs) y) [
      | inl d ↦ put-keeps x xs y d
      | inr d ↦ elim (Contains-cons_cases x [] y d) as (λ _. Contains (put_in_order x xs) y) [ inl e ↦ subst (Contains (put_in_order x xs)) e (put-there x xs) | inr none ↦ none_in_nil y _ none ]
    ],
  );
}
