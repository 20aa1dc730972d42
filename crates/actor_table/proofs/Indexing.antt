-- An index stays one where its list changes, and finds the elements that have the property.
use Rattle.std.proofs.Common.{◌≡◌, inl, inr, ◌<◌, ℕ, Bool, false, List, [], ◌∷◌, ◌++◌, length, get_or, set, replicate, Option, Some, None, refl, sym, ◌∙◌, arith, length-append}
use Rattle.std.specs.List.{position, position_or_len}
use Rattle.std.specs.Prelude.{not, IfSome}
use Rattle.std.proofs.lemmas.Bool.{cases_lt}
use Rattle.std.proofs.lemmas.Grind.{get_or-set_at}
use Rattle.std.proofs.lemmas.List.{get_or-append_right, get_or-replicate, get_or-set_other, get_or_append_left, get_or_past, get_or_push, length-replicate, length-set}
use Rattle.std.proofs.lemmas.List.Sums.{fails_before_first, passes_at_first, position_or_len_is, prefix_len-le-length}
use Rattle.ready_set.specs.Next.{IsNext}
use Rattle.actor_table.specs.Index.{IsIndex}
use Rattle.actor_table.specs.Rounds.{IsNextThat}

module _ {A : Type 0} (has : A → Bool) (none : A) (on : List Bool) (xs : List A) (index : IsIndex has none on xs) where
  -- places more, all of them off
  pub index_grown : (more : ℕ) → IsIndex has none (on ++ replicate more false) xs
  index_grown more = record {
    room = omega (arith, index.room, length-append on (replicate more false));
    at = λ k. grind (arith, get_or_append_left, get_or-append_right, get_or-replicate, get_or_past, length-replicate, index.at k);
  }

  -- one element more, and its place with it
  pub index_push : (x : A) → length xs < length on → IsIndex has none (set on (length xs) (has x)) (xs ++ x ∷ [])
  index_push x h = record {
    room = omega (arith, length-set on (length xs) (has x), length-append xs (x ∷ []));
    at = λ k. grind (arith, index.at k, get_or-set_at, get_or-set_other, get_or_push, get_or_append_left, get_or_past, length-append);
  }

  -- ---- one element alone becomes x

  module _ (a : ℕ) (x : A) (h : a < length xs) where
    -- and its place with it
    pub index_put : IsIndex has none (set on a (has x)) (set xs a x)
    index_put = record {
      room = omega (arith, index.room, length-set on a (has x), length-set xs a x);
      at = λ k. grind (arith, index.at k, index.room, get_or-set_at, get_or-set_other);
    }

    -- but not in the property
    pub index_kept : has x ≡ has (get_or xs a none) → IsIndex has none on (set xs a x)
    index_kept kept = record {
      room = omega (arith, index.room, length-set xs a x);
      at = λ k. grind (arith, kept, index.at k, get_or-set_at, get_or-set_other);
    }

  -- ---- what is found in it

  none_off : has none ≡ false
  none_off = grind (arith, index.room, index.at (length on), get_or_past)

  at_some : (i : ℕ) → position_or_len (λ b. b) on ≡ i → position_or_len has xs ≡ i → i < length on → i < length xs → position (λ b. b) on ≡ position has xs
  at_some i one two h g = grind (arith)

  at_none : position_or_len (λ b. b) on ≡ length on → position_or_len has xs ≡ length xs → position (λ b. b) on ≡ position has xs
  at_none one two = grind (arith)

  -- the first place that is on is that of the first element that has the property
  pub found_first : position (λ b. b) on ≡ position has xs
  found_first = elim (cases_lt (position_or_len has xs) (length xs)) as (λ _. position (λ b. b) on ≡ position has xs) [
    | inl h ↦ at_some (position_or_len has xs)
        (position_or_len_is (λ b. b) on (position_or_len has xs) false (omega (arith, index.room)) (λ k below. index.at k ∙ fails_before_first has xs k none below)
        (λ _. index.at (position_or_len has xs) ∙ passes_at_first has xs none h)) refl (omega (arith, index.room)) h
    | inr past ↦ at_none
        (position_or_len_is (λ b. b) on (length on) false (omega arith)
        (λ k _. index.at k ∙ grind (arith, past, none_off, get_or_past, fails_before_first has xs k none)) (λ within. absurd (omega arith)))
        (omega (arith, past, prefix_len-le-length (λ y. not (has y)) xs))
  ]

  -- the next place that is on is that of the next element that has the property
  pub next_read : (from : ℕ) (found : Option ℕ) → IsNext on from found → IsNextThat (λ k. has (get_or xs k none)) from found
  next_read from None off = λ k past. grind (arith, index.at k, off k past, get_or_past)
  next_read from (Some a) next = (next.0, sym (index.at a) ∙ next.1, λ k past before. sym (index.at k) ∙ next.2 k past before)

  pub next_within : (from : ℕ) (found : Option ℕ) → IsNext on from found → IfSome found (λ a. a < length xs)
  next_within from None next = tt
  next_within from (Some a) next = grind (arith, none_off, next.1, index.at a, get_or_past)
