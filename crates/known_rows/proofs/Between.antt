-- Places of things where more of them come in between.
use Rattle.std.proofs.Common.{◌≡◌, ◌≢◌, inl, inr, ℕ, ◌+◌, ◌-◌, ◌<◌, ◌≤◌, List, ◌++◌, length, get_or, Option, Some, None, refl, sym, ap, ◌∙◌, arith, length-append}
use Rattle.std.specs.Prelude.{position}
use Rattle.std.proofs.lemmas.Bool.{cases_lt}
use Rattle.std.proofs.lemmas.List.{get_or-append_right, get_or_append_left}
use Rattle.std.proofs.lemmas.Option.{get_or_from_slice_get, none-some}
use Rattle.orca_names.specs.Names.{is_thing}
use Rattle.orca_names.specs.declared.names.Thing.{Thing}
use Rattle.known_rows.specs.InOrder.{AreInOrder, place_there, thing_at_place}

abbrev place : List Thing → Thing → Option ℕ
place xs x = position (is_thing x) xs

-- what has a place is within, and stands there
within : (xs : List Thing) (x : Thing) (p : ℕ) → place xs x ≡ Some p → p < length xs
within xs x p e = (thing_at_place xs x p e).0

stands : (xs : List Thing) (x : Thing) (p : ℕ) → place xs x ≡ Some p → get_or xs p x ≡ x
stands xs x p e = get_or_from_slice_get xs p x x (thing_at_place xs x p e).1

module _ (lower made upper : List Thing) (before : AreInOrder (lower ++ upper)) (after : AreInOrder ((lower ++ made) ++ upper)) where
  pub more : length ((lower ++ made) ++ upper) ≡ length (lower ++ upper) + length made
  more = omega (arith, length-append (lower ++ made) upper, length-append lower made, length-append lower upper)

  at_lower : (i : ℕ) (d : Thing) → i < length lower → get_or ((lower ++ made) ++ upper) i d ≡ get_or (lower ++ upper) i d
  at_lower i d l =
      get_or_append_left (lower ++ made) upper d i (omega (arith, length-append lower made))
      ∙ get_or_append_left lower made d i l ∙ sym (get_or_append_left lower upper d i l)

  at_made : (i : ℕ) (d : Thing) → i < length made → get_or ((lower ++ made) ++ upper) (length lower + i) d ≡ get_or made i d
  at_made i d l =
      let back : length lower + i - length lower ≡ i = omega arith in
      get_or_append_left (lower ++ made) upper d (length lower + i) (omega (arith, length-append lower made))
      ∙ get_or-append_right lower made (length lower) (length lower + i) d refl (omega arith) ∙ ap (λ k. get_or made k d) back

  at_upper : (i : ℕ) (d : Thing) → length lower ≤ i → get_or ((lower ++ made) ++ upper) (i + length made) d ≡ get_or (lower ++ upper) i d
  at_upper i d l =
      let back : i + length made - length (lower ++ made) ≡ i - length lower = omega (arith, length-append lower made) in
      get_or-append_right (lower ++ made) upper (length (lower ++ made)) (i + length made) d refl (omega (arith, length-append lower made))
      ∙ ap (λ k. get_or upper k d) back ∙ sym (get_or-append_right lower upper (length lower) i d refl l)

  -- a place of before the new ones stays
  pub place_kept : (x : Thing) (p : ℕ) → place (lower ++ upper) x ≡ Some p → p < length lower → place ((lower ++ made) ++ upper) x ≡ Some p
  place_kept x p e l = place_there ((lower ++ made) ++ upper) x p after (omega (arith, more, within (lower ++ upper) x p e)) (at_lower p x l ∙ stands (lower ++ upper) x p e)

  -- one behind them goes on
  pub place_moved : (x : Thing) (p : ℕ) → place (lower ++ upper) x ≡ Some p → length lower ≤ p → place ((lower ++ made) ++ upper) x ≡ Some (p + length made)
  place_moved x p e l =
      place_there ((lower ++ made) ++ upper) x (p + length made) after (omega (arith, more, within (lower ++ upper) x p e)) (at_upper p x l ∙ stands (lower ++ upper) x p e)

  -- the new ones stand between
  pub place_new : (x : Thing) (i : ℕ) → i < length made → get_or made i x ≡ x → place ((lower ++ made) ++ upper) x ≡ Some (length lower + i)
  place_new x i l here =
      place_there ((lower ++ made) ++ upper) x (length lower + i) after (omega (arith, length-append (lower ++ made) upper, length-append lower made)) (at_made i x l ∙ here)

  -- and back
  was_kept : (x : Thing) (p : ℕ) → place ((lower ++ made) ++ upper) x ≡ Some p → p < length lower → place (lower ++ upper) x ≡ Some p
  was_kept x p e l = place_there (lower ++ upper) x p before (omega (arith, length-append lower upper)) (sym (at_lower p x l) ∙ stands ((lower ++ made) ++ upper) x p e)

  was_moved : (x : Thing) (p : ℕ) → place ((lower ++ made) ++ upper) x ≡ Some p → length lower + length made ≤ p → place (lower ++ upper) x ≡ Some (p - length made)
  was_moved x p e l =
      let back : p - length made + length made ≡ p = omega arith in
      place_there (lower ++ upper) x (p - length made) before (omega (arith, more, within ((lower ++ made) ++ upper) x p e))
      (sym (at_upper (p - length made) x (omega arith)) ∙ ap (λ k. get_or ((lower ++ made) ++ upper) k x) back ∙ stands ((lower ++ made) ++ upper) x p e)

  was_new : (x : Thing) (i : ℕ) → place ((lower ++ made) ++ upper) x ≡ Some (length lower + i) → i < length made → get_or made i x ≡ x
  was_new x i e l = sym (at_made i x l) ∙ stands ((lower ++ made) ++ upper) x (length lower + i) e

  -- what has no place
  pub has_none : (x : Thing) → place (lower ++ upper) x ≡ None → ((i : ℕ) → i < length made → get_or made i x ≢ x) → place ((lower ++ made) ++ upper) x ≡ None
  has_none x none other = by_place (place ((lower ++ made) ++ upper) x) refl
    where
      by_place : (o : Option ℕ) → place ((lower ++ made) ++ upper) x ≡ o → o ≡ None
      by_place None e = refl
      by_place (Some p) e = elim (cases_lt p (length lower)) as (λ _. Some p ≡ None) [
        | inl l ↦ absurd (none-some p (sym none ∙ was_kept x p e l))
        | inr l ↦ elim (cases_lt p (length lower + length made)) as (λ _. Some p ≡ None) [
          | inl m ↦
              let sum : p ≡ length lower + (p - length lower) = omega arith in
              absurd (other (p - length lower) (omega arith) (was_new x (p - length lower) (e ∙ ap Some sum) (omega arith)))
          | inr m ↦ absurd (none-some (p - length made) (sym none ∙ was_moved x p e m))
        ]
      ]
