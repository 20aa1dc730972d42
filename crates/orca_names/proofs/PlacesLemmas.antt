-- Eight fixed places that are filled and written one at a time.
use Rattle.std.proofs.Common.{◌≡◌, ℕ, zero, suc, ◌+◌, ◌-◌, ◌<◌, ◌≤◌, List, [], ◌∷◌, ◌++◌, length, take, replicate, set, refl, sym, ap, ◌∙◌, arith}
use Rattle.std.proofs.lemmas.List.{set_at, append_assoc, length-replicate, take-replicate, replicate-append-replicate, length-set, set-append_left, take_more_set, length_push}
use Rattle.orca_names.specs.declared.names.Value.{Value}
use Rattle.orca_names.specs.declared.names.Value.TheVariants.{Null}
use Rattle.orca_names.specs.Places.{padded, UsesPlaces, length-take-used}

-- one place fewer is left
replicate-one_less : (n : ℕ) → n < 8 → replicate (8 - n) Null ≡ Null ∷ replicate (8 - (n + 1)) Null
replicate-one_less n room = let one : 8 - n ≡ suc (8 - (n + 1)) = omega arith in ap (λ k. replicate k Null) one

-- one value more
pub push_uses_places : (used : ℕ) (places : List Value) (v : Value) → UsesPlaces used places → used < 8 → UsesPlaces (used + 1) (set places used v)
push_uses_places used places v kept room =
    let n : length (take used places) ≡ used = length-take-used used places kept in
    let values : take (used + 1) (set places used v) ≡ take used places ++ v ∷ [] = take_more_set places used v (omega (arith, kept.eight)) in
    let longer : length (take used places ++ v ∷ []) ≡ used + 1 = length_push (take used places) v ∙ ap (λ a. a + 1) n in
    record {
      within = omega arith;
      eight = length-set places used v ∙ kept.eight;
      rest = ap (λ ps. set ps used v) kept.rest
          ∙ ap (λ a. set (take used places ++ replicate (8 - a) Null) used v) n
          ∙ ap (λ ys. set (take used places ++ ys) used v) (replicate-one_less used room)
          ∙ set_at (take used places) Null (replicate (8 - (used + 1)) Null) v used n
          ∙ sym (ap padded values ∙ ap (λ a. (take used places ++ v ∷ []) ++ replicate (8 - a) Null) longer ∙ append_assoc (take used places) (v ∷ []) (replicate (8 - (used + 1)) Null));
    }

-- all places are null
pub nulls_use_places : (n : ℕ) → n ≤ 8 → UsesPlaces n (replicate 8 Null)
nulls_use_places n within = record {
  within = within;
  eight = refl;
  rest =
      let all : n + (8 - n) ≡ 8 = omega arith in
      sym (rw (take-replicate n 8 Null within, length-replicate n Null) (replicate-append-replicate n (8 - n) Null ∙ ap (λ k. replicate k Null) all));
}

-- a write within the part that is taken
pub take-set : (n : ℕ) (xs : List Value) (i : ℕ) (v : Value) → take n (set xs i v) ≡ set (take n xs) i v
take-set zero xs i v = refl
take-set (suc n) [] i v = refl
take-set (suc n) (x ∷ xs) zero v = refl
take-set (suc n) (x ∷ xs) (suc i) v = ap (λ ys. x ∷ ys) (take-set n xs i v)

-- one of the used places is written
pub set_uses_places : (used : ℕ) (places : List Value) (i : ℕ) (v : Value) → UsesPlaces used places → i < used → UsesPlaces used (set places i v)
set_uses_places used places i v kept inside =
    let n : length (take used places) ≡ used = length-take-used used places kept in
    record {
      within = kept.within;
      eight = length-set places i v ∙ kept.eight;
      rest = ap (λ ps. set ps i v) kept.rest
          ∙ set-append_left (take used places) (replicate (8 - length (take used places)) Null) i v (rw n inside)
          ∙ sym (rw (take-set used places i v, length-set));
    }
