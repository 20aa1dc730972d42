-- Lists that are told place by place.
use Rattle.std.proofs.Common.{◌≡◌, ℕ, suc, ◌<◌, List, [], ◌∷◌, length, map, refl, arith, slice_index_or}

-- f is the same of both lists where it is the same at each place
pub map_of_places : {X Y : Type 0} (f : X → Y) (xs ys : List X) → length ys ≡ length xs
    → ((i : ℕ) (d : X) → i < length xs → f (slice_index_or ys i d) ≡ f (slice_index_or xs i d))
    → map f ys ≡ map f xs
map_of_places f [] [] e same = refl
map_of_places f [] (y ∷ ys) e same = absurd (omega (arith, e))
map_of_places f (x ∷ xs) [] e same = absurd (omega (arith, e))
map_of_places f (x ∷ xs) (y ∷ ys) e same =
    let rest : map f ys ≡ map f xs =
    map_of_places f xs ys (omega (arith, e)) (λ i d lt. same (suc i) d (omega (arith, lt))) in
    rw (same 0 x (omega arith), rest) refl
