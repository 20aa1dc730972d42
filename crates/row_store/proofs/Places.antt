-- Words that are put at places.
use Rattle.std.proofs.Common.{◌≡◌, ◌≢◌, ℕ, zero, suc, ◌+◌, ◌<◌, ◌≤◌, true, false, cond, List, [], ◌∷◌, ◌++◌, length, slice_get, Some, refl, sym, ap, ◌∙◌, arith, add-zero}
use Rattle.std.specs.Ordering.{eq_by_cmp, nat_cmp}
use Rattle.std.specs.Cmp.{nat_cmp_total}
use Rattle.std.specs.FinMap as m
use Rattle.std.proofs.lemmas.Bool.Decides.{nat_tests}
use Rattle.row_store.specs.Words.{LieAt, Words, with_words}

same_place : (q k : ℕ) → q ≡ k → eq_by_cmp nat_cmp q k ≡ true
same_place q k e = grind (arith, nat_tests)

other_place : (q k : ℕ) → q ≢ k → eq_by_cmp nat_cmp q k ≡ false
other_place q k apart = grind (arith, nat_tests)

pub get_here : (known : Words) (k w : ℕ) → m.get (m.insert known k w) k ≡ Some w
get_here known k w =
    m.get-insert nat_cmp_total known k w k ∙ ap (λ b. cond b (Some w) (m.get known k)) (same_place k k refl)

pub get_else : (known : Words) (k w q : ℕ) → q ≢ k → m.get (m.insert known k w) q ≡ m.get known q
get_else known k w q apart =
    m.get-insert nat_cmp_total known k w q ∙ ap (λ b. cond b (Some w) (m.get known q)) (other_place q k apart)

-- what is put from a place on changes nothing before it
pub get_before : (at : ℕ) (ws : List ℕ) (known : Words) (q : ℕ) → q < at
    → m.get (with_words at ws known) q ≡ m.get known q
get_before at [] known q below = refl
get_before at (w ∷ ws) known q below =
    get_before (at + 1) ws (m.insert known at w) q (omega arith)
    ∙ get_else known at w q (λ e. omega arith)

-- and nothing behind it
pub get_behind : (at : ℕ) (ws : List ℕ) (known : Words) (q : ℕ) → at + length ws ≤ q
    → m.get (with_words at ws known) q ≡ m.get known q
get_behind at [] known q above = refl
get_behind at (w ∷ ws) known q above =
    get_behind (at + 1) ws (m.insert known at w) q (omega arith)
    ∙ get_else known at w q (λ e. omega arith)

-- the words that are put lie there
pub get_within : (at : ℕ) (ws : List ℕ) (known : Words) (i w : ℕ) → slice_get ws i ≡ Some w
    → m.get (with_words at ws known) (at + i) ≡ Some w
get_within at [] known i w e = cc
get_within at (v ∷ ws) known zero w e =
    ap (m.get (with_words (at + 1) ws (m.insert known at v))) (add-zero at)
    ∙ (get_before (at + 1) ws (m.insert known at v) at (omega arith) ∙ (get_here known at v ∙ e))
get_within at (v ∷ ws) known (suc i) w e =
    let next : at + suc i ≡ (at + 1) + i = omega arith in
    ap (m.get (with_words (at + 1) ws (m.insert known at v))) next
    ∙ get_within (at + 1) ws (m.insert known at v) i w e

pub lie_there : (at : ℕ) (ws : List ℕ) (known : Words) → LieAt at ws (with_words at ws known)
lie_there at ws known = record { lies = get_within at ws known }

-- more words behind
pub with_words-append : (at : ℕ) (xs ys : List ℕ) (known : Words)
    → with_words at (xs ++ ys) known ≡ with_words (at + length xs) ys (with_words at xs known)
with_words-append at [] ys known = ap (λ k. with_words k ys known) (sym (add-zero at))
with_words-append at (x ∷ xs) ys known =
    let next : (at + 1) + length xs ≡ at + suc (length xs) = omega arith in
    with_words-append (at + 1) xs ys (m.insert known at x)
    ∙ ap (λ k. with_words k ys (with_words (at + 1) xs (m.insert known at x))) next
