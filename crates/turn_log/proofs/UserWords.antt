-- The words of the log's user, behind those of the queue.
use Rattle.std.proofs.Common.{◌≡◌, ℕ, zero, suc, ◌+◌, ◌<◌, List, [], ◌∷◌, set, get_or, get_or-set_other, slice_get, Some, refl, sym, ap, ◌∙◌, arith}
use mathlib.Core.Option.{some, some-injective, some-ne-none}
use lib.ListN.{get_elem?}
use Rattle.turn_log.specs.Queue.{user_words}

-- a word of the queue is none of them
pub queue_word : (ws : List ℕ) (i w : ℕ) → i < 3 → user_words (set ws i w) ≡ user_words ws
queue_word [] i w l = refl
queue_word (x ∷ ws) zero w l = refl
queue_word (x ∷ []) (suc i) w l = refl
queue_word (x ∷ y ∷ ws) (suc zero) w l = refl
queue_word (x ∷ y ∷ []) (suc (suc i)) w l = refl
queue_word (x ∷ y ∷ z ∷ ws) (suc (suc zero)) w l = refl
queue_word (x ∷ y ∷ z ∷ ws) (suc (suc (suc i))) w l = absurd (omega arith)

-- one behind them is
pub user_word : (ws : List ℕ) (at w : ℕ) → user_words (set ws (3 + at) w) ≡ set (user_words ws) at w
user_word [] at w = refl
user_word (x ∷ []) at w =
    let n : 3 + at ≡ suc (suc (suc at)) = omega arith in ap (λ k. user_words (set (x ∷ []) k w)) n
user_word (x ∷ y ∷ []) at w =
    let n : 3 + at ≡ suc (suc (suc at)) = omega arith in ap (λ k. user_words (set (x ∷ y ∷ []) k w)) n
user_word (x ∷ y ∷ z ∷ ws) at w =
    let n : 3 + at ≡ suc (suc (suc at)) = omega arith in ap (λ k. user_words (set (x ∷ y ∷ z ∷ ws) k w)) n

pub get_user_word : (ws : List ℕ) (at : ℕ) → get_or ws (3 + at) 0 ≡ get_or (user_words ws) at 0
get_user_word [] at = refl
get_user_word (x ∷ []) at =
    let n : 3 + at ≡ suc (suc (suc at)) = omega arith in ap (λ k. get_or (x ∷ []) k 0) n
get_user_word (x ∷ y ∷ []) at =
    let n : 3 + at ≡ suc (suc (suc at)) = omega arith in ap (λ k. get_or (x ∷ y ∷ []) k 0) n
get_user_word (x ∷ y ∷ z ∷ ws) at =
    let n : 3 + at ≡ suc (suc (suc at)) = omega arith in ap (λ k. get_or (x ∷ y ∷ z ∷ ws) k 0) n

-- and leaves those of the queue
pub queue_stays : (ws : List ℕ) (at i w : ℕ) → i < 3 → get_or (set ws (3 + at) w) i 0 ≡ get_or ws i 0
queue_stays ws at i w l = get_or-set_other ws (3 + at) i w 0 (λ e. omega arith)

slice_of_elem : (ws : List ℕ) (i w : ℕ) → get_elem? ws i ≡ some w → slice_get ws i ≡ Some w
slice_of_elem [] i w e = absurd (some-ne-none w (sym e))
slice_of_elem (x ∷ ws) zero w e = ap Some (some-injective x w e)
slice_of_elem (x ∷ ws) (suc i) w e = slice_of_elem ws i w e

pub read_user_word : (ws : List ℕ) (at w : ℕ) → get_elem? ws (3 + at) ≡ some w
    → slice_get (user_words ws) at ≡ Some w
read_user_word [] at w e = absurd (some-ne-none w (sym e))
read_user_word (x ∷ []) at w e =
    let n : 3 + at ≡ suc (suc (suc at)) = omega arith in
    absurd (some-ne-none w (sym (sym (ap (get_elem? (x ∷ [])) n) ∙ e)))
read_user_word (x ∷ y ∷ []) at w e =
    let n : 3 + at ≡ suc (suc (suc at)) = omega arith in
    absurd (some-ne-none w (sym (sym (ap (get_elem? (x ∷ y ∷ [])) n) ∙ e)))
read_user_word (x ∷ y ∷ z ∷ ws) at w e =
    let n : 3 + at ≡ suc (suc (suc at)) = omega arith in
    slice_of_elem ws at w (sym (ap (get_elem? (x ∷ y ∷ z ∷ ws)) n) ∙ e)
