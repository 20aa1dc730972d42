-- Reading a list of which one element is changed, or to which one is added.
use Rattle.std.proofs.Common.{◌≡◌, ◌≢◌, ℕ, zero, suc, ◌+◌, ◌<◌, ◌≤◌, Some, None, List, [], ◌∷◌, ◌++◌, length, set, get_or, refl, ap, arith}
use Rattle.std.specs.Prelude.{slice_get}

pub slice_set_same : {A : Type 0} (xs : List A) (a : ℕ) (y : A) → a < length xs → slice_get (set xs a y) a ≡ Some y
slice_set_same [] a y h = absurd (omega arith)
slice_set_same (x ∷ xs) zero y h = refl
slice_set_same (x ∷ xs) (suc a) y h = slice_set_same xs a y (omega arith)

pub slice_set_other : {A : Type 0} (xs : List A) (a b : ℕ) (y : A) → b ≢ a → slice_get (set xs a y) b ≡ slice_get xs b
slice_set_other (x ∷ xs) zero zero y n = absurd (n refl)
slice_set_other (x ∷ xs) (suc a) (suc b) y n = slice_set_other xs a b y (λ e. n (ap suc e))
slice_set_other xs a b y n = refl

pub slice_push_other : {A : Type 0} (xs : List A) (y : A) (b : ℕ) → b ≢ length xs → slice_get (xs ++ y ∷ []) b ≡ slice_get xs b
slice_push_other [] y zero n = absurd (n refl)
slice_push_other [] y (suc b) n = refl
slice_push_other (x ∷ xs) y zero n = refl
slice_push_other (x ∷ xs) y (suc b) n = slice_push_other xs y b (λ e. n (ap suc e))

pub slice_push_last : {A : Type 0} (xs : List A) (y : A) → slice_get (xs ++ y ∷ []) (length xs) ≡ Some y
slice_push_last [] y = refl
slice_push_last (x ∷ xs) y = slice_push_last xs y

pub slice_past : {A : Type 0} (xs : List A) (b : ℕ) → length xs ≤ b → slice_get xs b ≡ None
slice_past [] b h = refl
slice_past (x ∷ xs) zero h = absurd (omega arith)
slice_past (x ∷ xs) (suc b) h = slice_past xs b (omega arith)

-- below its length a longer list reads as before, and then what was added
pub slice_append_below : {A : Type 0} (xs ys : List A) (b : ℕ) → b < length xs → slice_get (xs ++ ys) b ≡ slice_get xs b
slice_append_below [] ys b h = absurd (omega arith)
slice_append_below (x ∷ xs) ys zero h = refl
slice_append_below (x ∷ xs) ys (suc b) h = slice_append_below xs ys b (omega arith)

pub slice_append_past : {A : Type 0} (xs ys : List A) (i j : ℕ) → j ≡ length xs + i → slice_get (xs ++ ys) j ≡ slice_get ys i
slice_append_past [] ys i j e = ap (slice_get ys) (omega arith)
slice_append_past (x ∷ xs) ys i zero e = absurd (omega arith)
slice_append_past (x ∷ xs) ys i (suc j) e = slice_append_past xs ys i j (omega arith)

pub slice_read : {A : Type 0} (xs : List A) (i : ℕ) (d : A) → i < length xs → slice_get xs i ≡ Some (get_or xs i d)
slice_read [] i d h = absurd (omega arith)
slice_read (x ∷ xs) zero d h = refl
slice_read (x ∷ xs) (suc i) d h = slice_read xs i d (omega arith)
