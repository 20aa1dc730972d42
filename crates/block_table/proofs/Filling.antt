-- Names that take blocks.
use Rattle.std.proofs.Common.{◌≡◌, ◌⊎◌, ℕ, zero, suc, ◌+◌, ◌-◌, ◌<◌, ◌≤◌, List, [], ◌∷◌, length, set, slice_get, Option, Some, None, refl, ap, arith, inl, inr, ⊎_elim}
use Rattle.orca_names.specs.declared.names.ObjName.{ObjName}
use Rattle.block_table.specs.Blocks.{OneBlockEach, Blocks, count_free, fill}
use Rattle.block_table.specs.Told.{IsLowestFree}

-- it stands among these
abbrev pub Among : List ObjName → ObjName → Type 0
Among ns n = (i : ℕ) × (slice_get ns i ≡ Some n)

abbrev pub Apart : List ObjName → Type 0
Apart ns = (i j : ℕ) (n : ObjName) → slice_get ns i ≡ Some n → slice_get ns j ≡ Some n → i ≡ j

-- what is there stays there
pub fill_old : (ns : List ObjName) (bs : Blocks) (k : ℕ) (n : ObjName) → slice_get bs k ≡ Some (Some n)
    → slice_get (fill ns bs) k ≡ Some (Some n)
unfolding fill
fill_old [] bs k n e = e
fill_old (m ∷ ns) [] k n e = e
fill_old (m ∷ ns) (None ∷ bs) zero n e = cc
fill_old (m ∷ ns) (None ∷ bs) (suc k) n e = fill_old ns bs k n e
fill_old (m ∷ ns) (Some x ∷ bs) zero n e = e
fill_old (m ∷ ns) (Some x ∷ bs) (suc k) n e = fill_old (m ∷ ns) bs k n e

-- what is there was there, or came
pub fill_cases : (ns : List ObjName) (bs : Blocks) (k : ℕ) (n : ObjName) → slice_get (fill ns bs) k ≡ Some (Some n)
    → (slice_get bs k ≡ Some (Some n)) ⊎ Among ns n
unfolding fill
fill_cases [] bs k n e = inl e
fill_cases (m ∷ ns) [] k n e = inl e
fill_cases (m ∷ ns) (None ∷ bs) zero n e = let f : m ≡ n = cc in inr (0, ap (λ x. Some x) f)
fill_cases (m ∷ ns) (None ∷ bs) (suc k) n e =
    ⊎_elim (λ old. inl old) (λ came. inr (suc came.0, came.1)) (fill_cases ns bs k n e)
fill_cases (m ∷ ns) (Some x ∷ bs) zero n e = inl e
fill_cases (m ∷ ns) (Some x ∷ bs) (suc k) n e = fill_cases (m ∷ ns) bs k n e

-- where there is room, all come
pub fill_all : (ns : List ObjName) (bs : Blocks) → length ns ≤ count_free bs → (n : ObjName) → Among ns n
    → (k : ℕ) × (slice_get (fill ns bs) k ≡ Some (Some n))
unfolding fill
fill_all [] bs room n (i, e) = cc
fill_all (m ∷ ns) [] room n (i, e) = absurd (omega arith)
fill_all (m ∷ ns) (None ∷ bs) room n (zero, e) = let f : m ≡ n = cc in (0, ap (λ x. Some (Some x)) f)
fill_all (m ∷ ns) (None ∷ bs) room n (suc i, e) =
    let found = fill_all ns bs (omega arith) n (i, e) in (suc found.0, found.1)
fill_all (m ∷ ns) (Some x ∷ bs) room n came =
    let found = fill_all (m ∷ ns) bs (omega arith) n came in (suc found.0, found.1)

apart_tail : (m : ObjName) (ns : List ObjName) → Apart (m ∷ ns) → Apart ns
apart_tail m ns h = λ i j n e f. let s = h (suc i) (suc j) n e f in omega arith

once_tail : (b : Option ObjName) (bs : Blocks) → OneBlockEach (b ∷ bs) → OneBlockEach bs
once_tail b bs h = λ j k n e f. let s = h (suc j) (suc k) n e f in omega arith

-- one that stands nowhere behind it may stand first
places : (m : ObjName) (bs : Blocks) → ((k : ℕ) (n : ObjName) → m ≡ n → slice_get bs k ≡ Some (Some n) → ⊥)
    → OneBlockEach bs → OneBlockEach (Some m ∷ bs)
places m bs again once zero zero n e f = refl
places m bs again once zero (suc k) n e f = let is : m ≡ n = cc in absurd (again k n is f)
places m bs again once (suc j) zero n e f = let is : m ≡ n = cc in absurd (again j n is e)
places m bs again once (suc j) (suc k) n e f = ap suc (once j k n e f)

-- each has one block, where none that comes had one
pub fill_once : (ns : List ObjName) (bs : Blocks) → Apart ns → OneBlockEach bs
    → ((n : ObjName) → Among ns n → (k : ℕ) → slice_get bs k ≡ Some (Some n) → ⊥) → OneBlockEach (fill ns bs)
unfolding fill
fill_once [] bs apart once new = once
fill_once (m ∷ ns) [] apart once new = once
fill_once (m ∷ ns) (None ∷ bs) apart once new =
    places m (fill ns bs) (λ k n is e. ⊎_elim
    (λ old. new n (0, ap (λ x. Some x) is) (suc k) old)
    (λ came. let s = apart 0 (suc came.0) n (ap (λ x. Some x) is) came.1 in absurd (omega arith))
    (fill_cases ns bs k n e))
    (fill_once ns bs (apart_tail m ns apart) (once_tail None bs once) (λ n came k at. new n (suc came.0, came.1) (suc k) at))
fill_once (m ∷ ns) (Some x ∷ bs) apart once new =
    places x (fill (m ∷ ns) bs) (λ k n is e. ⊎_elim
    (λ old. let s = once 0 (suc k) n (ap (λ y. Some (Some y)) is) old in absurd (omega arith))
    (λ came. new n came 0 (ap (λ y. Some (Some y)) is))
    (fill_cases (m ∷ ns) bs k n e))
    (fill_once (m ∷ ns) bs apart (once_tail (Some x) bs once) (λ n came k at. new n came (suc k) at))

pub fill_size : (ns : List ObjName) (bs : Blocks) → length (fill ns bs) ≡ length bs
unfolding fill
fill_size [] bs = refl
fill_size (n ∷ ns) [] = refl
fill_size (n ∷ ns) (None ∷ bs) = ap suc (fill_size ns bs)
fill_size (n ∷ ns) (Some m ∷ bs) = ap suc (fill_size (n ∷ ns) bs)

-- first the first, and then the others
pub fill_first : (n : ObjName) (ns : List ObjName) (bs : Blocks) → fill (n ∷ ns) bs ≡ fill ns (fill (n ∷ []) bs)
unfolding fill
fill_first n [] [] = refl
fill_first n (m ∷ ns) [] = refl
fill_first n [] (None ∷ bs) = refl
fill_first n (m ∷ ns) (None ∷ bs) = refl
fill_first n [] (Some x ∷ bs) = refl
fill_first n (m ∷ ns) (Some x ∷ bs) = ap (λ later. Some x ∷ later) (fill_first n (m ∷ ns) bs)

-- ---- how many are free then

pub fill_count : (ns : List ObjName) (bs : Blocks) → count_free (fill ns bs) ≡ count_free bs - length ns
unfolding fill
fill_count [] bs = omega arith
fill_count (n ∷ ns) [] = omega arith
fill_count (n ∷ ns) (None ∷ bs) = omega (arith, fill_count ns bs)
fill_count (n ∷ ns) (Some m ∷ bs) = omega (arith, fill_count (n ∷ ns) bs)

pub count_within : (bs : Blocks) → count_free bs ≤ length bs
count_within [] = omega arith
count_within (None ∷ bs) = omega (arith, count_within bs)
count_within (Some n ∷ bs) = omega (arith, count_within bs)

-- an object takes a free block
pub taken_count : (bs : Blocks) (k : ℕ) (n : ObjName) → slice_get bs k ≡ Some None
    → count_free bs ≡ count_free (set bs k (Some n)) + 1
taken_count [] k n e = cc
taken_count (None ∷ bs) zero n e = omega arith
taken_count (Some m ∷ bs) zero n e = cc
taken_count (b ∷ bs) (suc k) n e = omega (arith, taken_count bs k n e)

-- an object's block is given back
pub given_count : (bs : Blocks) (k : ℕ) (n : ObjName) → slice_get bs k ≡ Some (Some n)
    → count_free (set bs k None) ≡ count_free bs + 1
given_count [] k n e = cc
given_count (None ∷ bs) zero n e = cc
given_count (Some m ∷ bs) zero n e = omega arith
given_count (b ∷ bs) (suc k) n e = omega (arith, given_count bs k n e)

-- ---- the lowest free block

pub free_block : (bs : Blocks) → 0 < count_free bs → (k : ℕ) × (slice_get bs k ≡ Some None)
free_block [] some = absurd (omega arith)
free_block (None ∷ bs) some = (0, refl)
free_block (Some n ∷ bs) some = let found = free_block bs (omega arith) in (suc found.0, found.1)

lowest_behind : (b : Option ObjName) (bs : Blocks) (k : ℕ) → IsLowestFree (b ∷ bs) (suc k) → IsLowestFree bs k
lowest_behind b bs k is = record {
  free = is.free;
  lowest = λ j e. let h = is.lowest (suc j) e in omega arith;
}

-- it is the one that is taken
pub fill_lowest : (n : ObjName) (bs : Blocks) (k : ℕ) → IsLowestFree bs k → fill (n ∷ []) bs ≡ set bs k (Some n)
unfolding fill
fill_lowest n [] k is = refl
fill_lowest n (None ∷ bs) zero is = refl
fill_lowest n (None ∷ bs) (suc k) is = let h = is.lowest 0 refl in absurd (omega arith)
fill_lowest n (Some m ∷ bs) zero is = let e = is.free in cc
fill_lowest n (Some m ∷ bs) (suc k) is = ap (λ later. Some m ∷ later) (fill_lowest n bs k (lowest_behind (Some m) bs k is))
