-- What is told of blocks stays true, and what the set of the free ones finds.
use Rattle.std.proofs.Common.{◌≡◌, ◌≢◌, ℕ, zero, suc, ◌+◌, ◌<◌, ◌≤◌, Bool, true, false, List, [], ◌∷◌, ◌++◌, length, get_or, set, replicate, slice_get, Option, Some, None, is_none, refl, sym, ap, ◌∙◌, arith, inl, inr, length-append}
use Rattle.std.specs.List.{position}
use Rattle.std.specs.Option.{option_map_or}
use Rattle.std.proofs.lemmas.Bool.{cases_eq, cases_lt}
use Rattle.std.proofs.lemmas.List.{get_or-append_right, get_or-replicate, get_or-set_other, get_or-set_same, get_or_append_left, get_or_past, length-replicate, length-set}
use Rattle.std.proofs.lemmas.List.Quantifiers.{position-Some}
use Rattle.std.proofs.lemmas.List.Sums.{fails_before_first}
use Rattle.std.proofs.lemmas.Option.{slice_get_past}
use Rattle.orca_names.specs.declared.names.ObjName.{ObjName}
use Rattle.block_table.specs.Blocks.{Blocks, count_free, free_blocks}
use Rattle.block_table.specs.declared.table.TheConstants.{BLOCKS_LIMIT}
use Rattle.block_table.specs.Told.{AreTold, HasObject, IsLowestFree}
use Rattle.block_table.proofs.Filling.{free_block}

pub get-set_same : {A : Type 0} (xs : List A) (k : ℕ) (x : A) → k < length xs → slice_get (set xs k x) k ≡ Some x
get-set_same [] k x h = absurd (omega arith)
get-set_same (y ∷ xs) zero x h = refl
get-set_same (y ∷ xs) (suc k) x h = get-set_same xs k x (omega arith)

pub get-set_other : {A : Type 0} (xs : List A) (k j : ℕ) (x : A) → j ≢ k → slice_get (set xs k x) j ≡ slice_get xs j
get-set_other [] k j x other = refl
get-set_other (y ∷ xs) zero zero x other = absurd (other refl)
get-set_other (y ∷ xs) zero (suc j) x other = refl
get-set_other (y ∷ xs) (suc k) zero x other = refl
get-set_other (y ∷ xs) (suc k) (suc j) x other = get-set_other xs k j x (λ e. other (omega arith))

-- ---- one block alone becomes another

pub told_set : (bs : Blocks) (free : List Bool) (count later k : ℕ) (b : Option ObjName) → AreTold bs free count
    → k < length bs → later ≡ count_free (set bs k b) → AreTold (set bs k b) (set free k (is_none b)) later
told_set bs free count later k b told h counted = record {
  at = λ j. elim (cases_eq j k) as (λ _. get_or (set free k (is_none b)) j false ≡ option_map_or is_none (slice_get (set bs k b) j) false) [
    | inl e ↦
        ap (λ i. get_or (set free k (is_none b)) i false) e
        ∙ get_or-set_same free k (is_none b) false (omega (arith, told.long))
        ∙ sym (ap (λ i. option_map_or is_none (slice_get (set bs k b) i) false) e ∙ ap (λ o. option_map_or is_none o false) (get-set_same bs k b h))
    | inr e ↦
        get_or-set_other free k j (is_none b) false e
        ∙ told.at j
        ∙ sym (ap (λ o. option_map_or is_none o false) (get-set_other bs k j b e))
  ];
  long = omega (arith, told.long, length-set bs k b, length-set free k (is_none b));
  few = omega (arith, told.few, length-set bs k b);
  counted = counted;
}

-- ---- one block more, which is free

-- places more, all of them off
pub told_grown : (bs : Blocks) (free : List Bool) (count more : ℕ) → AreTold bs free count
    → AreTold bs (free ++ replicate more false) count
told_grown bs free count more told = record {
  at = λ k. grind (arith, get_or_append_left, get_or-append_right, get_or-replicate, get_or_past, length-replicate, length-append, told.at k);
  long = omega (arith, told.long, length-append free (replicate more false));
  few = told.few;
  counted = told.counted;
}

all_free : (n k : ℕ) → k < n → slice_get (free_blocks n) k ≡ Some None
all_free zero k h = absurd (omega arith)
all_free (suc n) zero h = refl
all_free (suc n) (suc k) h = all_free n k (omega arith)

pub all_length : (n : ℕ) → length (free_blocks n) ≡ n
all_length n = length-replicate n None

count_all : (n : ℕ) → count_free (free_blocks n) ≡ n
count_all zero = refl
count_all (suc n) = omega (arith, count_all n)

-- no block, or one that is free
place_of : (n k : ℕ) → k ≢ n → option_map_or is_none (slice_get (free_blocks (n + 1)) k) false ≡ option_map_or is_none (slice_get (free_blocks n) k) false
place_of n k other = elim (cases_lt k n) as (λ _. option_map_or is_none (slice_get (free_blocks (n + 1)) k) false ≡ option_map_or is_none (slice_get (free_blocks n) k) false) [
  | inl h ↦ ap (λ o. option_map_or is_none o false) (all_free (n + 1) k (omega arith) ∙ sym (all_free n k h))
  | inr h ↦ ap (λ o. option_map_or is_none o false) (slice_get_past (free_blocks (n + 1)) k (omega (arith, all_length (n + 1))) ∙ sym (slice_get_past (free_blocks n) k (omega (arith, all_length n))))
]

pub told_more : (n : ℕ) (free : List Bool) → AreTold (free_blocks n) free n → n < length free → n < BLOCKS_LIMIT
    → AreTold (free_blocks (n + 1)) (set free n true) (n + 1)
told_more n free told h few = record {
  at = λ k. elim (cases_eq k n) as (λ _. get_or (set free n true) k false ≡ option_map_or is_none (slice_get (free_blocks (n + 1)) k) false) [
    | inl e ↦
        ap (λ i. get_or (set free n true) i false) e
        ∙ get_or-set_same free n true false h
        ∙ sym (ap (λ o. option_map_or is_none o false) (all_free (n + 1) k (omega arith)))
    | inr e ↦ get_or-set_other free n k true false e ∙ told.at k ∙ sym (place_of n k e)
  ];
  long = omega (arith, length-set free n true, all_length (n + 1));
  few = omega (arith, all_length (n + 1));
  counted = sym (count_all (n + 1));
}

-- ---- the first place that is on

free_of : (o : Option (Option ObjName)) → option_map_or is_none o false ≡ true → o ≡ Some None
free_of None e = cc
free_of (Some None) e = refl
free_of (Some (Some n)) e = cc

pub found_lowest : (bs : Blocks) (free : List Bool) (count k : ℕ) → AreTold bs free count
    → position (λ on. on) free ≡ Some k → IsLowestFree bs k
found_lowest bs free count k told e =
    let found = position-Some (λ on. on) free k false e in
    record {
      free = free_of (slice_get bs k) (sym (told.at k) ∙ found.1);
      lowest = λ j f. elim (cases_lt j k) as (λ _. k ≤ j) [
        | inl h ↦ let on = told.at j ∙ ap (λ o. option_map_or is_none o false) f in let off = found.2 j h in cc
        | inr h ↦ h
      ];
    }

position_none : (ons : List Bool) → position (λ on. on) ons ≡ None → (k : ℕ) → get_or ons k false ≡ false
position_none ons e k = grind (arith, fails_before_first (λ on. on) ons k false, get_or_past)

-- where a block is free, some place is on
pub some_found : (bs : Blocks) (free : List Bool) (count : ℕ) → AreTold bs free count → 0 < count_free bs
    → position (λ on. on) free ≡ None → ⊥
some_found bs free count told some e =
    let found = free_block bs some in
    let on = told.at found.0 ∙ ap (λ o. option_map_or is_none o false) found.1 in
    let off = position_none free e found.0 in
    cc

-- ---- what callers know

-- the object that was read has the block
pub has_object : (bs : Blocks) (k : ℕ) (n : ObjName) → get_or bs k None ≡ Some n → HasObject bs k
has_object [] k n e = cc
has_object (b ∷ bs) zero n e = (n, ap (λ o. Some o) e)
has_object (b ∷ bs) (suc k) n e = has_object bs k n e
