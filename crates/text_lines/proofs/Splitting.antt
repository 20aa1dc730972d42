-- The next line of a text.
use Rattle.std.proofs.Common.{◌≡◌, ◌≢◌, ℕ, ◌+◌, ◌<◌, ◌≤◌, false, List, [], ◌∷◌, ◌++◌, ◌==◌, length, get_or, take, drop, refl, ap, sym, ◌∙◌, subst, arith, All, length-drop, length-take-le, take_all, drop_of_length-le, add-one, drop-cons, take-append-drop, ne_eqb, inl, inr, get_or-take, drop-drop, map, append_assoc, ◌-◌, Option}
use Rattle.std.proofs.lemmas.Bool.{cases_lt}
use Rattle.std.proofs.lemmas.List.Elements.{All-from_get_or}
use Rattle.std.specs.List.{slice_split}
use Rattle.std.proofs.lemmas.List.Splits.{slice_split_at, slice_split_none, length-slice_split}
use Rattle.std.proofs.lemmas.List.{map-append}
use Rattle.text_lines.specs.Lines.{FollowFrom, lines_of, without_empty_last, with_fault, line_at, line_fault}
use Rattle.text_lines.specs.declared.LineSpan.{LineSpan}
use Rattle.text_lines.specs.declared.LineKind.{LineKind}

-- a piece before others is a line
pub more_pieces : (l : List ℕ) (ps : List (List ℕ)) → 0 < length ps → without_empty_last (l ∷ ps) ≡ l ∷ without_empty_last ps
more_pieces l [] h = absurd (omega arith)
more_pieces [] (p ∷ ps) h = refl
more_pieces (b ∷ bs) (p ∷ ps) h = refl

last_line : (xs : List ℕ) → 0 < length xs → without_empty_last (xs ∷ []) ≡ xs ∷ []
last_line [] h = absurd (omega arith)
last_line (x ∷ xs) h = refl

split_at_feed : (xs : List ℕ) (n : ℕ) → n < length xs → get_or xs n 0 ≡ 10 → take n xs ++ 10 ∷ drop (n + 1) xs ≡ xs
split_at_feed xs n h found =
    subst (λ (b : ℕ). take n xs ++ b ∷ drop (n + 1) xs ≡ xs) found
    (rw add-one (subst (λ (t : List ℕ). take n xs ++ t ≡ xs) (drop-cons xs n 0 h) (take-append-drop n xs)))

no_feeds : (xs : List ℕ) (n : ℕ) → n ≤ length xs → ((k : ℕ) → k < n → get_or xs k 0 ≢ 10) → All (λ x. (x == 10) ≡ false) (take n xs)
no_feeds xs n h before =
    All-from_get_or (λ (x : ℕ). (x == 10) ≡ false) (take n xs) 0 (λ i below.
    let small : i < n = omega (arith, length-take-le n xs h) in
    subst (λ (b : ℕ). (b == 10) ≡ false) (sym (get_or-take n xs i 0 small)) (ne_eqb _ _ (before i small)))

-- where there is a line feed
ends_inside : (xs : List ℕ) (n : ℕ) → n < length xs → ((k : ℕ) → k < n → get_or xs k 0 ≢ 10) → get_or xs n 0 ≡ 10 →
    lines_of xs ≡ take n xs ∷ lines_of (drop (n + 1) xs)
ends_inside xs n h before found =
    let whole : take n xs ++ 10 ∷ drop (n + 1) xs ≡ xs = split_at_feed xs n h found in
    let parts : slice_split (λ b. b == 10) xs ≡ take n xs ∷ slice_split (λ b. b == 10) (drop (n + 1) xs) =
    subst (λ (t : List ℕ). slice_split (λ b. b == 10) t ≡ take n xs ∷ slice_split (λ b. b == 10) (drop (n + 1) xs)) whole
    (slice_split_at (λ b. b == 10) (take n xs) 10 (drop (n + 1) xs) (no_feeds xs n (omega arith) before) refl) in
    ap without_empty_last parts ∙ more_pieces _ _ (omega (arith, length-slice_split (λ b. b == 10) (drop (n + 1) xs)))

-- where there is none
ends_last : (xs : List ℕ) (n : ℕ) → 0 < length xs → n ≡ length xs → ((k : ℕ) → k < n → get_or xs k 0 ≢ 10) →
    lines_of xs ≡ take n xs ∷ lines_of (drop (n + 1) xs)
ends_last xs n h e before =
    let all : take n xs ≡ xs = take_all n xs (omega arith) in
    let none : drop (n + 1) xs ≡ [] = drop_of_length-le xs (omega arith) in
    let parts : slice_split (λ b. b == 10) xs ≡ xs ∷ [] =
    slice_split_none (λ b. b == 10) xs (subst (All (λ x. (x == 10) ≡ false)) all (no_feeds xs n (omega arith) before)) in
    rw (all, none) (ap without_empty_last parts ∙ last_line xs h)

pub next_line : (xs : List ℕ) (n : ℕ) → 0 < length xs → n ≤ length xs → ((k : ℕ) → k < n → get_or xs k 0 ≢ 10) →
    (n < length xs → get_or xs n 0 ≡ 10) → lines_of xs ≡ take n xs ∷ lines_of (drop (n + 1) xs)
next_line xs n some within before found =
    elim (cases_lt n (length xs)) [ inl h ↦ ends_inside xs n h before (found h) | inr h ↦ ends_last xs n some (omega arith) before ]

-- the same in the middle of a text, whose rest is a slice
pub next_line_at : (xs : List ℕ) (i n : ℕ) → i < length xs → n ≤ length (take (length xs - i) (drop i xs)) →
    ((k : ℕ) → k < n → get_or (take (length xs - i) (drop i xs)) k 0 ≢ 10) →
    (n < length (take (length xs - i) (drop i xs)) → get_or (take (length xs - i) (drop i xs)) n 0 ≡ 10) →
    lines_of (drop i xs) ≡ take n (drop i xs) ∷ lines_of (drop (i + n + 1) xs)
next_line_at xs i n inside within before found =
    let whole : take (length xs - i) (drop i xs) ≡ drop i xs = take_all _ _ (omega (arith, length-drop i xs)) in
    let moved : drop (n + 1) (drop i xs) ≡ drop (i + n + 1) xs = drop-drop (n + 1) i xs ∙ ap (λ (k : ℕ). drop k xs) (omega arith) in
    subst (λ (t : List ℕ). lines_of (drop i xs) ≡ take n (drop i xs) ∷ lines_of t) moved
    (next_line (drop i xs) n (omega (arith, length-drop i xs)) (rw whole at within) (rw whole at before) (rw whole at found))

-- one more line is told
pub told_more : (bytes : List ℕ) (spans more : List LineSpan) (span : LineSpan) (line : List ℕ) (rest all : List (List ℕ)) (whole : List (List ℕ × Option LineKind)) →
    more ≡ spans ++ span ∷ [] → line_at bytes span ≡ with_fault line → all ≡ line ∷ rest →
    map (line_at bytes) spans ++ map with_fault all ≡ whole → map (line_at bytes) more ++ map with_fault rest ≡ whole
told_more bytes spans more span line rest all whole e same parts told =
    let first : map (line_at bytes) spans ++ (with_fault line ∷ map with_fault rest) ≡ whole =
    subst (λ (ls : List (List ℕ)). map (line_at bytes) spans ++ map with_fault ls ≡ whole) parts told in
    rw e (simp (map-append, append_assoc) (subst (λ (x : List ℕ × Option LineKind). map (line_at bytes) spans ++ (x ∷ map with_fault rest) ≡ whole) (sym same) first))

pub span_tested : (bytes : List ℕ) (from m n : ℕ) (fault : Option LineKind) → m ≡ n → fault ≡ line_fault (take m (drop from bytes)) →
    (take m (drop from bytes), fault) ≡ with_fault (take n (drop from bytes))
span_tested bytes from m n fault e h =
    subst (λ (k : ℕ). (take m (drop from bytes), fault) ≡ with_fault (take k (drop from bytes))) e
    (ap (λ (x : Option LineKind). (take m (drop from bytes), x)) h)

-- one more span has followed
pub followed_more : (spans more rest : List LineSpan) (span : LineSpan) → more ≡ spans ++ span ∷ [] → FollowFrom 0 (spans ++ span ∷ rest) → FollowFrom 0 (more ++ rest)
followed_more spans more rest span e h = rw e (rw append_assoc h)
