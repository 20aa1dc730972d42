-- Serials that follow one another.
use Rattle.std.proofs.Common.{◌≡◌, ℕ, zero, suc, ◌+◌, ◌-◌, ◌<◌, ◌≤◌, List, [], ◌∷◌, length, get_or, map, refl, sym, ap, ◌∙◌, arith}
use Rattle.std.specs.Prelude.{T}
use Rattle.std.specs.declared.cmp.Ordering.TheVariants.{Less}
use Rattle.std.specs.Ordering.{nat_cmp}
use Rattle.std.specs.Cmp.{nat_cmp_total}
use Rattle.std.specs.FinMap.Entries.{is_sorted}
use Rattle.std.proofs.lemmas.Bool.Decides.{nat_tests}
use Rattle.std.proofs.lemmas.List.{length-map, get_or-map}
use Rattle.std.proofs.lemmas.Option.{slice_get-get_or, slice_get_within, get_or_from_slice_get}
use Rattle.plain_list.proofs.Rising.{rises}
use Rattle.object_heap.specs.declared.search.Key.{Key}
use Rattle.object_heap.specs.Entry.{FollowOn, first_of, key_pair, serial_in}

less : (a b : ℕ) → nat_cmp a b ≡ Less → a < b
less a b e = grind (arith, nat_tests)

abbrev serial_at : List (ℕ × ℕ) → ℕ → ℕ
serial_at es j = (get_or es j (0, 0)).0

-- each is above the one before
climb : (es : List (ℕ × ℕ)) → T (is_sorted nat_cmp es) → (i n j : ℕ) → j ≡ i + n → j < length es → serial_at es i + n ≤ serial_at es j
climb es h i zero j e l =
    let same : j ≡ i = omega arith in
    let read = ap (λ k. (get_or es k (0, 0)).0) same in
    omega arith
climb es h i (suc n) j e l =
    let before = climb es h i n (i + n) refl (omega arith) in
    let step : serial_at es (i + n) < serial_at es j = less (serial_at es (i + n)) (serial_at es j) (rises nat_cmp_total es h (i + n) j (0, 0) (omega arith) l) in
    omega arith

serials_same : (keys : List Key) (j : ℕ) → get_or (map serial_in keys) j 0 ≡ serial_at (map key_pair keys) j
serials_same [] j = refl
serials_same (k ∷ keys) zero = refl
serials_same (k ∷ keys) (suc j) = serials_same keys j

module _ (keys : List Key) (h : T (is_sorted nat_cmp (map key_pair keys))) (a b : Key) (n : ℕ) (count : n + 1 ≡ length keys) (first : a ≡ get_or keys 0 a) (last : b ≡ get_or keys n b) where
  abbrev serials : List ℕ
  serials = map serial_in keys

  abbrev read : ℕ → ℕ
  read j = get_or serials j 0

  read_first : a.serial ≡ read 0
  read_first = ap serial_in first ∙ sym (get_or-map serial_in keys 0 a 0 (omega arith))

  read_last : b.serial ≡ read n
  read_last = ap serial_in last ∙ sym (get_or-map serial_in keys n b 0 (omega arith))

  up : (i j : ℕ) → i ≤ j → j < length keys → read i + (j - i) ≤ read j
  up i j l m =
      let c = climb (map key_pair keys) h i (j - i) j (omega arith) (omega (arith, length-map keys key_pair)) in
      omega (arith, serials_same keys i, serials_same keys j)

  pub first_below : a.serial ≤ b.serial
  first_below = omega (arith, up 0 n (omega arith) (omega arith), read_first, read_last)

  pub then_follow : b.serial - a.serial ≡ n → FollowOn (map serial_in keys)
  then_follow e i k is =
      let within : i < length keys = omega (arith, slice_get_within (map serial_in keys) i k is, length-map keys serial_in) in
      let here : read i ≡ k = get_or_from_slice_get (map serial_in keys) i k 0 is in
      let low = up 0 i (omega arith) within in
      let high = up i n (omega arith) (omega arith) in
      omega (arith, read_first, read_last)

  pub follow_then : FollowOn (map serial_in keys) → b.serial - a.serial ≡ n
  follow_then f =
      let end : read n ≡ first_of (map serial_in keys) + n = f n (read n) (slice_get-get_or (map serial_in keys) n 0 (omega (arith, length-map keys serial_in))) in
      omega (arith, read_first, read_last)
