-- How much work minting and sweeping leave in a table.
use Rattle.std.proofs.Common.{◌≡◌, ℕ, suc, ◌+◌, ◌*◌, ◌≤◌, ◌<◌, ◌==◌, T, not, cond, Bool, true, false, if◌then◌else◌, Option, Some, None, List, [], ◌∷◌, length, filter, refl, ap, sym, ◌∙◌, arith, ⊎_elim, ne_eqb}
use Rattle.std.specs.Prelude.{sum_by}
use Rattle.std.specs.FinMap as m
use Rattle.std.specs.FinMap.Entries.{below_all, by_order, find-where_key, is_sorted-where_key, where_key}
use Rattle.std.specs.Ordering.{is_eq}
use Rattle.std.specs.declared.cmp.Ordering.{Ordering}
use Rattle.std.specs.declared.cmp.Ordering.TheVariants.{Less, Equal, Greater}
use Rattle.std.proofs.Math.Nat.{suc-mul}
use Rattle.std.proofs.lemmas.List.{length-map}
use Rattle.std.proofs.lemmas.List.Sums.{sum_by-cons}
use Rattle.orca_names.proofs.ThingOrder.{cases_thing, thing_exact, thing_total}
use Rattle.orca_names.specs.Names.{owner_of, thing_cmp}
use Rattle.orca_names.specs.declared.names.Thing.{Thing}
use Rattle.letter_kinds.proofs.Amounts.{amount_more}
use Rattle.letter_kinds.proofs.Counts.{amount-same, held_set_other, held_set_same}
use Rattle.letter_kinds.proofs.Sums.{sum-nil}
use Rattle.letter_kinds.specs.Counting.{Amount, by_owner, given_back, join_owner, mint_all, mint_one, set_held, sweep}
use Rattle.letter_kinds.specs.Holdings.{Entries, Holdings, Row, entry_count, entry_row, held_in}
use Rattle.letter_kinds.specs.Sums.{amount_of}
use Rattle.count_laws.proofs.balance.InHand.{AllCounted}
use Rattle.count_laws.proofs.balance.Sweeping.{both_true, find_above}
use Rattle.machine_laws.specs.Work.{count_work, entry_work, table_work}
use Rattle.count_laws.proofs.letters.Shares.{is_less}

-- ---- one entry of a table gets another value

below_less : {X : Type 0} (x y : Thing) (es : List (Thing × X)) → thing_cmp x y ≡ Less → T (below_all thing_cmp y es) → T (below_all thing_cmp x es)
below_less x y [] less h = tt
below_less x y (e ∷ es) less h =
    let parts = both_true _ _ h in
    rw (thing_total.trans x y e.0 less (is_less (thing_cmp y e.0) parts.0)) (below_less x y es less parts.1)

-- a count with a row
abbrev Entry : Type 0
Entry = ℕ × Option Row

module _ (f : Entry → ℕ) where
  abbrev value_sum : List (Thing × Entry) → ℕ
  value_sum es = sum_by (λ e. f e.1) es

  sum-put : (k : Thing) (v old : Entry) (es : List (Thing × Entry)) → T (m.is_sorted thing_cmp es) → m.find thing_cmp k es ≡ Some old → value_sum (m.put thing_cmp k v es) + f old ≡ value_sum es + f v
  sum-put k v old [] h found = cc
  sum-put k v old (e ∷ es) h found =
      let parts : T (below_all thing_cmp e.0 es) × T (m.is_sorted thing_cmp es) = both_true _ _ h in
      at_order parts.0 (sum-put k v old es parts.1) (thing_cmp k e.0) refl found
    where
      at_order : T (below_all thing_cmp e.0 es) → (m.find thing_cmp k es ≡ Some old → value_sum (m.put thing_cmp k v es) + f old ≡ value_sum es + f v)
          → (r : Ordering) → thing_cmp k e.0 ≡ r → cond (is_eq r) (Some e.1) (m.find thing_cmp k es) ≡ Some old
          → value_sum (by_order r ((k, v) ∷ e ∷ es) ((e.0, v) ∷ es) (e ∷ m.put thing_cmp k v es)) + f old ≡ value_sum (e ∷ es) + f v
      at_order above later Less less found = let none = find_above k es (below_less k e.0 es less above) in cc
      at_order above later Equal same found =
          let is : e.1 ≡ old = cc in
          omega (arith, sum_by-cons (λ (e : Thing × Entry). f e.1) (e.0, v) es, sum_by-cons (λ (e : Thing × Entry). f e.1) e es, ap f is)
      at_order above later Greater more found =
          omega (arith, sum_by-cons (λ (e : Thing × Entry). f e.1) e es, sum_by-cons (λ (e : Thing × Entry). f e.1) e (m.put thing_cmp k v es), later found)

  -- an entry is changed or comes
  sum-put_le : (k : Thing) (v : Entry) (es : List (Thing × Entry)) → value_sum (m.put thing_cmp k v es) ≤ value_sum es + f v
  sum-put_le k v [] = omega (arith, sum_by-cons (λ (e : Thing × Entry). f e.1) (k, v) [])
  sum-put_le k v (e ∷ es) = at_order (sum-put_le k v es) (thing_cmp k e.0)
    where
      at_order : value_sum (m.put thing_cmp k v es) ≤ value_sum es + f v → (r : Ordering) → value_sum (by_order r ((k, v) ∷ e ∷ es) ((e.0, v) ∷ es) (e ∷ m.put thing_cmp k v es)) ≤ value_sum (e ∷ es) + f v
      at_order later Less = omega (arith, sum_by-cons (λ (e : Thing × Entry). f e.1) (k, v) (e ∷ es))
      at_order later Equal = omega (arith, sum_by-cons (λ (e : Thing × Entry). f e.1) (e.0, v) es, sum_by-cons (λ (e : Thing × Entry). f e.1) e es)
      at_order later Greater = omega (arith, sum_by-cons (λ (e : Thing × Entry). f e.1) e es, sum_by-cons (λ (e : Thing × Entry). f e.1) e (m.put thing_cmp k v es), later)

-- ---- minting

-- what is held of a thing stands in its entry
held_entry : (h : Holdings) (x : Thing) → 0 < held_in h x → (row : Option Row) × (m.get h.foreign x ≡ Some (held_in h x, row))
unfolding held_in
held_entry h x some = found (m.get h.foreign x) some
  where
    found : (o : Option Entry) → 0 < entry_count o → (row : Option Row) × (o ≡ Some (entry_count o, row))
    found None some = absurd (omega arith)
    found (Some (count, row)) some = (row, refl)

module _ (n : ℕ) where
  counted_more : (count more : ℕ) → 0 < count → 0 < more → entry_work n (count + more) ≡ count_work n
  counted_more count more some raised = rw (ne_eqb (count + more) 1 (λ e. omega arith)) (omega arith)

  mint_one-work : (e : Amount) (h : Holdings) → 0 < held_in h e.0 → 0 < e.1 → table_work n (mint_one e h) + entry_work n (held_in h e.0) ≡ table_work n h + count_work n
  unfolding set_held
  mint_one-work e h some raised =
      let row = entry_row (m.get h.foreign e.0) in
      let entry = held_entry h e.0 some in
      let put = ap (λ es. sum_by (λ (e : Thing × Entry). entry_work n e.1.0) es) (m.entries-insert thing_total h.foreign e.0 (held_in h e.0 + e.1, row)) in
      let sum = sum-put (λ v. entry_work n v.0) e.0 (held_in h e.0 + e.1, row) (held_in h e.0, entry.0) (m.entries h.foreign) (m.entries_sorted h.foreign) (sym (m.get-entries h.foreign e.0) ∙ entry.1) in
      omega (arith, put, sum, counted_more (held_in h e.0) e.1 some raised)

  entry_more : (count : ℕ) → count_work n ≤ entry_work n count
  entry_more count = omega arith

  -- each thing that is minted is held still
  held_still : (e : Amount) (h : Holdings) (x : Thing) → held_in h x ≤ held_in (mint_one e h) x
  held_still e h x =
      let row = entry_row (m.get h.foreign e.0) in
      ⊎_elim
      (λ same. omega (arith, held_set_same (λ c. c + e.1) x e.0 row h same))
      (λ other. omega (arith, held_set_other (λ c. c + e.1) x e.0 row h other))
      (cases_thing x e.0)

  mint_all-work : (es : List Amount) (h : Holdings) → AllCounted es → ((x : Thing) → 0 < amount_of x es → 0 < held_in h x) → table_work n (mint_all es h) ≤ table_work n h
  unfolding mint_all
  mint_all-work [] h counted held = omega arith
  mint_all-work (e ∷ es) h counted held =
      let some = held e.0 (omega (arith, amount-same e.0 e es refl, counted.0)) in
      let rest = mint_all-work es (mint_one e h) counted.1 (λ x h'. omega (arith, held x (amount_more x e es h'), held_still e h x)) in
      omega (arith, rest, mint_one-work e h some counted.0, entry_more (held_in h e.0))

  -- where the first of them is held with 1, there is less to do by one mint
  pub mint_first-work : (e : Amount) (es : List Amount) (h : Holdings) → AllCounted (e ∷ es) → ((x : Thing) → 0 < amount_of x (e ∷ es) → 0 < held_in h x) → held_in h e.0 ≡ 1
      → table_work n (mint_all (e ∷ es) h) + suc (count_work n) ≤ table_work n h
  unfolding mint_all
  mint_first-work e es h counted held one =
      let some : 0 < held_in h e.0 = omega (arith, one) in
      let rest = mint_all-work es (mint_one e h) counted.1 (λ x h'. omega (arith, held x (amount_more x e es h'), held_still e h x)) in
      let lone : entry_work n (held_in h e.0) ≡ count_work n + suc (count_work n) = rw one refl in
      omega (arith, rest, mint_one-work e h some counted.0, lone)

  -- ---- minting for what is not held

  entry_most : (count : ℕ) → entry_work n count ≤ suc (2 * count_work n)
  entry_most count = by_one (count == 1)
    where
      by_one : (b : Bool) → count_work n + (if b then suc (count_work n) else 0) ≤ suc (2 * count_work n)
      by_one true = omega arith
      by_one false = omega arith

  mint_one-more : (e : Amount) (h : Holdings) → table_work n (mint_one e h) ≤ table_work n h + suc (2 * count_work n)
  unfolding set_held
  mint_one-more e h =
      let row = entry_row (m.get h.foreign e.0) in
      let put = ap (λ es. sum_by (λ (e : Thing × Entry). entry_work n e.1.0) es) (m.entries-insert thing_total h.foreign e.0 (held_in h e.0 + e.1, row)) in
      omega (arith, put, sum-put_le (λ v. entry_work n v.0) e.0 (held_in h e.0 + e.1, row) (m.entries h.foreign), entry_most (held_in h e.0 + e.1))

  -- each of them is at most an entry more
  pub mint_all-more : (es : List Amount) (h : Holdings) → table_work n (mint_all es h) ≤ table_work n h + length es * suc (2 * count_work n)
  unfolding mint_all
  mint_all-more [] h = omega arith
  mint_all-more (e ∷ es) h =
      one_more (table_work n (mint_all es (mint_one e h))) (table_work n (mint_one e h)) (table_work n h) (length es) (suc (2 * count_work n)) (mint_all-more es (mint_one e h)) (mint_one-more e h)
    where
      one_more : (after between before more each : ℕ) → after ≤ between + more * each → between ≤ before + each → after ≤ before + suc more * each
      one_more after between before more each rest one = omega (arith, rest, one, suc-mul more each)

-- ---- sweeping

entries-retain : (marked : Thing → Bool) (es : Entries) → m.entries (m.retain_keys es marked) ≡ filter (λ e. marked e.0) (m.entries es)
entries-retain marked es =
    let stay = where_key thing_cmp marked (m.entries es) in
    let sorted = is_sorted-where_key thing_cmp marked (m.entries es) (m.entries_sorted es) in
    let alike = λ (q x : Thing) (t : thing_cmp q x ≡ Equal). ap marked (sym (thing_exact q x t)) in
    ap m.entries (m.same_map thing_total thing_exact (m.retain_keys es marked) (m.from_sorted stay)
    (λ q. m.get-retain_keys es marked q (alike q) ∙ ap (λ o. cond (marked q) o None) (m.get-entries es q) ∙ sym (m.get-from_sorted thing_cmp stay q sorted ∙ find-where_key thing_cmp marked q (alike q) (m.entries es))))
    ∙ m.entries-from_sorted thing_cmp stay sorted

one_more_gone : (kept gone total entry each : ℕ) → kept + gone * each ≤ total → each ≤ entry → kept + suc gone * each ≤ entry + total
one_more_gone kept gone total entry each rest covered = omega (arith, rest, covered, suc-mul gone each)

module _ (n : ℕ) (marked : Thing → Bool) where
  abbrev entry_sum : List (Thing × Entry) → ℕ
  entry_sum es = sum_by (λ e. entry_work n e.1.0) es

  kept_and_gone : (es : List (Thing × Entry)) → entry_sum (filter (λ e. marked e.0) es) + length (filter (λ (e : Thing × Entry). not (marked e.0)) es) * count_work n ≤ entry_sum es
  kept_and_gone [] = omega (arith, sum-nil (λ (e : Thing × Entry). entry_work n e.1.0))
  kept_and_gone (e ∷ es) = by_mark (kept_and_gone es) (marked e.0)
    where
      kept : List (Thing × Entry)
      kept = filter (λ e. marked e.0) es

      gone : List (Thing × Entry)
      gone = filter (λ e. not (marked e.0)) es

      by_mark : entry_sum kept + length gone * count_work n ≤ entry_sum es → (b : Bool) → entry_sum (cond b (e ∷ kept) kept) + length (cond (not b) (e ∷ gone) gone) * count_work n ≤ entry_sum (e ∷ es)
      by_mark rest true = omega (arith, sum_by-cons (λ (e : Thing × Entry). entry_work n e.1.0) e kept, sum_by-cons (λ (e : Thing × Entry). entry_work n e.1.0) e es, rest)
      by_mark rest false = rw (sum_by-cons (λ (e : Thing × Entry). entry_work n e.1.0) e es) (one_more_gone (entry_sum kept) (length gone) (entry_sum es) (entry_work n e.1.0) (count_work n) rest (entry_more n e.1.0))

  -- what is kept, and a Dec for each of the others, is at most what there was
  pub sweep-work : (me : ℕ) (h : Holdings) → table_work n (sweep marked me h) + length (given_back marked h) * count_work n ≤ table_work n h
  unfolding sweep given_back
  sweep-work me h =
      omega (arith, kept_and_gone (m.entries h.foreign), ap entry_sum (entries-retain marked h.foreign), ap (λ (l : ℕ). l * count_work n) (length-map {B = Amount} (filter (λ (e : Thing × Entry). not (marked e.0)) (m.entries h.foreign)) (λ e. (e.0, e.1.0))))

-- ---- one Dec for each owner

join_owner-length : (e : Amount) (groups : List (ℕ × List Amount)) → length (join_owner e groups) ≤ suc (length groups)
join_owner-length e [] = omega arith
join_owner-length e (group ∷ groups) = by_owner_same (owner_of e.0 == group.0)
  where
    by_owner_same : (b : Bool) → length (if b then (group.0, e ∷ group.1) ∷ groups else (owner_of e.0, e ∷ []) ∷ group ∷ groups) ≤ suc (suc (length groups))
    by_owner_same true = omega arith
    by_owner_same false = omega arith

pub by_owner-length : (things : List Amount) → length (by_owner things) ≤ length things
unfolding by_owner
by_owner-length [] = omega arith
by_owner-length (e ∷ things) = omega (arith, join_owner-length e (by_owner things), by_owner-length things)
