-- The group of an owner among what goes back.
use Rattle.std.proofs.Common.{◌≡◌, ℕ, zero, suc, ◌<◌, ◌≤◌, Bool, cond, true, false, not, ◌&&◌, ◌==◌, ◌+◌, ◌-◌, List, [], ◌∷◌, length, get_or, map, refl, sym, ap, ◌∙◌, arith}
use Rattle.std.specs.Prelude.{T, filter, is_some}
use Rattle.std.specs.Option.{option_map_or}
use Rattle.std.specs.List.{list_all, sum_by}
use Rattle.std.specs.Ordering.{nat_cmp}
use Rattle.std.specs.Cmp.{nat_cmp_total}
use Rattle.std.proofs.lemmas.Bool.Decides.{nat_tests}
use Rattle.std.specs.FinMap as m
use Rattle.std.specs.FinMap.Entries.{find, is_sorted}
use Rattle.orca_names.specs.Names.{owner_of, thing_cmp}
use Rattle.plain_list.specs.Rising.{IsAt, IsGap}
use Rattle.orca_names.specs.declared.names.Thing.{Thing}
use Rattle.plain_list.proofs.Rising.{find_at, find_gap}
use Rattle.std.proofs.lemmas.List.{length-map}
use Rattle.std.proofs.lemmas.List.Sums.{count_by-le-length, length-filter, sum_by-cons}
use Rattle.orca_names.specs.declared.names.Value.{Value}
use Rattle.letter_kinds.specs.Counting.{Amount}
use Rattle.row_store.specs.Told.{Lying}
use Rattle.foreign_table.specs.declared.search.Entry.{Entry}
use Rattle.foreign_table.specs.Entry.{FollowFrom, len_of, pair_of}
use Rattle.foreign_table.proofs.Entries.{lies_length}
use Rattle.foreign_table.proofs.Rows.{all_of}
use Rattle.orca_names.proofs.ThingOrder.{thing_exact, thing_total}
use Rattle.foreign_table.specs.Back.{given_up, goes_back, with_kept}
use Rattle.foreign_table.specs.Table.{Table, count_values, row_length}

first : (a b : Bool) → T (a && b) → T a
first true b p = tt
first false b p = p

second : (a b : Bool) → T (a && b) → T b
second true b p = p
second false b p = absurd p

pub group_sorted : (back : List (ℕ × List Amount)) (i : ℕ) (d : ℕ × List Amount) → i < length back → T (list_all (λ (group : ℕ × List Amount). is_sorted thing_cmp group.1) back) → T (is_sorted thing_cmp (get_or back i d).1)
group_sorted [] i d l h = absurd (omega arith)
group_sorted (g ∷ back) zero d l h = first _ _ h
group_sorted (g ∷ back) (suc i) d l h = group_sorted back i d (omega arith) (second _ _ h)

pub goes_there : (back : List (ℕ × List Amount)) (x : Thing) (owner i : ℕ) (d : ℕ × List Amount) (things : List Amount) → owner ≡ owner_of x → IsAt nat_cmp back owner i → things ≡ (get_or back i d).1 → is_some (find thing_cmp x things) ≡ goes_back back x
goes_there back x owner i d things own p is = ap (λ ts. is_some (find thing_cmp x ts)) is
    ∙ ap (λ o. option_map_or (λ ts. is_some (find thing_cmp x ts)) o false) (sym (find_at nat_cmp_total back owner i p d)) ∙ ap (λ o. option_map_or (λ ts. is_some (find thing_cmp x ts)) (find nat_cmp o back) false) own

pub goes_nowhere : (back : List (ℕ × List Amount)) (x : Thing) (owner i : ℕ) → owner ≡ owner_of x → IsGap nat_cmp back owner i → false ≡ goes_back back x
goes_nowhere back x owner i own p =
    ap (λ o. option_map_or (λ ts. is_some (find thing_cmp x ts)) o false) (sym (find_gap nat_cmp_total back owner i p)) ∙ ap (λ o. option_map_or (λ ts. is_some (find thing_cmp x ts)) (find nat_cmp o back) false) own

-- where nothing goes back, all stay
pub all_stay : {X : Type 0} (entries : m.FinMap thing_cmp X) → m.retain_keys entries (λ x. not (goes_back [] x)) ≡ entries
all_stay entries = m.same_map thing_total thing_exact _ _ (λ q. m.get-retain_keys entries (λ x. not (goes_back [] x)) q (λ x e. refl))

no_groups : (back : List (ℕ × List Amount)) → (length back == 0) ≡ true → back ≡ []
no_groups [] none = refl
no_groups (g ∷ back) none =
    let empty : length (g ∷ back) ≡ 0 = grind (arith, nat_tests) in
    absurd (omega (arith, empty))

pub nothing_up : (back : List (ℕ × List Amount)) (t : Table) → (length back == 0) ≡ true → t ≡ given_up back t
nothing_up back t none =
    let stay = all_stay t.entries in
    let places = all_stay t.blocks in
    let same : with_kept [] t ≡ t = λ i. record t { entries = stay i; blocks = places i } in
    let spare : t.spare ≡ t.spare + (m.len t.entries - m.len (with_kept [] t).entries) = omega (arith, ap m.len stay) in
    let values : t.spare_values ≡ t.spare_values + (count_values t - count_values (with_kept [] t)) = omega (arith, ap count_values same) in
    (λ i. record { spare = spare i; spare_values = values i; entries = sym stay i; blocks = sym places i }) ∙ ap (λ b. given_up b t) (sym (no_groups back none))

-- ---- how many values rows have

-- fewer terms have no larger sum
sum_left : {X : Type 0} (f : X → ℕ) (p : X → Bool) (xs : List X) → sum_by f (filter p xs) ≤ sum_by f xs
sum_left f p [] = omega arith
sum_left f p (x ∷ xs) =
    let rest = sum_left f p xs in
    let whole = sum_by-cons f x xs in
    elim (p x) as (λ b. sum_by f (cond b (x ∷ filter p xs) (filter p xs)) ≤ sum_by f (x ∷ xs)) [
      | true ↦ omega (arith, rest, whole, sum_by-cons f x (filter p xs))
      | false ↦ omega (arith, rest, whole)
    ]

abbrev pair_length : Thing × (ℕ × Lying) → ℕ
pair_length e = row_length e.1.1.row

pairs_length : (vs : List Value) (at end : ℕ) (es : List Entry) → FollowFrom at es end → end ≤ length vs → at + sum_by pair_length (map (pair_of vs) es) ≡ end
pairs_length vs at end [] f l = omega (arith, f)
pairs_length vs at end (e ∷ es) f l =
    let within : e.first + len_of e ≤ length vs = omega (arith, all_of (at + len_of e) end es f.2, f.0, l) in
    omega (arith, pairs_length vs (at + len_of e) end es f.2 l, sum_by-cons pair_length (pair_of vs e) (map (pair_of vs) es), lies_length vs e within)

-- where only some entries stay, there are no more of them, nor of values
pub no_more : (vs ws : List Value) (es fs : List Entry) (p : Thing × (ℕ × Lying) → Bool) → FollowFrom 0 es (length vs) → FollowFrom 0 fs (length ws)
    → map (pair_of ws) fs ≡ filter p (map (pair_of vs) es) → (length fs ≤ length es) × (length ws ≤ length vs)
no_more vs ws es fs p f g pairs =
    let ps = map (pair_of vs) es in (
      omega (arith, ap length pairs, length-map fs (pair_of ws), length-map es (pair_of vs), length-filter p ps, count_by-le-length p ps),
      omega (arith, ap (sum_by pair_length) pairs, pairs_length vs 0 (length vs) es f (omega arith), pairs_length ws 0 (length ws) fs g (omega arith), sum_left pair_length p ps),
    )
