-- Entries and the values of their rows are known by their map.
use Rattle.std.proofs.Common.{◌≡◌, ℕ, ◌+◌, ◌≤◌, List, [], ◌∷◌, ◌++◌, length, map, take, drop, Option, Some, None, refl, sym, ap, subst, ◌∙◌, arith}
use Rattle.std.specs.FinMap as m
use Rattle.std.proofs.lemmas.List.{drop-drop, drop_all, take-append-drop}
use Rattle.letter_kinds.specs.Holdings.{Row}
use Rattle.orca_names.specs.declared.names.Thing.{Thing}
use Rattle.orca_names.specs.declared.names.Value.{Value}
use Rattle.foreign_table.specs.declared.search.Entry.{Entry}
use Rattle.row_store.specs.Told.{Lying}
use Rattle.foreign_table.specs.declared.search.Place.{Place}
use Rattle.foreign_table.specs.declared.search.Place.TheVariants.{Here, In}
use Rattle.foreign_table.specs.Entry.{FollowFrom, as_row, block_in, len_in, len_of, pair_of}
use Rattle.foreign_table.specs.Table.{DoRise, kept_in, row_length}
use Rattle.foreign_table.proofs.Entries.{all_entries, lies_length}
use Rattle.foreign_table.proofs.Rows.{all_of}

-- a place is known by its block and its length
same_place : (p q : Place) → block_in p ≡ block_in q → len_in p ≡ len_in q → p ≡ q
same_place (Here n) (Here k) block len = ap Here len
same_place (Here n) (In b) block len = cc
same_place (In b) (Here n) block len = cc
same_place (In b) (In d) block len = let same : b ≡ d = cc in ap In same

alike : (vs ws : List Value) (at end stop : ℕ) (es fs : List Entry) → FollowFrom at es end → FollowFrom at fs stop → end ≤ length vs → stop ≤ length ws → map (pair_of vs) es ≡ map (pair_of ws) fs → es ≡ fs
alike vs ws at end stop [] [] f g l k e = refl
alike vs ws at end stop [] (y ∷ fs) f g l k e = cc
alike vs ws at end stop (x ∷ es) [] f g l k e = cc
alike vs ws at end stop (x ∷ es) (y ∷ fs) f g l k e =
    let head : pair_of vs x ≡ pair_of ws y = cc in
    let thing : x.thing ≡ y.thing = ap (λ p. p.0) head in
    let count : x.count ≡ y.count = ap (λ p. p.1.0) head in
    let first : x.first ≡ y.first = f.0 ∙ sym g.0 in
    let x_within : x.first + len_of x ≤ length vs = omega (arith, all_of (at + len_of x) end es f.2, f.0, l) in
    let y_within : y.first + len_of y ≤ length ws = omega (arith, all_of (at + len_of y) stop fs g.2, g.0, k) in
    let len : len_of x ≡ len_of y = sym (lies_length vs x x_within) ∙ ap (λ p. row_length p.1.1.row) head ∙ lies_length ws y y_within in
    let others : map (pair_of vs) es ≡ map (pair_of ws) fs = cc in
    let rest = alike vs ws (at + len_of x) end stop es fs f.2 (subst (λ n. FollowFrom (at + n) fs stop) (sym len) g.2) l k others in
    let place = same_place x.place y.place (ap (λ p. p.1.1.block) head) len in
    λ i. record { thing = thing i; count = count i; first = first i; place = place i } ∷ rest i

row_values : Option Row → List Value
row_values None = []
row_values (Some row) = row

-- all values, as rows have them
all_values : List (Thing × (ℕ × Lying)) → List Value
all_values [] = []
all_values (p ∷ ps) = row_values p.1.1.row ++ all_values ps

values_of : (xs : List Value) → row_values (as_row xs) ≡ xs
unfolding row_values
values_of [] = refl
values_of (x ∷ xs) = refl

values_there : (vs : List Value) (at : ℕ) (es : List Entry) → FollowFrom at es (length vs) → all_values (map (pair_of vs) es) ≡ drop at vs
unfolding all_values
values_there vs at [] f = sym (drop_all at vs (omega (arith, f)))
values_there vs at (e ∷ es) f =
    (λ i. (values_of (take (len_of e) (drop e.first vs)) ∙ ap (λ n. take (len_of e) (drop n vs)) f.0) i ++ (values_there vs (at + len_of e) es f.2 ∙ sym (drop-drop (len_of e) at vs)) i) ∙ take-append-drop (len_of e) (drop at vs)

pub known_by_kept : (vs ws : List Value) (es fs : List Entry) → DoRise es → DoRise fs → FollowFrom 0 es (length vs) → FollowFrom 0 fs (length ws) → kept_in vs es ≡ kept_in ws fs → (es ≡ fs) × (vs ≡ ws)
known_by_kept vs ws es fs h k f g e =
    let pairs = sym (all_entries vs es h) ∙ ap m.entries e ∙ all_entries ws fs k in (
      alike vs ws 0 (length vs) (length ws) es fs f g (omega arith) (omega arith) pairs,
      sym (values_there vs 0 es f) ∙ ap all_values pairs ∙ values_there ws 0 fs g,
    )
