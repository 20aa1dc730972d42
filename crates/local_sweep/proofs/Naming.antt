-- What is named is what is marked, where nothing leads on.
use Rattle.std.proofs.Common.{◌≡◌, ◌↔◌, inl, inr, Bool, true, false, ◌||◌, List, [], ◌∷◌, map, All, Contains, Option, Some, None, refl, sym, ap, ◌∙◌}
use Rattle.std.specs.Prelude.{slice_index_or}
use Rattle.std.specs.List.{cons_option, list_any}
use Rattle.std.specs.Option.{option_map_or}
use Rattle.std.proofs.lemmas.List.Folds.{list_any-append, list_any_at}
use Rattle.std.proofs.lemmas.Map.Views.{Contains-from_any}
use Rattle.orca_names.specs.Names.{is_thing, owner_of, thing_of}
use Rattle.orca_names.specs.declared.names.ObjName.{ObjName}
use Rattle.orca_names.specs.declared.names.Thing.{Thing}
use Rattle.orca_names.specs.declared.names.Thing.TheVariants.{Actor}
use Rattle.orca_names.specs.declared.names.Value.{Value}
use Rattle.orca_names.proofs.ThingOrder.{is_eq_true, is_same}
use Rattle.reach_walk.specs.Flat.{LeadsNowhere, Puts}
use Rattle.reach_walk.specs.Marks.{Covers, in_order, marks_of, with_owners}
use Rattle.reach_walk.specs.Reach.{named_by}
use Rattle.reach_walk.proofs.Elements.{none_in_nil}
use Rattle.reach_walk.proofs.Flatly.{flat_marks}
use Rattle.reach_walk.proofs.InOrder.{in_order-has, in_order-only, in_order-sorted}
use Rattle.local_sweep.specs.Marked.{is_named}

same_answer : (a b : Bool) → (a ≡ true → b ≡ true) → (b ≡ true → a ≡ true) → a ≡ b
same_answer true b f g = sym (f refl)
same_answer false true f g = g refl
same_answer false false f g = refl

found : (x : Thing) (xs : List Thing) → Contains xs x → list_any (is_thing x) xs ≡ true
found x xs c = list_any_at (is_thing x) xs c.0 x c.1 (is_eq_true x (slice_index_or xs c.0 x) (sym c.2))

same_any : (x : Thing) (xs ys : List Thing) → Contains xs x ↔ Contains ys x → list_any (is_thing x) xs ≡ list_any (is_thing x) ys
same_any x xs ys same = same_answer (list_any (is_thing x) xs) (list_any (is_thing x) ys)
    (λ e. found x ys (same.0 (Contains-from_any {eq = is_thing} is_same x xs e)))
    (λ e. found x xs (same.1 (Contains-from_any {eq = is_thing} is_same x ys e)))

-- ---- names and owners

abbrev owners_in : List Value → List Thing
owners_in values = map (λ y. Actor (owner_of y)) (named_by values)

shuffled : (a b c d : Bool) → ((a || c) || (b || d)) ≡ ((a || b) || (c || d))
shuffled true b c d = refl
shuffled false true true d = refl
shuffled false true false d = refl
shuffled false false c d = refl

named_any : (x : Thing) (values : List Value) → is_named values x ≡ (list_any (is_thing x) (named_by values) || list_any (is_thing x) (owners_in values))
named_any x [] = refl
named_any x (v ∷ vs) = by_thing (thing_of v) (named_any x vs)
  where
    by_thing : (o : Option Thing) → is_named vs x ≡ (list_any (is_thing x) (named_by vs) || list_any (is_thing x) (owners_in vs))
        → (option_map_or (λ y. is_thing x y || is_thing x (Actor (owner_of y))) o false || is_named vs x)
        ≡ (list_any (is_thing x) (cons_option o (named_by vs)) || list_any (is_thing x) (map (λ y. Actor (owner_of y)) (cons_option o (named_by vs))))
    by_thing None rest = rest
    by_thing (Some y) rest =
        let it = is_thing x y in
        let owner = is_thing x (Actor (owner_of y)) in
        ap (λ b. (it || owner) || b) rest ∙ shuffled it (list_any (is_thing x) (named_by vs)) owner (list_any (is_thing x) (owners_in vs))

pub named_marked : (rows : ObjName → Option (List Value)) (all : List ObjName) (values : List Value) → Covers all rows → All (LeadsNowhere rows) (named_by values)
    → (x : Thing) → is_named values x ≡ list_any (is_thing x) (marks_of rows all values)
named_marked rows all values covers flat x =
    let named = with_owners (named_by values) in
    let puts : Puts named [] (in_order named) = record {
      rising = in_order-sorted named;
      there = λ y. (λ c. inr (in_order-only named y c), λ s. elim s as (λ _. Contains (in_order named) y) [ inl none ↦ none_in_nil y _ none | inr c ↦ in_order-has named y c ]);
    } in
    named_any x values ∙ sym (list_any-append (is_thing x) (named_by values) (owners_in values))
    ∙ same_any x named (in_order named) (in_order-has named x, in_order-only named x)
    ∙ ap (list_any (is_thing x)) (flat_marks rows all values (in_order named) covers flat puts)
