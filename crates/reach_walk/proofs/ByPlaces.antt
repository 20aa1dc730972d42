-- A walk by places begins, goes on, and ends.
use Rattle.std.proofs.Common.{◌≡◌, ◌≢◌, ℕ, ◌+◌, ◌<◌, ◌≤◌, ◌↔◌, map, inl, inr, Option, None, Some, List, [], ◌∷◌, ◌++◌, length, take, get_or, Contains, refl, sym, ap, subst, ◌∙◌, arith}
use Rattle.std.specs.Prelude.{unwrap_or}
use Rattle.std.specs.Ordering.{nat_cmp}
use Rattle.std.specs.Cmp.{nat_cmp_total}
use Rattle.std.proofs.lemmas.Bool.{eqb-true}
use Rattle.std.proofs.lemmas.Cmp.{nat_eq_equiv, tied_itself}
use Rattle.std.proofs.lemmas.List.{length-append, length-map, map-append, take_more, take_all, take-append-le}
use Rattle.std.proofs.lemmas.List.Elements.{Contains-append_left, Contains-append_right, Contains-append_cases, Contains-push_cases}
use Rattle.std.proofs.lemmas.Map.Made.{length-le_from_is_member}
use Rattle.std.proofs.lemmas.Map.Steps.{length-le_from_distinct_below}
use Rattle.std.proofs.lemmas.Map.Views.{Contains-from_any, list_any-from_Contains}
use Rattle.orca_names.specs.Names.{owner_of, thing_cmp}
use Rattle.orca_names.specs.declared.names.ObjName.{ObjName}
use Rattle.orca_names.specs.declared.names.Thing.{Thing}
use Rattle.orca_names.specs.declared.names.Thing.TheVariants.{Actor, Obj}
use Rattle.orca_names.specs.declared.names.Value.{Value}
use Rattle.orca_names.proofs.ThingOrder.{thing_exact}
use Rattle.row_store.specs.Lent.{IsLent}
use Rattle.row_store.specs.Told.{Lying, thing_block}
use Rattle.row_store.specs.declared.lent.Lent.{Lent}
use Rattle.reach_walk.specs.Met.{Grows, HasMet, HasReached, HasUnplaced, ListsRows, met_by}
use Rattle.reach_walk.specs.Reach.{named_by, row_edges, thing_row, AreReached, Reaches, root, step, owned}
use Rattle.reach_walk.specs.Marks.{Covers, marks_of}
use Rattle.reach_walk.specs.Rows.{Contains-map}
use Rattle.reach_walk.specs.Walk.{AreTold, IsOn}
use Rattle.reach_walk.specs.declared.noted.Noted.{Noted}
use Rattle.reach_walk.specs.declared.met.Met.{Met}
use Rattle.reach_walk.proofs.Elements.{Contains-cons_cases, Contains-flat_map, Contains-from_flat_map, Contains-head, none_in_nil}
use Rattle.reach_walk.proofs.Found.{marks-listed}
use Rattle.reach_walk.proofs.MarkLaws.{marks-reached, reached-marks}
use Rattle.reach_walk.proofs.Noting.{told_apart}
use Rattle.reach_walk.proofs.Owners.{owner_reached}

abbrev with_owner : Thing → List Thing
with_owner x = x ∷ Actor (owner_of x) ∷ []

pub named_is_met : (values : List Value) (x : Thing) → Contains (named_by values) x → Contains (met_by values) x
named_is_met values x c = Contains-flat_map with_owner (named_by values) x x c (Contains-head x (Actor (owner_of x) ∷ []))

-- what is met with reached values is reached
met_reached : (edges : Thing → List Value) (roots : List Thing) (values : List Value) → ((x : Thing) → Contains (named_by values) x → Reaches edges roots x) → (x : Thing) → Contains (met_by values) x → Reaches edges roots x
met_reached edges roots values each x c =
    let from = Contains-from_flat_map with_owner (named_by values) x c in
    let its = each from.0 from.1 in
    elim (Contains-cons_cases from.0 (Actor (owner_of from.0) ∷ []) x from.2) as (λ _. Reaches edges roots x) [
      | inl e ↦ subst (Reaches edges roots) e its
      | inr d ↦ elim (Contains-cons_cases (Actor (owner_of from.0)) [] x d) as (λ _. Reaches edges roots x) [
        | inl e ↦ subst (Reaches edges roots) e (owner_reached edges roots from.0 its)
        | inr f ↦ none_in_nil x _ f
      ]
    ]

module _ (place : Thing → Option ℕ) (in_order : (x y : Thing) (p q : ℕ) → place x ≡ Some p → place y ≡ Some q → thing_cmp x y ≡ nat_cmp p q) where
  -- a place has one thing
  pub one_thing : (x y : Thing) (p : ℕ) → place x ≡ Some p → place y ≡ Some p → x ≡ y
  one_thing x y p e f = thing_exact x y (in_order x y p p e f ∙ tied_itself nat_cmp_total p)

  -- the row that is lent at the place of an object
  pub lent_there : (rows : ObjName → Option (List Value)) (blocks : ObjName → Option ℕ) (count : ℕ) (t : Thing) (n : ObjName) (at : ℕ) (lent its : Lent) → ((x : Thing) (p : ℕ) → place x ≡ Some p → p < count) → (at < count → place t ≡ Some at) → (at < count → IsLent (thing_row rows t) (thing_block blocks t) lent) → place (Obj n) ≡ Some at → lent ≡ its
      → IsLent (rows n) (blocks n) its
  lent_there rows blocks count t n at lent its below there has here is =
      let within = below (Obj n) at here in
      subst (IsLent (rows n) (blocks n)) is (subst (λ x. IsLent (thing_row rows x) (thing_block blocks x) lent) (one_thing t (Obj n) at (there within) here) (has within))

-- these things were met, and the first of the queued objects are done with
pub record Goes (place : Thing → Option ℕ) (edges : Thing → List Value) (roots things : List Thing) (queue : List ℕ) (done : ℕ) : Type 0 where
  pub reached : (x : Thing) → Contains things x → Reaches edges roots x
  pub within : done ≤ length queue
  pub roots_met : (x : Thing) → Contains roots x → Contains things x
  pub next_met : (n : ObjName) (p : ℕ) → Contains (take done queue) p → place (Obj n) ≡ Some p → (x : Thing) → Contains (named_by (edges (Obj n))) x → Contains things x

module _ (place : Thing → Option ℕ) (edges : Thing → List Value) where
  pub begins : (values : List Value) (queue : List ℕ) → Goes place edges (named_by values) (met_by values) queue 0
  begins values queue = record {
    reached = met_reached edges (named_by values) values (λ x c. root c);
    within = omega arith;
    roots_met = named_is_met values;
    next_met = λ n p c. none_in_nil p _ c;
  }

  module _ (in_order : (x y : Thing) (p q : ℕ) → place x ≡ Some p → place y ≡ Some q → thing_cmp x y ≡ nat_cmp p q) where
    pub goes_on : (roots things : List Thing) (queue grown : List ℕ) (done : ℕ) (n : ObjName) (p : ℕ) → Goes place edges roots things queue done → done < length queue → get_or queue done p ≡ p → Contains things (Obj n) → place (Obj n) ≡ Some p → Grows queue grown
        → Goes place edges roots (things ++ met_by (edges (Obj n))) grown (done + 1)
    goes_on roots things queue grown done n p goes inside at there here grows =
        let row = edges (Obj n) in
        let keep : (x : Thing) → Contains things x → Contains (things ++ met_by row) x = λ x c. Contains-append_left things (met_by row) x c in
        let front : take (done + 1) grown ≡ take done queue ++ p ∷ [] =
        ap (take (done + 1)) grows.1 ∙ take-append-le (done + 1) queue grows.0 (omega arith) ∙ take_more queue done p inside ∙ ap (λ u. take done queue ++ u ∷ []) at
        in
        record {
          reached = λ x c. elim (Contains-append_cases things (met_by row) x c) as (λ _. Reaches edges roots x) [
            | inl d ↦ goes.reached x d
            | inr d ↦ met_reached edges roots row (λ y e. step (goes.reached (Obj n) there) e) x d
          ];
          within = let longer = ap length grows.1 ∙ length-append queue grows.0 in omega arith;
          roots_met = λ x c. keep x (goes.roots_met x c);
          next_met = λ m q c e x d. elim (Contains-push_cases (take done queue) p q (subst (λ qs. Contains qs q) front c)) as (λ _. Contains (things ++ met_by row) x) [
            | inl f ↦ keep x (goes.next_met m q f e x d)
            | inr f ↦
                let same : Obj n ≡ Obj m = one_thing place in_order (Obj n) (Obj m) q (here ∙ ap Some f) e in
                Contains-append_right things (met_by row) x (named_is_met row x (subst (λ y. Contains (named_by (edges y)) x) (sym same) d))
          ];
        }

-- at most so many objects are queued
pub few_queued : (place : Thing → Option ℕ) (count : ℕ) (met : Met) (things : List Thing) → ((x : Thing) (p : ℕ) → place x ≡ Some p → p < count) → HasMet place count met things → length met.queue.items ≤ count
few_queued place count met things below has =
    length-le_from_distinct_below met.queue.items count has.once (λ q any.
    let it = has.only q (Contains-from_any (λ x y e. eqb-true x y e) q met.queue.items any) in
    below (Obj it.0) q it.2)

-- no more objects are queued than things were met
pub queued_met : (place : Thing → Option ℕ) (count : ℕ) (met : Met) (things all : List Thing) → HasMet place count met things → ((x : Thing) → Contains things x → Contains all x) → length met.queue.items ≤ length all
queued_met place count met things all has among =
    let place_or : Thing → ℕ = λ x. unwrap_or (place x) 0 in
    let places = map place_or all in
    let few = length-le_from_is_member nat_eq_equiv met.queue.items places has.once (λ q any.
    let it = has.only q (Contains-from_any (λ x y e. eqb-true x y e) q met.queue.items any) in
    list_any-from_Contains nat_eq_equiv q places (subst (Contains places) (ap (λ o. unwrap_or o 0) it.2) (Contains-map place_or all (Obj it.0) (among (Obj it.0) it.1)))) in
    omega (arith, few, length-map all place_or)

module _ (place : Thing → Option ℕ) (count : ℕ) (rows : ObjName → Option (List Value)) (only_placed : (n : ObjName) → place (Obj n) ≡ None → rows n ≡ None) where
  -- an object that was met leads only to what was met
  next_of_met : (roots things : List Thing) (met : Met) → HasMet place count met things → Goes place (row_edges rows) roots things met.queue.items (length met.queue.items) → (t x : Thing) → Contains things t → Contains (named_by (row_edges rows t)) x → Contains things x
  next_of_met roots things met has goes (Actor a) x there d = none_in_nil x _ d
  next_of_met roots things met has goes (Obj n) x there d = elim (place (Obj n)) as (λ o. place (Obj n) ≡ o → Contains things x) [
    | None ↦ λ e. none_in_nil x _ (subst (λ r. Contains (named_by (unwrap_or r [])) x) (only_placed n e) d)
    | Some p ↦ λ e. goes.next_met n p (subst (λ qs. Contains qs p) (sym (take_all (length met.queue.items) met.queue.items (omega arith))) (has.queued n p there e)) e x d
  ] refl

  -- where all are done with, all that is reached was met
  all_met : (roots things : List Thing) (met : Met) → HasMet place count met things → Goes place (row_edges rows) roots things met.queue.items (length met.queue.items) → (x : Thing) → Reaches (row_edges rows) roots x → Contains things x
  all_met roots things met has goes x (root c) = goes.roots_met x c
  all_met roots things met has goes x (step {t} r c) = next_of_met roots things met has goes t x (all_met roots things met has goes t r) c
  all_met roots things met has goes _ (owned {n} r) = has.owned n (all_met roots things met has goes (Obj n) r)

  pub ends : (roots things : List Thing) (met : Met) (done : ℕ) → length met.queue.items ≤ done → HasMet place count met things → Goes place (row_edges rows) roots things met.queue.items done → (x : Thing) → (Contains things x → Reaches (row_edges rows) roots x) × (Reaches (row_edges rows) roots x → Contains things x)
  ends roots things met done end has goes x =
      let all : done ≡ length met.queue.items = omega (arith, goes.within) in
      (goes.reached x, all_met roots things met has (subst (Goes place (row_edges rows) roots things met.queue.items) all goes) x)

-- one more with its row
pub rows_more : {X Y : Type 0} (row : X → Y) (load now : List (X × Y)) (things : List X) (x : X) → load ≡ map (λ z. (z, row z)) things → now ≡ load ++ (x, row x) ∷ [] → now ≡ map (λ z. (z, row z)) (things ++ x ∷ [])
rows_more row load now things x so_far last = last ∙ ap (λ es. es ++ (x, row x) ∷ []) so_far ∙ sym (map-append (λ z. (z, row z)) things (x ∷ []))

module _ (rows : ObjName → Option (List Value)) (all : List ObjName) (args : List Value) (covers : Covers all rows) where
  module _ (place : Thing → Option ℕ) (count : ℕ) (noted : Noted) (things : List Thing) (told : AreTold place count noted things) (reached : AreReached (row_edges rows) (named_by args) things) where
    -- where no thing without a place was met, what lies at the places is the load
    pub is_load : (lies : Thing → Lying) (load : List (Thing × Lying)) → length noted.others.keys ≡ 0 → ListsRows place lies noted.bits load → load ≡ map (λ x. (x, lies x)) (marks_of rows all args)
    is_load lies load none lists =
        let same : (x : Thing) → Contains lists.0 x ↔ Contains things x = λ x. (
          λ c. (told_apart place count noted things told x).1 (inr ((lists.3 x).0 c)),
          λ c. (lists.3 x).1 (elim ((told_apart place count noted things told x).0 c) as (λ _. IsOn (place x) noted.bits) [ inl d ↦ absurd (omega (arith, d.1, none)) | inr on ↦ on ]),
        ) in
        lists.1 ∙ ap (map (λ x. (x, lies x))) (marks-listed rows all args covers things lists.0 reached same lists.2)

    -- where a thing without a place was met, one is among the marks
    pub has_unplaced : length noted.others.keys ≢ 0 → HasUnplaced place (marks_of rows all args)
    has_unplaced some = cases noted.others.keys refl
      where
        cases : (keys : List Thing) → noted.others.keys ≡ keys → HasUnplaced place (marks_of rows all args)
        cases [] e = absurd (some (ap length e))
        cases (x ∷ xs) e =
            let other = (told.others x).0 (subst (λ keys. Contains keys x) (sym e) (Contains-head x xs)) in
            (x, reached-marks rows all args covers x ((reached x).0 other.0), other.1)

    -- where no thing without a place was met, none is among the marks
    pub none_unplaced : length noted.others.keys ≡ 0 → HasUnplaced place (marks_of rows all args) → ⊥
    none_unplaced none some =
        let met = (reached some.0).1 (marks-reached rows all args some.0 some.1) in
        let key = (told.others some.0).1 (met, some.2) in
        omega (arith, key.1, none)

  -- no more objects are queued than there are marks
  pub queued_marks : (place : Thing → Option ℕ) (count : ℕ) (met : Met) → HasReached place count rows args met → length met.queue.items ≤ length (marks_of rows all args)
  queued_marks place count met found = queued_met place count met found.0 (marks_of rows all args) found.1 (λ x there. reached-marks rows all args covers x ((found.2 x).0 there))
