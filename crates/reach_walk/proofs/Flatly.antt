-- Values that lead no further than to what they name.
use Rattle.std.proofs.Common.{◌≡◌, ℕ, ◌+◌, ◌<◌, ◌⊎◌, ◌↔◌, inl, inr, List, [], ◌∷◌, ◌++◌, length, get_or, take, drop, All, Contains, Option, refl, sym, ap, subst, ◌∙◌}
use Rattle.std.proofs.lemmas.List.{take-append-drop}
use Rattle.std.proofs.lemmas.List.Elements.{All-append, All-contains, All-contains_itself, All-weaker, Contains-append_left, Contains-append_right, Contains-append_cases, filter_map-append}
use Rattle.orca_names.specs.Names.{owner_of, thing_of}
use Rattle.orca_names.specs.declared.names.ObjName.{ObjName}
use Rattle.orca_names.specs.declared.names.Thing.{Thing}
use Rattle.orca_names.specs.declared.names.Thing.TheVariants.{Actor, Obj}
use Rattle.orca_names.specs.declared.names.Value.{Value}
use Rattle.reach_walk.specs.Flat.{LeadsNowhere, Puts}
use Rattle.reach_walk.specs.Marks.{Covers, marks_of, with_owners}
use Rattle.reach_walk.specs.Reach.{named_by, row_edges, Reaches, root, step, owned}
use Rattle.reach_walk.proofs.Elements.{Contains-from_map, none_in_nil}
use Rattle.reach_walk.proofs.Found.{marks-listed}
use Rattle.reach_walk.proofs.InOrder.{sorted_nil}
use Rattle.reach_walk.proofs.Named.{named_by-push}
use Rattle.reach_walk.proofs.Owners.{owners, with_owners-keeps, with_owners-more, with_owners-owner, with_owners-reached}

-- ---- several things

pub puts_none : Puts [] [] []
puts_none = record { rising = sorted_nil; there = λ x. (inl, λ s. elim s as (λ _. Contains [] x) [ inl d ↦ d | inr d ↦ d ]) }

puts_more : (xs ys a b c : List Thing) → Puts xs a b → Puts ys b c → Puts (xs ++ ys) a c
puts_more xs ys a b c f g = record {
  rising = g.rising;
  there = λ x. (
    λ d. elim ((g.there x).0 d) as (λ _. Contains a x ⊎ Contains (xs ++ ys) x) [
      | inl e ↦ elim ((f.there x).0 e) as (λ _. Contains a x ⊎ Contains (xs ++ ys) x) [ inl h ↦ inl h | inr h ↦ inr (Contains-append_left xs ys x h) ]
      | inr e ↦ inr (Contains-append_right xs ys x e)
    ],
    λ s. elim s as (λ _. Contains c x) [
      | inl d ↦ (g.there x).1 (inl ((f.there x).1 (inl d)))
      | inr d ↦ elim (Contains-append_cases xs ys x d) as (λ _. Contains c x) [ inl e ↦ (g.there x).1 (inl ((f.there x).1 (inr e))) | inr e ↦ (g.there x).1 (inr e) ]
    ],
  );
}

puts_same : (xs ys a b : List Thing) → ((x : Thing) → Contains xs x ↔ Contains ys x) → Puts xs a b → Puts ys a b
puts_same xs ys a b same puts = record {
  rising = puts.rising;
  there = λ x. (
    λ d. elim ((puts.there x).0 d) as (λ _. Contains a x ⊎ Contains ys x) [ inl e ↦ inl e | inr e ↦ inr ((same x).0 e) ],
    λ s. (puts.there x).1 (elim s as (λ _. Contains a x ⊎ Contains xs x) [ inl e ↦ inl e | inr e ↦ inr ((same x).1 e) ]),
  );
}

pub puts_actor : (a : ℕ) (old new : List Thing) → Puts (Actor a ∷ []) old new → Puts (with_owners (Actor a ∷ [])) old new
puts_actor a old new puts =
    let one = Actor a ∷ [] in
    puts_same one (with_owners one) old new (λ x. (with_owners-keeps one x, λ c. elim (Contains-append_cases one one x c) as (λ _. Contains one x) [ inl d ↦ d | inr d ↦ d ])) puts

pub puts_object : (n : ObjName) (old with_owner new : List Thing) → Puts (Actor n.owner ∷ []) old with_owner → Puts (Obj n ∷ []) with_owner new → Puts (with_owners (Obj n ∷ [])) old new
puts_object n old with_owner new owner it =
    let one = Obj n ∷ [] in
    let its = Actor n.owner ∷ [] in
    puts_same (its ++ one) (with_owners one) old new (λ x. (
      λ c. elim (Contains-append_cases its one x c) as (λ _. Contains (with_owners one) x) [ inl d ↦ Contains-append_right one its x d | inr d ↦ Contains-append_left one its x d ],
      λ c. elim (Contains-append_cases one its x c) as (λ _. Contains (its ++ one) x) [ inl d ↦ Contains-append_right its one x d | inr d ↦ Contains-append_left its one x d ],
    )) (puts_more its one old with_owner new owner it)

-- ---- one value after another

owners_of_both : (xs ys : List Thing) (x : Thing) → Contains (with_owners xs ++ with_owners ys) x ↔ Contains (with_owners (xs ++ ys)) x
owners_of_both xs ys x = (
  λ c. elim (Contains-append_cases (with_owners xs) (with_owners ys) x c) as (λ _. Contains (with_owners (xs ++ ys)) x) [
    | inl d ↦ with_owners-more xs (xs ++ ys) (Contains-append_left xs ys) x d
    | inr d ↦ with_owners-more ys (xs ++ ys) (Contains-append_right xs ys) x d
  ],
  λ c. elim (Contains-append_cases (xs ++ ys) (owners (xs ++ ys)) x c) as (λ _. Contains (with_owners xs ++ with_owners ys) x) [
    | inl d ↦ either x d (λ zs. with_owners-keeps zs x)
    | inr d ↦
        let from = Contains-from_map (λ y. Actor (owner_of y)) (xs ++ ys) x d in
        either from.0 from.1 (λ zs e. with_owners-more zs zs (λ z f. f) x (subst (Contains (with_owners zs)) from.2 (with_owners-owner zs from.0 (with_owners-keeps zs from.0 e))))
  ],
)
  where
    either : (y : Thing) → Contains (xs ++ ys) y → ((zs : List Thing) → Contains zs y → Contains (with_owners zs) x) → Contains (with_owners xs ++ with_owners ys) x
    either y c has = elim (Contains-append_cases xs ys y c) as (λ _. Contains (with_owners xs ++ with_owners ys) x) [
      | inl e ↦ Contains-append_left (with_owners xs) (with_owners ys) x (has xs e)
      | inr e ↦ Contains-append_right (with_owners xs) (with_owners ys) x (has ys e)
    ]

module _ (values : List Value) (i : ℕ) (v : Value) (inside : i < length values) (at : v ≡ get_or values i v) where
  pub puts_next : (old new : List Thing) → Puts (with_owners (named_by (take i values))) [] old → Puts (with_owners (named_by (v ∷ []))) old new → Puts (with_owners (named_by (take (i + 1) values))) [] new
  puts_next old new so_far one =
      let before = named_by (take i values) in
      let it = named_by (v ∷ []) in
      subst (λ named. Puts (with_owners named) [] new) (sym (named_by-push values i v inside at))
      (puts_same (with_owners before ++ with_owners it) (with_owners (before ++ it)) [] new (owners_of_both before it)
      (puts_more (with_owners before) (with_owners it) [] old new so_far one))

  pub all_next : (P : Thing → Type 0) → All P (named_by (take i values)) → All P (named_by (v ∷ [])) → All P (named_by (take (i + 1) values))
  all_next P so_far one = subst (All P) (sym (named_by-push values i v inside at)) (All-append P (named_by (take i values)) (named_by (v ∷ [])) so_far one)

  -- what holds of all that is named holds of what one value names
  pub all_one : (P : Thing → Type 0) → All P (named_by values) → All P (named_by (v ∷ []))
  all_one P all =
      let before = named_by (take i values) in
      let it = named_by (v ∷ []) in
      let rest = named_by (drop (i + 1) values) in
      let split : named_by values ≡ (before ++ it) ++ rest =
      ap named_by (sym (take-append-drop (i + 1) values)) ∙ filter_map-append thing_of (take (i + 1) values) (drop (i + 1) values)
      ∙ ap (λ named. named ++ rest) (named_by-push values i v inside at) in
      All-weaker (Contains it) P (λ x c. All-contains P ((before ++ it) ++ rest) x (subst (All P) split all)
      (Contains-append_left (before ++ it) rest x (Contains-append_right before it x c))) it (All-contains_itself it)

-- ---- nothing leads on

module _ (rows : ObjName → Option (List Value)) (roots : List Thing) (flat : All (LeadsNowhere rows) roots) where
  nowhere : (t : Thing) → Contains (with_owners roots) t → LeadsNowhere rows t
  nowhere t c = elim (Contains-append_cases roots (owners roots) t c) as (λ _. LeadsNowhere rows t) [
    | inl d ↦ All-contains (LeadsNowhere rows) roots t flat d
    | inr d ↦ let from = Contains-from_map (λ y. Actor (owner_of y)) roots t d in subst (LeadsNowhere rows) from.2 refl
  ]

  only_named : (x : Thing) → Reaches (row_edges rows) roots x → Contains (with_owners roots) x
  only_named x (root c) = with_owners-keeps roots x c
  only_named x (step {t} r c) = none_in_nil x _ (subst (λ named. Contains named x) (nowhere t (only_named t r)) c)
  only_named _ (owned {n} r) = with_owners-owner roots (Obj n) (only_named (Obj n) r)

pub flat_marks : (rows : ObjName → Option (List Value)) (all : List ObjName) (values : List Value) (things : List Thing) → Covers all rows → All (LeadsNowhere rows) (named_by values)
    → Puts (with_owners (named_by values)) [] things → things ≡ marks_of rows all values
flat_marks rows all values things covers flat puts =
    let named = named_by values in
    marks-listed rows all values covers (with_owners named) things
    (λ x. (with_owners-reached (row_edges rows) named named (λ y c. root c) x, only_named rows named flat x))
    (λ x. (λ c. elim ((puts.there x).0 c) as (λ _. Contains (with_owners named) x) [ inl d ↦ none_in_nil x _ d | inr d ↦ d ], λ c. (puts.there x).1 (inr c)))
    puts.rising
