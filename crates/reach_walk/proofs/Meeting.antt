-- What meeting an owner, or an object with its owner, does.
use Rattle.std.proofs.Common.{◌≡◌, ◌≢◌, ◌↔◌, ◌⊎◌, ℕ, ◌+◌, ◌<◌, eqb, true, false, inl, inr, Option, None, Some, Result, Ok, Err, List, [], ◌∷◌, ◌++◌, length, take, get_or, Contains, ne_eqb, sym, ap, subst, ◌∙◌}
use Rattle.std.specs.List.{IsDistinct, flat_map}
use Rattle.std.specs.Result.{OnOk}
use Rattle.std.specs.Ordering.{nat_cmp}
use Rattle.std.specs.Option.{option_eq, option_to_list}
use Rattle.std.proofs.lemmas.Bool.{eqb-true, true≢false}
use Rattle.std.specs.Cmp.{nat_cmp_total}
use Rattle.std.proofs.lemmas.Cmp.{tied_itself}
use Rattle.std.proofs.lemmas.Grind.{flat_map-append}
use Rattle.std.proofs.lemmas.List.{append-nil, append_assoc}
use Rattle.std.proofs.lemmas.List.Elements.{All-from_recursion, recursion_from_All, All-nil, All-push, Contains-push, Contains-push_cases, Contains-append_left, Contains-append_right, Contains-append_cases}
use Rattle.std.proofs.lemmas.Map.Keys.{IsDistinct-cons, IsDistinct-head, IsDistinct-tail}
use Rattle.orca_names.specs.Names.{owner_of, thing_cmp}
use Rattle.orca_names.specs.declared.names.ObjName.{ObjName}
use Rattle.orca_names.specs.declared.names.Thing.{Thing}
use Rattle.orca_names.specs.declared.names.Thing.TheVariants.{Actor, Obj}
use Rattle.orca_names.proofs.ThingOrder.{thing_exact}
use Rattle.orca_names.specs.declared.names.Value.{Value}
use Rattle.reach_walk.specs.Reach.{named_by}
use Rattle.reach_walk.specs.Met.{Grows, HasMet, Tells, met_by}
use Rattle.reach_walk.specs.Walk.{AreTold, Notes}
use Rattle.reach_walk.specs.declared.met.Met.{Met}
use Rattle.reach_walk.proofs.Elements.{Contains-head, Contains-later, Contains-cons_cases, none_in_nil}
use Rattle.reach_walk.proofs.Named.{named_by-push}
use Rattle.reach_walk.proofs.Noting.{tells_more, tells_same}

none_twice : IsDistinct eqb []
unfolding IsDistinct
none_twice = tt

-- a number that was not there comes last
push_once : (xs : List ℕ) (x : ℕ) → IsDistinct eqb xs → (Contains xs x → ⊥) → IsDistinct eqb (xs ++ x ∷ [])
push_once [] x once fresh = IsDistinct-cons eqb x [] (recursion_from_All _ [] (All-nil (λ y. eqb x y ≡ false))) none_twice
push_once (y ∷ ys) x once fresh =
    let other : y ≢ x = λ e. fresh (subst (Contains (y ∷ ys)) e (Contains-head y ys)) in
    let apart = All-push (λ z. eqb y z ≡ false) ys x (All-from_recursion _ ys (IsDistinct-head eqb y ys once)) (ne_eqb y x other) in
    IsDistinct-cons eqb y (ys ++ x ∷ []) (recursion_from_All _ (ys ++ x ∷ []) apart)
    (push_once ys x (IsDistinct-tail eqb y ys once) (λ c. fresh (Contains-later y ys x c)))

pub Grows-none : (xs : List ℕ) → Grows xs xs
Grows-none xs = ([], sym (append-nil xs))

pub Grows-append : (xs ys zs : List ℕ) → Grows xs ys → Grows ys zs → Grows xs zs
Grows-append xs ys zs f g = (f.0 ++ g.0, g.1 ∙ ap (λ us. us ++ g.0) f.1 ∙ append_assoc xs f.0 g.0)

-- the places that an object is queued by
pub Grows-by : (xs ys : List ℕ) (at : Option ℕ) → ys ≡ xs ++ option_to_list at → Grows xs ys
Grows-by xs ys at e = (option_to_list at, e)

pub whatever : {T E P : Type 0} (r : Result T E) → P → OnOk r P
whatever (Ok v) p = p
whatever (Err e) p = tt

-- the owner is the last one
pub is_last : (last : Option ℕ) (a : ℕ) → true ≡ option_eq eqb last (Some a) → last ≡ Some a
is_last None a e = absurd (true≢false e)
is_last (Some b) a e = ap Some (eqb-true b a (sym e))

-- what is met with one value more
pub met_more : (things : List Thing) (values : List Value) (i : ℕ) (v : Value) → i < length values → v ≡ get_or values i v → (things ++ met_by (take i values)) ++ met_by (v ∷ []) ≡ things ++ met_by (take (i + 1) values)
met_more things values i v inside at =
    let with_owner : Thing → List Thing = λ x. x ∷ Actor (owner_of x) ∷ [] in
    append_assoc things (met_by (take i values)) (met_by (v ∷ []))
    ∙ ap (λ ts. things ++ ts) (sym (ap (flat_map with_owner) (named_by-push values i v inside at) ∙ flat_map-append with_owner (named_by (take i values)) (named_by (v ∷ []))))

module _ (place : Thing → Option ℕ) (count : ℕ) where
  pub met_none : (m : Met) → AreTold place count m.noted [] → m.owner ≡ None → m.queue.items ≡ [] → HasMet place count m []
  met_none m told owner none = record {
    tells = record { told = told; owner = λ a e. cc };
    owned = λ n c. none_in_nil (Obj n) _ c;
    queued = λ n p c e. none_in_nil (Obj n) _ c;
    only = λ p c. none_in_nil p _ (subst (λ q. Contains q p) none c);
    once = subst (IsDistinct eqb) (sym none) none_twice;
  }

  -- the owner that was met last
  pub tells_last : (m : Met) (things : List Thing) (a : ℕ) → m.owner ≡ Some a → Tells place count m things → Tells place count m (things ++ Actor a ∷ [])
  tells_last m things a last tells = record {
    told = tells_more place count m.noted things (Actor a) false (tells.told, tells.owner a last);
    owner = λ b e. Contains-append_left things (Actor a ∷ []) (Actor b) (tells.owner b e);
  }

  -- another owner, which is the last one then
  pub tells_owner : (m : Met) (things : List Thing) (a : ℕ) → m.owner ≡ Some a → AreTold place count m.noted (things ++ Actor a ∷ []) → Tells place count m (things ++ Actor a ∷ [])
  tells_owner m things a last told = record {
    told = told;
    owner = λ b e. subst (λ c. Contains (things ++ Actor a ∷ []) (Actor c)) (let same : Some a ≡ Some b = sym last ∙ e in cc) (Contains-push things (Actor a));
  }

  -- what was there beside an object and its owner that were there
  told_before : (things : List Thing) (n : ObjName) (x : Thing) → Contains things (Obj n) → Contains things (Actor n.owner) → Contains (things ++ Obj n ∷ Actor n.owner ∷ []) x → Contains things x
  told_before things n x obj owner c = elim (Contains-append_cases things (Obj n ∷ Actor n.owner ∷ []) x c) as (λ _. Contains things x) [
    | inl d ↦ d
    | inr d ↦ elim (Contains-cons_cases (Obj n) (Actor n.owner ∷ []) x d) as (λ _. Contains things x) [
      | inl e ↦ subst (Contains things) e obj
      | inr f ↦ elim (Contains-cons_cases (Actor n.owner) [] x f) as (λ _. Contains things x) [ inl e ↦ subst (Contains things) e owner | inr g ↦ none_in_nil x _ g ]
    ]
  ]

  -- an owner beside what was met
  pub met_owner : (old new : Met) (things : List Thing) (a : ℕ) → HasMet place count old things → new.queue.items ≡ old.queue.items → Tells place count new (things ++ Actor a ∷ []) → HasMet place count new (things ++ Actor a ∷ [])
  met_owner old new things a met queue tells = record {
    tells = tells;
    owned = λ n c. Contains-append_left things (Actor a ∷ []) (Actor n.owner) (met.owned n (no_actor n c));
    queued = λ n p c e. subst (λ q. Contains q p) (sym queue) (met.queued n p (no_actor n c) e);
    only = λ p c. let it = met.only p (subst (λ q. Contains q p) queue c) in (it.0, Contains-append_left things (Actor a ∷ []) (Obj it.0) it.1, it.2);
    once = subst (IsDistinct eqb) (sym queue) met.once;
  }
    where
      no_actor : (n : ObjName) → Contains (things ++ Actor a ∷ []) (Obj n) → Contains things (Obj n)
      no_actor n c = elim (Contains-push_cases things (Actor a) (Obj n) c) as (λ _. Contains things (Obj n)) [ inl d ↦ d | inr e ↦ cc ]

  -- the same things in another list
  pub met_same : (m : Met) (xs ys : List Thing) → ((x : Thing) → Contains xs x ↔ Contains ys x) → HasMet place count m xs → HasMet place count m ys
  met_same m xs ys same met = record {
    tells = record { told = tells_same place count m.noted xs ys same met.tells.told; owner = λ a e. (same (Actor a)).0 (met.tells.owner a e) };
    owned = λ n c. (same (Actor n.owner)).0 (met.owned n ((same (Obj n)).1 c));
    queued = λ n p c e. met.queued n p ((same (Obj n)).1 c) e;
    only = λ p c. let it = met.only p c in (it.0, (same (Obj it.0)).0 it.1, it.2);
    once = met.once;
  }

  -- an object that was met before
  pub met_again : (old new : Met) (things : List Thing) (n : ObjName) → HasMet place count old things → new.queue.items ≡ old.queue.items → new.owner ≡ old.owner → AreTold place count new.noted things → Contains things (Obj n) → HasMet place count new (things ++ Obj n ∷ Actor n.owner ∷ [])
  met_again old new things n met queue owner told there =
      let more = Obj n ∷ Actor n.owner ∷ [] in
      met_same new things (things ++ more) (λ x. (λ c. Contains-append_left things more x c, λ c. told_before things n x there (met.owned n there) c)) (record {
        tells = record { told = told; owner = λ a e. met.tells.owner a (sym owner ∙ e) };
        owned = met.owned;
        queued = λ m p c e. subst (λ q. Contains q p) (sym queue) (met.queued m p c e);
        only = λ p c. met.only p (subst (λ q. Contains q p) queue c);
        once = subst (IsDistinct eqb) (sym queue) met.once;
      })

  -- an object that was not met before, and then its owner
  pub met_new : (in_order : (x y : Thing) (p q : ℕ) → place x ≡ Some p → place y ≡ Some q → thing_cmp x y ≡ nat_cmp p q)
      (old new : Met) (things : List Thing) (n : ObjName) (at : Option ℕ) → HasMet place count old things → at ≡ place (Obj n) → new.queue.items ≡ old.queue.items ++ option_to_list at → (Contains things (Obj n) → ⊥) → Tells place count new ((things ++ Obj n ∷ []) ++ Actor n.owner ∷ [])
      → HasMet place count new (things ++ Obj n ∷ Actor n.owner ∷ [])
  met_new in_order old new things n at met here queue fresh tells = record {
    tells = subst (Tells place count new) (append_assoc things (Obj n ∷ []) (Actor n.owner ∷ [])) tells;
    owned = λ m c. elim (cases_of m c) as (λ _. Contains all (Actor m.owner)) [
      | inl d ↦ keep (Actor m.owner) (met.owned m d)
      | inr e ↦ Contains-append_right things more (Actor m.owner) (subst (λ k. Contains more (Actor k.owner)) e (Contains-later (Obj n) (Actor n.owner ∷ []) (Actor n.owner) (Contains-head (Actor n.owner) [])))
    ];
    queued = λ m p c e. subst (λ q. Contains q p) (sym queue) (elim (cases_of m c) as (λ _. Contains (old.queue.items ++ option_to_list at) p) [
      | inl d ↦ Contains-append_left old.queue.items (option_to_list at) p (met.queued m p d e)
      | inr same ↦ Contains-append_right old.queue.items (option_to_list at) p (subst (λ o. Contains (option_to_list o) p) (sym (here ∙ ap (λ k. place (Obj k)) same ∙ e)) (Contains-head p []))
    ]);
    only = λ p c. elim (Contains-append_cases old.queue.items (option_to_list at) p (subst (λ q. Contains q p) queue c)) as (λ _. (m : ObjName) × Contains all (Obj m) × (place (Obj m) ≡ Some p)) [
      | inl d ↦ let it = met.only p d in (it.0, keep (Obj it.0) it.1, it.2)
      | inr d ↦ (n, Contains-append_right things more (Obj n) (Contains-head (Obj n) (Actor n.owner ∷ [])), sym here ∙ only_place at p d)
    ];
    once = subst (IsDistinct eqb) (sym queue) (still_once at (sym here));
  }
    where
      more : List Thing
      more = Obj n ∷ Actor n.owner ∷ []

      all : List Thing
      all = things ++ more

      keep : (x : Thing) → Contains things x → Contains all x
      keep x c = Contains-append_left things more x c

      cases_of : (m : ObjName) → Contains all (Obj m) → Contains things (Obj m) ⊎ (n ≡ m)
      cases_of m c = elim (Contains-append_cases things more (Obj m) c) as (λ _. Contains things (Obj m) ⊎ (n ≡ m)) [
        | inl d ↦ inl d
        | inr d ↦ elim (Contains-cons_cases (Obj n) (Actor n.owner ∷ []) (Obj m) d) as (λ _. Contains things (Obj m) ⊎ (n ≡ m)) [
          | inl e ↦ inr (cc)
          | inr f ↦ elim (Contains-cons_cases (Actor n.owner) [] (Obj m) f) as (λ _. Contains things (Obj m) ⊎ (n ≡ m)) [ inl e ↦ cc | inr g ↦ none_in_nil (Obj m) _ g ]
        ]
      ]

      only_place : (o : Option ℕ) (p : ℕ) → Contains (option_to_list o) p → o ≡ Some p
      only_place None p c = none_in_nil p _ c
      only_place (Some q) p c = elim (Contains-cons_cases q [] p c) as (λ _. Some q ≡ Some p) [ inl e ↦ ap Some e | inr d ↦ none_in_nil p _ d ]

      still_once : (o : Option ℕ) → place (Obj n) ≡ o → IsDistinct eqb (old.queue.items ++ option_to_list o)
      still_once None e = subst (IsDistinct eqb) (sym (append-nil old.queue.items)) met.once
      still_once (Some p) e = push_once old.queue.items p met.once (λ c.
          let it = met.only p c in
          fresh (subst (Contains things) (thing_exact (Obj it.0) (Obj n) (in_order (Obj it.0) (Obj n) p p it.2 e ∙ tied_itself nat_cmp_total p)) it.1))

  -- before its owner, an object that was noted
  pub tells_before : (old new : Met) (things : List Thing) (x : Thing) → Tells place count old things → new.owner ≡ old.owner → AreTold place count new.noted (things ++ x ∷ []) → Tells place count new (things ++ x ∷ [])
  tells_before old new things x tells owner told = record {
    told = told;
    owner = λ a e. Contains-append_left things (x ∷ []) (Actor a) (tells.owner a (sym owner ∙ e));
  }

  -- an object that was not met before, whose owner was
  pub met_owned : (in_order : (x y : Thing) (p q : ℕ) → place x ≡ Some p → place y ≡ Some q → thing_cmp x y ≡ nat_cmp p q)
      (old new : Met) (things : List Thing) (n : ObjName) (at : ℕ) → HasMet place count old things → place (Obj n) ≡ Some at → new.queue.items ≡ old.queue.items ++ at ∷ [] → new.owner ≡ old.owner → Notes place count new.noted things (Obj n) true → Contains things (Actor n.owner)
      → HasMet place count new (things ++ Obj n ∷ Actor n.owner ∷ [])
  met_owned in_order old new things n at met here queue owner notes owned =
      let noted = tells_before old new things (Obj n) met.tells owner notes.0 in
      let more = things ++ Obj n ∷ [] in
      met_new in_order old new things n (Some at) met (sym here) queue notes.1 (record {
        told = tells_more place count new.noted more (Actor n.owner) false (noted.told, Contains-append_left things (Obj n ∷ []) (Actor n.owner) owned);
        owner = λ a e. Contains-append_left more (Actor n.owner ∷ []) (Actor a) (noted.owner a e);
      })

  -- an owner that is told twice
  pub met_twice : (m : Met) (things : List Thing) (a : ℕ) → HasMet place count m (things ++ Actor a ∷ []) → HasMet place count m (things ++ Actor a ∷ Actor a ∷ [])
  met_twice m things a met =
      let one = things ++ Actor a ∷ [] in
      met_same m one (things ++ Actor a ∷ Actor a ∷ []) (λ x. (
        λ c. elim (Contains-append_cases things (Actor a ∷ []) x c) as (λ _. Contains (things ++ Actor a ∷ Actor a ∷ []) x) [
          | inl d ↦ Contains-append_left things (Actor a ∷ Actor a ∷ []) x d
          | inr d ↦ Contains-append_right things (Actor a ∷ Actor a ∷ []) x (Contains-later (Actor a) (Actor a ∷ []) x d)
        ],
        λ c. elim (Contains-append_cases things (Actor a ∷ Actor a ∷ []) x c) as (λ _. Contains one x) [
          | inl d ↦ Contains-append_left things (Actor a ∷ []) x d
          | inr d ↦ elim (Contains-cons_cases (Actor a) (Actor a ∷ []) x d) as (λ _. Contains one x) [
            | inl e ↦ subst (Contains one) e (Contains-push things (Actor a))
            | inr f ↦ Contains-append_right things (Actor a ∷ []) x f
          ]
        ],
      )) met
