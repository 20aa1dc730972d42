-- The things to which edges lead are those that values name.
use Rattle.std.proofs.Common.{◌≡◌, ◌↔◌, inl, inr, get_or, ℕ, suc, List, [], ◌∷◌, ◌++◌, Option, Some, None, Contains, refl, sym, ap, subst, ◌∙◌}
use Rattle.std.specs.Prelude.{All, IfSome, option_map}
use Rattle.std.specs.List.{cons_option, flat_map}
use Rattle.std.specs.Option.{option_map_or, option_to_list}
use Rattle.std.proofs.lemmas.List.{map-append}
use Rattle.std.proofs.lemmas.List.Elements.{All-cons, All-contains, All-head, All-nil, All-tail, Contains-append_cases, Contains-append_left, Contains-append_right, Contains-get_or}
use Rattle.orca_names.specs.Names.{thing_of}
use Rattle.orca_names.specs.declared.names.ObjName.{ObjName}
use Rattle.orca_names.specs.declared.names.Thing.{Thing}
use Rattle.orca_names.specs.declared.names.Thing.TheVariants.{Actor, Obj}
use Rattle.orca_names.specs.declared.names.Value.{Value}
use Rattle.orca_names.specs.declared.reason.Edge.{Edge}
use Rattle.orca_names.specs.declared.reason.Edge.TheVariants as edges
use Rattle.orca_names.specs.declared.reason.Reason.{Reason}
use Rattle.letter_kinds.specs.Letters.{Letter}
use Rattle.machine_rules.specs.Actors.{Actors, Seat, seat_at}
use Rattle.reach_walk.specs.Reach.{named_by}
use Rattle.reach_walk.specs.Rows.{Contains-map}
use Rattle.reach_walk.proofs.Elements.{Contains-flat_map, Contains-from_flat_map, Contains-from_map, Contains-head, none_in_nil, only_one}
use Rattle.why_path.specs.Edges.{Lead, LeadsTo, args_of, lead_of, leads_from, leads_of, leads_of_letters, leads_of_seat, registers_of, row_left}
use Rattle.why_path.specs.Checks.{IsNotLoose, LeadsToNoneLoose}
use Rattle.why_path.specs.Named.{NamesNoneLoose, SeatLeadsToNoneLoose, ends_of}

-- one value
pub ends_one : (e : Edge) (v : Value) → ends_of (lead_of e v) ≡ named_by (v ∷ [])
ends_one e v = by (thing_of v)
  where
    by : (o : Option Thing) → ends_of (option_to_list (option_map (λ x. (e, x)) o)) ≡ cons_option o []
    by None = refl
    by (Some x) = refl

named_cons : (v : Value) (vs : List Value) → named_by (v ∷ []) ++ named_by vs ≡ named_by (v ∷ vs)
named_cons v vs = by (thing_of v)
  where
    by : (o : Option Thing) → cons_option o [] ++ named_by vs ≡ cons_option o (named_by vs)
    by None = refl
    by (Some x) = refl

-- values
pub ends_from : (edge : ℕ → Edge) (k : ℕ) (vs : List Value) → ends_of (leads_from edge k vs) ≡ named_by vs
ends_from edge k [] = refl
ends_from edge k (v ∷ vs) =
    map-append (λ (l : Lead). l.1) (lead_of (edge k) v) (leads_from edge (suc k) vs)
    ∙ (λ i. ends_one (edge k) v i ++ ends_from edge (suc k) vs i)
    ∙ named_cons v vs

-- letters
pub ends_letters : (k : ℕ) (ls : List Letter)
    → ends_of (leads_of_letters k ls) ≡ flat_map (λ l. named_by (args_of l)) ls
ends_letters k [] = refl
ends_letters k (l ∷ ls) =
    map-append (λ (m : Lead). m.1) (leads_from (edges.Letter k) 0 (args_of l)) (leads_of_letters (suc k) ls)
    ∙ (λ i. ends_from (edges.Letter k) 0 (args_of l) i ++ ends_letters (suc k) ls i)

-- an actor
pub ends_seat : (o : Seat) → ends_of (leads_of_seat o)
    ≡ named_by o.cell.fields.values ++ (named_by (registers_of o) ++ flat_map (λ l. named_by (args_of l)) o.mail)
ends_seat o =
    map-append (λ (m : Lead). m.1) (leads_from edges.Field 0 o.cell.fields.values)
    (leads_from edges.Register 0 (registers_of o) ++ leads_of_letters 0 o.mail)
    ∙ ap (λ xs. ends_of (leads_from edges.Field 0 o.cell.fields.values) ++ xs)
    (map-append (λ (m : Lead). m.1) (leads_from edges.Register 0 (registers_of o)) (leads_of_letters 0 o.mail))
    ∙ (λ i. ends_from edges.Field 0 o.cell.fields.values i
    ++ (ends_from edges.Register 0 (registers_of o) i ++ ends_letters 0 o.mail i))

-- an end is a thing to which some edge leads
pub end_led : (ls : List Lead) (x : Thing) → Contains (ends_of ls) x → (e : Edge) × Contains ls (e, x)
end_led ls x c =
    let from = Contains-from_map (λ (l : Lead). l.1) ls x c in
    (from.0.0, subst (λ y. Contains ls (from.0.0, y)) from.2 from.1)

pub led_end : (ls : List Lead) (e : Edge) (x : Thing) → Contains ls (e, x) → Contains (ends_of ls) x
led_end ls e x c = Contains-map (λ (l : Lead). l.1) ls (e, x) c

-- ---- what values name is not loose

module _ (rs : List Reason) where
  one_named : (v : Value) (x : Thing) → NamesNoneLoose rs v → Contains (cons_option (thing_of v) []) x → IsNotLoose rs x
  one_named v x h c = by (thing_of v) h c
    where
      by : (o : Option Thing) → IfSome o (IsNotLoose rs) → Contains (cons_option o []) x → IsNotLoose rs x
      by None h c = none_in_nil x _ c
      by (Some y) h c = subst (IsNotLoose rs) (only_one y x c) h

  pub named_not_loose : (vs : List Value) → All (NamesNoneLoose rs) vs → (x : Thing) → Contains (named_by vs) x → IsNotLoose rs x
  named_not_loose [] h x c = none_in_nil x _ c
  named_not_loose (v ∷ vs) h x c =
      elim (Contains-append_cases (named_by (v ∷ [])) (named_by vs) x (subst (λ ts. Contains ts x) (sym (named_cons v vs)) c))
      as (λ _. IsNotLoose rs x) [
        | inl here ↦ one_named v x (All-head (NamesNoneLoose rs) v vs h) here
        | inr later ↦ named_not_loose vs (All-tail (NamesNoneLoose rs) v vs h) x later
      ]

  one_names : (v : Value) → ((x : Thing) → Contains (cons_option (thing_of v) []) x → IsNotLoose rs x) → NamesNoneLoose rs v
  one_names v h = by (thing_of v) h
    where
      by : (o : Option Thing) → ((x : Thing) → Contains (cons_option o []) x → IsNotLoose rs x) → IfSome o (IsNotLoose rs)
      by None h = tt
      by (Some y) h = h y (Contains-head y [])

  pub not_loose_named : (vs : List Value) → ((x : Thing) → Contains (named_by vs) x → IsNotLoose rs x) → All (NamesNoneLoose rs) vs
  not_loose_named [] h = All-nil (NamesNoneLoose rs)
  not_loose_named (v ∷ vs) h = All-cons (NamesNoneLoose rs) v vs
      (one_names v (λ x c. h x (subst (λ ts. Contains ts x) (named_cons v vs) (Contains-append_left (named_by (v ∷ [])) (named_by vs) x c))))
      (not_loose_named vs (λ x c. h x (subst (λ ts. Contains ts x) (named_cons v vs) (Contains-append_right (named_by (v ∷ [])) (named_by vs) x c))))

  abbrev LetterNamesNone : Letter → Type 0
  LetterNamesNone l = All (NamesNoneLoose rs) (args_of l)

  abbrev named_in : List Letter → List Thing
  named_in ls = flat_map (λ l. named_by (args_of l)) ls

  letters_not_loose : (ls : List Letter) → All LetterNamesNone ls → (x : Thing) → Contains (named_in ls) x → IsNotLoose rs x
  letters_not_loose ls h x c =
      let from = Contains-from_flat_map (λ l. named_by (args_of l)) ls x c in
      named_not_loose (args_of from.0) (All-contains LetterNamesNone ls from.0 h from.1) x from.2

  not_loose_letters : (ls : List Letter) → ((x : Thing) → Contains (named_in ls) x → IsNotLoose rs x) → All LetterNamesNone ls
  not_loose_letters ls h = λ k d l. not_loose_named (args_of (get_or ls k d))
      (λ x c. h x (Contains-flat_map (λ l. named_by (args_of l)) ls (get_or ls k d) x (Contains-get_or ls k d l) c))

  -- of an actor
  seat_not_loose : (o : Seat) → SeatLeadsToNoneLoose rs o → (x : Thing) → Contains (ends_of (leads_of_seat o)) x → IsNotLoose rs x
  seat_not_loose o h x c =
      let registers = named_by (registers_of o) in
      elim (Contains-append_cases (named_by o.cell.fields.values) (registers ++ named_in o.mail) x (subst (λ ts. Contains ts x) (ends_seat o) c))
      as (λ _. IsNotLoose rs x) [
        | inl n ↦ named_not_loose o.cell.fields.values h.0 x n
        | inr rest ↦ elim (Contains-append_cases registers (named_in o.mail) x rest) as (λ _. IsNotLoose rs x) [
          | inl n ↦ named_not_loose (registers_of o) h.1 x n
          | inr n ↦ letters_not_loose o.mail h.2 x n
        ]
      ]

  not_loose_seat : (o : Seat) → ((x : Thing) → Contains (ends_of (leads_of_seat o)) x → IsNotLoose rs x) → SeatLeadsToNoneLoose rs o
  not_loose_seat o h =
      let fields = named_by o.cell.fields.values in
      let registers = named_by (registers_of o) in
      let at : (x : Thing) → Contains (fields ++ (registers ++ named_in o.mail)) x → IsNotLoose rs x =
      λ x c. h x (subst (λ ts. Contains ts x) (sym (ends_seat o)) c) in (
        not_loose_named o.cell.fields.values (λ x c. at x (Contains-append_left fields (registers ++ named_in o.mail) x c)),
        not_loose_named (registers_of o) (λ x c. at x (Contains-append_right fields (registers ++ named_in o.mail) x
            (Contains-append_left registers (named_in o.mail) x c))),
        not_loose_letters o.mail (λ x c. at x (Contains-append_right fields (registers ++ named_in o.mail) x
            (Contains-append_right registers (named_in o.mail) x c))),
      )

  -- of a thing
  module _ (actors : Actors) where
    pub none_where_gone : (a : ℕ) → seat_at actors a ≡ None → LeadsToNoneLoose actors rs (Actor a)
    unfolding leads_of
    none_where_gone a gone x leads =
        none_in_nil (leads.0, x) _ (subst (λ o. Contains (option_map_or leads_of_seat o []) (leads.0, x)) gone leads.1)

    pub none_of_actor : (a : ℕ) (o : Seat) → seat_at actors a ≡ Some o
        → SeatLeadsToNoneLoose rs o ↔ LeadsToNoneLoose actors rs (Actor a)
    unfolding leads_of
    none_of_actor a o at = (
      λ h x leads. seat_not_loose o h x (led_end (leads_of_seat o) leads.0 x
          (subst (λ p. Contains (option_map_or leads_of_seat p []) (leads.0, x)) at leads.1)),
      λ h. not_loose_seat o (λ x c. let led = end_led (leads_of_seat o) x c in
          h x (led.0, subst (λ p. Contains (option_map_or leads_of_seat p []) (led.0, x)) (sym at) led.1)),
    )

    pub none_of_object : (n : ObjName) → (All (NamesNoneLoose rs) (row_left actors n) × IsNotLoose rs (Actor n.owner))
        ↔ LeadsToNoneLoose actors rs (Obj n)
    unfolding leads_of
    none_of_object n = (to, from)
      where
        to : All (NamesNoneLoose rs) (row_left actors n) × IsNotLoose rs (Actor n.owner)
            → (x : Thing) → LeadsTo actors (Obj n) x → IsNotLoose rs x
        to h x leads = elim (Contains-append_cases (leads_from edges.Place 0 (row_left actors n)) ((edges.Owner, Actor n.owner) ∷ []) (leads.0, x) leads.1)
            as (λ _. IsNotLoose rs x) [
              | inl c ↦ named_not_loose (row_left actors n) h.0 x
                  (subst (λ ts. Contains ts x) (ends_from edges.Place 0 (row_left actors n))
                  (led_end (leads_from edges.Place 0 (row_left actors n)) leads.0 x c))
              | inr c ↦ subst (IsNotLoose rs) (ap (λ (l : Lead). l.1) (only_one (edges.Owner, Actor n.owner) (leads.0, x) c)) h.1
            ]

        from : ((x : Thing) → LeadsTo actors (Obj n) x → IsNotLoose rs x)
            → All (NamesNoneLoose rs) (row_left actors n) × IsNotLoose rs (Actor n.owner)
        from h = (
          not_loose_named (row_left actors n) (λ x c.
              let led = end_led (leads_from edges.Place 0 (row_left actors n)) x
              (subst (λ ts. Contains ts x) (sym (ends_from edges.Place 0 (row_left actors n))) c) in
              h x (led.0, Contains-append_left (leads_from edges.Place 0 (row_left actors n)) ((edges.Owner, Actor n.owner) ∷ []) (led.0, x) led.1)),
          h (Actor n.owner) (
            edges.Owner,
            Contains-append_right (leads_from edges.Place 0 (row_left actors n)) ((edges.Owner, Actor n.owner) ∷ [])
                (edges.Owner, Actor n.owner) (Contains-head (edges.Owner, Actor n.owner) []),
          ),
        )
