-- An edge of a thing's list is one that leads somewhere.
use Rattle.std.proofs.Common.{◌≡◌, inl, inr, ℕ, zero, suc, ◌+◌, List, [], ◌∷◌, ◌++◌, Option, Some, None, Contains, refl, sym, ap, subst, ◌∙◌, arith}
use Rattle.std.specs.Prelude.{option_map, option_and_then, slice_get}
use Rattle.std.specs.Option.{option_map_or, option_to_list}
use Rattle.std.proofs.lemmas.List.Elements.{Contains-append_cases, Contains-append_left, Contains-append_right}
use Rattle.orca_names.specs.Names.{thing_of}
use Rattle.orca_names.specs.declared.names.ObjName.{ObjName}
use Rattle.orca_names.specs.declared.names.Thing.{Thing}
use Rattle.orca_names.specs.declared.names.Thing.TheVariants.{Actor, Obj}
use Rattle.orca_names.specs.declared.names.Value.{Value}
use Rattle.orca_names.specs.declared.reason.Edge.{Edge}
use Rattle.orca_names.specs.declared.reason.Edge.TheVariants.{Field, Register, Letter, Place, Owner}
use Rattle.letter_kinds.specs.Letters as letters
use Rattle.machine_rules.specs.Actors.{Actors, Seat, seat_at}
use Rattle.reach_walk.proofs.Elements.{Contains-head, Contains-cons_cases, none_in_nil}
use Rattle.why_path.specs.Edges.{Lead, LeadsBy, args_of, lead_of, leads_from, leads_of, leads_of_letters, leads_of_seat, registers_of, row_left}
use Rattle.why_path.specs.Ends.{end_at_row, end_at_seat, end_of, named_at}

-- ---- values

module _ (edge : ℕ → Edge) where
  pub from_named : (k i : ℕ) (vs : List Value) (x : Thing) → named_at vs i ≡ Some x
      → Contains (leads_from edge k vs) (edge (k + i), x)
  from_named k i [] x e = cc
  from_named k zero (v ∷ vs) x e =
      let j : k ≡ k + 0 = omega arith in
      let first : lead_of (edge k) v ≡ (edge (k + 0), x) ∷ [] =
      ap (λ o. option_to_list (option_map (λ y. (edge k, y)) o)) e ∙ ap (λ j. (edge j, x) ∷ []) j in
      subst (λ ls. Contains (ls ++ leads_from edge (suc k) vs) (edge (k + 0), x)) (sym first)
      (Contains-head (edge (k + 0), x) (leads_from edge (suc k) vs))
  from_named k (suc i) (v ∷ vs) x e =
      let j : suc k + i ≡ k + suc i = omega arith in
      Contains-append_right (lead_of (edge k) v) (leads_from edge (suc k) vs) (edge (k + suc i), x)
      (subst (λ j. Contains (leads_from edge (suc k) vs) (edge j, x)) j (from_named (suc k) i vs x e))

  -- what stands in the list has a place
  pub to_named : (k : ℕ) (vs : List Value) (l : Lead) → Contains (leads_from edge k vs) l
      → (i : ℕ) × (l.0 ≡ edge (k + i)) × (named_at vs i ≡ Some l.1)
  to_named k [] l c = none_in_nil l _ c
  to_named k (v ∷ vs) l c = elim (Contains-append_cases (lead_of (edge k) v) (leads_from edge (suc k) vs) l c)
      as (λ _. (i : ℕ) × (l.0 ≡ edge (k + i)) × (named_at (v ∷ vs) i ≡ Some l.1)) [
        | inl here ↦ by (thing_of v) refl here
        | inr later ↦
            let deeper = to_named (suc k) vs l later in
            let j : suc k + deeper.0 ≡ k + suc deeper.0 = omega arith in
            (suc deeper.0, deeper.1 ∙ ap edge j, deeper.2)
      ]
    where
      by : (o : Option Thing) → thing_of v ≡ o
          → Contains (option_to_list (option_map (λ x. (edge k, x)) o)) l
          → (i : ℕ) × (l.0 ≡ edge (k + i)) × (named_at (v ∷ vs) i ≡ Some l.1)
      by None e c = none_in_nil l _ c
      by (Some x) e c = elim (Contains-cons_cases (edge k, x) [] l c)
          as (λ _. (i : ℕ) × (l.0 ≡ edge (k + i)) × (named_at (v ∷ vs) i ≡ Some l.1)) [
            | inl same ↦
                let j : k ≡ k + 0 = omega arith in
                (0, sym (ap (λ (m : Lead). m.0) same) ∙ ap edge j, e ∙ ap (λ (m : Lead). Some m.1) same)
            | inr none ↦ none_in_nil l _ none
          ]

-- ---- letters

pub from_letters : (k j i : ℕ) (ls : List letters.Letter) (x : Thing)
    → option_and_then (λ l. named_at (args_of l) i) (slice_get ls j) ≡ Some x
    → Contains (leads_of_letters k ls) (Letter (k + j) i, x)
from_letters k j i [] x e = cc
from_letters k zero i (l ∷ ls) x e =
    let n : k ≡ k + 0 = omega arith in
    subst (λ n. Contains (leads_of_letters k (l ∷ ls)) (Letter n i, x)) n
    (Contains-append_left (leads_from (Letter k) 0 (args_of l)) (leads_of_letters (suc k) ls) (Letter k i, x)
    (subst (λ m. Contains (leads_from (Letter k) 0 (args_of l)) (Letter k m, x)) (zero-plus i)
    (from_named (Letter k) 0 i (args_of l) x e)))
  where
    zero-plus : (i : ℕ) → 0 + i ≡ i
    zero-plus i = omega arith
from_letters k (suc j) i (l ∷ ls) x e =
    let n : suc k + j ≡ k + suc j = omega arith in
    Contains-append_right (leads_from (Letter k) 0 (args_of l)) (leads_of_letters (suc k) ls) (Letter (k + suc j) i, x)
    (subst (λ n. Contains (leads_of_letters (suc k) ls) (Letter n i, x)) n (from_letters (suc k) j i ls x e))

pub to_letters : (k : ℕ) (ls : List letters.Letter) (l : Lead) → Contains (leads_of_letters k ls) l
    → (j : ℕ) × (i : ℕ) × (l.0 ≡ Letter (k + j) i)
    × (option_and_then (λ m. named_at (args_of m) i) (slice_get ls j) ≡ Some l.1)
to_letters k [] l c = none_in_nil l _ c
to_letters k (m ∷ ls) l c = elim (Contains-append_cases (leads_from (Letter k) 0 (args_of m)) (leads_of_letters (suc k) ls) l c)
    as (λ _. (j : ℕ) × (i : ℕ) × (l.0 ≡ Letter (k + j) i)
    × (option_and_then (λ m. named_at (args_of m) i) (slice_get (m ∷ ls) j) ≡ Some l.1)) [
      | inl here ↦
          let at = to_named (Letter k) 0 (args_of m) l here in
          let n : k ≡ k + 0 = omega arith in
          let i : 0 + at.0 ≡ at.0 = omega arith in
          (0, at.0, at.1 ∙ (λ t. Letter (n t) (i t)), at.2)
      | inr later ↦
          let deeper = to_letters (suc k) ls l later in
          let n : suc k + deeper.0 ≡ k + suc deeper.0 = omega arith in
          (suc deeper.0, deeper.1, deeper.2 ∙ ap (λ n. Letter n deeper.1) n, deeper.3)
    ]

-- ---- all edges

module _ (actors : Actors) where
  -- an edge that leads somewhere stands in the list
  pub end_leads : (t : Thing) (e : Edge) (x : Thing) → end_of actors t e ≡ Some x → LeadsBy actors t e x
  unfolding end_of leads_of
  end_leads (Actor a) e x h = by (seat_at actors a) h
    where
      at_place : (edge : ℕ → Edge) (vs : List Value) (i : ℕ) → named_at vs i ≡ Some x
          → Contains (leads_from edge 0 vs) (edge i, x)
      at_place edge vs i h =
          let j : 0 + i ≡ i = omega arith in
          subst (λ j. Contains (leads_from edge 0 vs) (edge j, x)) j (from_named edge 0 i vs x h)

      of_seat : (o : Seat) (e : Edge) → end_at_seat e o ≡ Some x → Contains (leads_of_seat o) (e, x)
      of_seat o (Field i) h =
          Contains-append_left (leads_from Field 0 o.cell.fields.values) _ (Field i, x)
          (at_place Field o.cell.fields.values i h)
      of_seat o (Register i) h =
          Contains-append_right (leads_from Field 0 o.cell.fields.values) _ (Register i, x)
          (Contains-append_left (leads_from Register 0 (registers_of o)) (leads_of_letters 0 o.mail) (Register i, x)
          (at_place Register (registers_of o) i h))
      of_seat o (Letter k i) h =
          let n : 0 + k ≡ k = omega arith in
          Contains-append_right (leads_from Field 0 o.cell.fields.values) _ (Letter k i, x)
          (Contains-append_right (leads_from Register 0 (registers_of o)) (leads_of_letters 0 o.mail) (Letter k i, x)
          (subst (λ n. Contains (leads_of_letters 0 o.mail) (Letter n i, x)) n (from_letters 0 k i o.mail x h)))
      of_seat o (Place i) h = cc
      of_seat o Owner h = cc

      by : (o : Option Seat) → option_and_then (end_at_seat e) o ≡ Some x
          → Contains (option_map_or leads_of_seat o []) (e, x)
      by None h = cc
      by (Some o) h = of_seat o e h
  end_leads (Obj n) e x h = of_row e h
    where
      of_row : (e : Edge) → end_at_row e n.owner (row_left actors n) ≡ Some x
          → Contains (leads_from Place 0 (row_left actors n) ++ (Owner, Actor n.owner) ∷ []) (e, x)
      of_row (Field i) h = cc
      of_row (Register i) h = cc
      of_row (Letter k i) h = cc
      of_row (Place i) h =
          let j : 0 + i ≡ i = omega arith in
          Contains-append_left (leads_from Place 0 (row_left actors n)) ((Owner, Actor n.owner) ∷ []) (Place i, x)
          (subst (λ j. Contains (leads_from Place 0 (row_left actors n)) (Place j, x)) j
          (from_named Place 0 i (row_left actors n) x h))
      of_row Owner h =
          let same : Actor n.owner ≡ x = cc in
          subst (λ y. Contains (leads_from Place 0 (row_left actors n) ++ (Owner, Actor n.owner) ∷ []) (Owner, y)) same
          (Contains-append_right (leads_from Place 0 (row_left actors n)) ((Owner, Actor n.owner) ∷ []) (Owner, Actor n.owner)
          (Contains-head (Owner, Actor n.owner) []))

  -- an edge of the list leads there
  pub leads_end : (t : Thing) (e : Edge) (x : Thing) → LeadsBy actors t e x → end_of actors t e ≡ Some x
  unfolding end_of leads_of
  leads_end (Actor a) e x c = by (seat_at actors a) c
    where
      of_seat : (o : Seat) → Contains (leads_of_seat o) (e, x) → end_at_seat e o ≡ Some x
      of_seat o c = elim (Contains-append_cases (leads_from Field 0 o.cell.fields.values) _ (e, x) c)
          as (λ _. end_at_seat e o ≡ Some x) [
            | inl here ↦
                let at = to_named Field 0 o.cell.fields.values (e, x) here in
                let j : 0 + at.0 ≡ at.0 = omega arith in
                ap (λ d. end_at_seat d o) (at.1 ∙ ap Field j) ∙ at.2
            | inr rest ↦ elim (Contains-append_cases (leads_from Register 0 (registers_of o)) (leads_of_letters 0 o.mail) (e, x) rest)
                as (λ _. end_at_seat e o ≡ Some x) [
                  | inl here ↦
                      let at = to_named Register 0 (registers_of o) (e, x) here in
                      let j : 0 + at.0 ≡ at.0 = omega arith in
                      ap (λ d. end_at_seat d o) (at.1 ∙ ap Register j) ∙ at.2
                  | inr later ↦
                      let at = to_letters 0 o.mail (e, x) later in
                      let k : 0 + at.0 ≡ at.0 = omega arith in
                      ap (λ d. end_at_seat d o) (at.2 ∙ ap (λ k. Letter k at.1) k) ∙ at.3
                ]
          ]

      by : (o : Option Seat) → Contains (option_map_or leads_of_seat o []) (e, x)
          → option_and_then (end_at_seat e) o ≡ Some x
      by None c = none_in_nil (e, x) _ c
      by (Some o) c = of_seat o c
  leads_end (Obj n) e x c = elim (Contains-append_cases (leads_from Place 0 (row_left actors n)) ((Owner, Actor n.owner) ∷ []) (e, x) c)
      as (λ _. end_at_row e n.owner (row_left actors n) ≡ Some x) [
        | inl here ↦
            let at = to_named Place 0 (row_left actors n) (e, x) here in
            let j : 0 + at.0 ≡ at.0 = omega arith in
            ap (λ d. end_at_row d n.owner (row_left actors n)) (at.1 ∙ ap Place j) ∙ at.2
        | inr last ↦ elim (Contains-cons_cases (Owner, Actor n.owner) [] (e, x) last)
            as (λ _. end_at_row e n.owner (row_left actors n) ≡ Some x) [
              | inl same ↦
                  ap (λ d. end_at_row d n.owner (row_left actors n)) (sym (ap (λ (l : Lead). l.0) same))
                  ∙ ap (λ (l : Lead). Some l.1) same
              | inr none ↦ none_in_nil (e, x) _ none
            ]
      ]

  -- from an actor that is gone, from one that is present, and from an object
  pub end_none : (a : ℕ) (e : Edge) → seat_at actors a ≡ None → end_of actors (Actor a) e ≡ None
  unfolding end_of
  end_none a e gone = ap (option_and_then (end_at_seat e)) gone

  pub end_some : (a : ℕ) (o : Seat) (e : Edge) → seat_at actors a ≡ Some o → end_of actors (Actor a) e ≡ end_at_seat e o
  unfolding end_of
  end_some a o e at = ap (option_and_then (end_at_seat e)) at

  pub end_object : (n : ObjName) (e : Edge) → end_of actors (Obj n) e ≡ end_at_row e n.owner (row_left actors n)
  unfolding end_of
  end_object n e = refl
