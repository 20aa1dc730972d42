-- What a walk does to lines.
use Rattle.std.proofs.Common.{◌≡◌, ◌≢◌, ℕ, zero, suc, ◌+◌, ◌<◌, Bool, true, false, cond, List, [], ◌∷◌, ◌++◌, length, map, get_or, set, take, Option, Some, None, Contains, refl, sym, ap, subst, ◌∙◌, append-nil, append_assoc, arith}
use Rattle.std.specs.Prelude.{option_map, slice_get}
use Rattle.std.specs.List.{find}
use Rattle.std.specs.Option.{option_map_or}
use Rattle.std.specs.List.Sorted.{IsStrictlySortedBy}
use Rattle.std.proofs.lemmas.Simd.{map-map}
use Rattle.orca_names.specs.Names.{is_thing, thing_cmp}
use Rattle.orca_names.specs.declared.names.ObjName.{ObjName}
use Rattle.orca_names.specs.declared.names.Thing.{Thing}
use Rattle.orca_names.specs.declared.names.Thing.TheVariants.{Actor, Obj}
use Rattle.orca_names.specs.declared.names.Value.{Value}
use Rattle.orca_names.specs.declared.reason.Edge.{Edge}
use Rattle.orca_names.specs.declared.reason.Edge.TheVariants as edges
use Rattle.orca_names.specs.declared.reason.Reason.{Reason}
use Rattle.orca_names.specs.declared.reason.Why.TheVariants.{By}
use Rattle.letter_kinds.specs.Letters.{Letter}
use Rattle.machine_rules.specs.Actors.{Actors, Seat, seat_at}
use Rattle.reach_walk.proofs.Elements.{Contains-head, Contains-later}
use Rattle.why_path.specs.Checks.{is_loose}
use Rattle.why_path.specs.Edges.{Lead, args_of, first_to, lead_of, leads_from, leads_of, leads_of_letters, leads_of_seat, row_left}
use Rattle.why_path.specs.Lines.{Rise}
use Rattle.why_path.specs.Reasons.{things_in}
use Rattle.why_path.specs.Walk.{by_edge, reached, reached_from}

-- ---- lists

-- two functions that agree at each element give one list
pub map_same : {A B : Type 0} (f g : A → B) → ((a : A) → f a ≡ g a) → (xs : List A) → map f xs ≡ map g xs
map_same f g same [] = refl
map_same f g same (x ∷ xs) = (λ i. same x i ∷ map_same f g same xs i)

-- a function that changes no element of the list gives the same list
pub map_kept : {A : Type 0} (f : A → A) (xs : List A) → ((a : A) → Contains xs a → f a ≡ a) → map f xs ≡ xs
map_kept f [] same = refl
map_kept f (x ∷ xs) same =
    let first = same x (Contains-head x xs) in
    let rest = map_kept f xs (λ a c. same a (Contains-later x xs a c)) in
    (λ i. first i ∷ rest i)

-- a function that changes one element alone
pub map_one : {A : Type 0} (f : A → A) (xs : List A) (i : ℕ) (d : A) → i < length xs
    → ((j : ℕ) (e : A) → j ≢ i → j < length xs → f (get_or xs j e) ≡ get_or xs j e)
    → map f xs ≡ set xs i (f (get_or xs i d))
map_one f [] i d l others = absurd (omega arith)
map_one {A} f (x ∷ xs) zero d l others =
    let rest = kept xs (λ j e m. others (suc j) e (omega arith) (omega arith)) in
    (λ i. f x ∷ rest i)
  where
    kept : (ys : List A) → ((j : ℕ) (e : A) → j < length ys → f (get_or ys j e) ≡ get_or ys j e) → map f ys ≡ ys
    kept [] same = refl
    kept (y ∷ ys) same =
        let first = same 0 y (omega arith) in
        let rest = kept ys (λ j e m. same (suc j) e (omega arith)) in
        (λ i. first i ∷ rest i)
map_one f (x ∷ xs) (suc i) d l others =
    let first = others 0 x (omega arith) (omega arith) in
    let rest = map_one f xs i d (omega arith) (λ j e other m. others (suc j) e (omega arith) (omega arith)) in
    (λ k. first k ∷ rest k)

-- ---- edges so far

-- one value more
pub leads_more : (edge : ℕ → Edge) (k : ℕ) (vs : List Value) (i : ℕ) (v : Value) → slice_get vs i ≡ Some v
    → leads_from edge k (take (i + 1) vs) ≡ leads_from edge k (take i vs) ++ lead_of (edge (k + i)) v
leads_more edge k [] i v e = cc
leads_more edge k (w ∷ vs) zero v e =
    let same : w ≡ v = cc in
    let place : k ≡ k + 0 = omega arith in
    append-nil (lead_of (edge k) w)
    ∙ (λ i. lead_of (edge (place i)) (same i))
leads_more edge k (w ∷ vs) (suc i) v e =
    let up : suc i + 1 ≡ suc (i + 1) = omega arith in
    let place : suc k + i ≡ k + suc i = omega arith in
    ap (λ j. leads_from edge k (take j (w ∷ vs))) up
    ∙ ap (λ ls. lead_of (edge k) w ++ ls)
    (leads_more edge (suc k) vs i v e
    ∙ ap (λ j. leads_from edge (suc k) (take i vs) ++ lead_of (edge j) v) place)
    ∙ sym (append_assoc (lead_of (edge k) w) (leads_from edge (suc k) (take i vs)) (lead_of (edge (k + suc i)) v))

-- one letter more
pub letters_more : (k : ℕ) (ls : List Letter) (i : ℕ) (l : Letter) → slice_get ls i ≡ Some l
    → leads_of_letters k (take (i + 1) ls)
    ≡ leads_of_letters k (take i ls) ++ leads_from (edges.Letter (k + i)) 0 (args_of l)
letters_more k [] i l e = cc
letters_more k (m ∷ ls) zero l e =
    let same : m ≡ l = cc in
    let place : k ≡ k + 0 = omega arith in
    append-nil (leads_from (edges.Letter k) 0 (args_of m))
    ∙ (λ i. leads_from (edges.Letter (place i)) 0 (args_of (same i)))
letters_more k (m ∷ ls) (suc i) l e =
    let up : suc i + 1 ≡ suc (i + 1) = omega arith in
    let place : suc k + i ≡ k + suc i = omega arith in
    let one = leads_from (edges.Letter k) 0 (args_of m) in
    ap (λ j. leads_of_letters k (take j (m ∷ ls))) up
    ∙ ap (λ more. one ++ more)
    (letters_more (suc k) ls i l e
    ∙ ap (λ j. leads_of_letters (suc k) (take i ls) ++ leads_from (edges.Letter j) 0 (args_of l)) place)
    ∙ sym (append_assoc one (leads_of_letters (suc k) (take i ls)) (leads_from (edges.Letter (k + suc i)) 0 (args_of l)))

-- ---- lines that are reached

-- the first edge of two lists
pub first_append : (x : Thing) (ls ms : List Lead) → first_to x ls ≡ None → first_to x (ls ++ ms) ≡ first_to x ms
first_append x [] ms e = refl
first_append x (l ∷ ls) ms e = by (first_append x ls ms) (is_thing l.1 x) e
  where
    by : (first_to x ls ≡ None → first_to x (ls ++ ms) ≡ first_to x ms) → (b : Bool) → option_map (λ (k : Lead). k.0) (cond b (Some l) (find (λ k. is_thing k.1 x) ls)) ≡ None
        → option_map (λ (k : Lead). k.0) (cond b (Some l) (find (λ k. is_thing k.1 x) (ls ++ ms))) ≡ first_to x ms
    by deeper true e = cc
    by deeper false e = deeper e

pub first_stays : (x : Thing) (ls ms : List Lead) (d : Edge) → first_to x ls ≡ Some d → first_to x (ls ++ ms) ≡ Some d
first_stays x [] ms d e = cc
first_stays x (l ∷ ls) ms d e = by (first_stays x ls ms d) (is_thing l.1 x) e
  where
    by : (first_to x ls ≡ Some d → first_to x (ls ++ ms) ≡ Some d) → (b : Bool) → option_map (λ (k : Lead). k.0) (cond b (Some l) (find (λ k. is_thing k.1 x) ls)) ≡ Some d
        → option_map (λ (k : Lead). k.0) (cond b (Some l) (find (λ k. is_thing k.1 x) (ls ++ ms))) ≡ Some d
    by deeper true e = e
    by deeper false e = deeper e

module _ (parent : Thing) (level : ℕ) where
  -- a line keeps its thing
  pub reached_thing : (ls : List Lead) (r : Reason) → (reached parent level ls r).thing ≡ r.thing
  reached_thing ls r = by (is_loose r.why) (first_to r.thing ls)
    where
      by : (b : Bool) (o : Option Edge) → (cond b (by_edge parent level o r) r).thing ≡ r.thing
      by true None = refl
      by true (Some e) = refl
      by false o = refl

  -- a line that is not loose stays
  pub reached_kept : (ls : List Lead) (r : Reason) → is_loose r.why ≡ false → reached parent level ls r ≡ r
  reached_kept ls r kept = ap (λ b. cond b (by_edge parent level (first_to r.thing ls) r) r) kept

  -- so does one to which no edge leads
  pub reached_none : (ls : List Lead) (r : Reason) → first_to r.thing ls ≡ None → reached parent level ls r ≡ r
  reached_none ls r none = ap (λ o. cond (is_loose r.why) (by_edge parent level o r) r) none ∙ by (is_loose r.why)
    where
      by : (b : Bool) → cond b r r ≡ r
      by true = refl
      by false = refl

  -- a loose one is reached by the first edge
  pub reached_loose : (ls : List Lead) (r : Reason) (e : Edge) → is_loose r.why ≡ true → first_to r.thing ls ≡ Some e
      → reached parent level ls r ≡ record r { level = level; why = By parent e }
  reached_loose ls r e loose some = (λ i. cond (loose i) (by_edge parent level (some i) r) r)

  -- along more edges
  pub reached_append : (ls ms : List Lead) (r : Reason)
      → reached parent level (ls ++ ms) r ≡ reached parent level ms (reached parent level ls r)
  reached_append ls ms r = by (is_loose r.why) refl (first_to r.thing ls) refl
    where
      by : (b : Bool) → is_loose r.why ≡ b → (o : Option Edge) → first_to r.thing ls ≡ o
          → reached parent level (ls ++ ms) r ≡ reached parent level ms (reached parent level ls r)
      by false kept o first =
          reached_kept (ls ++ ms) r kept ∙ sym (reached_kept ms r kept)
          ∙ ap (reached parent level ms) (sym (reached_kept ls r kept))
      by true loose None first =
          ap (λ o. cond (is_loose r.why) (by_edge parent level o r) r) (first_append r.thing ls ms first)
          ∙ ap (reached parent level ms) (sym (reached_none ls r first))
      by true loose (Some e) first =
          reached_loose (ls ++ ms) r e loose (first_stays r.thing ls ms e first)
          ∙ ap (reached parent level ms) (sym (reached_loose ls r e loose first))

  -- the same of all lines
  pub map_append : (ls ms : List Lead) (rs : List Reason)
      → map (reached parent level (ls ++ ms)) rs
      ≡ map (reached parent level ms) (map (reached parent level ls) rs)
  map_append ls ms rs =
      map_same _ (λ r. reached parent level ms (reached parent level ls r)) (reached_append ls ms) rs
      ∙ sym (map-map (reached parent level ms) (reached parent level ls) rs)

  -- along no edges
  pub map_nil : (rs : List Reason) → rs ≡ map (reached parent level []) rs
  map_nil rs = sym (map_kept (reached parent level []) rs (λ r c. reached_none [] r refl))

  -- along the edges so far, and more
  pub map_more : (ls ms all : List Lead) (rs now new : List Reason) → all ≡ ls ++ ms
      → now ≡ map (reached parent level ls) rs → new ≡ map (reached parent level ms) now
      → new ≡ map (reached parent level all) rs
  map_more ls ms all rs now new whole before step =
      step ∙ ap (map (reached parent level ms)) before ∙ sym (map_append ls ms rs)
      ∙ ap (λ xs. map (reached parent level xs) rs) (sym whole)

-- ---- one parent after another

from_append : (actors : Actors) (level : ℕ) (ts us : List Thing) (r : Reason)
    → reached_from actors level (ts ++ us) r ≡ reached_from actors level us (reached_from actors level ts r)
from_append actors level [] us r = refl
from_append actors level (t ∷ ts) us r = from_append actors level ts us (reached t level (leads_of actors t) r)

-- no parent yet
pub from_none : (actors : Actors) (level : ℕ) (rs : List Reason) → rs ≡ map (reached_from actors level []) rs
from_none actors level rs = sym (map_kept (reached_from actors level []) rs (λ r c. refl))

-- one parent more
pub from_more : (actors : Actors) (level : ℕ) (ts all : List Thing) (t : Thing) (rs now new : List Reason)
    → all ≡ ts ++ t ∷ [] → now ≡ map (reached_from actors level ts) rs
    → new ≡ map (reached t level (leads_of actors t)) now → new ≡ map (reached_from actors level all) rs
from_more actors level ts all t rs now new whole before step =
    step ∙ ap (map (reached t level (leads_of actors t))) before
    ∙ map-map (reached t level (leads_of actors t)) (reached_from actors level ts) rs
    ∙ map_same (λ r. reached t level (leads_of actors t) (reached_from actors level ts r)) (reached_from actors level (ts ++ t ∷ []))
    (λ r. sym (from_append actors level ts (t ∷ []) r)) rs
    ∙ ap (λ xs. map (reached_from actors level xs) rs) (sym whole)

-- ---- where a parent's edges are found

module _ (actors : Actors) where
  pub leads_gone : (a : ℕ) → seat_at actors a ≡ None → leads_of actors (Actor a) ≡ []
  unfolding leads_of
  leads_gone a gone = ap (λ o. option_map_or leads_of_seat o []) gone

  pub leads_actor : (a : ℕ) (o : Seat) → seat_at actors a ≡ Some o → leads_of actors (Actor a) ≡ leads_of_seat o
  unfolding leads_of
  leads_actor a o at = ap (λ p. option_map_or leads_of_seat p []) at

  pub leads_object : (n : ObjName) → leads_of actors (Obj n)
      ≡ leads_from edges.Place 0 (row_left actors n) ++ (edges.Owner, Actor n.owner) ∷ []
  unfolding leads_of
  leads_object n = refl

-- lines that keep their things still rise
pub rise_kept : (f : Reason → Reason) → ((r : Reason) → (f r).thing ≡ r.thing) → (rs : List Reason) → Rise rs
    → Rise (map f rs)
rise_kept f same rs rise =
    let things : things_in (map f rs) ≡ things_in rs =
    map-map (λ (r : Reason). r.thing) f rs ∙ map_same (λ r. (f r).thing) (λ r. r.thing) same rs in
    subst (IsStrictlySortedBy thing_cmp) (sym things) rise
