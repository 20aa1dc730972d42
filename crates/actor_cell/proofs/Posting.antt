-- What a letter loads, and what is minted first.
use Rattle.std.proofs.Common.{◌≡◌, ℕ, Bool, true, false, cond, Option, Some, None, List, [], ◌∷◌, ◌==◌, map, ◌||◌, refl, sym, ap, ◌∙◌, subst}
use Rattle.std.specs.Prelude.{IfSome}
use Rattle.std.specs.List.{filter, list_any}
use Rattle.orca_names.specs.Names.{owner_of}
use Rattle.orca_names.specs.declared.names.ObjName.{ObjName}
use Rattle.orca_names.specs.declared.names.Thing.{Thing}
use Rattle.orca_names.specs.declared.names.Value.{Value}
use Rattle.orca_names.specs.declared.trace.Trace.TheVariants.{Deep, Roots}
use Rattle.reach_walk.specs.Marks.{load_of, marks_of}
use Rattle.reach_walk.specs.Reach.{thing_row}
use Rattle.letter_kinds.specs.Load.{as_load}
use Rattle.row_store.specs.Told.{Lying}
use Rattle.letter_kinds.specs.Letters.{App}
use Rattle.letter_kinds.specs.Counting.{Amount, Loaded, is_lacking, lacking_of, to_mint}
use Rattle.letter_kinds.specs.Holdings.{Holdings, Row, held_in, known_objects, row_of, with_made}
use Rattle.object_heap.specs.Heap.{Heap}
use Rattle.foreign_table.specs.Table.{Table}
use Rattle.known_rows.specs.Holdings.{holdings_of}
use Rattle.machine_rules.specs.Go.{load_from, rows_from}
use Rattle.trace_send.specs.Lacking.{of_first_owner}
use Rattle.actor_cell.specs.declared.go.Sending.{Sending}
use Rattle.actor_cell.specs.Cells.{as_cell}
use Rattle.actor_cell.specs.Goes.{having_made, letter_or_mint, things_from}
use Rattle.actor_cell.specs.Moves.{Move, Mint, Post}

-- the things of pairs that were made of things
firsts : (row : Thing → Option Row) (things : List Thing) → map (λ (e : Loaded). e.0) (map (λ (x : Thing). (x, row x)) things) ≡ things
firsts row [] = refl
firsts row (x ∷ things) = ap (λ xs. x ∷ xs) (firsts row things)

-- the actor's own count is no matter to what is loaded
pub things_same : (made : List Row) (count : ℕ) (heap : Heap) (foreign : Table) (args : List Value)
    → (let h = with_made made (holdings_of 0 heap foreign) in marks_of (row_of heap.owner h) (known_objects heap.owner h) args)
    ≡ things_from Deep heap.owner (with_made made (holdings_of count heap foreign)) args
unfolding row_of known_objects
things_same made count heap foreign args =
    let h = with_made made (holdings_of 0 heap foreign) in
    let rows = row_of heap.owner h in
    sym (firsts (thing_row rows) (marks_of rows (known_objects heap.owner h) args))

pub load_same : (made : List Row) (count : ℕ) (heap : Heap) (foreign : Table) (args : List Value)
    → (let h = with_made made (holdings_of 0 heap foreign) in load_of (row_of heap.owner h) (known_objects heap.owner h) args)
    ≡ load_from Deep heap.owner (with_made made (holdings_of count heap foreign)) args
unfolding row_of known_objects
load_same made count heap foreign args = refl

-- a thing with its row
abbrev pub with_row : (ObjName → Option Row) → Thing → Loaded
with_row rows x = (x, thing_row rows x)

-- nor to the rows
pub rows_same : (made : List Row) (count : ℕ) (heap : Heap) (foreign : Table) (things : List Thing)
    → map (with_row (row_of heap.owner (with_made made (holdings_of 0 heap foreign)))) things
    ≡ map (with_row (row_of heap.owner (with_made made (holdings_of count heap foreign)))) things
unfolding row_of
rows_same made count heap foreign things = refl

-- with their rows the things are the load
pub rowed_is : (me : ℕ) (h : Holdings) (args : List Value) (things : List Thing) → things ≡ things_from Deep me h args
    → map (λ (x : Thing). (x, thing_row (row_of me h) x)) things ≡ load_from Deep me h args
rowed_is me h args things is =
    let rows = row_of me h in
    ap (map (λ (x : Thing). (x, thing_row rows x))) (is ∙ firsts (thing_row rows) (marks_of rows (known_objects me h) args))

pub roots_are : (me : ℕ) (h : Holdings) (args : List Value) → marks_of (λ n. None) [] args ≡ things_from Roots me h args
roots_are me h args = sym (firsts (thing_row (λ n. None)) (marks_of (λ n. None) [] args))

pub bare_is : (me : ℕ) (h : Holdings) (args : List Value) (things : List Thing) → things ≡ things_from Roots me h args
    → map (λ (x : Thing). (x, thing_row (λ n. None) x)) things ≡ load_from Roots me h args
bare_is me h args things is =
    ap (map (λ (x : Thing). (x, thing_row (λ n. None) x))) (is ∙ firsts (thing_row (λ n. None)) (marks_of (λ n. None) [] args))

abbrev thing_in : Loaded → Thing
thing_in e = e.0

abbrev with_weight : ℕ → Thing → Amount
with_weight weight x = (x, weight)

-- a test of things, on loaded ones
tested : (p : Thing → Bool) (load : List Loaded) → filter p (map thing_in load) ≡ map thing_in (filter (λ (e : Loaded). p e.0) load)
tested p [] = refl
tested p (e ∷ load) = by (p e.0) (tested p load)
  where
    by : (b : Bool) → filter p (map thing_in load) ≡ map thing_in (filter (λ (f : Loaded). p f.0) load)
        → cond b (e.0 ∷ filter p (map thing_in load)) (filter p (map thing_in load)) ≡ map thing_in (cond b (e ∷ filter (λ (f : Loaded). p f.0) load) (filter (λ (f : Loaded). p f.0) load))
    by true rest = ap (λ xs. e.0 ∷ xs) rest
    by false rest = rest

weighed : (weight : ℕ) (load : List Loaded) → map (with_weight weight) (map thing_in load) ≡ map (λ (e : Loaded). with_weight weight e.0) load
weighed weight [] = refl
weighed weight (e ∷ load) = ap (λ xs. with_weight weight e.0 ∷ xs) (weighed weight load)

minted : (weight b : ℕ) (load : List Loaded) → map (with_weight weight) (filter (λ x. owner_of x == b) (map thing_in load)) ≡ to_mint weight b load
minted weight b load = ap (map (with_weight weight)) (tested (λ x. owner_of x == b) load) ∙ weighed weight (filter (λ (e : Loaded). owner_of e.0 == b) load)

none_pass : {X : Type 0} (p : X → Bool) (xs : List X) → list_any p xs ≡ false → filter p xs ≡ []
none_pass p [] e = refl
none_pass {X} p (x ∷ xs) e = by (p x) e (none_pass p xs)
  where
    by : (b : Bool) → (b || list_any p xs) ≡ false → (list_any p xs ≡ false → filter p xs ≡ []) → cond b (x ∷ filter p xs) (filter p xs) ≡ []
    by true e rest = cc
    by false e rest = rest e

-- what is done about a letter with these arguments
module _ (s : Sending) (args : List Value) where
  abbrev me : ℕ
  me = s.cell.now.heap.owner

  abbrev h : Holdings
  h = (as_cell s.cell.now).holdings

  abbrev load : List Loaded
  load = load_from s.options.trace me (with_made s.made.now h) args

  abbrev rows : List Loaded
  rows = rows_from s.options.trace me (having_made s.made.now (as_cell s.cell.now)) args

  abbrev its : List Loaded → Move
  its = letter_or_mint s.options.weight s.to s.behaviour args load rows

  -- what is minted first of these is what is lacked first, and where there is none, the letter goes
  abbrev done : Option (ℕ × List Amount) → Move
  done None = Post s.to (App s.behaviour args load rows)
  done (Some first) = Mint first.0 first.1

  done_is : (lacked : List Loaded) → done (of_first_owner s.options.weight (map thing_in lacked)) ≡ its lacked
  done_is [] = refl
  done_is (e ∷ lacked) = ap (Mint (owner_of e.0)) (minted s.options.weight (owner_of e.0) (e ∷ lacked))

  -- objects that were made are no matter to what is lacked
  pub done_first : (a : ℕ) → a ≡ me → (things : List Thing) → things ≡ map thing_in load
      → (first : Option (ℕ × List Amount)) → first ≡ of_first_owner s.options.weight (filter (is_lacking a h) things)
      → done first ≡ its (lacking_of me (with_made s.made.now h) load)
  unfolding held_in
  done_first a mine things loads first is =
      ap done (is ∙ ap (of_first_owner s.options.weight) ((λ i. filter (is_lacking (mine i) h) (loads i)) ∙ tested (is_lacking me h) load))
      ∙ done_is (lacking_of me h load)

  module _ (deep : s.options.trace ≡ Deep) where
    pub loaded_deeply : (o : Option (List (Thing × Lying))) (found : List (Thing × Lying)) → o ≡ Some found → IfSome o (λ l. as_load l ≡ load_from Deep me (with_made s.made.now h) args) → as_load found ≡ load
    loaded_deeply o found is all = subst (λ o. IfSome o (λ l. as_load l ≡ load)) is (subst (λ t. IfSome o (λ l. as_load l ≡ load_from t me (with_made s.made.now h) args)) (sym deep) all)

    pub sent_deeply : (a : ℕ) → a ≡ me → (found carried : List Loaded) → found ≡ load → carried ≡ [] → false ≡ list_any (λ (e : Loaded). is_lacking a h e.0) found
        → Post s.to (App s.behaviour args found carried) ≡ its (lacking_of me (with_made s.made.now h) load)
    unfolding held_in
    sent_deeply a mine found carried loads none any =
        let all = any ∙ (λ i. list_any (λ (e : Loaded). is_lacking (mine i) h e.0) (loads i)) in
        let bare = none ∙ ap (λ t. rows_from t me (having_made s.made.now (as_cell s.cell.now)) args) (sym deep) in
        (λ i. Post s.to (App s.behaviour args (loads i) (bare i)))
        ∙ ap its (sym (none_pass (λ (e : Loaded). is_lacking me h e.0) load (sym all)))
