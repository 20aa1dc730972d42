-- Loads whose rows come to lie in blocks.
use Rattle.std.proofs.Common.{◌≡◌, ◌⊎◌, inl, inr, ⊎_elim, ℕ, zero, suc, ◌+◌, ◌-◌, ◌<◌, ◌++◌, Bool, true, false, cond, List, [], ◌∷◌, Option, None, Some, length, get_or, set, take, drop, refl, sym, ap, subst, ◌∙◌, arith, append_assoc}
use Rattle.std.specs.Prelude.{◌==◌, ◌&&◌, nat_le, Contains, IsSome, map, slice_get}
use Rattle.std.specs.Option.{option_or}
use Rattle.std.proofs.lemmas.Bool.{and_parts, eqb-true, leb-true}
use Rattle.std.proofs.lemmas.List.{drop-set-lt, drop_more, get_or-map, length-map, map-set, take_more_set}
use Rattle.std.proofs.lemmas.List.Elements.{All-contains, All-head, All-map, All-tail, Contains-append_right, Contains-get_or}
use Rattle.orca_names.specs.declared.names.ObjName.{ObjName}
use Rattle.orca_names.specs.declared.names.Thing.{Thing}
use Rattle.orca_names.specs.declared.names.Thing.TheVariants.{Actor, Obj}
use Rattle.row_store.specs.declared.told.Told.{Told as ToldRow}
use Rattle.row_store.specs.declared.told.Told.TheVariants.{Nothing, Here, In}
use Rattle.row_store.specs.Told.{Lying, lie_as, lies_as, told_block, told_row}
use Rattle.letter_kinds.specs.Holdings.{Row}
use Rattle.letter_kinds.proofs.Telling.{none_among}
use Rattle.letter_kinds.specs.Load.{AreKnown, HasGiven, HaveGiven, as_load, as_loaded, given_to, lies_from}
use Rattle.letter_kinds.specs.Telling.{TellsOnly, Told, in_block, made_in}

-- things and rows are as before
pub as_load_same : (owner first : ℕ) (blocks : List ℕ) (load : List (Thing × Lying))
    → as_load (map (lies_from owner first blocks) load) ≡ as_load load
as_load_same owner first blocks [] = refl
as_load_same owner first blocks (e ∷ load) = λ j. as_loaded e ∷ as_load_same owner first blocks load j

-- ---- what is given

-- lists that are as long have something at the same places
same_there : {A B : Type 0} (xs : List A) (ys : List B) (i : ℕ) → length xs ≡ length ys → IsSome (slice_get xs i) → IsSome (slice_get ys i)
same_there [] ys i long some = cc
same_there (x ∷ xs) [] i long some = absurd (omega (arith, long))
same_there (x ∷ xs) (y ∷ ys) zero long some = refl
same_there (x ∷ xs) (y ∷ ys) (suc i) long some = same_there xs ys i (omega (arith, long)) some

-- where one of these is given, one of those is
pub both_given : {A B : Type 0} (owner first : ℕ) (xs : List A) (ys : List B) (x : Thing) → length xs ≡ length ys
    → IsSome (given_to owner first xs x) → IsSome (given_to owner first ys x)
both_given owner first xs ys (Actor a) long some = cc
both_given owner first xs ys (Obj n) long some = by ((n.owner == owner) && nat_le first n.serial) some
  where
    by : (t : Bool) → IsSome (cond t (slice_get xs (n.serial - first)) None) → IsSome (cond t (slice_get ys (n.serial - first)) None)
    by true some = same_there xs ys (n.serial - first) long some
    by false some = cc

-- ---- what is remembered

module _ (owner first : ℕ) (rows : List Row) (memory before : ObjName → Option Row)
    (learns : (k : ObjName) → (memory k ≡ before k) ⊎ (IsSome (given_to owner first rows (Obj k)) × (memory k ≡ given_to owner first rows (Obj k)))) where
  same_row : (x : Thing) (told : ToldRow) → (IsSome (given_to owner first rows x) → told_row before x told ≡ given_to owner first rows x)
      → told_row memory x told ≡ told_row before x told
  same_row x Nothing has = refl
  same_row x (Here row) has = refl
  same_row (Actor a) (In block) has = refl
  same_row (Obj n) (In block) has = ⊎_elim (λ same. same) (λ new. new.1 ∙ sym (has new.0)) (learns n)

  -- rows of which some are remembered anew lie as before
  pub lie_same : (items : List (Thing × ToldRow)) → HaveGiven owner first rows (lie_as before items) → lie_as memory items ≡ lie_as before items
  lie_same [] has = refl
  lie_same (e ∷ items) has =
      let its = same_row e.0 e.1 (All-head (HasGiven owner first rows) (lies_as before e) (lie_as before items) has) in
      let others = lie_same items (All-tail (HasGiven owner first rows) (lies_as before e) (lie_as before items) has) in
      λ j. (e.0, record { row = its j; block = told_block e.1 }) ∷ others j

-- ---- one after the other

-- the elements from a place on are mapped: the first of them, and then those behind it
pub mapped_step : {X : Type 0} (f : X → X) (xs : List X) (i : ℕ) (x : X) → i < length xs → x ≡ get_or xs i x
    → take (i + 1) (set xs i (f x)) ++ map f (drop (i + 1) (set xs i (f x))) ≡ take i xs ++ map f (drop i xs)
mapped_step f xs i x l is =
    (λ j. take_more_set xs i (f x) l j ++ map f (drop-set-lt (i + 1) xs i (f x) (omega arith) j))
    ∙ append_assoc (take i xs) (f x ∷ []) (map f (drop (i + 1) xs))
    ∙ ap (λ ys. take i xs ++ map f ys) (ap (λ y. y ∷ drop (i + 1) xs) is ∙ sym (drop_more xs i x l))

-- of each that lies in a block then the row is known
pub known_lying : (owner first : ℕ) (rows : List Row) (blocks : List ℕ) (load : List (Thing × Lying)) → length blocks ≡ length rows
    → HaveGiven owner first rows load → AreKnown load → AreKnown (map (lies_from owner first blocks) load)
known_lying owner first rows blocks load long have known =
    All-map (λ e. IsSome e.1.block → IsSome e.1.row) (lies_from owner first blocks) load
    (λ k d l. by (get_or load k d) (given_to owner first blocks (get_or load k d).0) refl (have k d l) (known k d l))
  where
    by : (e : Thing × Lying) (o : Option ℕ) → given_to owner first blocks e.0 ≡ o → HasGiven owner first rows e → (IsSome e.1.block → IsSome e.1.row)
        → IsSome (option_or (given_to owner first blocks e.0) e.1.block) → IsSome e.1.row
    by e None gets has row lies = row (subst (λ o. IsSome (option_or o e.1.block)) gets lies)
    by e (Some b) gets has row lies =
        let given = both_given owner first blocks rows e.0 long (subst IsSome (sym gets) refl) in
        subst IsSome (sym (has given)) given

-- a load of which one thing comes to lie in its block
pub one_lies : (owner first : ℕ) (rows : List Row) (blocks : List ℕ) (before memory : ObjName → Option Row) (items : List (Thing × ToldRow)) (i : ℕ) (old new : Thing × ToldRow)
    → ((k : ObjName) → (memory k ≡ before k) ⊎ (IsSome (given_to owner first rows (Obj k)) × (memory k ≡ given_to owner first rows (Obj k))))
    → lies_as memory new ≡ lies_from owner first blocks (lies_as before old) → HaveGiven owner first rows (lie_as before items)
    → lie_as memory (set items i new) ≡ set (lie_as before items) i (lies_from owner first blocks (lies_as before old))
one_lies owner first rows blocks before memory items i old new learns is have =
    map-set (lies_as memory) items i new ∙ (λ j. set (lie_same owner first rows memory before learns items have j) i (is j))

-- ---- what is told

-- in no blocks none are made
pub none_made : (owner serial : ℕ) (rows : List Row) (x : Thing × Lying) → Contains (made_in owner serial rows []) x → ⊥
unfolding made_in
none_made owner serial [] x among = none_among x among
none_made owner serial (row ∷ rows) x among = none_among x among

-- one that is made is told
pub among_made : (owner serial : ℕ) (rows : List Row) (blocks : List ℕ) (i k : ℕ) (row : Row) (block : ℕ)
    → slice_get rows i ≡ Some row → slice_get blocks i ≡ Some block → k ≡ serial + i
    → Told (made_in owner serial rows blocks) (record { owner = owner; serial = k }) row block
unfolding made_in
among_made owner serial [] blocks i k row block r b at = cc
among_made owner serial (r' ∷ rows) [] i k row block r b at = cc
among_made owner serial (r' ∷ rows) (b' ∷ blocks) zero k row block r b at = (0, omega arith, found)
  where
    found : in_block (record { owner = owner; serial = serial }) r' b' ≡ in_block (record { owner = owner; serial = k }) row block
    found =
        let its : r' ≡ row = cc in
        let where_it_lies : b' ≡ block = cc in
        let name : serial ≡ k = omega (arith, at) in
        λ j. in_block (record { owner = owner; serial = name j }) (its j) (where_it_lies j)
among_made owner serial (r' ∷ rows) (b' ∷ blocks) (suc i) k row block r b at =
    Contains-append_right (in_block (record { owner = owner; serial = serial }) r' b' ∷ []) (made_in owner (suc serial) rows blocks) (in_block (record { owner = owner; serial = k }) row block)
    (among_made owner (suc serial) rows blocks i k row block r b (omega (arith, at)))

-- a loaded thing with how its row lies, by its parts
loaded_as : (e : Thing × Lying) (n : ObjName) (row : Row) (block : ℕ) → e.0 ≡ Obj n → e.1.row ≡ Some row → e.1.block ≡ Some block → e ≡ in_block n row block
loaded_as e n row block x r b = λ j. (x j, record { row = r j; block = b j })

given_in : (owner first : ℕ) (rows : List Row) (blocks : List ℕ) (n : ObjName) (row : Row) (block : ℕ)
    → given_to owner first rows (Obj n) ≡ Some row → given_to owner first blocks (Obj n) ≡ Some block
    → Told (made_in owner first rows blocks) n row block
given_in owner first rows blocks n row block = by ((n.owner == owner) && nat_le first n.serial) refl
  where
    i : ℕ
    i = n.serial - first

    by : (t : Bool) → ((n.owner == owner) && nat_le first n.serial) ≡ t → cond t (slice_get rows (n.serial - first)) None ≡ Some row
        → cond t (slice_get blocks (n.serial - first)) None ≡ Some block → Told (made_in owner first rows blocks) n row block
    by true is r b =
        let parts = and_parts (n.owner == owner) (nat_le first n.serial) is in
        let its = eqb-true n.owner owner parts.0 in
        let from = leb-true first n.serial parts.1 in
        subst (λ a. Told (made_in owner first rows blocks) (record { owner = a; serial = n.serial }) row block) (sym its)
        (among_made owner first rows blocks (n.serial - first) n.serial row block r b (omega (arith, from)))
    by false is r b = cc

-- what is told of the rows that come to lie in blocks is that they were made there
pub told_made : (owner first : ℕ) (rows : List Row) (blocks : List ℕ) (load : List (Thing × Lying)) → length blocks ≡ length rows
    → HaveGiven owner first rows load → TellsOnly (Told load) (made_in owner first rows blocks) (Told (map (lies_from owner first blocks) load))
told_made owner first rows blocks load long have n row block among =
    let d = in_block n row block in
    let i = among.0 in
    let l : i < length load = omega (arith, among.1, length-map load (lies_from owner first blocks)) in
    let e = get_or load i d in
    let is : lies_from owner first blocks e ≡ d = sym (get_or-map (lies_from owner first blocks) load i d d l) ∙ among.2 in
    by i e l refl (All-contains (HasGiven owner first rows) load e have (Contains-get_or load i d l)) (ap (λ (e : Thing × Lying). e.0) is) (ap (λ (e : Thing × Lying). e.1.row) is)
    (given_to owner first blocks e.0) refl (ap (λ (e : Thing × Lying). e.1.block) is)
  where
    by : (i : ℕ) (e : Thing × Lying) → i < length load → e ≡ get_or load i (in_block n row block) → HasGiven owner first rows e
        → e.0 ≡ Obj n → e.1.row ≡ Some row → (o : Option ℕ) → given_to owner first blocks e.0 ≡ o → option_or o e.1.block ≡ Some block
        → Told load n row block ⊎ Told (made_in owner first rows blocks) n row block
    by i e l at has x r None none b = inl (i, l, sym at ∙ loaded_as e n row block x r b)
    by i e l at has x r (Some b') gets b =
        let row_given = both_given owner first blocks rows e.0 long (subst IsSome (sym gets) refl) in
        let its = sym (has row_given) ∙ r in
        inr (given_in owner first rows blocks n row block (ap (given_to owner first rows) (sym x) ∙ its)
        (ap (given_to owner first blocks) (sym x) ∙ gets ∙ b))
