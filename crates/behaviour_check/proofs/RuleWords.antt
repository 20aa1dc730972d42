-- Each rule as the checker tests it, and in its own words.
use Rattle.std.proofs.Common.{◌≡◌, ◌≢◌, ◌==◌, ℕ, ◌+◌, ◌-◌, ◌<◌, Bool, true, false, cond, ◌||◌, not, ◌&&◌, List, [], ◌∷◌, drop, take, map, ap, refl, sym, ◌∙◌, subst, None, Some, Option, is_some, codes, option_map, bytes_eq, arith}
use Rattle.std.specs.List.{All, AllPairs, Any, Contains, find, list_any, slice_get}
use Rattle.std.specs.Option.{IfSome, option_map_or}
use Rattle.std.proofs.lemmas.Bool.{eq-eqb, eqb-false, eqb-true, ne_eqb, leb-false, lt-leb}
use Rattle.std.proofs.lemmas.Option.{slice_get-get_or, slice_get_within, get_or_from_slice_get}
use Rattle.std.proofs.lemmas.Map.Keys.{any_passes_from_place}
use Rattle.std.proofs.lemmas.List.Folds.{Any-from_list_any, list_any-from_Any}
use Rattle.std.proofs.lemmas.Slice.Eq.{bytes_eq-Decides}
use Rattle.std.specs.Prelude.{nat_le}
use Rattle.behaviour_code.specs.Names.{text_of}
use Rattle.behaviour_code.specs.Find.{is_kind, is_label, is_start}
use Rattle.behaviour_code.specs.declared.instr.Instr.{Instr}
use Rattle.behaviour_code.specs.declared.instr.Instr.TheVariants as I
use Rattle.behaviour_code.specs.declared.code.Behaviour.{Behaviour}
use Rattle.behaviour_code.specs.declared.code.Kind.{Kind}
use Rattle.behaviour_check.specs.Keeps.{AreNotBoth, IsStart, JumpsAhead, MakesKnown}
use Rattle.behaviour_check.specs.Operands.{target_of}
use Rattle.behaviour_check.specs.Rules.{jumps_nowhere, makes_unknown, repeats_label}
use Rattle.behaviour_check.proofs.Places.{AllPairs-slice_get, AllPairs_by_place, All_by_place, All-slice_get, fails_each, none_passes, passes_at, slice_get-drop, slice_get-take, take_is_before}

-- names that are given once

pub names_differ : {X : Type 0} (name : X → ℕ) (xs : List X) →
    ((j : ℕ) (y : X) → slice_get xs j ≡ Some y → list_any (λ x. name x == name y) (take j xs) ≡ false) →
    AllPairs (λ x y. name x ≢ name y) xs
names_differ {X} name xs h = AllPairs_by_place (λ (x y : X). name x ≢ name y) xs
    (λ i j x y earlier first second same.
    eqb-false (name x) (name y) (fails_each (λ x. name x == name y) (take j xs) (h j y second) i x
    (slice_get-take xs j i earlier ∙ first)) same)

pub no_name_before : {X : Type 0} (name : X → ℕ) (xs : List X) → AllPairs (λ x y. name x ≢ name y) xs →
    (j : ℕ) (y : X) → slice_get xs j ≡ Some y → list_any (λ x. name x == name y) (take j xs) ≡ false
no_name_before {X} name xs all j y second = none_passes (λ x. name x == name y) (take j xs) (λ i x found.
    let earlier = take_is_before xs j i x found in
    ne_eqb (name x) (name y) (AllPairs-slice_get (λ (x y : X). name x ≢ name y) xs all i j x y earlier
    (sym (slice_get-take xs j i earlier) ∙ found) second))

-- labels

is_label-self : (l : ℕ) → is_label l (I.Label l) ≡ true
is_label-self l = eq-eqb l l refl

pub label_named : (l : ℕ) (x : Instr) → is_label l x ≡ true → x ≡ I.Label l
label_named l (I.Label m) h = ap I.Label (eqb-true m l h)
label_named l _ h = cc

no_label : (l : ℕ) (x : Instr) → x ≢ I.Label l → is_label l x ≡ false
no_label l x other = cases (is_label l x) refl
  where
    cases : (b : Bool) → is_label l x ≡ b → is_label l x ≡ false
    cases false e = e
    cases true e = absurd (other (label_named l x e))

pub labels_differ : (body : List Instr) → ((s : ℕ) (i : Instr) → slice_get body s ≡ Some i →
    repeats_label (take s body) i ≡ false) →
    (name : ℕ) → AllPairs (AreNotBoth (I.Label name)) body
labels_differ body h name = AllPairs_by_place (AreNotBoth (I.Label name)) body
    (λ s t i j earlier first second is_first is_second.
    let none : list_any (is_label name) (take t body) ≡ false = subst
    (λ (x : Instr). repeats_label (take t body) x ≡ false) is_second (h t j second) in
    let fails = fails_each (is_label name) (take t body) none s i
    (slice_get-take body t s earlier ∙ first) in
    let passes : is_label name i ≡ true = subst (λ (x : Instr). is_label name x ≡ true) (sym is_first)
    (is_label-self name) in
    absurd (cc))

repeats_none : (earlier : List Instr) (i : Instr) →
    ((l : ℕ) → i ≡ I.Label l → list_any (is_label l) earlier ≡ false) → repeats_label earlier i ≡ false
repeats_none earlier (I.Label l) h = h l refl
repeats_none earlier _ h = refl

pub no_label_before : (body : List Instr) → ((name : ℕ) → AllPairs (AreNotBoth (I.Label name)) body) →
    (s : ℕ) (i : Instr) → slice_get body s ≡ Some i → repeats_label (take s body) i ≡ false
no_label_before body all s i second = repeats_none (take s body) i
    (λ l is_label_l. none_passes (is_label l) (take s body) (λ t x found.
    let earlier = take_is_before body s t x found in
    no_label l x (λ same. AllPairs-slice_get (AreNotBoth (I.Label l)) body (all l) t s x i earlier
    (sym (slice_get-take body s t earlier) ∙ found) second same is_label_l)))

-- kinds of actors that are made

not_false : (b : Bool) → not b ≡ false → b ≡ true
not_false true h = refl
not_false false h = cc

any_name : (name : ℕ) (kinds : List Kind) → list_any (is_kind name) kinds ≡ list_any (λ n. n == name)
    (map (λ k. k.name) kinds)
any_name name [] = refl
any_name name (k ∷ kinds) = rw (any_name name kinds)

known_kind : (name : ℕ) (names : List ℕ) → list_any (λ n. n == name) names ≡ true → Contains names name
known_kind name names h =
    let found = passes_at (λ n. n == name) names h in
    let same : found.element ≡ name = eqb-true found.element name found.passes in (
      found.place,
      slice_get_within names found.place found.element found.stands,
      get_or_from_slice_get names found.place found.element name found.stands ∙ same,
    )

pub makes_known : (kinds : List Kind) (body : List Instr) →
    ((s : ℕ) (i : Instr) → slice_get body s ≡ Some i → makes_unknown kinds i ≡ false) →
    MakesKnown kinds body
makes_known kinds body h = λ register name has.
    let i = I.New register name in
    let known = not_false _ (h has.0 i (slice_get-get_or body has.0 i has.1 ∙ ap Some has.2)) in
    known_kind name (map (λ k. k.name) kinds) (sym (any_name name kinds) ∙ known)

unknown_none : (kinds : List Kind) (i : Instr) →
    ((d name : ℕ) → i ≡ I.New d name → Contains (map (λ k. k.name) kinds) name) →
    makes_unknown kinds i ≡ false
unknown_none kinds (I.New d name) h =
    let names = map (λ k. k.name) kinds in
    let has = h d name refl in
    let known = any_passes_from_place (λ n. n == name) names has.0 name
    (slice_get-get_or names has.0 name has.1 ∙ ap Some has.2) (eq-eqb name name refl) in
    ap not (any_name name kinds ∙ known)
unknown_none kinds _ h = refl

pub no_unknown_made : (kinds : List Kind) (body : List Instr) → MakesKnown kinds body →
    (s : ℕ) (i : Instr) → slice_get body s ≡ Some i → makes_unknown kinds i ≡ false
no_unknown_made kinds body h s i found = unknown_none kinds i (λ d name same.
    h d name (
      s,
      slice_get_within body s i found,
      get_or_from_slice_get body s i (I.New d name) found
          ∙ same,
    ))

-- jumps

pub jumps_ahead : (body : List Instr) → ((s : ℕ) (i : Instr) → slice_get body s ≡ Some i →
    jumps_nowhere (drop (s + 1) body) i ≡ false) → JumpsAhead body
jumps_ahead body h = λ s l i found jumps.
    let there : list_any (is_label l) (drop (s + 1) body) ≡ true =
    not_false _ (ap (λ (t : Option ℕ). option_map_or
    (λ l. not (list_any (is_label l) (drop (s + 1) body))) t false) (sym jumps) ∙ h s i found) in
    let at = passes_at (is_label l) (drop (s + 1) body) there in (
      s + 1 + at.place,
      omega arith,
      sym (slice_get-drop body (s + 1) at.place) ∙ at.stands
          ∙ ap Some (label_named l at.element at.passes),
    )

nowhere_none : (later : List Instr) (target : Option ℕ) →
    ((l : ℕ) → target ≡ Some l → list_any (is_label l) later ≡ true) →
    option_map_or (λ l. not (list_any (is_label l) later)) target false ≡ false
nowhere_none later None h = refl
nowhere_none later (Some l) h = ap not (h l refl)

pub no_jump_nowhere : (body : List Instr) → JumpsAhead body → (s : ℕ) (i : Instr) →
    slice_get body s ≡ Some i → jumps_nowhere (drop (s + 1) body) i ≡ false
no_jump_nowhere body h s i found = nowhere_none (drop (s + 1) body) (target_of i) (λ l jumps.
    let ahead = h s l i found jumps in
    let number : s + 1 + (ahead.0 - (s + 1)) ≡ ahead.0 = omega arith in
    any_passes_from_place (is_label l) (drop (s + 1) body) (ahead.0 - (s + 1)) (I.Label l)
    (slice_get-drop body (s + 1) (ahead.0 - (s + 1)) ∙ ap (slice_get body) number ∙ ahead.2)
    (is_label-self l))

-- registers and fields

pub registers_are_there : (n : ℕ) (registers : List ℕ) → list_any (nat_le n) registers ≡ false →
    All (λ r. r < n) registers
registers_are_there n registers h = All_by_place (λ (r : ℕ). r < n) registers
    (λ i r found. leb-false n r (fails_each (nat_le n) registers h i r found))

pub no_register_past : (n : ℕ) (registers : List ℕ) → All (λ r. r < n) registers →
    list_any (nat_le n) registers ≡ false
no_register_past n registers all = none_passes (nat_le n) registers
    (λ i r found. lt-leb n r (All-slice_get (λ (r : ℕ). r < n) registers all i r found))

pub field_is_there : (fields : ℕ) (field : Option ℕ) → option_map_or (nat_le fields) field false ≡ false →
    IfSome field (λ f. f < fields)
field_is_there fields None h = tt
field_is_there fields (Some f) h = leb-false fields f h

pub no_field_past : (fields : ℕ) (field : Option ℕ) → IfSome field (λ f. f < fields) →
    option_map_or (nat_le fields) field false ≡ false
no_field_past fields None h = refl
no_field_past fields (Some f) h = lt-leb fields f h

-- the start

both : (a b : Bool) → (a && b) ≡ true → (a ≡ true) × (b ≡ true)
both true b h = (refl, h)
both false b h = cc

start_is : (texts : List (List ℕ)) (b : Behaviour) → is_start texts b ≡ true → IsStart texts b
start_is texts b h =
    let tests = both (bytes_eq (text_of texts b.name) (codes "start")) (b.parameters == 0) h in
    ((bytes_eq-Decides (text_of texts b.name) (codes "start")).0 tests.0, eqb-true b.parameters 0 tests.1)

is_the_start : (texts : List (List ℕ)) (b : Behaviour) → IsStart texts b → is_start texts b ≡ true
is_the_start texts b h =
    rw ((bytes_eq-Decides (text_of texts b.name) (codes "start")).1 h.0) (eq-eqb b.parameters 0 h.1)

start_found : (test : Behaviour → Bool) (bs : List Behaviour) →
    is_some (option_map (λ b. b.name) (find test bs)) ≡ list_any test bs
start_found test [] = refl
start_found test (b ∷ bs) = cases (test b) (start_found test bs)
  where
    cases : (passes : Bool) → is_some (option_map (λ b. b.name) (find test bs)) ≡ list_any test bs →
        is_some (option_map (λ b. b.name) (cond passes (Some b) (find test bs))) ≡
        (passes || list_any test bs)
    cases true later = refl
    cases false later = later

pub start_is_there : (texts : List (List ℕ)) (bs : List Behaviour) →
    is_some (option_map (λ b. b.name) (find (is_start texts) bs)) ≡ true → Any (IsStart texts) bs
start_is_there texts bs h =
    let found = Any-from_list_any (is_start texts) bs (sym (start_found (is_start texts) bs) ∙ h) in
    (found.0, found.1, found.2, found.3, start_is texts found.1 found.4)

pub finds_the_start : (texts : List (List ℕ)) (bs : List Behaviour) → Any (IsStart texts) bs →
    is_some (option_map (λ b. b.name) (find (is_start texts) bs)) ≡ true
finds_the_start texts bs has =
    start_found (is_start texts) bs
    ∙ list_any-from_Any (is_start texts) bs (has.0, has.1, has.2, has.3, is_the_start texts has.1 has.4)
