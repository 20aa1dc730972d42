-- A name that stands where it is guessed stands nowhere else.
use Rattle.std.proofs.Common.{◌≡◌, ◌≢◌, ℕ, zero, suc, ◌+◌, ◌-◌, ◌<◌, ◌≤◌, ◌==◌, ◌&&◌, Bool, true, false, cond, List, [], ◌∷◌, length, drop, get_or, Option, None, Some, nat_lt, refl, sym, ap, subst, ◌∙◌, arith, inl, inr, ◌⊎◌}
use Rattle.std.specs.List.{AllPairs, position, position_or_len, slice_get}
use Rattle.std.specs.Option.{option_map_or}
use Rattle.std.proofs.lemmas.Bool.{cases_order, eq-eqb, eqb-true, le-ltb, lt-ltb, ne_eqb}
use Rattle.std.proofs.lemmas.List.Sums.{position_or_len_is}
use Rattle.std.proofs.lemmas.Option.{get_or_from_slice_get, slice_get-get_or, slice_get_within}
use Rattle.orca_names.specs.declared.limits.TheConstants.{BEHAVIOURS_LIMIT}
use Rattle.behaviour_code.proofs.Limits.{AllByRecursion-slice_get}
use Rattle.behaviour_code.specs.WellFormed.{KindIsWellFormed}
use Rattle.behaviour_code.specs.Find.{is_kind, is_label, kind_named, takes_call}
use Rattle.behaviour_code.specs.declared.code.Behaviour.{Behaviour}
use Rattle.behaviour_code.specs.declared.code.Kind.{Kind}
use Rattle.behaviour_code.specs.declared.code.Program.{Program}
use Rattle.behaviour_code.specs.declared.instr.Instr.{Instr}
use Rattle.behaviour_code.specs.declared.instr.Instr.TheVariants as I
use Rattle.behaviour_check.specs.Keeps.{AreNotBoth, LabelsDiffer}
use Rattle.behaviour_check.specs.Rules.{IsChecked}
use Rattle.behaviour_check.proofs.Once.{kinds_differ}
use Rattle.behaviour_check.proofs.Places.{AllPairs-slice_get, slice_get-drop}
use Rattle.behaviour_check.proofs.RuleWords.{label_named}
use Rattle.turn_step.specs.Turns.{place_after}

-- the first place that passes

first_place : {X : Type 0} (test : X → Bool) (xs : List X) (i : ℕ) (x : X) → slice_get xs i ≡ Some x → test x ≡ true →
    ((k : ℕ) (y : X) → k < i → slice_get xs k ≡ Some y → test y ≡ false) → position test xs ≡ Some i
first_place {X} test xs i x found passes earlier =
    let within = slice_get_within xs i x found in
    let first : position_or_len test xs ≡ i = position_or_len_is test xs i x (omega (arith, within))
    (λ k before. earlier k (get_or xs k x) before (slice_get-get_or xs k x (omega (arith, before, within))))
    (λ _. ap test (get_or_from_slice_get xs i x x found) ∙ passes) in
    ap (λ (n : ℕ). cond (nat_lt n (length xs)) (Some n) None) first
    ∙ ap (λ (b : Bool). cond b (Some i) None) (lt-ltb i (length xs) within)

no_place : {X : Type 0} (test : X → Bool) (xs : List X) (d : X) →
    ((k : ℕ) (y : X) → slice_get xs k ≡ Some y → test y ≡ false) → position test xs ≡ None
no_place {X} test xs d fails =
    let none : position_or_len test xs ≡ length xs = position_or_len_is test xs (length xs) d (omega arith)
    (λ k before. fails k (get_or xs k d) (slice_get-get_or xs k d before)) (λ l. absurd (omega (arith, l))) in
    ap (λ (n : ℕ). cond (nat_lt n (length xs)) (Some n) None) none
    ∙ ap (λ (b : Bool). cond b (Some (length xs)) None) (le-ltb (length xs) (length xs) (omega arith))

-- kinds

pub kind_guessed : (p : Program) (place name : ℕ) → IsChecked p →
    option_map_or (is_kind name) (slice_get p.kinds place) false ≡ true → kind_named p name ≡ Some place
kind_guessed p place name checked there = cases (slice_get p.kinds place) refl there
  where
    cases : (found : Option Kind) → slice_get p.kinds place ≡ found → option_map_or (is_kind name) found false ≡ true →
        kind_named p name ≡ Some place
    cases None e h = cc
    cases (Some k) e h = first_place (is_kind name) p.kinds place k e h (λ j other before found.
        ne_eqb other.name name (λ same. AllPairs-slice_get (λ (k l : Kind). k.name ≢ l.name) p.kinds
        (kinds_differ p checked) j place other k before found e (same ∙ sym (eqb-true k.name name h))))

-- behaviours

-- a kind of a checked program has few behaviours
pub behaviours_are_few : (p : Program) (place : ℕ) (k : Kind) → IsChecked p → slice_get p.kinds place ≡ Some k →
    length k.behaviours ≤ BEHAVIOURS_LIMIT
behaviours_are_few p place k checked found =
    (AllByRecursion-slice_get (KindIsWellFormed p.names) p.kinds place k checked.good.kinds found).few

-- what a look-up in the same list answered
pub stands_there : (bs list : List Behaviour) (place : ℕ) (b : Behaviour) → list ≡ bs → place < length list →
    b ≡ get_or list place b → slice_get bs place ≡ Some b
stands_there bs list place b same inside at =
    ap (λ (xs : List Behaviour). slice_get xs place) (sym same) ∙ slice_get-get_or list place b inside ∙ ap Some (sym at)

module _ (bs : List Behaviour) (place name arguments : ℕ) (b : Behaviour)
    (differ : AllPairs (λ b c. b.name ≢ c.name) bs) (there : slice_get bs place ≡ Some b) (named : b.name ≡ name) where
  other_name : (k : ℕ) (y : Behaviour) → (k < place) ⊎ (place < k) → slice_get bs k ≡ Some y → (y.name == name) ≡ false
  other_name k y (inl before) found = ne_eqb y.name name (λ same.
      AllPairs-slice_get (λ (b c : Behaviour). b.name ≢ c.name) bs differ k place y b before found there (same ∙ sym named))
  other_name k y (inr behind) found = ne_eqb y.name name (λ same.
      AllPairs-slice_get (λ (b c : Behaviour). b.name ≢ c.name) bs differ place k b y behind there found (named ∙ sym same))

  other_fails : (k : ℕ) (y : Behaviour) → (k < place) ⊎ (place < k) → slice_get bs k ≡ Some y →
      takes_call name arguments y ≡ false
  other_fails k y apart found =
      ap (λ (t : Bool). t && (y.parameters == arguments)) (other_name k y apart found)

  passes : (fits : Bool) → (b.parameters == arguments) ≡ fits → takes_call name arguments b ≡ fits
  passes fits e = ap (λ (t : Bool). t && (b.parameters == arguments)) (eq-eqb b.name name named) ∙ e

  pub behaviour_guessed : (b.parameters == arguments) ≡ true → position (takes_call name arguments) bs ≡ Some place
  behaviour_guessed fits = first_place (takes_call name arguments) bs place b there (passes true fits)
      (λ k y before found. other_fails k y (inl before) found)

  pub no_behaviour_takes : (b.parameters == arguments) ≡ false → position (takes_call name arguments) bs ≡ None
  no_behaviour_takes none = no_place (takes_call name arguments) bs b (λ k y found. cases k y found (cases_order k place))
    where
      cases : (k : ℕ) (y : Behaviour) → slice_get bs k ≡ Some y → (k ≡ place) ⊎ ((k < place) ⊎ (place < k)) →
          takes_call name arguments y ≡ false
      cases k y found (inr apart) = other_fails k y apart found
      cases k y found (inl same) =
          let at : slice_get bs k ≡ Some b = ap (slice_get bs) same ∙ there in
          let it : b ≡ y = cc in
          subst (λ (x : Behaviour). takes_call name arguments x ≡ false) it (passes false none)

-- labels

place_after-first : (name : ℕ) (xs : List Instr) (i : Instr) (from k : ℕ) → slice_get xs k ≡ Some i →
    is_label name i ≡ true → ((j : ℕ) (y : Instr) → j < k → slice_get xs j ≡ Some y → is_label name y ≡ false) →
    place_after name xs from ≡ from + k + 1
place_after-first name [] i from k found passes earlier = cc
place_after-first name (x ∷ xs) i from zero found passes earlier =
    let same : x ≡ i = cc in
    ap (λ (b : Bool). cond b (from + 1) (place_after name xs (from + 1))) (ap (is_label name) same ∙ passes)
    ∙ omega arith
place_after-first name (x ∷ xs) i from (suc k) found passes earlier =
    ap (λ (b : Bool). cond b (from + 1) (place_after name xs (from + 1))) (earlier 0 x (omega arith) refl)
    ∙ place_after-first name xs i (from + 1) k found passes
    (λ j y before. earlier (suc j) y (omega (arith, before)))
    ∙ omega arith

label_elsewhere : (body : List Instr) (name place : ℕ) (i : Instr) → LabelsDiffer body → slice_get body place ≡ Some i →
    is_label name i ≡ true → (j : ℕ) (y : Instr) → j < place → slice_get body j ≡ Some y → is_label name y ≡ false
label_elsewhere body name place i differ there passes j y before found = cases (is_label name y) refl
  where
    cases : (b : Bool) → is_label name y ≡ b → is_label name y ≡ false
    cases false e = e
    cases true e = absurd (AllPairs-slice_get (AreNotBoth (I.Label name)) body (differ name) j place y i before found there
        (label_named name y e) (label_named name i passes))

pub label_guessed : (body : List Instr) (from place name : ℕ) → from ≤ place → LabelsDiffer body →
    option_map_or (is_label name) (slice_get body place) false ≡ true → place + 1 ≡ place_after name (drop from body) from
label_guessed body from place name ahead differ there = cases (slice_get body place) refl there
  where
    cases : (found : Option Instr) → slice_get body place ≡ found → option_map_or (is_label name) found false ≡ true →
        place + 1 ≡ place_after name (drop from body) from
    cases None e h = cc
    cases (Some i) e h =
        let k = place - from in
        let sum : from + k ≡ place = omega (arith, ahead) in
        let at : slice_get (drop from body) k ≡ Some i = slice_get-drop body from k ∙ ap (slice_get body) sum ∙ e in
        sym (place_after-first name (drop from body) i from k at h (λ j y before found.
        label_elsewhere body name place i differ e h (from + j) y (omega (arith, before, ahead))
        (sym (slice_get-drop body from j) ∙ found)) ∙ ap (λ (n : ℕ). n + 1) sum)

pub label_within : (body : List Instr) (place name : ℕ) →
    option_map_or (is_label name) (slice_get body place) false ≡ true → place < length body
label_within body place name there = cases (slice_get body place) refl there
  where
    cases : (found : Option Instr) → slice_get body place ≡ found → option_map_or (is_label name) found false ≡ true →
        place < length body
    cases None e h = cc
    cases (Some i) e h = slice_get_within body place i e
