-- The first fault in what is left of a list, from one element to the next.
use Rattle.std.proofs.Common.{◌≡◌, ◌==◌, ℕ, ◌+◌, ◌-◌, ◌<◌, Bool, true, false, List, [], ◌∷◌, ◌++◌, drop, take, ap, refl, sym, ◌∙◌, add-one, suc, Some, Option, length, drop-cons, get_or, if◌then◌else◌, arith}
use Rattle.std.specs.List.{enumerate_from, flat_map, list_any, slice_get}
use Rattle.std.specs.Option.{option_or}
use Rattle.behaviour_code.specs.Find.{is_kind}
use Rattle.behaviour_code.specs.declared.code.Behaviour.{Behaviour}
use Rattle.behaviour_code.specs.declared.code.Kind.{Kind}
use Rattle.behaviour_check.specs.Rules.{at_place, before, behaviour_faults, fault_at, kind_faults, name_rule, numbered, step_faults}
use Rattle.behaviour_check.specs.declared.checked.CheckFault.{CheckFault}

-- the first of two lists together
first-append : {X : Type 0} (xs ys : List X) →
    slice_get (xs ++ ys) 0 ≡ option_or (slice_get xs 0) (slice_get ys 0)
first-append [] ys = refl
first-append (x ∷ xs) ys = refl

-- what f gives first of the elements from place i on, each with its number
abbrev pub first_from : {X Y : Type 0} → (ℕ × X → List Y) → List X → ℕ → Option Y
first_from f xs i = slice_get (flat_map f (enumerate_from (i + 1) (drop i xs))) 0

first_from-next : {X Y : Type 0} (f : ℕ × X → List Y) (xs : List X) (i : ℕ) (x : X) → i < length xs →
    x ≡ get_or xs i x →
    first_from f xs i ≡ option_or (slice_get (f (i + 1, x)) 0) (first_from f xs (i + 1))
first_from-next {X} f xs i x h e =
    ap (λ (ys : List X). slice_get (flat_map f (enumerate_from (i + 1) ys)) 0)
    (drop-cons xs i x h ∙ ap (λ (y : X). y ∷ drop (suc i) xs) (sym e)
    ∙ ap (λ (n : ℕ). x ∷ drop n xs) (sym (add-one i)))
    ∙ first-append (f (i + 1, x)) _

-- an element gives first the fault of its name, where that was given before
named_next : {X : Type 0} (f : ℕ × X → List CheckFault) (xs : List X) (i : ℕ) (x : X) (k b : ℕ)
    (test : X → Bool) (again : Bool) (rest : List CheckFault) →
    i < length xs → x ≡ get_or xs i x → again ≡ list_any test (take i xs) →
    f (i + 1, x) ≡ at_place k b 0 (name_rule (list_any test (before (i + 1) xs))) ++ rest →
    first_from f xs i
    ≡ (if again then Some (fault_at k b 0 2) else option_or (slice_get rest 0) (first_from f xs (i + 1)))
named_next {X} f xs i x k b test again rest h e told gives =
    first_from-next f xs i x h e
    ∙ ap (λ (ys : List CheckFault). option_or (slice_get ys 0) (first_from f xs (i + 1)))
    (gives ∙ ap (λ (a : Bool). at_place k b 0 (name_rule a) ++ rest) known)
    ∙ cases again
  where
    number : i + 1 - 1 ≡ i
    number = omega arith

    known : list_any test (before (i + 1) xs) ≡ again
    known = ap (λ (n : ℕ). list_any test (take n xs)) number ∙ sym told

    cases : (a : Bool) →
        option_or (slice_get (at_place k b 0 (name_rule a) ++ rest) 0) (first_from f xs (i + 1))
        ≡ (if a then Some (fault_at k b 0 2) else option_or (slice_get rest 0) (first_from f xs (i + 1)))
    cases true = refl
    cases false = refl

pub behaviours_next : (kinds : List Kind) (k : ℕ) (kind : Kind) (bs : List Behaviour) (i : ℕ)
    (x : Behaviour) (again : Bool) →
    bs ≡ kind.behaviours → i < length bs → x ≡ get_or bs i x →
    again ≡ list_any (λ c. c.name == x.name) (take i bs) →
    first_from (behaviour_faults kinds (k, kind)) kind.behaviours i
    ≡ (if again then Some (fault_at k (i + 1) 0 2)
    else option_or (slice_get (flat_map (step_faults kinds (k, kind) (i + 1, x)) (numbered x.body)) 0)
    (first_from (behaviour_faults kinds (k, kind)) kind.behaviours (i + 1)))
behaviours_next kinds k kind bs i x again same h e told =
    named_next (behaviour_faults kinds (k, kind)) kind.behaviours i x k (i + 1)
    (λ c. c.name == x.name) again _
    (rw (← same) h) (e ∙ ap (λ (ys : List Behaviour). get_or ys i x) same)
    (told ∙ ap (λ (ys : List Behaviour). list_any (λ c. c.name == x.name) (take i ys)) same) refl

pub kinds_next : (kinds : List Kind) (i : ℕ) (x : Kind) (again : Bool) →
    i < length kinds → x ≡ get_or kinds i x → again ≡ list_any (is_kind x.name) (take i kinds) →
    first_from (kind_faults kinds) kinds i
    ≡ (if again then Some (fault_at (i + 1) 0 0 2)
    else option_or (slice_get (flat_map (behaviour_faults kinds (i + 1, x)) (numbered x.behaviours)) 0)
    (first_from (kind_faults kinds) kinds (i + 1)))
kinds_next kinds i x again h e told = named_next (kind_faults kinds) kinds i x (i + 1) 0
    (is_kind x.name) again _ h e told refl
