-- Amounts of things, as words and as they are.
use Rattle.std.proofs.Common.{◌≡◌, ◌<◌, ◌≤◌, ◌+◌, ◌^◌, ℕ, Bool, true, false, if◌then◌else◌, List, [], ◌∷◌, map, inl, inr, refl, ap, sym, ◌∙◌, arith}
use Rattle.std.specs.Prelude.{bytes_eq, flat_map, sum_by}
use Rattle.std.specs.Fmt.{decimal}
use Rattle.std.specs.List.{AllByRecursion}
use Rattle.std.proofs.lemmas.Bool.{cases_lt}
use Rattle.std.proofs.lemmas.List.Sums.{sum_by-cons}
use Rattle.orca_names.proofs.ThingOrder.{is_self}
use Rattle.orca_names.specs.Names.{is_thing}
use Rattle.orca_names.specs.declared.names.Thing.{Thing}
use Rattle.behaviour_text.proofs.Reread.{number_read}
use Rattle.behaviour_text.specs.Words.{number_of}
use Rattle.letter_kinds.specs.Counting.{Amount, Loaded}
use Rattle.letter_kinds.specs.Sums.{amount_of, times_loaded}
use Rattle.picture_rules.specs.Words.{amount_words, thing_word}
use Rattle.picture_laws.specs.Sums.{amounts, if_of, times}
use Rattle.picture_laws.proofs.Things.{ThingFits, same_test}

pub nothing_said : (b : Bool) → ◌≡◌ {A = ℕ} (if b then 0 else 0) 0
nothing_said true = refl
nothing_said false = refl

module _ {A : Type 0} (thing : A → Thing) (amount : A → ℕ) where
  abbrev pub of_thing : Thing → A → ℕ
  of_thing x e = if is_thing x (thing e) then amount e else 0

  -- what the list has of a thing
  abbrev pub has_of : Thing → List A → ℕ
  has_of x es = sum_by (of_thing x) es

  -- as words say it
  abbrev pub word_of : Thing → A → ℕ
  word_of x e = if_of (thing_word x) (thing_word (thing e)) (number_of (decimal (amount e)))

  abbrev pub words_of : Thing → List A → ℕ
  words_of x es = sum_by (word_of x) es

  abbrev pub IsFew : A → Type 0
  IsFew e = amount e < 2 ^ 64

  abbrev pub IsOfFit : A → Type 0
  IsOfFit e = 0 < amount e → ThingFits (thing e)

  read_back : (x : Thing) (e : A) → IsFew e → word_of x e ≡ (if bytes_eq (thing_word (thing e)) (thing_word x) then amount e else 0)
  read_back x e few = ap (if_of (thing_word x) (thing_word (thing e))) (number_read (amount e) few)

  pub one_said : (x : Thing) (e : A) → IsFew e → IsOfFit e → word_of x e ≡ of_thing x e
  one_said x e few fits = elim (cases_lt 0 (amount e)) [
    | inl some ↦ read_back x e few ∙ ap (λ (b : Bool). if b then amount e else 0) (same_test x (thing e) (fits some))
    | inr past ↦
        let none : amount e ≡ 0 = omega (arith, past) in
        read_back x e few ∙ ap (λ n. if bytes_eq (thing_word (thing e)) (thing_word x) then n else 0) none
        ∙ nothing_said (bytes_eq (thing_word (thing e)) (thing_word x)) ∙ sym (nothing_said (is_thing x (thing e)))
        ∙ ap (λ n. if is_thing x (thing e) then n else 0) (sym none)
  ]

  pub all_said : (x : Thing) (es : List A) → AllByRecursion IsFew es → AllByRecursion IsOfFit es → words_of x es ≡ has_of x es
  all_said x [] few fits = refl
  all_said x (e ∷ es) few fits =
      sum_by-cons (word_of x) e es
      ∙ ap (λ n. n + words_of x es) (one_said x e few.0 fits.0) ∙ ap (λ n. of_thing x e + n) (all_said x es few.1 fits.1)
      ∙ sym (sum_by-cons (of_thing x) e es)

  -- ---- where each thing has few, each amount is small

  first_part : (e : A) (es : List A) → amount e ≤ has_of (thing e) (e ∷ es)
  first_part e es =
      let one : of_thing (thing e) e ≡ amount e = ap (λ (b : Bool). if b then amount e else 0) (is_self (thing e)) in
      omega (arith, one, sum_by-cons (of_thing (thing e)) e es)

  later_part : (x : Thing) (e : A) (es : List A) → has_of x es ≤ has_of x (e ∷ es)
  later_part x e es = omega (arith, sum_by-cons (of_thing x) e es)

  pub few_each : (es : List A) → ((x : Thing) → has_of x es < 2 ^ 64) → AllByRecursion IsFew es
  few_each [] h = tt
  few_each (e ∷ es) h =
      (omega (arith, first_part e es, h (thing e)), few_each es (λ x. omega (arith, later_part x e es, h x)))

  pub fit_each : (es : List A) → ((x : Thing) → 0 < has_of x es → ThingFits x) → AllByRecursion IsOfFit es
  fit_each [] h = tt
  fit_each (e ∷ es) h =
      (λ some. h (thing e) (omega (arith, some, first_part e es)), fit_each es (λ x some. h x (omega (arith, some, later_part x e es))))

-- ---- of letters

abbrev pub thing_of : Amount → Thing
thing_of e = e.0

abbrev pub amount_in : Amount → ℕ
amount_in e = e.1

abbrev pub thing_in : Loaded → Thing
thing_in e = e.0

abbrev pub once : Loaded → ℕ
once e = 1

pub amount_is : (x : Thing) (es : List Amount) → amount_of x es ≡ has_of thing_of amount_in x es
unfolding amount_of
amount_is x es = refl

pub loaded_is : (x : Thing) (es : List Loaded) → times_loaded x es ≡ has_of thing_in once x es
unfolding times_loaded
loaded_is x es = refl

amounts_are : (x : Thing) (es : List Amount) → amounts (thing_word x) (flat_map amount_words es) ≡ words_of thing_of amount_in x es
amounts_are x [] = refl
amounts_are x (e ∷ es) =
    ap (λ n. word_of thing_of amount_in x e + n) (amounts_are x es) ∙ sym (sum_by-cons (word_of thing_of amount_in x) e es)

pub amounts_said : (x : Thing) (es : List Amount) → AllByRecursion (IsFew thing_of amount_in) es → AllByRecursion (IsOfFit thing_of amount_in) es
    → amounts (thing_word x) (flat_map amount_words es) ≡ amount_of x es
amounts_said x es few fits = amounts_are x es ∙ all_said thing_of amount_in x es few fits ∙ sym (amount_is x es)

times_are : (x : Thing) (es : List Loaded) → AllByRecursion (IsOfFit thing_in once) es
    → times (thing_word x) (map (λ e. thing_word e.0) es) ≡ has_of thing_in once x es
times_are x [] fits = refl
times_are x (e ∷ es) fits =
    sum_by-cons (λ word. if_of (thing_word x) word 1) (thing_word e.0) (map (λ (l : Loaded). thing_word l.0) es)
    ∙ ap (λ n. n + times (thing_word x) (map (λ (l : Loaded). thing_word l.0) es))
    (ap (λ (b : Bool). if b then 1 else 0) (same_test x e.0 (fits.0 (omega arith))))
    ∙ ap (λ n. of_thing thing_in once x e + n) (times_are x es fits.1)
    ∙ sym (sum_by-cons (of_thing thing_in once x) e es)

pub times_said : (x : Thing) (es : List Loaded) → AllByRecursion (IsOfFit thing_in once) es
    → times (thing_word x) (map (λ e. thing_word e.0) es) ≡ times_loaded x es
times_said x es fits = times_are x es fits ∙ sym (loaded_is x es)
