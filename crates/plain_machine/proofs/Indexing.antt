-- The index finds the first actor that can do something.
use Rattle.std.proofs.Common.{◌≡◌, ◌≢◌, ℕ, ◌-◌, ◌<◌, inl, inr, Bool, true, false, List, [], ◌∷◌, ◌++◌, All, IfNone, IfSome, length, get_or, replicate, take, slice_get, Option, None, Some, refl, sym, ap, subst, ◌∙◌, arith, length-append}
use Rattle.std.specs.Prelude.{◌||◌, is_some, not}
use Rattle.std.specs.List.{position, position_or_len}
use Rattle.std.specs.Option.{option_map_or}
use Rattle.std.proofs.lemmas.Bool.{cases_lt}
use Rattle.std.proofs.lemmas.List.{get_or-append_right, get_or-replicate, get_or-take, get_or_append_left, get_or_past, length-replicate, length-take-le}
use Rattle.std.proofs.lemmas.List.Quantifiers.{position-Some}
use Rattle.std.proofs.lemmas.List.Sums.{fails_before_first}
use Rattle.std.proofs.lemmas.Option.{slice_get-get_or, slice_get_past, slice_get_read}
use Rattle.event_rule.specs.declared.event.Event.{Event}
use Rattle.turn_rules.specs.declared.act.Frame.{Frame}
use Rattle.plain_rules.specs.declared.PlainActor.{PlainActor}
use Rattle.plain_rules.specs.declared.PlainLetter.{PlainLetter}
use Rattle.plain_list.specs.Lists.{is_empty}
use Rattle.plain_machine.specs.First.{ComesFirst, IsIdle, event_of, event_with}
use Rattle.plain_machine.specs.Ready.{IsIndex, can_act}

-- places more, all of them off
pub index_after_grow : (ready : List Bool) (actors : List PlainActor) → IsIndex ready actors → IsIndex (ready ++ replicate 64 false) actors
index_after_grow ready actors index =
    record { room = omega (arith, index.room, length-append ready (replicate 64 false)); at = λ k. as_before k ∙ index.at k }
  where
    off : (n k : ℕ) → get_or (replicate n false) k false ≡ false
    off n k = elim (cases_lt k n) as (λ _. get_or (replicate n false) k false ≡ false) [
      | inl h ↦ get_or-replicate n k false false h
      | inr h ↦ get_or_past (replicate n false) k false (omega (arith, length-replicate n false))
    ]

    as_before : (k : ℕ) → get_or (ready ++ replicate 64 false) k false ≡ get_or ready k false
    as_before k = elim (cases_lt k (length ready)) as (λ _. get_or (ready ++ replicate 64 false) k false ≡ get_or ready k false) [
      | inl h ↦ get_or_append_left ready (replicate 64 false) false k h
      | inr h ↦ get_or-append_right ready (replicate 64 false) (length ready) k false refl h ∙ off 64 (k - length ready) ∙ sym (get_or_past ready k false h)
    ]

-- ---- where a place is off

off_is_idle : (x : PlainActor) → can_act x ≡ false → IsIdle x
off_is_idle x = by_parts x.frame x.letters
  where
    by_parts : (frame : Option Frame) (letters : List PlainLetter) → (is_some frame || not (is_empty letters)) ≡ false → event_with 0 frame letters ≡ None
    by_parts (Some frame) letters e = absurd (cc)
    by_parts None (letter ∷ letters) e = absurd (cc)
    by_parts None [] e = refl

idle_at : (ready : List Bool) (actors : List PlainActor) (k : ℕ) (d : PlainActor) → IsIndex ready actors → get_or ready k false ≡ false → k < length actors → IsIdle (get_or actors k d)
idle_at ready actors k d index off within =
    off_is_idle (get_or actors k d) (sym (index.at k ∙ ap (λ o. option_map_or can_act o false) (slice_get-get_or actors k d within)) ∙ off)

pub all_idle : (ready : List Bool) (actors : List PlainActor) → IsIndex ready actors → position (λ on. on) ready ≡ None → All IsIdle actors
all_idle ready actors index none = λ k d within. idle_at ready actors k d index (fails_before_first (λ on. on) ready k false (past k (omega (arith, index.room)) none)) within
  where
    past : (k : ℕ) → k < length ready → position (λ on. on) ready ≡ None → k < position_or_len (λ on. on) ready
    past k within e = grind (arith)

-- ---- the first place that is on

on_can_act : (a : ℕ) (x : PlainActor) → can_act x ≡ true → event_of a x ≢ None
on_can_act a x = by_parts x.frame x.letters
  where
    by_parts : (frame : Option Frame) (letters : List PlainLetter) → (is_some frame || not (is_empty letters)) ≡ true → event_with a frame letters ≢ None
    by_parts (Some frame) letters e none = cc
    by_parts None (letter ∷ letters) e none = cc
    by_parts None [] e none = cc

-- the actor can do something, and those before it can not
pub record IsFirst (actors : List PlainActor) (a : ℕ) : Type 0 where
  pub within : a < length actors
  pub before : All IsIdle (take a actors)
  pub acts : (x : PlainActor) → slice_get actors a ≡ Some x → event_of a x ≢ None

pub first_of_index : (ready : List Bool) (actors : List PlainActor) (a : ℕ) → IsIndex ready actors → position (λ on. on) ready ≡ Some a → IsFirst actors a
first_of_index ready actors a index found =
    let at = position-Some (λ on. on) ready a false found in
    let acts : option_map_or can_act (slice_get actors a) false ≡ true = sym (index.at a) ∙ at.1 in
    let within : a < length actors = elim (cases_lt a (length actors)) as (λ _. a < length actors) [
      | inl h ↦ h
      | inr h ↦ let off = ap (λ o. option_map_or can_act o false) (slice_get_past actors a h) in absurd (cc)
    ] in
    record {
      within = within;
      before = λ k d h.
          let below : k < a = omega (arith, length-take-le a actors (omega arith)) in
          subst IsIdle (sym (get_or-take a actors k d below)) (idle_at ready actors k d index (at.2 k below) (omega arith));
      acts = λ x there. on_can_act a x (sym (ap (λ o. option_map_or can_act o false) there) ∙ acts);
    }

-- what it does is something, and comes first
pub first_is_not_none : (actors : List PlainActor) (a : ℕ) (x : PlainActor) (event : Option Event) → IsFirst actors a → x ≡ get_or actors a x → event ≡ event_of a x → IfNone event (All IsIdle actors)
first_is_not_none actors a x None first read e = absurd (first.acts x (slice_get_read actors (length actors) a x refl first.within read) (sym e))
first_is_not_none actors a x (Some event) first read e = tt

pub first_comes_first : (actors : List PlainActor) (a : ℕ) (x : PlainActor) (event : Option Event) → IsFirst actors a → x ≡ get_or actors a x → event ≡ event_of a x → IfSome event (ComesFirst actors)
first_comes_first actors a x None first read e = tt
first_comes_first actors a x (Some event) first read e =
    record { place = a; actor = x; there = slice_get_read actors (length actors) a x refl first.within read; before = first.before; event = sym e }
