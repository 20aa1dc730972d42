-- What follows where reasons hold up.
use Rattle.std.proofs.Common.{◌≡◌, ◌↔◌, ◌⊎◌, inl, inr, ℕ, zero, suc, ◌+◌, Bool, true, false, cond, List, Option, Some, None, Contains, refl, sym, subst, ◌∙◌, arith}
use Rattle.std.specs.Prelude.{IfSome, IsSomeAnd, is_some, option_and_then}
use Rattle.std.specs.Option.{option_map_or}
use Rattle.std.proofs.lemmas.List.Elements.{All-contains}
use Rattle.orca_names.specs.declared.names.Thing.{Thing}
use Rattle.orca_names.specs.declared.names.Thing.TheVariants.{Actor, Obj}
use Rattle.orca_names.specs.declared.reason.Reason.{Reason}
use Rattle.orca_names.specs.declared.reason.Why.{Why}
use Rattle.orca_names.specs.declared.reason.Why.TheVariants.{Pinned, Frame, Letter, By, Loose}
use Rattle.machine_rules.specs.Actors.{Actors, Seat, seat_at}
use Rattle.why_path.specs.Checks.{Holds, HoldsUp, IsClosedAt, IsNotLoose, LineHolds, StandsBelow, applies_to, is_loose, line_of}
use Rattle.why_path.specs.Edges.{LeadsTo, leads_of}
use Rattle.why_path.specs.Laws.{IsKeptIn}
use Rattle.why_path.specs.Reasons.{AreReasons, IsLedTo, IsLevel, IsReason, IsReasonOf, IsRoot, applies, cause_at, cause_of}
use Rattle.why_path.proofs.Finding.{found_line, line_there}
use Rattle.why_path.proofs.Levels.{LeftAreLed, cause_cases, first_leads, led_last, led_more, led_root, one_level, reason_level, root_led}

-- ---- lines

module _ (rs : List Reason) (x : Thing) where
  -- of a line that is found
  pub kept_line : IsKeptIn rs x → (r : Reason) × (line_of rs x ≡ Some r) × (is_loose r.why ≡ false)
  kept_line h = by (line_of rs x) refl h
    where
      by : (o : Option Reason) → line_of rs x ≡ o → IsSomeAnd o (λ (r : Reason). is_loose r.why ≡ false)
          → (r : Reason) × (line_of rs x ≡ Some r) × (is_loose r.why ≡ false)
      by None e h = absurd h
      by (Some r) e h = (r, e, h)

  pub kept_with : (r : Reason) → line_of rs x ≡ Some r → is_loose r.why ≡ false → IsKeptIn rs x
  kept_with r e kept = subst (λ o. IsSomeAnd o (λ (r : Reason). is_loose r.why ≡ false)) (sym e) kept

  pub not_loose : (r : Reason) → line_of rs x ≡ Some r → IsNotLoose rs x → is_loose r.why ≡ false
  not_loose r e h = subst (λ o. IfSome o (λ (r : Reason). is_loose r.why ≡ false)) e h

  pub below_line : (level : ℕ) → StandsBelow rs x level
      → (r : Reason) × (line_of rs x ≡ Some r) × (is_loose r.why ≡ false) × (r.level + 1 ≡ level)
  below_line level h = by (line_of rs x) refl h
    where
      by : (o : Option Reason) → line_of rs x ≡ o
          → IsSomeAnd o (λ (r : Reason). (is_loose r.why ≡ false) × (r.level + 1 ≡ level))
          → (r : Reason) × (line_of rs x ≡ Some r) × (is_loose r.why ≡ false) × (r.level + 1 ≡ level)
      by None e h = absurd h
      by (Some r) e h = (r, e, h.0, h.1)

  pub below_with : (level : ℕ) (r : Reason) → line_of rs x ≡ Some r → is_loose r.why ≡ false → r.level + 1 ≡ level
      → StandsBelow rs x level
  below_with level r e kept at =
      subst (λ o. IsSomeAnd o (λ (r : Reason). (is_loose r.why ≡ false) × (r.level + 1 ≡ level))) (sym e) (kept, at)

-- ---- roots

-- where one of the three applies, there is a first
some_cause : (pinned frame letter : Bool) → (pinned ≡ true) ⊎ ((frame ≡ true) ⊎ (letter ≡ true))
    → is_some (cond pinned (Some Pinned) (cond frame (Some Frame) (cond letter (Some Letter) None))) ≡ true
some_cause true frame letter h = refl
some_cause false true letter h = refl
some_cause false false true h = refl
some_cause false false false (inl h) = cc
some_cause false false false (inr (inl h)) = cc
some_cause false false false (inr (inr h)) = cc

applies_some : (o : Seat) (w : Why) → applies w o ≡ true → is_some (cause_at o) ≡ true
applies_some o Pinned h = some_cause (applies Pinned o) (applies Frame o) (applies Letter o) (inl h)
applies_some o Frame h = some_cause (applies Pinned o) (applies Frame o) (applies Letter o) (inr (inl h))
applies_some o Letter h = some_cause (applies Pinned o) (applies Frame o) (applies Letter o) (inr (inr h))
applies_some o (By parent edge) h = cc
applies_some o Loose h = cc

-- the first applies
pinned_applies : (pinned frame letter : Bool)
    → cond pinned (Some Pinned) (cond frame (Some Frame) (cond letter (Some Letter) None)) ≡ Some Pinned → pinned ≡ true
pinned_applies true frame letter h = refl
pinned_applies false true letter h = cc
pinned_applies false false true h = cc
pinned_applies false false false h = cc

frame_applies : (pinned frame letter : Bool)
    → cond pinned (Some Pinned) (cond frame (Some Frame) (cond letter (Some Letter) None)) ≡ Some Frame → frame ≡ true
frame_applies true frame letter h = cc
frame_applies false true letter h = refl
frame_applies false false true h = cc
frame_applies false false false h = cc

letter_applies : (pinned frame letter : Bool)
    → cond pinned (Some Pinned) (cond frame (Some Frame) (cond letter (Some Letter) None)) ≡ Some Letter → letter ≡ true
letter_applies true frame letter h = cc
letter_applies false true letter h = cc
letter_applies false false true h = refl
letter_applies false false false h = cc

first_applies : (o : Seat) (w : Why) → cause_at o ≡ Some w → applies w o ≡ true
first_applies o Pinned h = pinned_applies (applies Pinned o) (applies Frame o) (applies Letter o) h
first_applies o Frame h = frame_applies (applies Pinned o) (applies Frame o) (applies Letter o) h
first_applies o Letter h = letter_applies (applies Pinned o) (applies Frame o) (applies Letter o) h
first_applies o (By parent edge) h =
    elim (cause_cases (applies Pinned o) (applies Frame o) (applies Letter o) (By parent edge) h) as (λ _. false ≡ true) [
      | inl same ↦ cc
      | inr rest ↦ elim rest as (λ _. false ≡ true) [ inl same ↦ cc | inr same ↦ cc ]
    ]
first_applies o Loose h =
    elim (cause_cases (applies Pinned o) (applies Frame o) (applies Letter o) Loose h) as (λ _. false ≡ true) [
      | inl same ↦ cc
      | inr rest ↦ elim rest as (λ _. false ≡ true) [ inl same ↦ cc | inr same ↦ cc ]
    ]

module _ (actors : Actors) where
  root_where : (x : Thing) (w : Why) → applies_to actors x w ≡ true → IsRoot actors x
  unfolding applies_to cause_of
  root_where (Obj n) w h = cc
  root_where (Actor a) w h = by (seat_at actors a) h
    where
      by : (o : Option Seat) → option_map_or (applies w) o false ≡ true → is_some (option_and_then cause_at o) ≡ true
      by None h = cc
      by (Some o) h = applies_some o w h

  cause_applies : (x : Thing) (w : Why) → cause_of actors x ≡ Some w → applies_to actors x w ≡ true
  unfolding applies_to cause_of
  cause_applies (Obj n) w h = cc
  cause_applies (Actor a) w h = by (seat_at actors a) h
    where
      by : (o : Option Seat) → option_and_then cause_at o ≡ Some w → option_map_or (applies w) o false ≡ true
      by None h = cc
      by (Some o) h = first_applies o w h

-- ---- exactly what a path leads to is kept

module _ (actors : Actors) (rs : List Reason) (holds : HoldsUp actors rs) (left : LeftAreLed actors) where
  -- of the line of a thing
  holding : (r : Reason) → Contains rs r → Holds actors rs r
  holding r c = All-contains (Holds actors rs) rs r holds.lines c

  -- to a root
  root_kept : (x : Thing) (w : Why) → applies_to actors x w ≡ true → (k : ℕ) × IsLedTo actors k x
  root_kept x w h = (0, root_led actors x (root_where actors x w h))

  -- a path leads to what is kept: each parent's line stands lower
  kept_led : (level : ℕ) (r : Reason) → Contains rs r → r.level ≡ level → is_loose r.why ≡ false → (k : ℕ) × IsLedTo actors k r.thing
  kept_led zero r c at kept = by r.why (holding r c) kept
    where
      by : (w : Why) → LineHolds actors rs r.thing r.level w → is_loose w ≡ false → (k : ℕ) × IsLedTo actors k r.thing
      by Pinned h kept = root_kept r.thing Pinned h
      by Frame h kept = root_kept r.thing Frame h
      by Letter h kept = root_kept r.thing Letter h
      by (By parent edge) h kept = let line = below_line rs parent r.level h.0 in absurd (omega (arith, line.3, at))
      by Loose h kept = cc
  kept_led (suc level) r c at kept = by (kept_led level) r.why (holding r c) kept
    where
      by : ((r : Reason) → Contains rs r → r.level ≡ level → is_loose r.why ≡ false → (k : ℕ) × IsLedTo actors k r.thing)
          → (w : Why) → LineHolds actors rs r.thing r.level w → is_loose w ≡ false → (k : ℕ) × IsLedTo actors k r.thing
      by deeper Pinned h kept = root_kept r.thing Pinned h
      by deeper Frame h kept = root_kept r.thing Frame h
      by deeper Letter h kept = root_kept r.thing Letter h
      by deeper (By parent edge) h kept =
          let line = below_line rs parent r.level h.0 in
          let found = found_line parent rs line.0 line.1 in
          let led = deeper line.0 found.0 (omega (arith, line.3, at)) line.2 in (
            suc led.0,
            led_more actors led.0 parent r.thing (subst (IsLedTo actors led.0) found.1 led.1) (edge, h.1),
          )
      by deeper Loose h kept = cc

  -- what a path leads to is kept
  led_kept : (k : ℕ) (x : Thing) → IsLedTo actors k x → IsKeptIn rs x
  led_kept zero x led =
      let line = line_there x rs ((holds.lists.left x).1 (left 0 x led)) in
      by line.0 line.1 (found_line x rs line.0 line.1)
    where
      by : (r : Reason) → line_of rs x ≡ Some r → Contains rs r × (r.thing ≡ x) → IsKeptIn rs x
      by r e found = cases (is_loose r.why) refl
        where
          loose_root : (w : Why) → is_loose w ≡ true → LineHolds actors rs r.thing r.level w → ¬ IsRoot actors r.thing
          loose_root Pinned l h root = cc
          loose_root Frame l h root = cc
          loose_root Letter l h root = cc
          loose_root (By parent edge) l h root = cc
          loose_root Loose l h root = h root

          cases : (b : Bool) → is_loose r.why ≡ b → IsKeptIn rs x
          cases false kept = kept_with rs x r e kept
          cases true loose = absurd (loose_root r.why loose (holding r found.0)
              (subst (IsRoot actors) (sym found.1) (led_root actors x led)))
  led_kept (suc k) x led =
      let last = led_last actors k x led in
      let parent = kept_line rs last.0 (led_kept k last.0 last.1) in
      let found = found_line last.0 rs parent.0 parent.1 in
      let closed = All-contains (IsClosedAt actors rs) rs parent.0 holds.closed found.0 parent.2 x
      (subst (λ t. LeadsTo actors t x) (sym found.1) last.2) in
      let line = line_there x rs ((holds.lists.left x).1 (left (suc k) x led)) in
      kept_with rs x line.0 line.1 (not_loose rs x line.0 line.1 closed)

  pub kept_by_path : (x : Thing) → IsKeptIn rs x ↔ ((k : ℕ) × IsLedTo actors k x)
  kept_by_path x = (to, λ led. led_kept led.0 x led.1)
    where
      to : IsKeptIn rs x → (k : ℕ) × IsLedTo actors k x
      to h =
          let line = kept_line rs x h in
          let found = found_line x rs line.0 line.1 in
          let led = kept_led line.0.level line.0 found.0 refl line.2 in
          (led.0, subst (IsLedTo actors led.0) found.1 led.1)

-- ---- reasons hold up

module _ (actors : Actors) (rs : List Reason) (are : AreReasons actors rs) (left : LeftAreLed actors) where
  reason : (r : Reason) → Contains rs r → IsReason actors r
  reason r c = All-contains (IsReason actors) rs r are.each c

  far : (x : Thing) (level : ℕ) (w : Why) → is_loose w ≡ true → IsReasonOf actors x level w → (n : ℕ) → ¬ IsLedTo actors n x
  far x level Pinned l h = cc
  far x level Frame l h = cc
  far x level Letter l h = cc
  far x level (By parent edge) l h = cc
  far x level Loose l h = h.1

  -- what a path leads to has a line that is not loose, and stands at its level
  led_there : (x : Thing) (n : ℕ) → IsLedTo actors n x
      → (r : Reason) × (line_of rs x ≡ Some r) × (is_loose r.why ≡ false) × IsLevel actors x r.level
  led_there x n led =
      let line = line_there x rs ((are.lists.left x).1 (left n x led)) in
      by line.0 line.1 (found_line x rs line.0 line.1)
    where
      by : (r : Reason) → line_of rs x ≡ Some r → Contains rs r × (r.thing ≡ x)
          → (r : Reason) × (line_of rs x ≡ Some r) × (is_loose r.why ≡ false) × IsLevel actors x r.level
      by r e found = cases (is_loose r.why) refl
        where
          cases : (b : Bool) → is_loose r.why ≡ b
              → (r : Reason) × (line_of rs x ≡ Some r) × (is_loose r.why ≡ false) × IsLevel actors x r.level
          cases false kept = (
            r,
            e,
            kept,
            subst (λ y. IsLevel actors y r.level) found.1
                (reason_level actors r.thing r.level r.why kept (reason r found.0)),
          )
          cases true loose = absurd (far r.thing r.level r.why loose (reason r found.0) n
              (subst (IsLedTo actors n) (sym found.1) led))

  line_holds : (x : Thing) (level : ℕ) (w : Why) → IsReasonOf actors x level w → LineHolds actors rs x level w
  line_holds x level Pinned h = cause_applies actors x Pinned h.1
  line_holds x level Frame h = cause_applies actors x Frame h.1
  line_holds x level Letter h = cause_applies actors x Letter h.1
  line_holds x level (By parent edge) h =
      let line = led_there parent h.lower h.below.led in
      let same = one_level actors parent line.0.level h.lower line.3 h.below in (
        below_with rs parent level line.0 line.1 line.2 (omega (arith, same, h.above)),
        first_leads x (leads_of actors parent) edge h.first,
      )
  line_holds x level Loose h = λ root. h.1 0 (root_led actors x root)

  pub reasons_hold : HoldsUp actors rs
  reasons_hold = record {
    lists = are.lists;
    lines = λ k d l. line_holds _ _ _ (are.each k d l);
    closed = λ k d l kept x leads. leads_kept _ (reason_level actors _ _ _ kept (are.each k d l)) x leads;
  }
    where
      leads_kept : {n : ℕ} (t : Thing) → IsLevel actors t n → (x : Thing) → LeadsTo actors t x → IsNotLoose rs x
      leads_kept {n} t level x leads =
          let line = led_there x (suc n) (led_more actors n t x level.led leads) in
          subst (λ o. IfSome o (λ (r : Reason). is_loose r.why ≡ false)) (sym line.1) line.2
