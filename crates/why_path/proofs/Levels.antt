-- From one level to the next.
use Rattle.std.proofs.Common.{◌≡◌, ◌≢◌, ◌⊎◌, inl, inr, ℕ, zero, suc, ◌<◌, ◌≤◌, Bool, true, false, cond, List, [], ◌∷◌, Option, Some, None, Contains, refl, sym, ap, subst, ◌∙◌, arith}
use Rattle.std.specs.Prelude.{option_map, is_some, option_and_then, unwrap_or}
use Rattle.std.specs.List.{find}
use Rattle.std.specs.declared.cmp.Ordering.TheVariants.{Greater}
use Rattle.std.proofs.lemmas.Bool.{cases_lt}
use Rattle.std.proofs.lemmas.Cmp.{tied_itself}
use Rattle.orca_names.specs.Names.{is_thing, thing_cmp}
use Rattle.orca_names.specs.declared.names.Thing.{Thing}
use Rattle.orca_names.specs.declared.names.Thing.TheVariants.{Actor, Obj}
use Rattle.orca_names.specs.declared.reason.Edge.{Edge}
use Rattle.orca_names.specs.declared.reason.Reason.{Reason}
use Rattle.orca_names.specs.declared.reason.Why.{Why}
use Rattle.orca_names.specs.declared.reason.Why.TheVariants.{Pinned, Frame, Letter, By, Loose}
use Rattle.orca_names.proofs.ThingOrder.{is_eq_true, is_same, thing_total}
use Rattle.machine_rules.specs.Actors.{Actors, Seat, seat_at}
use Rattle.machine_rules.specs.Left.{IsLeft}
use Rattle.reach_walk.proofs.Elements.{Contains-head, Contains-later, Contains-cons_cases, none_in_nil}
use Rattle.why_path.specs.Checks.{is_loose, line_of}
use Rattle.why_path.specs.Edges.{Lead, LeadsBy, LeadsTo, first_to, leads_of}
use Rattle.why_path.specs.Reasons.{HasParent, IsLedTo, IsLevel, IsReason, IsReasonOf, IsRoot, ListsLeft, applies, cause_at, cause_of}
use Rattle.why_path.specs.Walk.{AreAt, IsKnownTo, first_line, reached, reached_from}
use Rattle.why_path.proofs.Finding.{found_line, line_there}
use Rattle.why_path.proofs.Reached.{stands_line, stands_with}
use Rattle.why_path.proofs.Walking.{reached_kept, reached_loose, reached_none}

-- ---- the first edge

-- the first edge to a thing is one of the edges
pub first_leads : (x : Thing) (ls : List Lead) (e : Edge) → first_to x ls ≡ Some e → Contains ls (e, x)
first_leads x [] e h = cc
first_leads x (l ∷ ls) e h = by (first_leads x ls e) (is_thing l.1 x) refl h
  where
    by : (first_to x ls ≡ Some e → Contains ls (e, x)) → (b : Bool) → is_thing l.1 x ≡ b → option_map (λ (k : Lead). k.0) (cond b (Some l) (find (λ k. is_thing k.1 x) ls)) ≡ Some e
        → Contains (l ∷ ls) (e, x)
    by deeper true t h =
        let first : l.0 ≡ e = cc in
        let pair : l ≡ (e, x) = (λ i. (first i, is_same l.1 x t i)) in
        subst (Contains (l ∷ ls)) pair (Contains-head l ls)
    by deeper false t h = Contains-later l ls (e, x) (deeper h)

-- where there is none, no edge leads to the thing
pub none_leads : (x : Thing) (ls : List Lead) (e : Edge) → first_to x ls ≡ None → ¬ Contains ls (e, x)
none_leads x [] e h c = none_in_nil (e, x) ⊥ c
none_leads x (l ∷ ls) e h c = by (none_leads x ls e) (is_thing l.1 x) refl h
  where
    by : (first_to x ls ≡ None → ¬ Contains ls (e, x)) → (b : Bool) → is_thing l.1 x ≡ b → option_map (λ (k : Lead). k.0) (cond b (Some l) (find (λ k. is_thing k.1 x) ls)) ≡ None → ⊥
    by deeper true t h = cc
    by deeper false t h = elim (Contains-cons_cases l ls (e, x) c) as (λ _. ⊥) [
      | inl same ↦ let one = is_eq_true l.1 x (ap (λ (k : Lead). k.1) same) in cc
      | inr later ↦ deeper h later
    ]

-- ---- roots and levels

module _ (actors : Actors) where
  -- a root is at level 0, and only a root
  pub root_led : (x : Thing) → IsRoot actors x → IsLedTo actors 0 x
  unfolding IsLedTo
  root_led x h = h

  pub led_root : (x : Thing) → IsLedTo actors 0 x → IsRoot actors x
  unfolding IsLedTo
  led_root x h = h

  -- one edge more
  pub led_more : (n : ℕ) (t x : Thing) → IsLedTo actors n t → LeadsTo actors t x → IsLedTo actors (suc n) x
  unfolding IsLedTo
  led_more n t x led leads = (t, led, leads)

  pub led_last : (n : ℕ) (x : Thing) → IsLedTo actors (suc n) x → (t : Thing) × IsLedTo actors n t × LeadsTo actors t x
  unfolding IsLedTo
  led_last n x led = led

  root_level : (x : Thing) → IsRoot actors x → IsLevel actors x 0
  root_level x h = record { led = root_led x h; least = λ n led. omega arith }

  -- a thing has one level
  pub one_level : (x : Thing) (m n : ℕ) → IsLevel actors x m → IsLevel actors x n → m ≡ n
  one_level x m n a b = omega (arith, a.least n b.led, b.least m a.led)

  rooted : (x : Thing) (level : ℕ) (w : Why) → (level ≡ 0) × (cause_of actors x ≡ Some w) → IsLevel actors x level
  rooted x level w h = subst (IsLevel actors x) (sym h.0) (root_level x (ap is_some h.1))

  -- a reason that is not loose tells the level
  pub reason_level : (x : Thing) (level : ℕ) (w : Why) → is_loose w ≡ false → IsReasonOf actors x level w → IsLevel actors x level
  reason_level x level Pinned kept h = rooted x level Pinned h
  reason_level x level Frame kept h = rooted x level Frame h
  reason_level x level Letter kept h = rooted x level Letter h
  reason_level x level (By parent edge) kept h = h.reached
  reason_level x level Loose kept h = cc

  -- where no path leads to the thing, loose is its reason
  loose_reason : (x : Thing) (level : ℕ) (w : Why) → is_loose w ≡ true → level ≡ 0
      → ((n : ℕ) → ¬ IsLedTo actors n x) → IsReasonOf actors x level w
  loose_reason x level Pinned loose flat far = cc
  loose_reason x level Frame loose flat far = cc
  loose_reason x level Letter loose flat far = cc
  loose_reason x level (By parent edge) loose flat far = cc
  loose_reason x level Loose loose flat far = (flat, far)

-- ---- one level further

-- a kept line stays
pub from_kept : (actors : Actors) (level : ℕ) (ts : List Thing) (r : Reason) → is_loose r.why ≡ false
    → reached_from actors level ts r ≡ r
from_kept actors level [] r kept = refl
from_kept actors level (t ∷ ts) r kept =
    ap (reached_from actors level ts) (reached_kept t level (leads_of actors t) r kept)
    ∙ from_kept actors level ts r kept

-- what is led to is left
abbrev pub LeftAreLed : Actors → Type 0
LeftAreLed actors = (n : ℕ) (x : Thing) → IsLedTo actors n x → IsLeft actors x

-- none stands after one that is above it
abbrev pub NoneFalls : List Thing → Type 0
NoneFalls [] = Unit {0}
NoneFalls (t ∷ ts) = ((y : Thing) → Contains ts y → thing_cmp t y ≢ Greater) × NoneFalls ts

module _ (actors : Actors) (rs : List Reason) (n : ℕ) (lists : ListsLeft actors rs) (left : LeftAreLed actors)
    (known : (r : Reason) → Contains rs r → IsKnownTo actors n r) where
  -- what is led to within n edges has a line that is not loose, and that tells its level
  pub led_line : (m : ℕ) (x : Thing) → m ≤ n → IsLedTo actors m x
      → (r : Reason) × (line_of rs x ≡ Some r) × (is_loose r.why ≡ false) × (r.level ≤ n) × IsLevel actors x r.level
  led_line m x within led =
      let line = line_there x rs ((lists.left x).1 (left m x led)) in
      let found = found_line x rs line.0 line.1 in
      by line.0 line.1 found.0 found.1 (is_loose line.0.why) refl
    where
      by : (r : Reason) → line_of rs x ≡ Some r → Contains rs r → r.thing ≡ x → (b : Bool) → is_loose r.why ≡ b
          → (r : Reason) × (line_of rs x ≡ Some r) × (is_loose r.why ≡ false) × (r.level ≤ n) × IsLevel actors x r.level
      by r is c same true loose =
          absurd (((known r c).loose loose).1 m within (subst (IsLedTo actors m) (sym same) led))
      by r is c same false kept =
          let k = (known r c).kept kept in
          (r, is, kept, k.0, subst (λ y. IsLevel actors y r.level) same (reason_level actors r.thing r.level r.why kept k.1))

  module _ (front : List Thing) (at : AreAt rs n front) where
    -- the front has just what is at level n
    pub front_has : (t : Thing) → IsLevel actors t n → Contains front t
    front_has t level =
        let line = led_line n t (omega arith) level.led in
        (at t).1 (stands_with rs n t line.0 line.1 line.2 (one_level actors t line.0.level n line.4 level))

    pub front_level : (t : Thing) → Contains front t → IsLevel actors t n
    front_level t c =
        let s = stands_line rs n t ((at t).0 c) in
        let found = found_line t rs s.0 s.1 in
        let k = (known s.0 found.0).kept s.2 in
        let level = reason_level actors s.0.thing s.0.level s.0.why s.2 k.1 in
        subst (λ m. IsLevel actors t m) s.3 (subst (λ y. IsLevel actors y s.0.level) found.1 level)

    -- what leads to a thing that no path of at most n edges leads to is at level n, if it is led to so
    new_by : (x t : Thing) → ((m : ℕ) → m ≤ n → ¬ IsLedTo actors m x) → IsLedTo actors n t → LeadsTo actors t x → IsLevel actors t n
    new_by x t far led leads =
        let line = led_line n t (omega arith) led in
        elim (cases_lt line.0.level n) as (λ _. IsLevel actors t n) [
          | inl l ↦ absurd (far (suc line.0.level) (omega arith) (led_more actors line.0.level t x line.4.led leads))
          | inr l ↦ let e : line.0.level ≡ n = omega (arith, line.3) in subst (IsLevel actors t) e line.4
        ]

    -- the line of a thing that no path of at most n edges leads to, after the edges of these parents, which are
    -- all at level n that lead to it
    module _ (r : Reason) (loose : is_loose r.why ≡ true) (flat : r.level ≡ 0)
        (far : (m : ℕ) → m ≤ n → ¬ IsLedTo actors m r.thing) where
      by_parents : (ts : List Thing) → NoneFalls ts → ((t : Thing) → Contains ts t → IsLevel actors t n)
          → ((t : Thing) → IsLevel actors t n → LeadsTo actors t r.thing → Contains ts t)
          → IsKnownTo actors (suc n) (reached_from actors (suc n) ts r)
      by_parents [] falls levels all = record {
        kept = λ kept. cc;
        loose = λ _. (flat, none);
      }
        where
          none : (m : ℕ) → m ≤ suc n → ¬ IsLedTo actors m r.thing
          none m within led = elim (cases_lt n m) as (λ _. ⊥) [
            | inl l ↦
                let e : m ≡ suc n = omega arith in
                let last = led_last actors n r.thing (subst (λ k. IsLedTo actors k r.thing) e led) in
                none_in_nil last.0 ⊥ (all last.0 (new_by r.thing last.0 far last.1 last.2) last.2)
            | inr l ↦ far m l led
          ]
      by_parents (t ∷ ts) falls levels all =
          by (by_parents ts falls.1 (λ u c. levels u (Contains-later t ts u c))) (first_to r.thing (leads_of actors t)) refl
        where
          by : (((u : Thing) → IsLevel actors u n → LeadsTo actors u r.thing → Contains ts u)
              → IsKnownTo actors (suc n) (reached_from actors (suc n) ts r))
              → (o : Option Edge) → first_to r.thing (leads_of actors t) ≡ o
              → IsKnownTo actors (suc n) (reached_from actors (suc n) ts (reached t (suc n) (leads_of actors t) r))
          by deeper None e =
              let stays = reached_none t (suc n) (leads_of actors t) r e in
              subst (λ q. IsKnownTo actors (suc n) (reached_from actors (suc n) ts q)) (sym stays)
              (deeper others)
            where
              others : (u : Thing) → IsLevel actors u n → LeadsTo actors u r.thing → Contains ts u
              others u level leads = elim (Contains-cons_cases t ts u (all u level leads)) as (λ _. Contains ts u) [
                | inl same ↦ absurd (none_leads r.thing (leads_of actors t) leads.0 e
                    (subst (λ v. LeadsBy actors v leads.0 r.thing) (sym same) leads.1))
                | inr later ↦ later
              ]
          by deeper (Some d) e =
              let now : Reason = record r { level = suc n; why = By t d } in
              let is = reached_loose t (suc n) (leads_of actors t) r d loose e in
              let stays = ap (reached_from actors (suc n) ts) is ∙ from_kept actors (suc n) ts now refl in
              subst (IsKnownTo actors (suc n)) (sym stays) (record {
                kept = λ _. (omega arith, parent);
                loose = λ l. cc;
              })
            where
              leads : LeadsTo actors t r.thing
              leads = (d, first_leads r.thing (leads_of actors t) d e)

              level : IsLevel actors t n
              level = levels t (Contains-head t ts)

              above : (m : ℕ) → IsLedTo actors m r.thing → suc n ≤ m
              above m led = elim (cases_lt n m) as (λ _. suc n ≤ m) [
                | inl l ↦ omega arith
                | inr l ↦ absurd (far m l led)
              ]

              least : (u : Thing) → IsLevel actors u n → LeadsTo actors u r.thing → thing_cmp t u ≢ Greater
              least u l k = elim (Contains-cons_cases t ts u (all u l k)) as (λ _. thing_cmp t u ≢ Greater) [
                | inl same ↦ λ g. let tied = sym (tied_itself thing_total t) ∙ ap (thing_cmp t) same in cc
                | inr later ↦ falls.0 u later
              ]

              parent : HasParent actors r.thing (suc n) t d
              parent = record {
                reached = record { led = led_more actors n t r.thing level.led leads; least = above };
                lower = n;
                above = omega arith;
                below = level;
                least = least;
                first = e;
              }

    -- one level further
    pub next_known : NoneFalls front → (r : Reason) → Contains rs r
        → IsKnownTo actors (suc n) (reached_from actors (suc n) front r)
    next_known falls r c = by (is_loose r.why) refl
      where
        by : (b : Bool) → is_loose r.why ≡ b → IsKnownTo actors (suc n) (reached_from actors (suc n) front r)
        by true loose =
            let k = (known r c).loose loose in
            by_parents r loose k.0 k.1 front falls front_level (λ t level leads. front_has t level)
        by false kept =
            let k = (known r c).kept kept in
            subst (IsKnownTo actors (suc n)) (sym (from_kept actors (suc n) front r kept))
            (record { kept = λ _. (omega (arith, k.0), k.1); loose = λ l. cc })

  -- where nothing is at level n, all is known
  module _ (none : (t : Thing) → ¬ IsLevel actors t n) where
    -- what is led to within n edges is at a lower level
    lower : (m : ℕ) (x : Thing) → m ≤ n → IsLedTo actors m x → (k : ℕ) × (k < n) × IsLevel actors x k
    lower m x within led =
        let line = led_line m x within led in
        elim (cases_lt line.0.level n) as (λ _. (k : ℕ) × (k < n) × IsLevel actors x k) [
          | inl l ↦ (line.0.level, l, line.4)
          | inr l ↦
              let e : line.0.level ≡ n = omega (arith, line.3) in
              absurd (none x (subst (IsLevel actors x) e line.4))
        ]

    all_lower : (m : ℕ) (x : Thing) → IsLedTo actors m x → (k : ℕ) × (k < n) × IsLevel actors x k
    all_lower zero x led = lower 0 x (omega arith) led
    all_lower (suc m) x led =
        let last = led_last actors m x led in
        let at = all_lower m last.0 last.1 in
        lower (suc at.0) x (omega (arith, at.1)) (led_more actors at.0 last.0 x at.2.led last.2)

    pub known_whole : (r : Reason) → Contains rs r → IsReason actors r
    known_whole r c = by (is_loose r.why) refl
      where
        by : (b : Bool) → is_loose r.why ≡ b → IsReason actors r
        by true loose =
            let k = (known r c).loose loose in
            loose_reason actors r.thing r.level r.why loose k.0 (λ m led.
            let at = all_lower m r.thing led in k.1 at.0 (omega (arith, at.1)) at.2.led)
        by false kept = ((known r c).kept kept).1

-- ---- the first lines

-- a cause is a root's
pub cause_cases : (pinned frame letter : Bool) (w : Why)
    → cond pinned (Some Pinned) (cond frame (Some Frame) (cond letter (Some Letter) None)) ≡ Some w
    → (w ≡ Pinned) ⊎ ((w ≡ Frame) ⊎ (w ≡ Letter))
cause_cases true frame letter w e = inl cc
cause_cases false true letter w e = inr (inl cc)
cause_cases false false true w e = inr (inr cc)
cause_cases false false false w e = cc

module _ (actors : Actors) where
  root_reason : (x : Thing) (w : Why) → cause_of actors x ≡ Some w → (is_loose w ≡ false) × IsReasonOf actors x 0 w
  unfolding cause_of
  root_reason (Obj n) w e = cc
  root_reason (Actor a) w e = by (seat_at actors a) refl e
    where
      as_is : (v : Why) → (v ≡ Pinned) ⊎ ((v ≡ Frame) ⊎ (v ≡ Letter)) → cause_of actors (Actor a) ≡ Some v
          → (is_loose v ≡ false) × IsReasonOf actors (Actor a) 0 v
      as_is Pinned h e = (refl, (refl, e))
      as_is Frame h e = (refl, (refl, e))
      as_is Letter h e = (refl, (refl, e))
      as_is (By parent edge) (inl h) e = cc
      as_is (By parent edge) (inr (inl h)) e = cc
      as_is (By parent edge) (inr (inr h)) e = cc
      as_is Loose (inl h) e = cc
      as_is Loose (inr (inl h)) e = cc
      as_is Loose (inr (inr h)) e = cc

      by : (o : Option Seat) → seat_at actors a ≡ o → option_and_then cause_at o ≡ Some w
          → (is_loose w ≡ false) × IsReasonOf actors (Actor a) 0 w
      by None at h = cc
      by (Some o) at h =
          as_is w (cause_cases (applies Pinned o) (applies Frame o) (applies Letter o) w h) e

  -- a walk begins with what is known of paths of no edge
  pub first_known : (x : Thing) → IsKnownTo actors 0 (first_line actors x)
  first_known x = by (cause_of actors x) refl
    where
      by : (o : Option Why) → cause_of actors x ≡ o
          → IsKnownTo actors 0 (record { thing = x; level = 0; why = unwrap_or o Loose })
      by None e = record {
        kept = λ h. cc;
        loose = λ _. (
          refl,
          λ m within led.
              let none : m ≡ 0 = omega arith in
              let root = led_root actors x (subst (λ k. IsLedTo actors k x) none led) in
              let no = sym (ap is_some e) ∙ root in cc,
        );
      }
      by (Some w) e =
          let is = root_reason x w e in
          record { kept = λ _. (omega arith, is.1); loose = λ h. let no = sym is.0 ∙ h in cc }
