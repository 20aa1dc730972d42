-- Which events are enabled while cells are away.
use Rattle.std.proofs.Common.{◌≡◌, ◌≢◌, ◌↔◌, ℕ, Bool, true, false, List, [], Option, Some, None, refl, sym, ap, subst, ◌∙◌}
use Rattle.std.specs.Prelude.{if◌then◌else◌, MatchOption}
use Rattle.std.specs.Option.{option_map_or}
use Rattle.event_rule.specs.Runs.{Goes, IsEnabled, IsFirst, IsFull, IsQuiet, NotEnabled, Step}
use Rattle.event_rule.specs.declared.event.Event.{Event}
use Rattle.event_rule.specs.declared.event.Event.TheVariants.{Take, Go, Collect, Leave, Block, Hear, Scan, Reap}
use Rattle.event_rule.proofs.Ordered.{Upto}
use Rattle.letter_kinds.specs.Detector.{Detector, Token, all_acked, token_numbered}
use Rattle.letter_kinds.specs.Letters.{Letter}
use Rattle.machine_rules.specs.Actors.{seat_at}
use Rattle.machine_rules.specs.Block.{block}
use Rattle.machine_rules.specs.Cell as rules
use Rattle.machine_rules.specs.Collect.{collect}
use Rattle.machine_rules.specs.Detect.{acked_token}
use Rattle.machine_rules.specs.Enabled.{CanHappen, IsPresentWith}
use Rattle.machine_rules.specs.Go.{go}
use Rattle.machine_rules.specs.Guards.{may_block, may_collect, may_go, may_leave, may_take}
use Rattle.machine_rules.specs.Leave.{leave}
use Rattle.machine_rules.specs.Next.{acting, next}
use Rattle.machine_rules.specs.State.{State}
use Rattle.machine_rules.specs.Take.{take}
use Rattle.machine_rules.proofs.Enabling.{enabled_exactly}
use Rattle.machine_rules.proofs.Guards.{acked_is, acked_open}
use Rattle.detector_tokens.specs.Open.{acked_by_all}
use Rattle.actor_cell.specs.Cells.{as_cell}
use Rattle.actor_table.specs.declared.slot.Slot.{Slot}
use Rattle.actor_table.specs.declared.slot.Place.{Place}
use Rattle.actor_table.specs.declared.slot.Place.TheVariants.{Home, Away, Gone}
use Rattle.actor_table.specs.Slots.{actors_of, away_of, is_away_in, may_at, may_in, seat_in, slot_at}
use Rattle.actor_table.proofs.Changing.{away_read, seat_read}
use Rattle.orca_parts.specs.Away.{is_out, is_out_for, next_without}
use Rattle.orca_core.specs.Firsts.{next_of_kind}
use Rattle.orca_parts.proofs.Preparing.{no_step}

-- ---- where no cell is away

-- an event whose actor's cell is at home leads where it does
home_same : (away : List Bool) (s : State) (e : Event) → is_out_for away e ≡ false → next_without away s e ≡ next s e
home_same away s e home = ap (λ b. if b then NotEnabled else next s e) home

-- where no cell is away, each event leads where it does
pub with_none_away : (away : List Bool) → ((a : ℕ) → is_out away a ≡ false) → next_without away ≡ next
with_none_away away home = λ i s e. home_same away s e (none e) i
  where
    none : (e : Event) → is_out_for away e ≡ false
    none (Take a) = home a
    none (Go a) = home a
    none (Collect a) = home a
    none (Leave a) = home a
    none (Block a) = home a
    none e = refl

module _ (away : List Bool) (home : (a : ℕ) → is_out away a ≡ false) (s : State) where
  -- the first event is then the first by the rules
  pub first_with_none_away : (e : Event) → IsFirst (next_without away) s e ↔ IsFirst next s e
  first_with_none_away e =
      let same = with_none_away away home in
      (subst (λ step. IsFirst step s e) same, subst (λ step. IsFirst step s e) (sym same))

  -- and a state is quiet where it is by the rules
  pub quiet_with_none_away : IsQuiet (next_without away) s ↔ IsQuiet next s
  quiet_with_none_away =
      let same = with_none_away away home in
      (subst (λ step. IsQuiet step s) same, subst (λ step. IsQuiet step s) (sym same))

-- ---- the first of a kind

-- what was found is the first enabled event of the kind while these cells are away; nothing: none is enabled
abbrev pub IsFound : (Event → Bool) → List Bool → State → Option Event → Type 0
IsFound kind away s found = MatchOption found (IsQuiet (next_of_kind kind away) s) (IsFirst (next_of_kind kind away) s)

-- every event is of this kind
abbrev pub any : Event → Bool
any e = true

-- where no cell is away, what was found of all is so by the rules
pub found_with_none_away : (away : List Bool) (s : State) (found : Option Event) → IsFound any away s found
    → ((a : ℕ) → is_out away a ≡ false) → MatchOption found (IsQuiet next s) (IsFirst next s)
found_with_none_away away s None quiet home = (quiet_with_none_away away home s).0 quiet
found_with_none_away away s (Some e) first home = (first_with_none_away away home s e).0 first

-- a step that does not count as enabled is not
shut : {S : Type 0} (step : Step S) → ¬ (step ≢ NotEnabled) → step ≡ NotEnabled
shut NotEnabled none = refl
shut IsFull none = absurd (none (λ e. cc))
shut (Goes t) none = absurd (none (λ e. cc))

-- what is enabled of a kind is of the kind, and enabled
pub of_kind : (b : Bool) (step : Step State)
    → (if b then step else NotEnabled) ≢ NotEnabled → (b ≡ true) × (step ≢ NotEnabled)
of_kind true step on = (refl, on)
of_kind false step on = absurd (on refl)

-- and the other way round
pub in_kind : (b : Bool) (step : Step State)
    → b ≡ true → step ≢ NotEnabled → (if b then step else NotEnabled) ≢ NotEnabled
in_kind true step is on = on
in_kind false step is on = cc

-- ---- what each event asks for

-- the actor's cell is at home and may; for the detector's there is a note, news, or such a token
abbrev pub Can : List Slot → State → Event → Type 0
Can slots s (Take a) = may_at may_take (slot_at slots a) ≡ true
Can slots s (Go a) = may_at may_go (slot_at slots a) ≡ true
Can slots s (Collect a) = may_at may_collect (slot_at slots a) ≡ true
Can slots s (Leave a) = may_at may_leave (slot_at slots a) ≡ true
Can slots s (Block a) = may_at may_block (slot_at slots a) ≡ true
Can slots s Hear = s.notes ≢ []
Can slots s Scan = s.detector.news ≡ true
Can slots s (Reap number) = acked_by_all s.detector number ≡ true

module _ (number : ℕ) (d : Detector) where
  -- a token that all acknowledged is there to be reaped
  acked_some : acked_by_all d number ≡ true → (t : Token) × (acked_token number d ≡ Some t)
  acked_some on = by (token_numbered number d) refl on
    where
      by : (found : Option Token) → token_numbered number d ≡ found → option_map_or all_acked found false ≡ true
          → (t : Token) × (acked_token number d ≡ Some t)
      by None is on = cc
      by (Some t) is on = (t, acked_is number d t is on)

  -- and the other way round
  some_acked : (t : Token) → acked_token number d ≡ Some t → acked_by_all d number ≡ true
  some_acked t is =
      let found = acked_open number d t is in
      ap (λ o. option_map_or all_acked o false) found.0 ∙ found.1

module _ (slots : List Slot) (away : List Bool) (s : State)
    (out : away ≡ away_of slots) (same : s.actors ≡ actors_of slots) where
  -- who may at home is not away, and is present
  here : (may : rules.Cell → List Letter → Bool) (a : ℕ) → may_at may (slot_at slots a) ≡ true
      → (is_out away a ≡ false) × IsPresentWith s a (λ c mail. may c mail ≡ true)
  here may a on = by (slot_at slots a).place refl on
    where
      x : Slot
      x = slot_at slots a

      by : (p : Place) → x.place ≡ p → may_in may p x.mail.letters ≡ true
          → (is_out away a ≡ false) × IsPresentWith s a (λ c mail. may c mail ≡ true)
      by (Home c) is on =
          let at = ap (λ xs. seat_at xs a) same ∙ seat_read slots a ∙ ap (λ p. seat_in p x.mail.letters) is in
          (ap (λ xs. is_out xs a) out ∙ away_read slots a ∙ ap is_away_in is, (as_cell c, x.mail.letters, at, on))
      by (Away c) is on = cc
      by Gone is on = cc

  -- whose event is enabled may at home
  may_here : (may : rules.Cell → List Letter → Bool) (act : rules.Cell → List Letter → Step State) (a : ℕ)
      → (if is_out away a then NotEnabled else acting may act (seat_at s.actors a)) ≢ NotEnabled
      → may_at may (slot_at slots a) ≡ true
  may_here may act a on = by (may_at may (slot_at slots a)) refl
    where
      by : (b : Bool) → may_at may (slot_at slots a) ≡ b → may_at may (slot_at slots a) ≡ true
      by true is = is
      by false is = absurd (on
          ((λ i. if is_out (out i) a then NotEnabled else acting may act (seat_at (same i) a))
          ∙ no_step may act slots a is))

  -- an event that can happen, and whose actor's cell is at home, is enabled
  home_on : (e : Event) → (is_out_for away e ≡ false) × CanHappen s e → IsEnabled (next_without away) s e
  home_on e on off = (enabled_exactly s e).1 on.1 (sym (home_same away s e on.0) ∙ off)

  -- an event that can be is enabled
  on_if : (e : Event) → Can slots s e → IsEnabled (next_without away) s e
  on_if (Take a) can = home_on (Take a) (here may_take a can)
  on_if (Go a) can = home_on (Go a) (here may_go a can)
  on_if (Collect a) can = home_on (Collect a) (here may_collect a can)
  on_if (Leave a) can = home_on (Leave a) (here may_leave a can)
  on_if (Block a) can = home_on (Block a) (here may_block a can)
  on_if Hear can = home_on Hear (refl, can)
  on_if Scan can = home_on Scan (refl, can)
  on_if (Reap number) can = home_on (Reap number) (refl, acked_some number s.detector can)

  -- an event that is enabled can be
  only_if : (e : Event) → IsEnabled (next_without away) s e → Can slots s e
  only_if (Take a) on = may_here may_take (take s a) a on
  only_if (Go a) on = may_here may_go (go s.options.trace s a) a on
  only_if (Collect a) on = may_here may_collect (collect s.options.trace s a) a on
  only_if (Leave a) on = may_here may_leave (leave s a) a on
  only_if (Block a) on = may_here may_block (block s a) a on
  only_if Hear on = (enabled_exactly s Hear).0 on
  only_if Scan on = (enabled_exactly s Scan).0 on
  only_if (Reap number) on = let z = (enabled_exactly s (Reap number)).0 on in some_acked number s.detector z.0 z.1

  -- an event is enabled exactly where it can be
  pub enabled_here : (e : Event) → IsEnabled (next_without away) s e ↔ Can slots s e
  enabled_here e = (only_if e, on_if e)

  -- the first of a kind is one that can be, and no other that can be comes before it
  pub first_of_kind : (kind : Event → Bool) (e : Event) → kind e ≡ true → Can slots s e
      → ((f : Event) → kind f ≡ true → Can slots s f → Upto e f) → IsFirst (next_of_kind kind away) s e
  first_of_kind kind e is can least = record {
    enabled = in_kind (kind e) (next_without away s e) is (on_if e can);
    least = λ f on. let z = of_kind (kind f) (next_without away s f) on in least f z.0 (only_if f z.1);
  }

  -- none of a kind is enabled where none can be
  pub quiet_of_kind : (kind : Event → Bool) → ((f : Event) → kind f ≡ true → ¬ Can slots s f)
      → IsQuiet (next_of_kind kind away) s
  quiet_of_kind kind none f = shut (next_of_kind kind away s f)
      (λ on. let z = of_kind (kind f) (next_without away s f) on in none f z.0 (only_if f z.1))
