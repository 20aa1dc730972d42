-- An event is enabled exactly where it can happen, and refused exactly where the machine is full.
use Rattle.std.proofs.Common.{◌≡◌, ◌≢◌, ◌≤◌, ℕ, nat_lt, Bool, true, false, Option, Some, None, List, [], ◌∷◌, is_some, length, lt-ltb, ltb-true, refl, sym, ◌∙◌, ap, arith, ⊎_elim}
use Rattle.std.specs.Option.{option_map_or}
use Rattle.std.specs.Prelude.{if◌then◌else◌}
use Rattle.std.proofs.lemmas.Bool.{cases_lt}
use Rattle.orca_names.specs.declared.names.Thing.{Thing}
use Rattle.event_rule.specs.Runs.{Step, NotEnabled, IsFull, Goes}
use Rattle.event_rule.specs.declared.event.Event.{Event}
use Rattle.event_rule.specs.declared.event.Event.TheVariants.{Take, Go, Collect, Leave, Block, Hear, Scan, Reap}
use Rattle.turn_rules.specs.Segment.{Stop}
use Rattle.turn_rules.specs.declared.act.Act.{Act}
use Rattle.turn_rules.specs.declared.act.Act.TheVariants.{Post, New, Print, End}
use Rattle.turn_rules.specs.declared.act.Frame.{Frame}
use Rattle.letter_kinds.specs.Detector.{Token}
use Rattle.letter_kinds.specs.Letters.{Letter}
use Rattle.letter_kinds.specs.declared.note.Note.{Note}
use Rattle.plain_rules.specs.Machine.{stopped_at}
use Rattle.machine_rules.specs.Actors.{seat, seat_at}
use Rattle.machine_rules.specs.Block.{block}
use Rattle.machine_rules.specs.Cell.{Cell}
use Rattle.machine_rules.specs.Collect.{collect}
use Rattle.machine_rules.specs.Detect.{acked_token, hear, reap, scan}
use Rattle.machine_rules.specs.Enabled.{CanHappen, IsPresentWith, IsRefusedAsFull}
use Rattle.machine_rules.specs.Go.{done_by, go, needed, needing, turn_in, turn_of_cell}
use Rattle.machine_rules.specs.Guards.{may_block, may_collect, may_go, may_leave, may_take}
use Rattle.machine_rules.specs.Laws.{EnabledExactly, FullExactly}
use Rattle.machine_rules.specs.Leave.{leave}
use Rattle.machine_rules.specs.Next.{acting, next}
use Rattle.orca_names.specs.declared.trace.Trace.{Trace}
use Rattle.machine_rules.specs.State.{State}
use Rattle.machine_rules.specs.Take.{take}
use Rattle.machine_rules.proofs.Acting.{Acts, acting-is, acts}
use Rattle.machine_rules.proofs.Guards.{framed, taker}

-- ---- what can be, from what is enabled

module _ (s : State) where
  present : (a : ℕ) (may : Cell → List Letter → Bool) (act : Cell → List Letter → Step State) → acting may act (seat_at s.actors a) ≢ NotEnabled
      → IsPresentWith s a (λ c mail. may c mail ≡ true)
  present a may act on = let z = acts may act (seat_at s.actors a) on in (z.cell, z.mail, z.at, z.allowed)

  can_hear : (later : List Note) → hear s later ≢ NotEnabled → later ≢ []
  can_hear [] on = absurd (on refl)
  can_hear (n ∷ later) on = λ e. cc

  can_scan : (news : Bool) → (if news then scan s else NotEnabled) ≢ NotEnabled → news ≡ true
  can_scan false on = absurd (on refl)
  can_scan true on = refl

  can_reap : (found : Option Token) → option_map_or (reap s) found NotEnabled ≢ NotEnabled → (t : Token) × (found ≡ Some t)
  can_reap None on = absurd (on refl)
  can_reap (Some t) on = (t, refl)

  can : (e : Event) → next s e ≢ NotEnabled → CanHappen s e
  can (Take a) on = present a may_take (take s a) on
  can (Go a) on = present a may_go (go s.options.trace s a) on
  can (Collect a) on = present a may_collect (collect s.options.trace s a) on
  can (Leave a) on = present a may_leave (leave s a) on
  can (Block a) on = present a may_block (block s a) on
  can Hear on = can_hear s.notes on
  can Scan on = can_scan s.detector.news on
  can (Reap number) on = can_reap (acked_token number s.detector) on

-- ---- what is enabled, from what can be

room_enables : (t : State) (room : Bool) → (if room then Goes t else IsFull) ≢ NotEnabled
room_enables t true e = cc
room_enables t false e = cc

act_enables : (trace : Trace) (s : State) (a : ℕ) (c : Cell) (mail : List Letter) (f : Frame) (stop : Stop) (act : Act) → done_by trace s a c mail f stop act ≢ NotEnabled
act_enables trace s a c mail f stop End e = cc
act_enables trace s a c mail f stop (Print v) e = cc
act_enables trace s a c mail f stop (New kind register) e = room_enables _ (nat_lt (length s.actors) 65536) e
act_enables trace s a c mail f stop (Post to behaviour args) e = cc

take_enables : (s : State) (a : ℕ) (c : Cell) (mail : List Letter) → mail ≢ [] → take s a c mail ≢ NotEnabled
take_enables s a c [] some e = some refl
take_enables s a c (l ∷ mail) some e = cc

turn_enables : (trace : Trace) (s : State) (a : ℕ) (c : Cell) (mail : List Letter) (f : Frame) (need : Option Thing)
    → needing s a c mail need (done_by trace s a c mail (stopped_at f (turn_of_cell trace s.program a c f)) (turn_of_cell trace s.program a c f) (turn_of_cell trace s.program a c f).act) ≢ NotEnabled
turn_enables trace s a c mail f None e = let stop = turn_of_cell trace s.program a c f in act_enables trace s a c mail (stopped_at f stop) stop stop.act e
turn_enables trace s a c mail f (Some x) e = cc

go_enables : (trace : Trace) (s : State) (a : ℕ) (c : Cell) (mail : List Letter) (f : Frame) → c.frame ≡ Some f → go trace s a c mail ≢ NotEnabled
go_enables trace s a c mail f is e =
    turn_enables trace s a c mail f (needed trace s.program a c f) (sym (ap (λ g. option_map_or (turn_in trace s a c mail) g NotEnabled) is) ∙ e)

hear_enables : (s : State) (later : List Note) → later ≢ [] → hear s later ≢ NotEnabled
hear_enables s [] some e = some refl
hear_enables s (n ∷ later) some e = cc

pub enabled : (s : State) (e : Event) → CanHappen s e → next s e ≢ NotEnabled
enabled s (Take a) (c, mail, at, may) off = take_enables s a c mail (taker c mail may).1 (sym (acting-is may_take (take s a) _ c mail at may) ∙ off)
enabled s (Go a) (c, mail, at, may) off =
    let f = framed c mail may in
    go_enables s.options.trace s a c mail f.0 f.1 (sym (acting-is may_go (go s.options.trace s a) _ c mail at may) ∙ off)
enabled s (Collect a) (c, mail, at, may) off = let e = sym (acting-is may_collect (collect s.options.trace s a) _ c mail at may) ∙ off in cc
enabled s (Leave a) (c, mail, at, may) off = let e = sym (acting-is may_leave (leave s a) _ c mail at may) ∙ off in cc
enabled s (Block a) (c, mail, at, may) off = let e = sym (acting-is may_block (block s a) _ c mail at may) ∙ off in cc
enabled s Hear some off = hear_enables s s.notes some off
enabled s Scan is off = let e = sym (ap (λ q. if q then scan s else NotEnabled) is) ∙ off in cc
enabled s (Reap number) (t, at) off = let e = sym (ap (λ found. option_map_or (reap s) found NotEnabled) at) ∙ off in cc

pub enabled_exactly : EnabledExactly
enabled_exactly s e = (can s e, enabled s e)

-- ---- full

room_left : (t : State) (n : ℕ) → (if nat_lt n 65536 then Goes t else IsFull) ≡ IsFull → 65536 ≤ n
room_left t n e = ⊎_elim (λ below. absurd (has_room (nat_lt n 65536) (lt-ltb n 65536 below) e)) (λ from. from) (cases_lt n 65536)
  where
    has_room : (room : Bool) → room ≡ true → (if room then Goes t else IsFull) ≢ IsFull
    has_room true is e = cc
    has_room false is e = cc

no_room : (t : State) (n : ℕ) → 65536 ≤ n → (if nat_lt n 65536 then Goes t else IsFull) ≡ IsFull
no_room t n from = by_room (nat_lt n 65536) refl
  where
    by_room : (room : Bool) → nat_lt n 65536 ≡ room → (if room then Goes t else IsFull) ≡ IsFull
    by_room true e = absurd (let below = ltb-true n 65536 e in omega arith)
    by_room false e = refl

module _ (s : State) (a : ℕ) (c : Cell) (mail : List Letter) (at : seat_at s.actors a ≡ seat c mail) (f : Frame) (framed_so : c.frame ≡ Some f) where
  abbrev trace : Trace
  trace = s.options.trace

  abbrev stop : Stop
  stop = turn_of_cell trace s.program a c f

  full_act : (act : Act) → needed trace s.program a c f ≡ None → stop.act ≡ act → done_by trace s a c mail (stopped_at f stop) stop act ≡ IsFull → IsRefusedAsFull s (Go a)
  full_act End held is e = cc
  full_act (Print v) held is e = cc
  full_act (Post to behaviour args) held is e = cc
  full_act (New kind register) held is e = record {
    actor = a;
    is_go = refl;
    cell = c;
    mail = mail;
    present = at;
    frame = f;
    framed = framed_so;
    held = held;
    kind = kind;
    register = register;
    makes = is;
    made = room_left _ (length s.actors) e;
  }

  full_turn : (need : Option Thing) → needed trace s.program a c f ≡ need → needing s a c mail need (done_by trace s a c mail (stopped_at f stop) stop stop.act) ≡ IsFull → IsRefusedAsFull s (Go a)
  full_turn None held e = full_act stop.act held refl e
  full_turn (Some x) is e = cc

  full_go : go trace s a c mail ≡ IsFull → IsRefusedAsFull s (Go a)
  full_go e = full_turn (needed trace s.program a c f) refl (sym (ap (λ g. option_map_or (turn_in trace s a c mail) g NotEnabled) framed_so) ∙ e)

  refused : (kind register : ℕ) → needed trace s.program a c f ≡ None → stop.act ≡ New kind register → 65536 ≤ length s.actors → go trace s a c mail ≡ IsFull
  refused kind register held makes from =
      ap (λ g. option_map_or (turn_in trace s a c mail) g NotEnabled) framed_so
      ∙ ap (λ need. needing s a c mail need (done_by trace s a c mail (stopped_at f stop) stop stop.act)) held
      ∙ ap (done_by trace s a c mail (stopped_at f stop) stop) makes ∙ no_room _ (length s.actors) from

-- ---- none but a go

on : (step : Step State) → step ≡ IsFull → step ≢ NotEnabled
on step full off = let e : NotEnabled ≡ IsFull = sym off ∙ full in cc

take_not_full : (s : State) (a : ℕ) (c : Cell) (mail : List Letter) → take s a c mail ≢ IsFull
take_not_full s a c [] e = cc
take_not_full s a c (l ∷ mail) e = cc

hear_not_full : (s : State) (later : List Note) → hear s later ≢ IsFull
hear_not_full s [] e = cc
hear_not_full s (n ∷ later) e = cc

scan_not_full : (s : State) (news : Bool) → (if news then scan s else NotEnabled) ≢ IsFull
scan_not_full s false e = cc
scan_not_full s true e = cc

reap_not_full : (s : State) (found : Option Token) → option_map_or (reap s) found NotEnabled ≢ IsFull
reap_not_full s None e = cc
reap_not_full s (Some t) e = cc

module _ (s : State) where
  -- the actor acts, so it is present and may
  actor_acts : (a : ℕ) (may : Cell → List Letter → Bool) (act : Cell → List Letter → Step State) → acting may act (seat_at s.actors a) ≡ IsFull → Acts may act (seat_at s.actors a)
  actor_acts a may act e = acts may act (seat_at s.actors a) (on _ e)

  pub full : (e : Event) → next s e ≡ IsFull → IsRefusedAsFull s e
  full (Take a) e = let z = actor_acts a may_take (take s a) e in absurd (take_not_full s a z.cell z.mail (sym z.same ∙ e))
  full (Go a) e =
      let z = actor_acts a may_go (go s.options.trace s a) e in
      let f = framed z.cell z.mail z.allowed in
      full_go s a z.cell z.mail z.at f.0 f.1 (sym z.same ∙ e)
  full (Collect a) e = let z = actor_acts a may_collect (collect s.options.trace s a) e in let off = sym z.same ∙ e in cc
  full (Leave a) e = let z = actor_acts a may_leave (leave s a) e in let off = sym z.same ∙ e in cc
  full (Block a) e = let z = actor_acts a may_block (block s a) e in let off = sym z.same ∙ e in cc
  full Hear e = absurd (hear_not_full s s.notes e)
  full Scan e = absurd (scan_not_full s s.detector.news e)
  full (Reap number) e = absurd (reap_not_full s (acked_token number s.detector) e)

is_full : (s : State) (e : Event) → IsRefusedAsFull s e → next s e ≡ IsFull
is_full s e r =
    ap (next s) r.is_go
    ∙ acting-is may_go (go s.options.trace s r.actor) _ r.cell r.mail r.present (ap is_some r.framed)
    ∙ refused s r.actor r.cell r.mail r.present r.frame r.framed r.kind r.register r.held r.makes r.made

pub full_exactly : FullExactly
full_exactly s e = (full s e, is_full s e)
