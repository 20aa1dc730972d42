-- Each event that leads to a state does so by one of the rules.
use Rattle.std.proofs.Common.{◌≡◌, ◌≢◌, ℕ, nat_lt, Bool, true, false, Option, Some, None, List, [], ◌∷◌, length, ltb-true, refl, sym, ◌∙◌, subst}
use Rattle.std.specs.Option.{option_map_or}
use Rattle.std.specs.Prelude.{if◌then◌else◌}
use Rattle.orca_names.specs.declared.names.Thing.{Thing}
use Rattle.orca_names.specs.declared.names.Value.{Value}
use Rattle.turn_rules.specs.declared.act.Act.{Act}
use Rattle.turn_rules.specs.declared.act.Act.TheVariants.{Post, New, Print, End}
use Rattle.turn_rules.specs.declared.act.Frame.{Frame}
use Rattle.turn_rules.specs.Segment.{Stop}
use Rattle.event_rule.specs.Runs.{Step, NotEnabled, IsFull, Goes}
use Rattle.event_rule.specs.declared.event.Event.{Event}
use Rattle.event_rule.specs.declared.event.Event.TheVariants.{Take, Go, Collect, Leave, Block, Hear, Scan, Reap}
use Rattle.event_rule.proofs.Steps.{goes_to, not_enabled, not_full}
use Rattle.letter_kinds.specs.Letters.{Letter}
use Rattle.letter_kinds.specs.declared.note.Note.{Note}
use Rattle.letter_kinds.specs.Counting.{Loaded}
use Rattle.letter_kinds.specs.Detector.{Token}
use Rattle.plain_rules.specs.Machine.{with_name}
use Rattle.machine_rules.specs.Actors.{seat, seat_at}
use Rattle.machine_rules.specs.Block.{block}
use Rattle.machine_rules.specs.Cell.{Cell, fresh_cell}
use Rattle.machine_rules.specs.Collect.{collect}
use Rattle.machine_rules.specs.Detect.{acked_token, hear, reap, scan}
use Rattle.machine_rules.specs.Go.{done_by, go, lacking_from, load_from, make, needed, needing, post_or_mint, rows_from, turn_in, turn_of_cell, with_turn_kept}
use Rattle.machine_rules.specs.Guards.{may_block, may_collect, may_go, may_leave, may_take}
use Rattle.machine_rules.specs.Leave.{leave}
use Rattle.machine_rules.specs.Next.{acting, next, next_by}
use Rattle.orca_names.specs.declared.trace.Trace.{Trace}
use Rattle.machine_rules.specs.Rules.{IsGoing, IsStep, blocks, collects, ends, gets, hears, cell_kept, cell_kept_in, later_frame, leaves, makes, mints, posts, prints, reaps, scans, takes}
use Rattle.machine_rules.specs.State.{State}
use Rattle.machine_rules.specs.Take.{take}
use Rattle.machine_rules.proofs.Acting.{Acts, acts}
use Rattle.machine_rules.proofs.Guards.{taker}

module _ (trace : Trace) (s t : State) where
  abbrev Steps : Event → State → Type 0
  Steps e u = IsStep trace s e u

  arrived : (e : Event) (u : State) → Goes u ≡ Goes t → Steps e u → Steps e t
  arrived e u goes step = subst (Steps e) (goes_to u t goes) step

  enabled : (step : Step State) → step ≡ Goes t → step ≢ NotEnabled
  enabled step goes off = not_enabled t (sym off ∙ goes)

  -- ---- take

  on_take : (a : ℕ) (c : Cell) (mail : List Letter) → seat_at s.actors a ≡ seat c mail → c.frame ≡ None → take s a c mail ≡ Goes t → Steps (Take a) t
  on_take a c [] at idle e = absurd (not_enabled t e)
  on_take a c (letter ∷ mail) at idle e = arrived (Take a) _ e (takes a c letter mail at idle)

  -- ---- go

  module _ (a : ℕ) (c : Cell) (mail : List Letter) (f : Frame) (going : IsGoing s a c mail f) (held : needed trace s.program a c f ≡ None) where
    abbrev stop : Stop
    stop = turn_of_cell trace s.program a c f

    abbrev after : Cell
    after = cell_kept trace s a c f

    on_post : (to behaviour : ℕ) (args : List Value) → stop.act ≡ Post to behaviour args → (lacked : List Loaded) → lacking_from trace a after.holdings args ≡ lacked
        → Steps (Go a) (post_or_mint s a c after mail stop to behaviour args (load_from trace a after.holdings args) (rows_from trace a after args) lacked)
    on_post to behaviour args is [] l = posts a c mail f to behaviour args (record { going = going; held = held; stop = is }) l
    on_post to behaviour args is (y ∷ ys) l = mints a c mail f to behaviour args y ys (record { going = going; held = held; stop = is }) l

    on_new : (kind register : ℕ) → stop.act ≡ New kind register → (room : Bool) → nat_lt (length s.actors) 65536 ≡ room
        → (if room
        then Goes (with_turn_kept s stop (make s.options.weight a (cell_kept_in trace s a c f (with_name (later_frame trace s a c f) register (length s.actors))) mail (fresh_cell s.options.weight s.program kind) s.actors))
        else IsFull) ≡ Goes t → Steps (Go a) t
    on_new kind register is true room e =
        arrived (Go a) _ e (makes a c mail f kind register (record { going = going; held = held; stop = is }) (ltb-true (length s.actors) 65536 room))
    on_new kind register is false full e = absurd (not_full t e)

    on_act : (act : Act) → stop.act ≡ act → done_by trace s a c mail (later_frame trace s a c f) stop act ≡ Goes t → Steps (Go a) t
    on_act End is e = arrived (Go a) _ e (ends a c mail f (record { going = going; held = held; stop = is }))
    on_act (Print v) is e = arrived (Go a) _ e (prints a c mail f v (record { going = going; held = held; stop = is }))
    on_act (New kind register) is e = on_new kind register is (nat_lt (length s.actors) 65536) refl e
    on_act (Post to behaviour args) is e = arrived (Go a) _ e (on_post to behaviour args is (lacking_from trace a after.holdings args) refl)

  on_turn : (a : ℕ) (c : Cell) (mail : List Letter) (f : Frame) → IsGoing s a c mail f → (found : Option Thing) → needed trace s.program a c f ≡ found
      → needing s a c mail found (done_by trace s a c mail (later_frame trace s a c f) (turn_of_cell trace s.program a c f) (turn_of_cell trace s.program a c f).act) ≡ Goes t → Steps (Go a) t
  on_turn a c mail f going None held e = on_act a c mail f going held (turn_of_cell trace s.program a c f).act refl e
  on_turn a c mail f going (Some x) need e = arrived (Go a) _ e (gets a c mail f x going need)

  on_go : (a : ℕ) (c : Cell) (mail : List Letter) → seat_at s.actors a ≡ seat c mail → (f : Option Frame) → c.frame ≡ f
      → option_map_or (turn_in trace s a c mail) f NotEnabled ≡ Goes t → Steps (Go a) t
  on_go a c mail at None is e = absurd (not_enabled t e)
  on_go a c mail at (Some f) is e = on_turn a c mail f (record { present = at; framed = is }) (needed trace s.program a c f) refl e

  -- ---- the detector's events

  on_hear : (later : List Note) → s.notes ≡ later → hear s later ≡ Goes t → Steps Hear t
  on_hear [] is e = absurd (not_enabled t e)
  on_hear (note ∷ later) is e = arrived Hear _ e (hears note later is)

  on_scan : (news : Bool) → s.detector.news ≡ news → (if news then scan s else NotEnabled) ≡ Goes t → Steps Scan t
  on_scan false is e = absurd (not_enabled t e)
  on_scan true is e = arrived Scan _ e (scans is)

  on_reap : (number : ℕ) (found : Option Token) → acked_token number s.detector ≡ found → option_map_or (reap s) found NotEnabled ≡ Goes t → Steps (Reap number) t
  on_reap number None is e = absurd (not_enabled t e)
  on_reap number (Some token) is e = arrived (Reap number) _ e (reaps number token is)

  -- ---- all events

  -- the actor acts, so it is present and may
  actor_acts : (a : ℕ) (may : Cell → List Letter → Bool) (act : Cell → List Letter → Step State) → acting may act (seat_at s.actors a) ≡ Goes t → Acts may act (seat_at s.actors a)
  actor_acts a may act e = acts may act (seat_at s.actors a) (enabled _ e)

  pub is_step : (e : Event) → next_by trace s e ≡ Goes t → IsStep trace s e t
  is_step (Take a) e =
      let z = actor_acts a may_take (take s a) e in
      on_take a z.cell z.mail z.at (taker z.cell z.mail z.allowed).0 (sym z.same ∙ e)
  is_step (Go a) e =
      let z = actor_acts a may_go (go trace s a) e in
      on_go a z.cell z.mail z.at z.cell.frame refl (sym z.same ∙ e)
  is_step (Collect a) e =
      let z = actor_acts a may_collect (collect trace s a) e in
      arrived (Collect a) _ (sym z.same ∙ e) (collects a z.cell z.mail z.at z.allowed)
  is_step (Leave a) e =
      let z = actor_acts a may_leave (leave s a) e in
      arrived (Leave a) _ (sym z.same ∙ e) (leaves a z.cell z.mail z.at z.allowed)
  is_step (Block a) e =
      let z = actor_acts a may_block (block s a) e in
      arrived (Block a) _ (sym z.same ∙ e) (blocks a z.cell z.mail z.at z.allowed)
  is_step Hear e = on_hear s.notes refl e
  is_step Scan e = on_scan s.detector.news refl e
  is_step (Reap number) e = on_reap number (acked_token number s.detector) refl e

-- the mode is that of the state
pub step_of : (s t : State) (e : Event) → next s e ≡ Goes t → IsStep s.options.trace s e t
step_of s t e goes = is_step s.options.trace s t e goes
