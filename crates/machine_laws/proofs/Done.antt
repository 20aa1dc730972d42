-- A reap takes members that are done: none of their events is enabled.
use Rattle.std.proofs.Common.{◌≡◌, ◌≢◌, ℕ, true, false, Option, Some, None, List, [], refl, ap, sym, ◌∙◌}
use Rattle.std.proofs.lemmas.Bool.{false≢true}
use Rattle.event_rule.specs.declared.event.Event.{Event}
use Rattle.event_rule.specs.declared.event.Event.TheVariants.{Take, Go, Collect, Leave, Block, Reap}
use Rattle.letter_kinds.specs.Detector.{Token}
use Rattle.letter_kinds.specs.Letters.{Letter}
use Rattle.machine_rules.proofs.Enabling.{enabled_exactly}
use Rattle.count_laws.proofs.balance.Seats.{some_seat}
use Rattle.machine_rules.specs.Actors.{Seat, cell_of, letters_of, seat, seat_at}
use Rattle.count_laws.specs.Apart.{HasNoEvent}
use Rattle.event_rule.specs.Events.{actor_of}
use Rattle.machine_rules.specs.Cell.{Cell}
use Rattle.machine_rules.specs.Enabled.{CanHappen}
use Rattle.event_rule.specs.Runs.{Step, NotEnabled, IsFull, Goes}
use Rattle.machine_rules.specs.Next.{next}
use Rattle.machine_rules.specs.State.{State}
use Rattle.detector_laws.proofs.Acked.{acked_bare, acked_sealed}
use Rattle.detector_laws.proofs.Cells.{same_some, some_not_none}
use Rattle.detector_laws.proofs.Named.{numbered_is_open}
use Rattle.detector_laws.specs.Reports.{IsBlocked}
use Rattle.machine_laws.proofs.Seen.{world}
use Rattle.machine_laws.proofs.WholeRuns.{run_has_facts}
use Rattle.machine_laws.specs.Reaps.{IsDone, ReapsTakeTheDone, RunsReapTheDone}
use Rattle.machine_rules.proofs.Guards.{acked_open, collector, framed, leaver, may_report, taker}
use Rattle.turn_rules.specs.declared.act.Frame.{Frame}

-- what can't happen is not enabled
off : (s : State) (e : Event) → ¬ CanHappen s e → next s e ≡ NotEnabled
off s e never = by_step (next s e) (λ on. never ((enabled_exactly s e).0 on))
  where
    by_step : (step : Step State) → ¬ (step ≢ NotEnabled) → step ≡ NotEnabled
    by_step NotEnabled h = refl
    by_step IsFull h = absurd (h (λ e. cc))
    by_step (Goes t) h = absurd (h (λ e. cc))

none_some : (f : Frame) → None ≢ Some f
none_some f e = cc

module _ (s : State) (a : ℕ) (c : Cell) (at : seat_at s.actors a ≡ seat c []) (reported : c.reported ≡ true) (idle : c.frame ≡ None) (clean : c.dirty ≡ false) where
  -- who is present with this cell and these letters is that one
  there : (d : Cell) (mail : List Letter) → seat_at s.actors a ≡ seat d mail → (c ≡ d) × ([] ≡ mail)
  there d mail now = some_seat c d [] mail (sym at ∙ now)

  never : (e : Event) → actor_of e ≡ Some a → ¬ CanHappen s e
  never (Take b) mine (d, mail, now, may) =
      let same : b ≡ a = cc in (taker d mail may).1 (sym (there d mail (ap (seat_at s.actors) (sym same) ∙ now)).1)
  never (Go b) mine (d, mail, now, may) =
      let same : b ≡ a = cc in
      let f = framed d mail may in
      none_some f.0 (sym idle ∙ ap (λ (q : Cell). q.frame) (there d mail (ap (seat_at s.actors) (sym same) ∙ now)).0 ∙ f.1)
  never (Collect b) mine (d, mail, now, may) =
      let same : b ≡ a = cc in false≢true (sym clean ∙ (ap (λ (q : Cell). q.dirty) (there d mail (ap (seat_at s.actors) (sym same) ∙ now)).0 ∙ (collector d mail may).1))
  never (Leave b) mine (d, mail, now, may) =
      let same : b ≡ a = cc in false≢true (sym (leaver d mail may).0.unreported ∙ (ap (λ (q : Cell). q.reported) (sym (there d mail (ap (seat_at s.actors) (sym same) ∙ now)).0) ∙ reported))
  never (Block b) mine (d, mail, now, may) =
      let same : b ≡ a = cc in false≢true (sym (may_report d mail may).unreported ∙ (ap (λ (q : Cell). q.reported) (sym (there d mail (ap (seat_at s.actors) (sym same) ∙ now)).0) ∙ reported))
  never e mine can = cc

  has_no_event : HasNoEvent s a
  has_no_event e mine = off s e (never e mine)

done : (s : State) (a : ℕ) (o : Option Seat) → seat_at s.actors a ≡ o → IsBlocked (cell_of o) → letters_of o ≡ [] → IsDone s a
done s a None at blocked bare = absurd (some_not_none blocked.here refl)
done s a (Some o) at blocked bare =
    let same : blocked.cell ≡ o.cell = same_some blocked.here refl in
    let here : seat_at s.actors a ≡ seat o.cell [] = at ∙ ap (seat o.cell) bare in
    let reported = ap (λ (q : Cell). q.reported) (sym same) ∙ blocked.reported in
    let idle = ap (λ (q : Cell). q.frame) (sym same) ∙ blocked.idle in
    let clean = ap (λ (q : Cell). q.dirty) (sym same) ∙ blocked.clean in
    record {
      cell = o.cell;
      present = here;
      reported = reported;
      idle = idle;
      clean = clean;
      unpinned = ap (λ (q : Cell). q.fields.pinned) (sym same) ∙ blocked.unpinned;
      still = has_no_event s a o.cell here reported idle clean;
    }

pub reaps_take_the_done : ReapsTakeTheDone
reaps_take_the_done trace p s facts number on =
    let can = (enabled_exactly s (Reap number)).0 on in
    let t : Token = can.0 in
    let found = acked_open number s.detector t can.1 in
    let is_open = (numbered_is_open s.detector number t found.0).0 in
    let sealed = acked_sealed (world s) t facts.detector.tokens is_open found.1 in
    record {
      token = t;
      is_open = found.0;
      sealed = sealed;
      done = λ a member. done s a (seat_at s.actors a) refl (sealed a member).blocked (acked_bare (world s) t facts.detector.tokens is_open found.1 a member);
    }

pub runs_reap_the_done : RunsReapTheDone
runs_reap_the_done program options heavy book s run number on =
    let facts = run_has_facts program options heavy book s run in
    reaps_take_the_done options.trace facts.0 s facts.2 number on
