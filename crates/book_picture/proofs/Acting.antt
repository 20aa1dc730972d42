-- What an actor's event leaves that gives out Decs at most.
use Rattle.std.proofs.Common.{◌≡◌, ℕ, true, false, List, [], ◌∷◌, set, None, refl, sym, ap, subst, ◌∙◌, get_or-set_other}
use Rattle.std.specs.Prelude.{◌&&◌, is_none}
use Rattle.event_rule.proofs.Steps.{goes_to}
use Rattle.event_rule.specs.Runs.{Step, Goes}
use Rattle.event_rule.specs.declared.event.Event.TheVariants.{Take, Collect, Leave, Block}
use Rattle.behaviour_code.specs.declared.code.Program.{Program}
use Rattle.letter_kinds.specs.Detector.{has, token_numbered}
use Rattle.letter_kinds.specs.Reports.{kept_report}
use Rattle.machine_rules.proofs.Acting.{acting-is}
use Rattle.machine_rules.specs.Actors.{seat, seat_at}
use Rattle.machine_rules.specs.Block.{block}
use Rattle.machine_rules.specs.Guards.{may_block, may_take}
use Rattle.machine_rules.specs.Next.{next}
use Rattle.machine_rules.specs.Options.{Options}
use Rattle.machine_rules.specs.State.{State}
use Rattle.machine_rules.specs.Take.{take}
use Rattle.count_laws.proofs.away.Untouched.{spared_first}
use Rattle.actor_cell.specs.Cells.{as_cell}
use Rattle.actor_cell.specs.Outs.{decs_to}
use Rattle.actor_cell.specs.Pushing.{push_all}
use Rattle.actor_cell.specs.Sweeps.{swept}
use Rattle.actor_table.specs.Slots.{slot_at}
use Rattle.orca_parts.specs.Fits.{FitsBlock, FitsCollect, FitsLeave, FitsTake}
use Rattle.orca_parts.specs.Parts.{state_of}
use Rattle.orca_parts.specs.Touched.{receivers}
use Rattle.orca_parts.specs.declared.parts.Parts.{Parts}
use Rattle.orca_parts.proofs.Giving.{seat_here}
use Rattle.orca_parts.proofs.Stepped.{collect_goes, leave_goes}
use Rattle.book_picture.specs.Leaving.{LeavesOthers}
use Rattle.book_picture.proofs.Seats.{decs_leave, not_one}

-- what holds of the state to which an event leads holds of the one to which it was seen to lead
pub there : (P : State → Type 0) (step : Step State) (u t : State) → step ≡ Goes u → step ≡ Goes t → P u → P t
there P step u t goes seen = subst P (goes_to u t (sym goes ∙ seen))

-- where the detector is as before, no report and no token is another
pub only_seats : (names : List ℕ) (s t : State) → t.detector ≡ s.detector
    → ((a : ℕ) → has names a ≡ false → seat_at t.actors a ≡ seat_at s.actors a) → LeavesOthers names None s t
only_seats names s t same seats = record {
  seats = seats;
  reports = λ a out. ap (λ d. kept_report d.kept a) same;
  tokens = λ n other. ap (token_numbered n) same;
}

module _ (options : Options) (program : Program) (m : Parts) (a : ℕ) (t : State) where
  abbrev s : State
  s = state_of program options m

  pub take_leaves : FitsTake a m → next s (Take a) ≡ Goes t → LeavesOthers (a ∷ []) None s t
  take_leaves fits seen =
      let cell = as_cell fits.cell in
      let here = seat_here m.table.slots a fits.cell fits.home ∙ ap (seat cell) fits.letters in
      there (LeavesOthers (a ∷ []) None s) (next s (Take a)) _ t
      (acting-is may_take (take s a) (seat_at s.actors a) cell (fits.letter ∷ fits.later) here (ap (λ f. is_none f && true) fits.idle)) seen
      (only_seats (a ∷ []) s _ refl (λ b out. get_or-set_other s.actors a b _ None (not_one a b out)))

  pub collect_leaves : FitsCollect options.trace a m.sweep m → next s (Collect a) ≡ Goes t
      → LeavesOthers (a ∷ receivers m.sweep.plan.back) None s t
  collect_leaves fits seen =
      let cell = as_cell fits.acts.cell in
      let mail = (slot_at m.table.slots a).mail.letters in
      let back = m.sweep.plan.back in
      let names = a ∷ receivers back in
      let own = set s.actors a (seat (swept options.trace a cell) mail) in
      there (LeavesOthers names None s) (next s (Collect a)) _ t
      (collect_goes s a cell mail back (push_all (decs_to back) own) (seat_here m.table.slots a fits.acts.cell fits.acts.home) fits.acts.may
      fits.acts.so.back_is refl) seen
      (only_seats names s _ refl (λ b out.
      let apart = spared_first a (receivers back) b out in
      decs_leave back own b apart.1 ∙ get_or-set_other s.actors a b _ None apart.0))

  pub leave_leaves : FitsLeave a m.letters.items m → next s (Leave a) ≡ Goes t
      → LeavesOthers (a ∷ receivers m.letters.items) None s t
  leave_leaves fits seen =
      let letters = m.letters.items in
      let names = a ∷ receivers letters in
      there (LeavesOthers names None s) (next s (Leave a)) _ t
      (leave_goes s a (as_cell fits.acts.cell) (slot_at m.table.slots a).mail.letters letters (push_all (decs_to letters) (set s.actors a None))
      (seat_here m.table.slots a fits.acts.cell fits.acts.home) fits.acts.may fits.acts.so refl) seen
      (only_seats names s _ refl (λ b out.
      let apart = spared_first a (receivers letters) b out in
      decs_leave letters (set s.actors a None) b apart.1 ∙ get_or-set_other s.actors a b None None apart.0))

  pub block_leaves : FitsBlock a m → next s (Block a) ≡ Goes t → LeavesOthers (a ∷ []) None s t
  block_leaves fits seen =
      there (LeavesOthers (a ∷ []) None s) (next s (Block a)) _ t
      (acting-is may_block (block s a) (seat_at s.actors a) (as_cell fits.acts.cell) (slot_at m.table.slots a).mail.letters
      (seat_here m.table.slots a fits.acts.cell fits.acts.home) fits.acts.may) seen
      (only_seats (a ∷ []) s _ refl (λ b out. get_or-set_other s.actors a b _ None (not_one a b out)))
