-- What a pass has after it wrote that an event became an entry, or that a claim is granted.
use Rattle.std.proofs.Common.{◌≡◌, ℕ, ◌+◌, ◌<◌, length, Some, None, refl, sym, ap, ◌∙◌, subst, get_or-set_same}
use Rattle.event_rule.specs.declared.event.Event.{Event}
use Rattle.turn_log.specs.Knowing.{having_written}
use Rattle.turn_log.specs.Seats.{knows}
use Rattle.seat_hall.specs.declared.item.Item.TheVariants.{Claimed, Entered}
use Rattle.seat_hall.specs.declared.task.SeatTask.{SeatTask}
use Rattle.seat_hall.specs.Answers.{IsTaken}
use Rattle.seat_hall.specs.Fair.{after_item}
use Rattle.seat_hall.specs.Halls.{HallView}
use Rattle.seat_hall.specs.Log.{MayFollow, after, claim_cause, claim_for, claim_in, entry_cause}
use Rattle.seat_hall.specs.Passes.{HasIn, IsAtHall, IsClaimOf, KeepsCells, MayCommit, Token, out}
use Rattle.seat_hall.proofs.Causes.{event_is_free, none_for}
use Rattle.seat_hall.proofs.Claims.{not_its}
use Rattle.seat_hall.proofs.Counts.{out_claimed, out_direct}
use Rattle.seat_hall.proofs.Holding.{free_for, pass_or}
use Rattle.seat_hall.proofs.Turns.{hall_then, has_now, out_now, wrote_cells, wrote_out}

module _ (n : ℕ) (old mid : Token) (h : HallView) (at : IsAtHall n old mid h) where
  -- an event on whose actor no claim is out
  module _ (e : Event) (may : entry_cause h.logged None e ≡ None) where
    pub entry_may : MayFollow h.logged (Entered n e)
    entry_may = (at.given, none_for h.logged e n may)

    free : claim_for e h.logged.claims ≡ None
    free = event_is_free h.logged e may

    module _ (new : Token) (wrote : knows new ≡ having_written after_item (Entered n e) (knows mid)) where
      pub entry_cells : KeepsCells n old new
      entry_cells b cell has = wrote_cells n old mid new h at (Entered n e) refl wrote entry_may b cell
          (not_its e h.logged.claims b n free (has_now n old mid new h at b cell has).claimed) has

      pub entry_out : out n new ≡ out n old
      entry_out = wrote_out n old mid new h at (Entered n e) refl wrote _
          (out_direct n h.logged e free ∙ out_now n old mid new h at)

  -- a claim on an actor
  module _ (a : ℕ) (granted : claim_cause h.logged a ≡ None) where
    pub claim_may : MayFollow h.logged (Claimed n a)
    claim_may = (at.given, granted)

    module _ (new : Token) (wrote : knows new ≡ having_written after_item (Claimed n a) (knows mid)) where
      pub claim_cells : KeepsCells n old new
      claim_cells b cell has = wrote_cells n old mid new h at (Claimed n a) refl wrote claim_may b cell
          (λ same. let mine = has_now n old mid new h at b cell has in
          let clash : None ≡ Some n = sym (free_for h.logged a granted)
          ∙ (ap (λ o. claim_in h.logged.claims (pass_or 0 o)) same ∙ mine.claimed) in cc) has

      pub claim_out : a < length h.logged.claims → out n new ≡ out n old + 1
      claim_out within = wrote_out n old mid new h at (Claimed n a) refl wrote _
          (out_claimed n a h.logged within (free_for h.logged a granted)
          ∙ ap (λ (k : ℕ). k + 1) (out_now n old mid new h at))

      pub claim_owns : a < length h.logged.claims → (task : SeatTask) → IsTaken a task.taken h.logged → MayCommit n new task
      claim_owns within task is =
          let taken = task.taken in
          let l = after h.logged (Claimed n a) in
          subst (IsClaimOf n taken) (hall_then n old mid new h at (Claimed n a) refl wrote) (record {
            has = subst (λ (a : ℕ). HasIn n a taken.cell l) (sym is.owner) (record {
              claimed = get_or-set_same h.logged.claims a (Some n) None within;
              cell = is.cell;
              busy = λ none. let clash : None ≡ Some taken.event = sym none ∙ is.event in cc;
            });
            program = is.program;
            options = is.options;
          })
