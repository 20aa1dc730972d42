-- What a commit tells, whatever it answers.
use Rattle.std.proofs.Common.{◌≡◌, ℕ, ◌+◌, [], ◌∷◌, Some, Result, Ok, Err, IfOk, IfErr, refl, sym, ap, ◌∙◌}
use Rattle.atomic_table.specs.Seated.{TableId}
use Rattle.turn_log.specs.Knowing.{having_written}
use Rattle.turn_log.specs.Seats.{knows}
use Rattle.event_rule.specs.Events.{actor_of}
use Rattle.event_rule.specs.declared.event.Event.{Event}
use Rattle.actor_cell.specs.declared.cell.Cell.{Cell}
use Rattle.std.specs.Prelude.{count_by}
use Rattle.work_board.specs.declared.answers.Committed.{Committed}
use Rattle.work_board.specs.declared.answers.Refuse.{Refuse}
use Rattle.seat_hall.specs.declared.item.Item.{Item}
use Rattle.seat_hall.specs.declared.item.Item.TheVariants.{Ended, Entered}
use Rattle.seat_hall.specs.Answers.{Enters, EntersOr, RefusesEntry}
use Rattle.seat_hall.specs.Fair.{IsOwn, MayLeave, after_item}
use Rattle.seat_hall.specs.Halls.{HallView, says}
use Rattle.seat_hall.specs.Log.{MayFollow, after}
use Rattle.seat_hall.specs.Passes.{Calls, GetsTurn, HasItsCell, HasIn, IsAtHall, KeepsOthers, MakesEntry, PassesOn, StaysWithout, Token, is_of, out}
use Rattle.seat_hall.proofs.Counts.{out_committed, out_ended}
use Rattle.seat_hall.proofs.Holding.{about, pass_or}
use Rattle.seat_hall.proofs.Turns.{has_now, may_leave, out_now, writes, wrote, wrote_cells, wrote_out, wrote_stands, wrote_stays}

module _ (n a : ℕ) (old mid : Token) (h : HallView) (at : IsAtHall n old mid h) (e : Event) (c : Cell)
    (its : actor_of e ≡ Some a) (has : HasItsCell n a c old) where
  mine : HasIn n a c h.logged
  mine = has_now n old mid mid h at a c has

  -- the item ends the pass's claim
  pub record Ends (i : Item) : Type 0 where
    pub own : IsOwn n i
    pub may : MayFollow h.logged i
    pub its_actor : about i ≡ Some a
    pub less : count_by (is_of n) h.logged.claims ≡ count_by (is_of n) (after h.logged i).claims + 1

  pub entry_ends : (done : Committed) → Enters (Some n) n e done h.logged → Ends (Entered n e)
  entry_ends done enters = record {
    own = refl;
    may = (at.given, enters.may);
    its_actor = its;
    less = out_committed n a h.logged e its mine.claimed;
  }

  pub refusal_ends : Ends (Ended n a)
  refusal_ends = record {
    own = refl;
    may = (at.given, mine.claimed);
    its_actor = refl;
    less = out_ended n a h.logged mine.claimed;
  }

  -- so the pass keeps its other cells, and has one claim less
  module _ (i : Item) (ends : Ends i) (new : Token) (wrote : knows new ≡ having_written after_item i (knows mid)) where
    pub ended_cells : KeepsOthers n a old new
    ended_cells b d apart = wrote_cells n old mid new h at i ends.own wrote ends.may b d
        (λ acts. apart (ap (pass_or 0) (sym acts ∙ ends.its_actor)))

    pub ended_out : out n old ≡ out n new + 1
    ended_out = sym (out_now n old mid new h at) ∙ (ends.less
        ∙ ap (λ (k : ℕ). k + 1) (sym (wrote_out n old mid new h at i ends.own wrote _ refl)))

  -- ---- what the call tells, and the hall that it leaves

  abbrev Told : Result Committed Refuse → HallView → Type 0
  Told = EntersOr (Some n) n e h.logged (says (after h.logged (Ended n a)) (Ended n a))

  pub commit_may : (r : Result Committed Refuse) (g : HallView) → Told r g → MayLeave n (knows mid) g
  commit_may (Ok done) g told = may_leave n old mid mid h at (Entered n e) refl g (entry_ends done told.0).may told.1
  commit_may (Err refuse) g told = may_leave n old mid mid h at (Ended n a) refl g refusal_ends.may told.1

  pub record Commits (new : Token) (r : Result Committed Refuse) : Type 0 where
    pub stays : StaysWithout n a old new
    pub less : out n old ≡ out n new + 1
    pub ok : IfOk r (λ done. MakesEntry (Some n) n e done old new)
    pub refused : IfErr r (λ refuse. Calls n old new (Ended n a ∷ []) (RefusesEntry (Some n) e refuse))

  module _ (table : TableId) (new : Token) (turn : GetsTurn table n old mid h) (g : HallView)
      (passed : PassesOn n mid new (having_written after_item g.last (knows mid))) where
    pub commits : (r : Result Committed Refuse) → Told r g → Commits new r
    commits (Ok done) told =
        let i = Entered n e in let ends = entry_ends done told.0 in
        let wrote_it = wrote table n old mid new h turn i refl g told.1 passed in record {
          stays = record {
            stays = wrote_stays table n old mid new h turn i refl g told.1 passed;
            cells = ended_cells i ends new wrote_it;
          };
          less = ended_out i ends new wrote_it;
          ok = record {
            calls = writes n old mid new h at i refl wrote_it (Enters (Some n) n e done) told.0;
            stands = wrote_stands n old mid new h at e wrote_it done.place told.0.entered.place;
          };
          refused = tt;
        }
    commits (Err refuse) told =
        let i = Ended n a in let wrote_it = wrote table n old mid new h turn i refl g told.1 passed in record {
          stays = record {
            stays = wrote_stays table n old mid new h turn i refl g told.1 passed;
            cells = ended_cells i refusal_ends new wrote_it;
          };
          less = ended_out i refusal_ends new wrote_it;
          ok = tt;
          refused = writes n old mid new h at i refl wrote_it (RefusesEntry (Some n) e refuse) told.0;
        }
