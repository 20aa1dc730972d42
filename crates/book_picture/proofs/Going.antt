-- What a go leaves, by the act that was found.
use Rattle.std.proofs.Common.{◌≡◌, ◌≢◌, ℕ, [], ◌∷◌, length, Option, None, refl, sym, ◌∙◌, get_or-set_other, length-set}
use Rattle.std.proofs.lemmas.List.{length-map}
use Rattle.behaviour_code.specs.declared.code.Program.{Program}
use Rattle.event_rule.specs.Runs.{Goes}
use Rattle.event_rule.specs.declared.event.Event.TheVariants.{Go}
use Rattle.letter_kinds.specs.Letters.{Inc}
use Rattle.machine_rules.proofs.Posting.{push_other}
use Rattle.machine_rules.specs.Actors.{Seat, seat, seat_at}
use Rattle.machine_rules.specs.Cell.{fresh_cell}
use Rattle.machine_rules.specs.Next.{next}
use Rattle.machine_rules.specs.Options.{Options}
use Rattle.machine_rules.specs.State.{State}
use Rattle.count_laws.proofs.away.Untouched.{spared_first}
use Rattle.count_laws.proofs.balance.Makes.{more_other}
use Rattle.actor_cell.specs.Cells.{as_cell}
use Rattle.actor_cell.specs.Moves.{Move, Post, Mint, New, Print, End, Rest, act_in}
use Rattle.actor_table.specs.Changes.{changed_at, moved, named, with_cell_by}
use Rattle.actor_table.specs.Slots.{seat_of, slot_at}
use Rattle.orca_parts.specs.Goes.{FitsGo, given}
use Rattle.orca_parts.specs.Parts.{state_of}
use Rattle.orca_parts.specs.Touched.{reached_by}
use Rattle.orca_parts.specs.declared.parts.Parts.{Parts}
use Rattle.orca_parts.proofs.Giving.{seat_here}
use Rattle.orca_parts.proofs.Gone.{fits_limit, go_goes}
use Rattle.book_picture.specs.Leaving.{LeavesOthers}
use Rattle.book_picture.proofs.Acting.{only_seats, there}
use Rattle.book_picture.proofs.Seats.{not_one}

-- where the actor's seat changes and the act is given out, the seats of those stay whom it does not reach
module _ (weight : ℕ) (program : Program) (made : ℕ) (s : State) (a : ℕ) (change : Option Seat → Option Seat) where
  abbrev own : State
  own = record s { actors = changed_at change a s.actors }

  own_leaves : (b : ℕ) → b ≢ a → seat_at own.actors b ≡ seat_at s.actors b
  own_leaves b other = get_or-set_other s.actors a b (change (seat_at s.actors a)) None other

  -- a letter goes to one more
  one_more : (to : ℕ) (t : State) → t.detector ≡ s.detector → ((b : ℕ) → b ≢ to → seat_at t.actors b ≡ seat_at own.actors b)
      → LeavesOthers (a ∷ to ∷ []) None s t
  one_more to t same others = only_seats (a ∷ to ∷ []) s t same (λ b out.
      let apart = spared_first a (to ∷ []) b out in
      others b (not_one to b apart.1) ∙ own_leaves b apart.0)

  pub given_leaves : (act : Move) (next : ℕ) → next ≡ length s.actors
      → LeavesOthers (a ∷ reached_by act next) None s (given weight program act made own)
  given_leaves (Post to letter) next is = one_more to _ refl (λ b other. push_other own.actors to letter b other)
  given_leaves (Mint owner things) next is = one_more owner _ refl (λ b other. push_other own.actors owner (Inc things) b other)
  given_leaves (New kind register) next is =
      one_more next _ refl (λ b other.
      more_other own.actors (seat (fresh_cell weight program kind) []) b
      (λ last. other (last ∙ length-set s.actors a (change (seat_at s.actors a)) ∙ sym is)))
  given_leaves (Print value) next is = only_seats (a ∷ []) s _ refl (λ b out. own_leaves b (not_one a b out))
  given_leaves End next is = only_seats (a ∷ []) s _ refl (λ b out. own_leaves b (not_one a b out))
  given_leaves Rest next is = only_seats (a ∷ []) s _ refl (λ b out. own_leaves b (not_one a b out))

pub go_leaves : (options : Options) (program : Program) (m : Parts) (a : ℕ) (t : State) → FitsGo options program a m.turned m
    → next (state_of program options m) (Go a) ≡ Goes t
    → LeavesOthers (a ∷ reached_by (act_in m.turned) (length m.table.slots)) None (state_of program options m) t
go_leaves options program m a t fits seen =
    let s = state_of program options m in
    let act = act_in m.turned in
    let place = m.turned.place in
    let names = a ∷ reached_by act (length m.table.slots) in
    there (LeavesOthers names None s) (next s (Go a)) _ t
    (go_goes s a (as_cell fits.cell) (slot_at m.table.slots a).mail.letters fits.frame m.turn place act
    (record { present = seat_here m.table.slots a fits.cell fits.home; framed = fits.framed; found = fits.found_is }) (fits_limit act m fits.room))
    seen
    (given_leaves options.weight program (length m.turn.made) s a
    (with_cell_by (λ c. named options.weight (length s.actors) act (moved a m.turn place act c))) act (length m.table.slots)
    (sym (length-map m.table.slots seat_of)))
