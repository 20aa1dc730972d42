-- What a go leads to, by the act that was found.
use Rattle.std.proofs.Common.{◌≡◌, ◌+◌, ◌-◌, ◌<◌, ℕ, nat_lt, List, [], ◌∷◌, ◌++◌, length, set, set-set, Some, refl, sym, ap, ◌∙◌, arith, lt-ltb}
use Rattle.std.specs.Prelude.{if◌then◌else◌, is_some, option_map, ⊤}
use Rattle.std.specs.Option.{option_map_or}
use Rattle.std.proofs.lemmas.List.{append-nil, length-map, length-set}
use Rattle.orca_names.specs.declared.limits.TheConstants.{ACTORS_LIMIT}
use Rattle.orca_names.specs.declared.names.Value.{Value}
use Rattle.turn_rules.specs.Segment as segment
use Rattle.turn_rules.specs.declared.act.Frame.{Frame}
use Rattle.event_rule.specs.declared.event.Event.TheVariants.{Go}
use Rattle.event_rule.specs.Runs.{Goes, IsFull, NotEnabled}
use Rattle.letter_kinds.specs.Letters.{Letter, Inc}
use Rattle.letter_kinds.specs.Counting.{Amount}
use Rattle.letter_kinds.specs.Holdings.{with_made}
use Rattle.machine_rules.specs.Actors.{Actors, push_letter, seat, seat_at}
use Rattle.machine_rules.specs.Cell.{Cell, fresh_cell}
use Rattle.machine_rules.specs.Go.{go}
use Rattle.machine_rules.specs.Guards.{may_go}
use Rattle.machine_rules.specs.Next.{next}
use Rattle.machine_rules.specs.State.{State}
use Rattle.machine_rules.proofs.Acting.{acting-is}
use Rattle.actor_cell.specs.Cells.{settled}
use Rattle.actor_cell.specs.Goes.{IsTold, cell_by, gone_by, load_in, turned_in}
use Rattle.actor_cell.specs.Laws.{after_go}
use Rattle.actor_cell.specs.Moves.{Move, Post, Mint, New, Print, End, Rest}
use Rattle.actor_table.specs.Changes.{changed_at, moved, named, with_cell_by}
use Rattle.actor_table.specs.Slots.{actors_of, seat_of}
use Rattle.orca_parts.specs.declared.parts.Parts.{Parts}
use Rattle.orca_parts.specs.Goes.{HasRoomOut, given}
use Rattle.actor_cell.proofs.Telling.{told_gone}
use Rattle.actor_cell.proofs.GoParts.{gone, next-mint_all, next-send}

-- where the act makes an actor, which one act alone does, fewer are made than may be
abbrev pub FitsLimit : Move → ℕ → Type 0
FitsLimit (New kind register) made = made < ACTORS_LIMIT
FitsLimit act made = ⊤

pub fits_limit : (act : Move) (parts : Parts) → HasRoomOut act parts → FitsLimit act (length (actors_of parts.table.slots))
fits_limit (New kind register) parts room = omega (arith, room.0, length-map parts.table.slots seat_of)
fits_limit act parts room = tt

-- an actor that is present has a frame, and this was found of its turn
pub record Going (s : State) (a : ℕ) (c : Cell) (mail : List Letter) (frame : Frame) (turn : segment.Turn) (place : ℕ) (act : Move) : Type 0 where
  pub present : seat_at s.actors a ≡ seat c mail
  pub framed : c.frame ≡ Some frame
  pub found : IsTold s.options s.program a c turn place act frame

module _ (s : State) (a : ℕ) (c : Cell) (mail : List Letter) (frame : Frame) (turn : segment.Turn) (place : ℕ) where
  -- the state after it is that of the parts
  went : (act : Move) → Going s a c mail frame turn place act
      → next s (Go a) ≡ after_go s a c mail (gone_by a c frame (record { turn = turn; place = place; act = act }))
  went act going =
      let trace = s.options.trace in
      acting-is may_go (go trace s a) (seat_at s.actors a) c mail going.present (ap is_some going.framed)
      ∙ gone trace s a c mail
      ∙ ap (λ o. option_map_or (after_go s a c mail) (option_map (λ f. gone_by a c f (turned_in s.options s.program a c f)) o) NotEnabled) going.framed
      ∙ ap (λ t. after_go s a c mail (gone_by a c frame t)) going.found ∙ ap (after_go s a c mail) (told_gone frame c turn place a act)

  -- the cell after it, in its seat
  abbrev after : Move → Actors
  after act = set s.actors a (seat (cell_by a c frame turn place act) mail)

  more : (next : ℕ) → next ≡ c.holdings.next + length turn.made → s.objects + (next - c.holdings.next) ≡ s.objects + length turn.made
  more next is = omega (arith, is)

  pub post_goes : (to : ℕ) (letter : Letter) (actors : Actors) (objects : ℕ) → Going s a c mail frame turn place (Post to letter)
      → actors ≡ push_letter to letter (after (Post to letter)) → objects ≡ s.objects + length turn.made
      → next s (Go a) ≡ Goes (record s { actors = actors; objects = objects })
  post_goes to letter actors objects going is made =
      let load = load_in letter in
      let h = with_made turn.made c.holdings in
      went (Post to letter) going ∙ (λ i. Goes (record s {
        actors = sym is i;
        notes = append-nil s.notes i;
        objects = (more (cell_by a c frame turn place (Post to letter)).holdings.next (next-send a load h) ∙ sym made) i;
      }))

  pub mint_goes : (owner : ℕ) (things : List Amount) (actors : Actors) → Going s a c mail frame turn place (Mint owner things)
      → actors ≡ push_letter owner (Inc things) (after (Mint owner things))
      → next s (Go a) ≡ Goes (record s { actors = actors })
  mint_goes owner things actors going is =
      let same : s.objects + ((cell_by a c frame turn place (Mint owner things)).holdings.next - c.holdings.next) ≡ s.objects = (let z = next-mint_all things c.holdings in omega arith) in
      went (Mint owner things) going ∙ (λ i. Goes (record s { actors = sym is i; notes = append-nil s.notes i; objects = same i }))

  pub print_goes : (value : Value) (actors : Actors) (prints : List Value) (objects : ℕ) → Going s a c mail frame turn place (Print value)
      → actors ≡ after (Print value) → prints ≡ s.prints ++ value ∷ [] → objects ≡ s.objects + length turn.made
      → next s (Go a) ≡ Goes (record s { actors = actors; prints = prints; objects = objects })
  print_goes value actors prints objects going is printed made =
      went (Print value) going ∙ (λ i. Goes (record s {
        actors = sym is i;
        notes = append-nil s.notes i;
        prints = sym printed i;
        objects = (more (c.holdings.next + length turn.made) refl ∙ sym made) i;
      }))

  pub end_goes : (actors : Actors) (objects : ℕ) → Going s a c mail frame turn place End
      → actors ≡ after End → objects ≡ s.objects + length turn.made
      → next s (Go a) ≡ Goes (record s { actors = actors; objects = objects })
  end_goes actors objects going is made =
      went End going ∙ (λ i. Goes (record s {
        actors = sym is i;
        notes = append-nil s.notes i;
        objects = (more (c.holdings.next + length turn.made) refl ∙ sym made) i;
      }))

  pub rest_goes : (actors : Actors) (objects : ℕ) → Going s a c mail frame turn place Rest
      → actors ≡ after Rest → objects ≡ s.objects + length turn.made
      → next s (Go a) ≡ Goes (record s { actors = actors; objects = objects })
  rest_goes actors objects going is made =
      went Rest going ∙ (λ i. Goes (record s {
        actors = sym is i;
        notes = append-nil s.notes i;
        objects = (more (c.holdings.next + length turn.made) refl ∙ sym made) i;
      }))

  -- where there is room for one actor more
  pub new_goes : (kind register : ℕ) (actors : Actors) (objects : ℕ) → Going s a c mail frame turn place (New kind register)
      → length s.actors < ACTORS_LIMIT
      → actors ≡ set s.actors a (seat (settled s.options.weight register (length s.actors) (cell_by a c frame turn place (New kind register))) mail)
      ++ seat (fresh_cell s.options.weight s.program kind) [] ∷ []
      → objects ≡ s.objects + length turn.made
      → next s (Go a) ≡ Goes (record s { actors = actors; objects = objects })
  new_goes kind register actors objects going few is made =
      let cell = cell_by a c frame turn place (New kind register) in
      let long : length (after (New kind register)) ≡ length s.actors = length-set s.actors a (seat cell mail) in
      let t : State = record s { actors = actors; objects = objects } in
      went (New kind register) going
      ∙ (λ i. if nat_lt (long i) ACTORS_LIMIT then Goes (record s {
        actors = set (after (New kind register)) a (seat (settled s.options.weight register (long i) cell) mail) ++ seat (fresh_cell s.options.weight s.program kind) [] ∷ [];
        notes = append-nil s.notes i;
        objects = more (c.holdings.next + length turn.made) refl i;
      }) else IsFull)
      ∙ ap (λ q. if q then Goes (record s {
        actors = set (after (New kind register)) a (seat (settled s.options.weight register (length s.actors) cell) mail) ++ seat (fresh_cell s.options.weight s.program kind) [] ∷ [];
        objects = s.objects + length turn.made;
      }) else IsFull) (lt-ltb (length s.actors) ACTORS_LIMIT few)
      ∙ (λ i. Goes (record s {
        actors = (ap (λ xs. xs ++ seat (fresh_cell s.options.weight s.program kind) [] ∷ []) (set-set s.actors a (seat cell mail) (seat (settled s.options.weight register (length s.actors) cell) mail)) ∙ sym is) i;
        objects = sym made i;
      }))

-- what the parts lead to, once the cell is that after the turn, and an actor that this makes has its name
pub go_goes : (s : State) (a : ℕ) (c : Cell) (mail : List Letter) (frame : Frame) (turn : segment.Turn) (place : ℕ) (act : Move)
    → Going s a c mail frame turn place act → FitsLimit act (length s.actors)
    → next s (Go a) ≡ Goes (given s.options.weight s.program act (length turn.made)
    (record s { actors = changed_at (with_cell_by (λ x. named s.options.weight (length s.actors) act (moved a turn place act x))) a s.actors }))
go_goes s a c mail frame turn place act going few = by act going few
  where
    weight : ℕ
    weight = s.options.weight

    after_by : Move → Actors
    after_by does = changed_at (with_cell_by (λ x. named weight (length s.actors) does (moved a turn place does x))) a s.actors

    is_moved : (does : Move) → Going s a c mail frame turn place does
        → after_by does ≡ set s.actors a (seat (named weight (length s.actors) does (cell_by a c frame turn place does)) mail)
    is_moved does g = ap (λ o. set s.actors a (with_cell_by (λ x. named weight (length s.actors) does (moved a turn place does x)) o)) g.present
        ∙ ap (λ f. set s.actors a (seat (named weight (length s.actors) does (option_map_or (λ frame'. cell_by a c frame' turn place does) f c)) mail)) g.framed

    by : (does : Move) → Going s a c mail frame turn place does → FitsLimit does (length s.actors)
        → next s (Go a) ≡ Goes (given weight s.program does (length turn.made) (record s { actors = after_by does }))
    by (Post to letter) g fits =
        post_goes s a c mail frame turn place to letter (push_letter to letter (after_by (Post to letter))) (s.objects + length turn.made) g
        (ap (push_letter to letter) (is_moved (Post to letter) g)) refl
    by (Mint owner things) g fits =
        mint_goes s a c mail frame turn place owner things (push_letter owner (Inc things) (after_by (Mint owner things))) g
        (ap (push_letter owner (Inc things)) (is_moved (Mint owner things) g))
    by (New kind register) g fits =
        let fresh = seat (fresh_cell weight s.program kind) [] ∷ [] in
        new_goes s a c mail frame turn place kind register (after_by (New kind register) ++ fresh) (s.objects + length turn.made) g fits
        (ap (λ xs. xs ++ fresh) (is_moved (New kind register) g)) refl
    by (Print value) g fits =
        print_goes s a c mail frame turn place value (after_by (Print value)) (s.prints ++ value ∷ []) (s.objects + length turn.made) g
        (is_moved (Print value) g) refl refl
    by End g fits =
        end_goes s a c mail frame turn place (after_by End) (s.objects + length turn.made) g (is_moved End g) refl
    by Rest g fits =
        rest_goes s a c mail frame turn place (after_by Rest) (s.objects + length turn.made) g (is_moved Rest g) refl
