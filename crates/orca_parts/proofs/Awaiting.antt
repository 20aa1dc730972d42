-- What awaits a letter awaits it still while other actors go on.
use Rattle.std.proofs.Common.{◌≡◌, ◌<◌, ℕ, Bool, true, false, cond, ◌==◌, List, [], ◌∷◌, length, map, Option, None, Some, refl, sym, ap, subst, ◌∙◌, inl, inr, ne_eqb}
use Rattle.std.specs.Option.{option_map_or}
use Rattle.std.proofs.lemmas.Bool.{cases_eq, cases_lt}
use Rattle.std.proofs.lemmas.List.{get_or-set_same, get_or-set_other, set_past}
use Rattle.std.proofs.lemmas.Option.{none-some}
use Rattle.orca_names.specs.declared.names.Thing.{Thing}
use Rattle.orca_names.specs.declared.names.Value.{Value}
use Rattle.orca_names.specs.declared.trace.Trace.{Trace}
use Rattle.orca_names.specs.declared.trace.Trace.TheVariants.{Deep}
use Rattle.behaviour_code.specs.declared.code.Program.{Program}
use Rattle.reach_walk.specs.Marks.{Covers, marks_of}
use Rattle.reach_walk.specs.Reach.{thing_row}
use Rattle.reach_walk.proofs.MarkLaws.{marks-exact, marks-unique}
use Rattle.turn_rules.specs.declared.act.Frame.{Frame}
use Rattle.turn_rules.specs.Segment.{Stop, Turn, segment_of}
use Rattle.letter_kinds.specs.Letters.{Letter}
use Rattle.letter_kinds.specs.Counting.{Amount, Loaded, mint_all, mint_one, set_held}
use Rattle.letter_kinds.specs.Holdings.{Holdings, Row, row_of, with_made, known_objects}
use Rattle.letter_kinds.proofs.Minting.{row-mint_all}
use Rattle.machine_rules.specs.Actors.{Actors, Seat, cell_at, cell_of, push_letter, seat, seat_at, with_letter_more}
use Rattle.machine_rules.specs.Cell.{Cell}
use Rattle.machine_rules.specs.Go.{turn_of_cell}
use Rattle.machine_rules.proofs.Posting.{added_cell}
use Rattle.letter_kinds.proofs.Known.{known_objects-cover}
use Rattle.actor_cell.specs.declared.turning.Awaited.{Awaited}
use Rattle.actor_cell.specs.declared.turning.Turned.{Turned}
use Rattle.actor_cell.specs.Awaiting.{Awaits, AwaitsAt, awaited_by}
use Rattle.actor_cell.specs.Goes.{things_from}
use Rattle.actor_cell.specs.Moves.{Mint}
use Rattle.actor_cell.proofs.GoParts.{next-mint_all}
use Rattle.actor_cell.specs.Cells.{as_cell}
use Rattle.actor_table.specs.Changes.{HasCell, changed_at, moved, with_cell_by}
use Rattle.actor_table.specs.Slots.{actors_of, slot_at}
use Rattle.machine_rules.specs.State.{State}
use Rattle.orca_parts.specs.Awaiting.{AwaitedIn, IsAwaited, IsAwaitedHere}
use Rattle.orca_parts.specs.Fits.{KeepsTurn, OnlyRoom}
use Rattle.orca_parts.specs.declared.parts.Parts.{Parts}
use Rattle.orca_parts.proofs.Giving.{seat_here}

-- ---- minting changes no row

-- minting changes what is held alone
held_alone : (things : List Amount) (h : Holdings) → mint_all things h ≡ record h { foreign = (mint_all things h).foreign }
unfolding mint_all set_held
held_alone [] h = refl
held_alone (e ∷ things) h = held_alone things (mint_one e h)

-- where others' rows are the same, whatever the own ones are
other_rows : (mine : Bool) (own made here there : Option Row) → cond mine own here ≡ cond mine own there → cond mine made here ≡ cond mine made there
other_rows true own made here there e = refl
other_rows false own made here there e = e

module _ (me : ℕ) (things : List Amount) (h : Holdings) (made : List Row) where
  abbrev before : Holdings
  before = with_made made h

  abbrev after : Holdings
  after = with_made made (mint_all things h)

  rows_stand : row_of me after ≡ row_of me before
  unfolding row_of
  rows_stand = λ i n.
      (let minted = held_alone things h in
      ap (λ k. row_of me (with_made made k) n) minted
      ∙ other_rows (n.owner == me) _ _ _ _ (sym (ap (λ k. row_of me k n) minted) ∙ row-mint_all me n things h)) i

  pub things_stand : (args : List Value) → things_from Deep me after args ≡ things_from Deep me before args
  things_stand args = λ i. map (λ (e : Loaded). e.0) (map (λ (x : Thing). (x, thing_row (rows_stand i) x)) (marks i))
    where
      covers : Covers (known_objects me after) (row_of me before)
      covers n row e = known_objects-cover me after n row (ap (λ rows. rows n) rows_stand ∙ e)

      marks : marks_of (row_of me after) (known_objects me after) args ≡ marks_of (row_of me before) (known_objects me before) args
      marks =
          ap (λ rows. marks_of rows (known_objects me after) args) rows_stand
          ∙ marks-unique (row_of me before) (known_objects me before) args (marks_of (row_of me before) (known_objects me after) args)
          (known_objects-cover me before) (marks-exact (row_of me before) (known_objects me after) args covers)

-- ---- an actor that minted

module _ (program : Program) (me : ℕ) (c : Cell) (things : List Amount) where
  abbrev minted : Cell
  minted = record c { holdings = mint_all things c.holdings }

  stop_stands : (frame : Frame) → turn_of_cell Deep program me minted frame ≡ turn_of_cell Deep program me c frame
  stop_stands frame = λ i.
      segment_of (record {
        program = program;
        me = me;
        base = next-mint_all things c.holdings i;
        rows = λ n. row-mint_all me n things c.holdings i;
      }) frame c.fields

  deep_awaits : (turn : Turn) (found : Turned) (letter : Awaited) → Awaits Deep program me c turn found letter → Awaits Deep program me minted turn found letter
  deep_awaits turn found letter w =
      let stop = stop_stands w.frame in
      record {
        frame = w.frame;
        framed = w.framed;
        left = ap (λ (s : Stop). s.turn) stop ∙ w.left;
        place = ap (λ (s : Stop). s.place) stop ∙ w.place;
        letter_is = record {
          its = w.letter_is.its;
          deep = refl;
          sent = ap (λ (s : Stop). s.act) stop ∙ w.letter_is.sent;
          things = w.letter_is.things ∙ sym (things_stand me things c.holdings turn.made found.args);
        };
      }

  -- its turn would stop at the letter again
  pub minted_awaits : (trace : Trace) (turn : Turn) (found : Turned) (letter : Awaited) → Awaits trace program me c turn found letter
      → Awaits trace program me minted turn found letter
  minted_awaits trace turn found letter w =
      subst (λ t. Awaits t program me c turn found letter → Awaits t program me minted turn found letter) (sym w.letter_is.deep) (deep_awaits turn found letter) w

-- ---- all actors

-- the cell of an actor that gets a letter stays
push_cell : (to : ℕ) (l : Letter) (actors : Actors) (a : ℕ) → cell_at (push_letter to l actors) a ≡ cell_at actors a
unfolding push_letter
push_cell to l actors a = elim (cases_eq a to) as (λ _. cell_at (push_letter to l actors) a ≡ cell_at actors a) [
  | inl same ↦ subst (λ b. cell_at (push_letter to l actors) b ≡ cell_at actors b) (sym same) here
  | inr other ↦ ap cell_of (get_or-set_other actors to a (with_letter_more l (seat_at actors to)) None other)
]
  where
    here : cell_at (push_letter to l actors) to ≡ cell_at actors to
    here = elim (cases_lt to (length actors)) as (λ _. cell_at (push_letter to l actors) to ≡ cell_at actors to) [
      | inl h ↦ ap cell_of (get_or-set_same actors to (with_letter_more l (seat_at actors to)) None h) ∙ added_cell l (seat_at actors to)
      | inr past ↦ ap (λ xs. cell_at xs to) (set_past actors to (with_letter_more l (seat_at actors to)) past)
    ]

module _ (trace : Trace) (program : Program) (turn : Turn) (found : Turned) where
  abbrev pub In : Actors → Type 0
  In = AwaitedIn trace program turn found

  -- what it minted is no matter, nor memory for a letter
  pub awaited_without : (things : List Amount) (room : Option (List Value)) (actors : Actors) → In actors
      → AwaitedIn trace program turn (record found { things = things; room = room }) actors
  awaited_without things room actors awaited letter d e there =
      let w = awaited letter d e there in
      record {
        frame = w.frame;
        framed = w.framed;
        left = w.left;
        place = w.place;
        letter_is = record { its = w.letter_is.its; deep = w.letter_is.deep; sent = w.letter_is.sent; things = w.letter_is.things };
      }

  -- the actor whose turn it is awaits it
  pub awaited_here : (a : ℕ) (c : Cell) (mail : List Letter) (actors : Actors) → seat_at actors a ≡ seat c mail
      → AwaitsAt trace program a c turn found → In actors
  awaited_here a c mail actors here awaits letter d e there =
      let w = awaits letter e in
      let same : Some c ≡ Some d = sym (ap cell_of here) ∙ sym (ap (cell_at actors) w.letter_is.its) ∙ there in
      subst (λ x. Awaits trace program letter.actor x turn found letter) (ap (λ o. option_map_or (λ x. x) o c) same)
      (subst (λ b. Awaits trace program b c turn found letter) (sym w.letter_is.its) w)

  -- an idle actor changes, which awaits none
  pub idle_awaits_none : (change : Option Seat → Option Seat) (a : ℕ) (c : Cell) (mail : List Letter) (actors : Actors)
      → seat_at actors a ≡ seat c mail → c.frame ≡ None → In actors → In (changed_at change a actors)
  idle_awaits_none change a c mail actors here idle awaited letter d e there = elim (cases_eq letter.actor a) as (λ _. Awaits trace program letter.actor d turn found letter) [
    | inl same ↦ let w = awaited letter c e (ap (cell_at actors) same ∙ ap cell_of here) in absurd (none-some w.frame (sym idle ∙ w.framed))
    | inr other ↦ awaited letter d e (sym (ap cell_of (get_or-set_other actors a letter.actor (change (seat_at actors a)) None other)) ∙ there)
  ]

  -- an actor mints
  pub mint_awaits : (a : ℕ) (c : Cell) (mail : List Letter) (place owner : ℕ) (things : List Amount) (actors : Actors)
      → seat_at actors a ≡ seat c mail → a < length actors → In actors
      → In (changed_at (with_cell_by (moved a turn place (Mint owner things))) a actors)
  mint_awaits a c mail place owner things actors here within awaited letter d e there =
      elim (cases_eq letter.actor a) as (λ _. Awaits trace program letter.actor d turn found letter) [
        | inl same ↦
            let w = awaited letter c e (ap (cell_at actors) same ∙ ap cell_of here) in
            let change = with_cell_by (moved a turn place (Mint owner things)) in
            let its : Some d ≡ Some (minted program a c things) =
            sym there ∙ ap (cell_at (changed_at change a actors)) same ∙ ap cell_of (get_or-set_same actors a (change (seat_at actors a)) None within ∙ ap change here)
            ∙ ap (λ f. Some (option_map_or (λ frame. minted program a c things) f c)) w.framed in
            subst (λ x. Awaits trace program letter.actor x turn found letter) (ap (λ o. option_map_or (λ x. x) o d) (sym its))
            (minted_awaits program letter.actor c things trace turn found letter w)
        | inr other ↦ awaited letter d e (sym (ap cell_of (get_or-set_other actors a letter.actor (with_cell_by (moved a turn place (Mint owner things)) (seat_at actors a)) None other)) ∙ there)
      ]

  -- a letter is posted
  pub push_awaits : (to : ℕ) (l : Letter) (actors : Actors) → In actors → In (push_letter to l actors)
  push_awaits to l actors awaited letter d e there = awaited letter d e (sym (push_cell to l actors letter.actor) ∙ there)

-- the letter that an actor awaits
pub awaited_is : (a : ℕ) (awaited : Option Awaited) (letter : Awaited) → awaited_by a awaited ≡ Some letter → awaited ≡ Some letter
awaited_is a None letter e = e
awaited_is a (Some l) letter e = by (l.actor == a) e
  where
    by : (b : Bool) → cond b (Some l) None ≡ Some letter → Some l ≡ Some letter
    by true e = e
    by false e = absurd (none-some letter e)

pub awaited_its : (a : ℕ) (awaited : Option Awaited) (letter : Awaited) → awaited_by a awaited ≡ Some letter → letter.actor ≡ a
awaited_its a None letter e = absurd (none-some letter e)
awaited_its a (Some l) letter e = elim (cases_eq l.actor a) as (λ _. letter.actor ≡ a) [
  | inl same ↦ ap (λ o. option_map_or (λ (x : Awaited). x.actor) o l.actor) (sym (awaited_is a (Some l) letter e)) ∙ same
  | inr other ↦ absurd (none-some letter (sym (ap (λ b. cond b (Some l) None) (ne_eqb l.actor a other)) ∙ e))
]

-- ---- events

-- where there is more room alone
pub still_awaited : (trace : Trace) (program : Program) (old new : Parts) → OnlyRoom old new → KeepsTurn old new
    → IsAwaited trace program old → IsAwaited trace program new
still_awaited trace program old new room kept awaited =
    let actors = ap (λ (s : State). s.actors) (room.state program (record { weight = 0; trace = trace })) in
    let its = awaited_without trace program old.turn old.turned old.turned.things new.turned.room (actors_of old.table.slots) awaited in
    subst (λ t. AwaitedIn trace program t new.turned (actors_of new.table.slots)) (sym kept.turn)
    (subst (λ f. AwaitedIn trace program old.turn f (actors_of new.table.slots)) (sym kept.turned)
    (subst (AwaitedIn trace program old.turn (record old.turned { room = new.turned.room })) (sym actors) its))

-- where it was found just now
pub found_awaited : (trace : Trace) (program : Program) (a : ℕ) (m : Parts) → HasCell (slot_at m.table.slots a) (IsAwaitedHere trace program a m.turn m.turned)
    → IsAwaited trace program m
found_awaited trace program a m here =
    awaited_here trace program m.turn m.turned a (as_cell here.cell) (slot_at m.table.slots a).mail.letters (actors_of m.table.slots)
    (seat_here m.table.slots a here.cell here.home) here.so
