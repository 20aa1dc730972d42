-- Rows that a turn made, once they lie in blocks.
use Rattle.std.proofs.Common.{◌≡◌, ◌⊎◌, inl, inr, ⊎_elim, ℕ, zero, suc, ◌+◌, ◌<◌, ◌++◌, Bool, true, false, List, [], ◌∷◌, Some, IsSome, length, slice_get, refl, sym, ap, subst, ◌∙◌, arith}
use Rattle.std.specs.Prelude.{◌≤◌, if◌then◌else◌, map, vec_capacity, vec_len}
use Rattle.std.specs.Global.{Vec}
use Rattle.std.specs.FinMap as m
use Rattle.std.specs.Option.{option_map_or}
use Rattle.std.proofs.lemmas.Bool.{false≢true}
use Rattle.std.proofs.lemmas.List.Elements.{Contains-append_cases, Contains-append_left, Contains-append_right}
use Rattle.orca_names.specs.declared.limits.TheConstants.{ACTORS_LIMIT, BODY_LIMIT}
use Rattle.orca_names.specs.declared.names.ObjName.{ObjName}
use Rattle.orca_names.specs.declared.names.Value.{Value}
use Rattle.orca_names.specs.declared.options.Options.{Options}
use Rattle.behaviour_code.specs.declared.code.Program.{Program}
use Rattle.turn_rules.specs.Segment.{Turn}
use Rattle.orca_names.specs.declared.names.Thing.{Thing}
use Rattle.orca_names.specs.declared.names.Thing.TheVariants.{Actor, Obj}
use Rattle.row_store.specs.Told.{Lying}
use Rattle.row_store.specs.Words.{HoldsRow, IsRow, Words}
use Rattle.block_table.specs.Blocks.{Blocks, fill, names_from}
use Rattle.row_blocks.specs.Blocks.{LiePlaced, StillLie}
use Rattle.orca_parts.specs.Blocks.{AreKept, is_mint, next_serial, rows_kept}
use Rattle.row_blocks.proofs.Placed.{none_filled, nothing_filled}
use Rattle.event_rule.specs.declared.event.Event.TheVariants.{Go}
use Rattle.letter_kinds.specs.Holdings.{Row}
use Rattle.letter_kinds.specs.Load.{HaveGiven, as_load, lies_from}
use Rattle.letter_kinds.specs.Telling.{HoldsTold, Telling, TellsOnly, Told, in_block, made_in}
use Rattle.letter_kinds.proofs.Lying.{told_made}
use Rattle.letter_kinds.proofs.Telling.{tells_same}
use Rattle.actor_cell.specs.Cells.{as_cell}
use Rattle.actor_cell.specs.Goes.{CanMove, new_entries, told}
use Rattle.actor_cell.specs.Moves as moves
use Rattle.actor_cell.specs.Moves.{Move, act_in, move_of}
use Rattle.actor_cell.specs.Tells.{PutsAll, told_out, where_sent}
use Rattle.actor_cell.specs.declared.cell.Cell.{Cell}
use Rattle.actor_cell.specs.declared.turning.Doing.{Doing}
use Rattle.actor_cell.specs.declared.turning.Doing.TheVariants.{End, Mint, New, Post, Print, Rest}
use Rattle.actor_table.specs.declared.slot.Place.{Place}
use Rattle.actor_table.specs.declared.slot.Place.TheVariants.{Home}
use Rattle.actor_table.specs.declared.slot.Slot.{Slot}
use Rattle.machine_rules.specs.Actors.{Actors}
use Rattle.actor_table.specs.Changes.{changed_at, moved, named, with_cell_by}
use Rattle.actor_table.specs.Slots.{Table, actors_of, home_in, slot_at}
use Rattle.orca_parts.specs.Goes.{CountsAllow, FitsGo, HasRoomForOne, HasRoomOut}
use Rattle.orca_parts.specs.Parts.{state_of}
use Rattle.orca_parts.specs.Placing.{Places}
use Rattle.orca_parts.specs.Ready.{made_by}
use Rattle.orca_parts.specs.declared.parts.Parts.{Parts}

-- ---- what is told of rows that were made

-- each is one of the rows, in its block
made_at : (owner serial : ℕ) (rows : List Row) (blocks : List ℕ) (n : ObjName) (row : Row) (block : ℕ) → Told (made_in owner serial rows blocks) n row block
    → (i : ℕ) × (slice_get rows i ≡ Some row) × (slice_get blocks i ≡ Some block) × (record { owner = owner; serial = serial + i } ≡ n)
unfolding made_in
made_at owner serial [] blocks n row block here = absurd (omega (arith, here.1))
made_at owner serial (r ∷ rows) [] n row block here = absurd (omega (arith, here.1))
made_at owner serial (r ∷ rows) (b ∷ blocks) n row block (zero, within, here) =
    let its : in_block (record { owner = owner; serial = serial }) r b ≡ in_block n row block = here in
    let name : Obj (record { owner = owner; serial = serial }) ≡ Obj n = ap (λ (e : Thing × Lying). e.0) its in
    let same : record { owner = owner; serial = serial } ≡ n = cc in
    let first : serial + 0 ≡ serial = omega arith in
    (0, ap (λ (e : Thing × Lying). e.1.row) its, ap (λ (e : Thing × Lying). e.1.block) its, (λ i. record { owner = owner; serial = first i }) ∙ same)
made_at owner serial (r ∷ rows) (b ∷ blocks) n row block (suc i, within, its) =
    let later = made_at owner (suc serial) rows blocks n row block (i, omega (arith, within), its) in
    let next : serial + suc later.0 ≡ suc serial + later.0 = omega arith in
    (suc later.0, later.1, later.2, (λ j. record { owner = owner; serial = next j }) ∙ later.3)

-- where they lie so, the words hold them, and their objects have the blocks
pub placed_lie : (owner first : ℕ) (made : List Row) (placed : List ℕ) (blocks : Blocks) (known : Words) → LiePlaced owner first made placed blocks known
    → AreKept blocks (Told (made_in owner first made placed)) × HoldsTold known (Told (made_in owner first made placed))
placed_lie owner first made placed blocks known lie = (
  λ n row block told.
      let at = made_at owner first made placed n row block told in
      (lie at.0 row block at.1 at.2).has ∙ ap (λ x. Some (Some x)) at.3,
  λ n row block told.
      let at = made_at owner first made placed n row block told in
      let its = lie at.0 row block at.1 at.2 in
      (its.is_row, its.holds),
)

-- ---- the letter that was found

-- rows that it carries uncounted are told as before
told_carried : (load lying rows more : List (Thing × Lying)) → TellsOnly (Told load) more (Told lying) → TellsOnly (Told (load ++ rows)) more (Told (lying ++ rows))
told_carried load lying rows more only n row block told = ⊎_elim
    (λ loaded. ⊎_elim (λ before. inl (Contains-append_left load rows (in_block n row block) before)) inr (only n row block loaded))
    (λ carried. inl (Contains-append_right load rows (in_block n row block) carried))
    (Contains-append_cases lying rows (in_block n row block) told)

-- a letter whose load comes to lie in blocks tells more of what was made alone
pub sent_lies : (doing : Doing) (a next : ℕ) (rows : List Row) (placed : List ℕ) (load lying : List (Thing × Lying)) → length placed ≡ length rows
    → HaveGiven a next rows (where_sent doing load) → lying ≡ map (lies_from a next placed) load
    → TellsOnly (Told (where_sent doing load)) (made_in a next rows placed) (Told (where_sent doing lying))
sent_lies (Post to behaviour) a next rows placed load lying long have is =
    subst (λ l. TellsOnly (Told load) (made_in a next rows placed) (Told l)) (sym is) (told_made a next rows placed load long have)
sent_lies (Mint owner) a next rows placed load lying long have is = λ n row block none. inl none
sent_lies (New kind register) a next rows placed load lying long have is = λ n row block none. inl none
sent_lies (Print value) a next rows placed load lying long have is = λ n row block none. inl none
sent_lies End a next rows placed load lying long have is = λ n row block none. inl none
sent_lies Rest a next rows placed load lying long have is = λ n row block none. inl none

-- ---- what becomes of the parts

-- the serial of its next object
pub home_next : (slots : List Slot) (a : ℕ) (c : Cell) → (slot_at slots a).place ≡ Home c → next_serial (slot_at slots a) ≡ c.heap.next
home_next slots a c home = ap (λ (p : Place). option_map_or (λ (x : Cell). x.heap.next) (home_in p) 0) home

none_made : (owner serial : ℕ) (rows : List Row) → made_in owner serial rows [] ≡ []
unfolding made_in
none_made owner serial [] = refl
none_made owner serial (row ∷ rows) = refl

-- an actor that mints gets no blocks
mint_puts : (made : List Row) (act : Move) (placed : List ℕ) → is_mint act ≡ true → PutsAll made act placed
mint_puts made (moves.Mint owner things) placed mints = tt
mint_puts made (moves.Post to letter) placed mints = cc
mint_puts made (moves.New kind register) placed mints = cc
mint_puts made (moves.Print value) placed mints = cc
mint_puts made moves.End placed mints = cc
mint_puts made moves.Rest placed mints = cc

-- as many blocks as rows are enough
all_put : (made : List Row) (act : Move) (placed : List ℕ) → length placed ≡ length made → PutsAll made act placed
all_put made (moves.Mint owner things) placed long = tt
all_put made (moves.Post to letter) placed long = omega (arith, long)
all_put made (moves.New kind register) placed long = omega (arith, long)
all_put made (moves.Print value) placed long = omega (arith, long)
all_put made moves.End placed long = omega (arith, long)
all_put made moves.Rest placed long = omega (arith, long)

-- nothing, where there are no blocks, or the actor mints
pub places_none : (a : ℕ) (old : Parts) (placed : Vec ℕ) (known : Words) → (length old.blocks ≡ 0) ⊎ (is_mint (act_in old.turned) ≡ true) → placed.items ≡ []
    → Places a old (record old { placed = placed }) known known
places_none a old placed known why none =
    let first = next_serial (slot_at old.table.slots a) in
    let kept = rows_kept (act_in old.turned) old.turn in
    let no_row : made_in a first kept placed.items ≡ [] = ap (made_in a first kept) none ∙ none_made a first kept in
    record {
      same = refl;
      act = refl;
      minted = λ _. refl;
      made = λ c home. ap (made_in c.heap.owner c.heap.next old.turn.made) none ∙ none_made c.heap.owner c.heap.next old.turn.made ∙ sym no_row;
      blocks = ⊎_elim
          (λ empty. nothing_filled old.blocks a first (length kept) empty)
          (λ mints. sym (none_filled a first old.blocks) ∙ ap (λ (t : Bool). fill (names_from a first (length (if t then [] else old.turn.made))) old.blocks) (sym mints)) why;
      puts = λ some. ⊎_elim (λ empty. absurd (omega (arith, some, empty))) (mint_puts old.turn.made (act_in old.turned) placed.items) why;
      told = tells_same (Told (told_out old.turned)) (made_in a first kept placed.items);
      kept = subst (λ l. AreKept old.blocks (Told l)) (sym no_row) (λ n row block told. absurd (omega (arith, told.1)));
      holds = subst (λ l. HoldsTold known (Told l)) (sym no_row) (λ n row block told. absurd (omega (arith, told.1)));
      others = λ n row block lies. lies;
    }

-- the rows lie in blocks; the load of a letter tells so
pub places_all : (a : ℕ) (old : Parts) (c : Cell) (blocks : Blocks) (placed : Vec ℕ) (load : List (Thing × Lying)) (known later : Words)
    → (slot_at old.table.slots a).place ≡ Home c → c.heap.owner ≡ a → is_mint (act_in old.turned) ≡ false
    → blocks ≡ fill (names_from a c.heap.next (length old.turn.made)) old.blocks → (0 < length old.blocks → length placed.items ≡ length old.turn.made)
    → LiePlaced a c.heap.next old.turn.made placed.items blocks later → StillLie old.blocks known blocks later
    → as_load load ≡ as_load old.turned.load
    → TellsOnly (Told (where_sent old.turned.doing old.turned.load)) (made_in a c.heap.next old.turn.made placed.items) (Told (where_sent old.turned.doing load))
    → Places a old (record old { blocks = blocks; placed = placed; turned = record old.turned { load = load } }) known later
places_all a old c blocks placed load known later home its stays filled long lie still same only =
    let first : next_serial (slot_at old.table.slots a) ≡ c.heap.next = home_next old.table.slots a c home in
    let rows : rows_kept (act_in old.turned) old.turn ≡ old.turn.made = ap (λ (t : Bool). if t then [] else old.turn.made) stays in
    let made : made_by (Go a) old placed.items ≡ made_in a c.heap.next old.turn.made placed.items = λ i. made_in a (first i) (rows i) placed.items in
    let both = placed_lie a c.heap.next old.turn.made placed.items blocks later lie in
    record {
      same = refl;
      minted = λ mints. absurd (false≢true (sym stays ∙ mints));
      made = λ x there. let same_cell : x ≡ c = cc in
          ap (λ (y : Cell). made_in y.heap.owner y.heap.next old.turn.made placed.items) same_cell
          ∙ ap (λ b. made_in b c.heap.next old.turn.made placed.items) its ∙ sym made;
      act = ap (λ l. move_of old.turned.doing old.turned.args l (as_load old.turned.rows) old.turned.things) same;
      puts = λ some. all_put old.turn.made (act_in old.turned) placed.items (long some);
      blocks = filled ∙ (λ i. fill (names_from a (sym first i) (length (sym rows i))) old.blocks);
      told = subst (λ l. TellsOnly (Told (told_out old.turned)) l (Told (where_sent old.turned.doing (load ++ old.turned.rows)))) (sym made)
          (sent old.turned.doing only);
      kept = subst (λ l. AreKept blocks (Told l)) (sym made) both.0;
      holds = subst (λ l. HoldsTold later (Told l)) (sym made) both.1;
      others = still;
    }
  where
    sent : (doing : Doing) → TellsOnly (Told (where_sent doing old.turned.load)) (made_in a c.heap.next old.turn.made placed.items) (Told (where_sent doing load))
        → TellsOnly (Told (where_sent doing (old.turned.load ++ old.turned.rows))) (made_in a c.heap.next old.turn.made placed.items) (Told (where_sent doing (load ++ old.turned.rows)))
    sent (Post to behaviour) only = told_carried old.turned.load load old.turned.rows (made_in a c.heap.next old.turn.made placed.items) only
    sent (Mint owner) only = only
    sent (New kind register) only = only
    sent (Print value) only = only
    sent End only = only
    sent Rest only = only

-- ---- what was found fits still

pub room_same : (old new : Parts) → new.table ≡ old.table → new.prints ≡ old.prints → new.turned.room ≡ old.turned.room
    → (act : Move) → HasRoomOut act old → HasRoomOut act new
room_same old new table prints memory (moves.Post to letter) room =
    (subst (λ (t : Table). HasRoomForOne to t.slots) (sym table) room.0, subst IsSome (sym memory) room.1)
room_same old new table prints memory (moves.Mint owner things) room = subst (λ (t : Table). HasRoomForOne owner t.slots) (sym table) room
room_same old new table prints memory (moves.New kind register) room =
    subst (λ (t : Table). (length t.slots < ACTORS_LIMIT) × (0 < t.spare)) (sym table) room
room_same old new table prints memory (moves.Print value) room = subst (λ (ps : Vec Value). vec_len ps < vec_capacity ps) (sym prints) room
room_same old new table prints memory moves.End room = tt
room_same old new table prints memory moves.Rest room = tt

pub goes_still : (options : Options) (program : Program) (a : ℕ) (old new : Parts) (known later : Words) → Places a old new known later
    → FitsGo options program a old.turned old → FitsGo options program a new.turned new
goes_still options program a old new known later places fits =
    let table : new.table ≡ old.table = ap (λ (m : Parts). m.table) places.same in
    let turn : new.turn ≡ old.turn = ap (λ (m : Parts). m.turn) places.same in
    let place : new.turned.place ≡ old.turned.place = ap (λ (m : Parts). m.turned.place) places.same in
    let act = places.act in
    record {
      cell = fits.cell;
      home = ap (λ (t : Table). (slot_at t.slots a).place) table ∙ fits.home;
      frame = fits.frame;
      framed = fits.framed;
      found_is = fits.found_is ∙ (λ i. told fits.frame (as_cell fits.cell) (sym turn i) (sym place i) (sym act i));
      few = subst (λ (t : Turn). length t.made ≤ BODY_LIMIT) (sym turn) fits.few;
      objects = subst (λ (t : Turn). length t.made ≤ fits.cell.heap.spare) (sym turn) fits.objects;
      entries = subst (λ does. new_entries does fits.cell.foreign.entries ≤ fits.cell.foreign.spare) (sym act) fits.entries;
      room = room_same old new table (ap (λ (m : Parts). m.prints) places.same) (ap (λ (m : Parts). m.turned.room) places.same) (act_in new.turned)
          (subst (λ does. HasRoomOut does old) (sym act) fits.room);
    }

pub counts_still : (a : ℕ) (old new : Parts) (known later : Words) (c : Cell) → Places a old new known later
    → CountsAllow a (act_in old.turned) old c → CountsAllow a (act_in new.turned) new c
counts_still a old new known later c places allow =
    let turn : new.turn ≡ old.turn = ap (λ (m : Parts). m.turn) places.same in
    let table : new.table ≡ old.table = ap (λ (m : Parts). m.table) places.same in
    record {
      can = subst (λ (x : Move × Turn). CanMove a (as_cell c).holdings x.1 x.0) (λ i. (sym places.act i, sym turn i)) allow.can;
      serials = allow.serials;
      unnamed = ap (λ (t : Table). m.get c.foreign.entries (Actor (length t.slots))) table ∙ allow.unnamed;
    }

-- ---- what the state is then

-- the actors, once the actor's cell is that after what was found of its turn, and an actor that this makes
-- has this name
abbrev pub after_turn : ℕ → ℕ → Parts → ℕ → Actors
after_turn weight a m name =
    let act = act_in m.turned in
    changed_at (with_cell_by (λ x. named weight name act (moved a m.turn m.turned.place act x))) a (actors_of m.table.slots)

pub placed_after : (weight a : ℕ) (old new : Parts) (known later : Words) → Places a old new known later → (name : ℕ)
    → after_turn weight a new name ≡ after_turn weight a old name
placed_after weight a old new known later places name =
    ap (λ m. after_turn weight a m name) places.same
    ∙ ap (λ act. changed_at (with_cell_by (λ x. named weight name act (moved a old.turn old.turned.place act x))) a (actors_of old.table.slots))
    (ap (λ (m : Parts). act_in m.turned) (sym places.same) ∙ places.act)

pub placed_state : (program : Program) (options : Options) (a : ℕ) (old new : Parts) (known later : Words) → Places a old new known later → (table : Table)
    → state_of program options (record new { table = table }) ≡ record (state_of program options old) { actors = actors_of table.slots }
placed_state program options a old new known later places table = ap (λ (m : Parts). state_of program options (record m { table = table })) places.same

-- ---- what is told then

-- what was made is told, and then what the letter brings that tells of it too
pub tells_both : (old mid new : Telling) (made sent lying : List (Thing × Lying)) → TellsOnly old made mid → TellsOnly mid lying new
    → TellsOnly (Told sent) made (Told lying) → TellsOnly old (sent ++ made) new
tells_both old mid new made sent lying first second only n row block told = ⊎_elim
    (λ here. ⊎_elim inl (λ its. inr (right its)) (first n row block here))
    (λ brought. ⊎_elim (λ before. inr (left before)) (λ its. inr (right its)) (only n row block brought))
    (second n row block told)
  where
    right : Told made n row block → Told (sent ++ made) n row block
    right its = Contains-append_right sent made (in_block n row block) its

    left : Told sent n row block → Told (sent ++ made) n row block
    left its = Contains-append_left sent made (in_block n row block) its

-- and the words hold it
pub still_holds : (old new : Telling) (sent made : List (Thing × Lying)) (blocks after : Blocks) (known later : Words)
    → AreKept blocks old → HoldsTold known old → AreKept blocks (Told sent) → HoldsTold known (Told sent) → StillLie blocks known after later
    → HoldsTold later (Told made) → TellsOnly old (sent ++ made) new → HoldsTold later new
still_holds old new sent made blocks after known later kept holds sent_kept sent_holds still made_holds only n row block told = ⊎_elim
    (λ before. lies (kept n row block before) (holds n row block before))
    (λ added. ⊎_elim (λ its. lies (sent_kept n row block its) (sent_holds n row block its)) (made_holds n row block) (Contains-append_cases sent made (in_block n row block) added))
    (only n row block told)
  where
    lies : slice_get blocks block ≡ Some (Some n) → IsRow row × HoldsRow block row known → IsRow row × HoldsRow block row later
    lies has its =
        let there = still n row block (record { has = has; is_row = its.0; holds = its.1 }) in
        (there.is_row, there.holds)
