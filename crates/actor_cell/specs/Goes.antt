-- What a turn of an actor does.
use Rattle.std.specs.Prelude.{ℕ, ◌≡◌, ◌<◌, ⊤, true, List, [], ◌∷◌, Option, Some, None, option_map, map, IsSomeAnd}
use Rattle.orca_names.specs.Names.{owner_of}
use Rattle.orca_names.specs.declared.options.Options.{Options}
use Rattle.orca_names.specs.declared.trace.Trace.{Trace}
use Rattle.orca_names.specs.declared.limits.TheConstants.{REGISTERS}
use Rattle.orca_names.specs.declared.names.Thing.{Thing}
use Rattle.orca_names.specs.declared.names.Value.{Value}
use Rattle.behaviour_code.specs.declared.code.Program.{Program}
use Rattle.turn_rules.specs.declared.act.Act.{Act}
use Rattle.turn_rules.specs.declared.act.Act.TheVariants as act
use Rattle.turn_rules.specs.declared.act.Frame.{Frame}
use Rattle.turn_rules.specs.Segment.{Stop, Turn}
use Rattle.letter_kinds.specs.Letters.{Letter, App, Inc, Dec, Confirm}
use Rattle.letter_kinds.specs.Counting.{Loaded, mint_all, send, to_mint}
use Rattle.letter_kinds.specs.Holdings.{Entries, Holdings, Row, with_made}
use Rattle.foreign_table.specs.Table.{count_unheld}
use Rattle.trace_send.specs.Can.{CanSend}
use Rattle.machine_rules.specs.Cell.{Cell}
use Rattle.machine_rules.specs.Go.{lacking_from, load_from, needed, rows_from, to_need, turn_of_cell}
use Rattle.trace_send.specs.Can.{CanMint}
use Rattle.actor_cell.specs.Outs.{Out}
use Rattle.actor_cell.specs.Moves.{Move, Post, Mint, New, Print, End, Rest}

-- ---- what is found

-- the things that a letter with these arguments loads
abbrev pub things_from : Trace → ℕ → Holdings → List Value → List Thing
things_from trace me h args = map (λ e. e.0) (load_from trace me h args)

-- the letter with its load and rows; where the actor lacks some of the load, what it mints first for
-- the owner of the first that it lacks
abbrev pub letter_or_mint : ℕ → ℕ → ℕ → List Value → List Loaded → List Loaded → List Loaded
    → Move
letter_or_mint weight to behaviour args load rows [] = Post to (App behaviour args load rows)
letter_or_mint weight to behaviour args load rows (e ∷ lacked) =
    Mint (owner_of e.0) (to_mint weight (owner_of e.0) (e ∷ lacked))

-- the register of a new actor is one of a frame
abbrev pub FitsRegister : Act → Type 0
FitsRegister (act.New kind register) = register < REGISTERS
FitsRegister (act.Post to behaviour args) = ⊤
FitsRegister (act.Print value) = ⊤
FitsRegister act.End = ⊤

-- what an actor with this cell does by an act
abbrev pub move_by : Options → ℕ → Cell → Act → Move
move_by options me c (act.Post to behaviour args) =
    letter_or_mint options.weight to behaviour args (load_from options.trace me c.holdings args)
    (rows_from options.trace me c args) (lacking_from options.trace me c.holdings args)
move_by options me c (act.New kind register) = New kind register
move_by options me c (act.Print value) = Print value
move_by options me c act.End = End

-- the cell with the objects of these rows
abbrev pub having_made : List Row → Cell → Cell
having_made made c = record c { holdings = with_made made c.holdings }

-- what a turn left and where it stopped, and what the actor does there
pub record Turned : Type 0 where
  pub turn : Turn
  pub place : ℕ
  pub act : Move

-- of the turn of an actor in this frame: it has what it made in the turn
abbrev pub turned_at : Options → ℕ → Cell → Stop → Turned
turned_at options me c stop = record {
  turn = stop.turn;
  place = stop.place;
  act = move_by options me (having_made stop.turn.made c) stop.act;
}

-- where it got a thing that the actor needs, all is as before the turn, and the actor mints for
-- that
abbrev pub turned_or_needs : Options → ℕ → Cell → Frame → Option Thing → Stop → Turned
turned_or_needs options me c frame None stop = turned_at options me c stop
turned_or_needs options me c frame (Some x) stop = record {
  turn = record { registers = frame.registers; fields = c.fields; made = [] };
  place = frame.place;
  act = Mint (owner_of x) (to_need options.weight me c.holdings x);
}

abbrev pub turned_in : Options → Program → ℕ → Cell → Frame → Turned
turned_in options program me c frame =
    turned_or_needs options me c frame (needed options.trace program me c frame)
    (turn_of_cell options.trace program me c frame)

-- ---- what the code tells of it

-- the turn: where the behaviour rests, its registers and fields are not copied
abbrev pub told_turn : Frame → Cell → Turn → Move → Turn
told_turn frame c turn Rest =
    record { registers = frame.registers; fields = c.fields; made = turn.made }
told_turn frame c turn act = turn

-- what the actor does
abbrev pub told_act : Move → Move
told_act Rest = End
told_act act = act

abbrev pub told : Frame → Cell → Turn → ℕ → Move → Turned
told frame c turn place act =
    record { turn = told_turn frame c turn act; place = place; act = told_act act }

-- this is told of the turn of an actor in this frame
abbrev pub IsTold : Options → Program → ℕ → Cell → Turn → ℕ → Move → Frame → Type 0
IsTold options program me c turn place act frame =
    turned_in options program me c frame ≡ told frame c turn place act

-- ---- what it changes

abbrev pub load_in : Letter → List Loaded
load_in (App behaviour args load rows) = load
load_in (Inc things) = []
load_in (Dec things) = []
load_in (Confirm token) = []

-- the frame stands where the turn stopped
abbrev pub frame_left : Frame → Turn → ℕ → Frame
frame_left frame turn place = record frame { place = place; registers = turn.registers }

-- the cell after a turn that is kept, in this frame
abbrev pub cell_kept : Turn → Option Frame → Cell → Cell
cell_kept turn frame c = record c {
  fields = turn.fields;
  frame = frame;
  holdings = with_made turn.made c.holdings;
}

-- the cell after what the actor does
abbrev pub cell_by : ℕ → Cell → Frame → Turn → ℕ → Move → Cell
cell_by me c frame turn place (Post to letter) =
    record (cell_kept turn (Some (frame_left frame turn place)) c) {
      holdings = send me (load_in letter) (with_made turn.made c.holdings);
    }
cell_by me c frame turn place (Mint owner things) =
    record c { holdings = mint_all things c.holdings }
cell_by me c frame turn place (New kind register) =
    cell_kept turn (Some (frame_left frame turn place)) c
cell_by me c frame turn place (Print value) = cell_kept turn (Some (frame_left frame turn place)) c
cell_by me c frame turn place End = record (cell_kept turn None c) { dirty = true }
cell_by me c frame turn place Rest =
    record c { frame = None; holdings = with_made turn.made c.holdings; dirty = true }

-- how many entries the table of what is held needs room for: what is minted may not be held yet,
-- and a new actor gets one when it has its name
abbrev pub new_entries : Move → Entries → ℕ
new_entries (Post to letter) entries = 0
new_entries (Mint owner things) entries = count_unheld things entries
new_entries (New kind register) entries = 1
new_entries (Print value) entries = 0
new_entries End entries = 0
new_entries Rest entries = 0

-- ---- what it gives out

abbrev pub out_of : Move → Out
out_of (Post to letter) =
    record { letters = (to, letter) ∷ []; notes = []; print = None; made = None }
out_of (Mint owner things) =
    record { letters = (owner, Inc things) ∷ []; notes = []; print = None; made = None }
out_of (New kind register) =
    record { letters = []; notes = []; print = None; made = Some (kind, register) }
out_of (Print value) = record { letters = []; notes = []; print = Some value; made = None }
out_of End = record { letters = []; notes = []; print = None; made = None }
out_of Rest = record { letters = []; notes = []; print = None; made = None }

-- ---- together: what a go leads to, where there is a frame

-- the cell after it, and what it gives out
pub record Gone : Type 0 where
  pub cell : Cell
  pub out : Out

abbrev pub gone_by : ℕ → Cell → Frame → Turned → Gone
gone_by me c frame t =
    record { cell = cell_by me c frame t.turn t.place t.act; out = out_of t.act }

abbrev pub gone_of : Options → Program → ℕ → Cell → Option Gone
gone_of options program me c =
    option_map (λ frame. gone_by me c frame (turned_in options program me c frame)) c.frame

-- ---- when it can be

-- its counts allow what it does
abbrev pub CanMove : ℕ → Holdings → Turn → Move → Type 0
CanMove me h turn (Post to letter) = CanSend me (load_in letter) (with_made turn.made h)
CanMove me h turn (Mint owner things) = CanMint things h
CanMove me h turn (New kind register) = ⊤
CanMove me h turn (Print value) = ⊤
CanMove me h turn End = ⊤
CanMove me h turn Rest = ⊤

-- there is a frame, and what it does is allowed
abbrev pub CanGo : Options → Program → ℕ → Cell → Type 0
CanGo options program me c =
    IsSomeAnd c.frame (λ frame. let t = turned_in options program me c frame in
    CanMove me c.holdings t.turn t.act)
