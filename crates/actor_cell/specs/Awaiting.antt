-- A letter that awaits that its actor mints what it loads.
use Rattle.std.specs.Prelude.{ℕ, ◌≡◌, ◌==◌, if◌then◌else◌, Option, Some, None}
use Rattle.orca_names.specs.declared.trace.Trace.{Trace}
use Rattle.orca_names.specs.declared.trace.Trace.TheVariants.{Deep}
use Rattle.behaviour_code.specs.declared.code.Program.{Program}
use Rattle.turn_rules.specs.declared.act.Act.{Act}
use Rattle.turn_rules.specs.declared.act.Act.TheVariants.{Post}
use Rattle.turn_rules.specs.declared.act.Frame.{Frame}
use Rattle.turn_rules.specs.Segment.{Turn}
use Rattle.letter_kinds.specs.Holdings.{Holdings, with_made}
use Rattle.machine_rules.specs.Cell.{Cell}
use Rattle.machine_rules.specs.Go.{turn_of_cell}
use Rattle.actor_cell.specs.declared.turning.Awaited.{Awaited}
use Rattle.actor_cell.specs.declared.turning.Turned.{Turned}
use Rattle.actor_cell.specs.Goes.{things_from}

-- the letter that is awaited, where it is this actor's
abbrev pub awaited_by : ℕ → Option Awaited → Option Awaited
awaited_by a None = None
awaited_by a (Some letter) = if letter.actor == a then Some letter else None

-- the act sends the letter with the arguments found, which by deep tracing loads the things found
pub record IsLetter (trace : Trace) (me : ℕ) (h : Holdings) (act : Act) (found : Turned)
    (letter : Awaited) : Type 0 where
  pub its : letter.actor ≡ me
  pub deep : trace ≡ Deep
  pub sent : act ≡ Post letter.to letter.behaviour found.args
  pub things : found.seen ≡ things_from trace me h found.args

-- where a letter is awaited, the act sends it
abbrev pub AwaitsIn : Trace → ℕ → Holdings → Act → Turned → Type 0
AwaitsIn trace me h act found =
    (letter : Awaited) → found.awaited ≡ Some letter → IsLetter trace me h act found letter

-- the turn of the cell leaves this, and stops at the letter
pub record Awaits (trace : Trace) (program : Program) (me : ℕ) (c : Cell) (turn : Turn)
    (found : Turned) (letter : Awaited) : Type 0 where
  pub frame : Frame
  pub framed : c.frame ≡ Some frame
  pub left : (turn_of_cell trace program me c frame).turn ≡ turn
  pub place : (turn_of_cell trace program me c frame).place ≡ found.place
  pub letter_is : IsLetter trace me (with_made turn.made c.holdings)
      (turn_of_cell trace program me c frame).act found letter

-- where a letter is awaited, the turn of the cell stops at it
abbrev pub AwaitsAt : Trace → Program → ℕ → Cell → Turn → Turned → Type 0
AwaitsAt trace program me c turn found =
    (letter : Awaited) → found.awaited ≡ Some letter → Awaits trace program me c turn found letter
