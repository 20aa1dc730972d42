-- What one has to show of a fact that speaks of one actor alone, so that every event keeps it.
use Rattle.std.proofs.Common.{◌≡◌, ◌≢◌, ℕ, ◌<◌, true, false, Some, None, List, [], ◌∷◌, ◌++◌}
use Rattle.orca_names.specs.Names.{owner_of}
use Rattle.orca_names.specs.declared.names.Thing.{Thing}
use Rattle.orca_names.specs.declared.names.Thing.TheVariants.{Actor}
use Rattle.behaviour_code.specs.declared.code.Program.{Program}
use Rattle.turn_rules.specs.declared.act.Frame.{Frame}
use Rattle.letter_kinds.specs.Letters.{Letter}
use Rattle.letter_kinds.specs.Counting.{Amount, Loaded, gain, mint_all, send, sweep}
use Rattle.letter_kinds.specs.Sums.{amount_of}
use Rattle.machine_rules.specs.Cell.{Cell, first_cell, fresh_cell}
use Rattle.machine_rules.specs.Collect.{is_marked, without_unused}
use Rattle.machine_rules.specs.Go.{turn_of_cell, cell_after_turn}
use Rattle.orca_names.specs.declared.trace.Trace.{Trace}
use Rattle.plain_rules.specs.Machine.{stopped_at}
use Rattle.machine_rules.specs.State.{start_letters}
use Rattle.machine_rules.specs.Take.{cell_after}
use Rattle.machine_rules.specs.Guards.{may_block}

pub record Local (trace : Trace) (Q : ℕ → Cell → List Letter → Type 0) : Type 0 where
  -- at the start, and where the actor was just made
  pub start : (program : Program) → Q 0 (first_cell program) (start_letters program)
  pub fresh : (weight : ℕ) (program : Program) (a kind : ℕ) → Q a (fresh_cell weight program kind) []
  -- others act, and a letter comes in
  pub letter : (l : Letter) (a : ℕ) (c : Cell) (mail : List Letter) → Q a c mail → Q a c (mail ++ l ∷ [])
  -- the actor takes, collects or reports
  pub take : (program : Program) (a : ℕ) (c : Cell) (l : Letter) (mail : List Letter) → c.frame ≡ None → Q a c (l ∷ mail) → Q a (cell_after program a l c) mail
  pub collect : (a : ℕ) (c : Cell) (mail : List Letter) → c.frame ≡ None → c.dirty ≡ true → Q a c mail
      → Q a (record (without_unused trace a c) { holdings = sweep (is_marked trace a c) a (without_unused trace a c).holdings; dirty = false }) mail
  pub block : (a : ℕ) (c : Cell) (mail : List Letter) → may_block c mail ≡ true → Q a c mail → Q a (record c { reported = true }) mail
  -- it runs up to an act, or to the end of its behaviour
  pub turn : (program : Program) (a : ℕ) (c : Cell) (mail : List Letter) (f : Frame) → c.frame ≡ Some f → Q a c mail
      → Q a (cell_after_turn (turn_of_cell trace program a c f) (Some (stopped_at f (turn_of_cell trace program a c f))) c.dirty c) mail
  pub end : (program : Program) (a : ℕ) (c : Cell) (mail : List Letter) (f : Frame) → c.frame ≡ Some f → Q a c mail
      → Q a (cell_after_turn (turn_of_cell trace program a c f) None true c) mail
  -- then it makes an actor, or sends; or it mints instead of the turn
  pub make : (weight a n : ℕ) (c : Cell) (mail : List Letter) (f g : Frame) → a < n → c.frame ≡ Some f → Q a c mail
      → Q a (record c { frame = Some g; holdings = gain weight (Actor n) None c.holdings }) mail
  pub send : (a : ℕ) (c : Cell) (mail : List Letter) (f : Frame) (load : List Loaded) → c.frame ≡ Some f → Q a c mail
      → Q a (record c { holdings = send a load c.holdings }) mail
  pub mint : (a : ℕ) (c : Cell) (mail : List Letter) (f : Frame) (things : List Amount) → c.frame ≡ Some f
      → ((x : Thing) → 0 < amount_of x things → owner_of x ≢ a) → Q a c mail
      → Q a (record c { holdings = mint_all things c.holdings }) mail
