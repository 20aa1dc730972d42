-- What the code tells of a turn.
use Rattle.std.proofs.Common.{◌≡◌, ℕ, List, [], ◌∷◌, None, Some, refl, sym, ap, ◌∙◌}
use Rattle.std.specs.List.{find}
use Rattle.orca_names.specs.declared.names.Value.{Value}
use Rattle.orca_names.specs.declared.options.Options.{Options}
use Rattle.orca_names.specs.declared.trace.Trace.{Trace}
use Rattle.orca_names.specs.declared.trace.Trace.TheVariants.{Deep, Roots}
use Rattle.behaviour_code.specs.declared.code.Program.{Program}
use Rattle.reach_walk.specs.Reach.{named_by}
use Rattle.turn_rules.specs.declared.act.Act.{Act}
use Rattle.turn_rules.specs.declared.act.Act.TheVariants as act
use Rattle.turn_rules.specs.declared.act.Frame.{Frame}
use Rattle.turn_rules.specs.Segment.{Turn}
use Rattle.turn_step.specs.Rests.{rests_at}
use Rattle.turn_step.proofs.Resting.{gets_nothing, segment_rests}
use Rattle.letter_kinds.specs.Counting.{Loaded}
use Rattle.letter_kinds.specs.Holdings.{Holdings}
use Rattle.machine_rules.specs.Cell.{Cell}
use Rattle.machine_rules.specs.Go.{lacking_from, load_from, needed, needs, rows_from, setting_of}
use Rattle.actor_cell.specs.Moves.{Move, End, Rest}
use Rattle.actor_cell.specs.Goes.{CanMove, IsTold, cell_by, gone_by, letter_or_mint, move_by, out_of, told, turned_or_needs}

module _ (frame : Frame) (c : Cell) (turn : Turn) (place : ℕ) where
  -- what is told is all of it, where a letter goes or is awaited
  pub posts_told : (weight to behaviour : ℕ) (args : List Value) (load rows lacked : List Loaded)
      → (let m = letter_or_mint weight to behaviour args load rows lacked in record { turn = turn; place = place; act = m } ≡ told frame c turn place m)
  posts_told weight to behaviour args load rows [] = refl
  posts_told weight to behaviour args load rows (e ∷ lacked) = refl

  -- and for each act of a turn
  pub moves_told : (options : Options) (me : ℕ) (k : Cell) (does : Act)
      → (let m = move_by options me k does in record { turn = turn; place = place; act = m } ≡ told frame c turn place m)
  moves_told options me k (act.Post to behaviour args) =
      let trace = options.trace in
      posts_told options.weight to behaviour args (load_from trace me k.holdings args) (rows_from trace me k args) (lacking_from trace me k.holdings args)
  moves_told options me k does = refl

  -- the rows that it made are told
  pub told_made : (does : Move) → (told frame c turn place does).turn.made ≡ turn.made
  told_made Rest = refl
  told_made does = refl

  -- what becomes of the cell, and what is given out
  pub told_gone : (me : ℕ) (does : Move) → gone_by me c frame (told frame c turn place does) ≡ record { cell = cell_by me c frame turn place does; out = out_of does }
  told_gone me Rest = refl
  told_gone me does = refl

  -- what is allowed of the turn is allowed of what is told
  pub told_can : (me : ℕ) (h : Holdings) (does : Move) → (let t = told frame c turn place does in CanMove me h t.turn t.act) → CanMove me h turn does
  told_can me h Rest can = tt
  told_can me h does can = can

-- where nothing but labels is left, the turn needs nothing
rest_needs_nothing : (trace : Trace) (program : Program) (me : ℕ) (c : Cell) (frame : Frame) (end : ℕ) → rests_at program frame ≡ Some end → needed trace program me c frame ≡ None
rest_needs_nothing Deep program me c frame end rests = refl
rest_needs_nothing Roots program me c frame end rests =
    ap (λ values. find (needs me c.holdings) (named_by values)) (gets_nothing (setting_of Roots program me c) frame c.fields end rests)

-- it rests
pub rest_told : (options : Options) (program : Program) (me : ℕ) (c : Cell) (frame : Frame) (end : ℕ) (turn : Turn) → rests_at program frame ≡ Some end → turn.made ≡ []
    → IsTold options program me c turn end Rest frame
rest_told options program me c frame end turn rests none =
    let trace = options.trace in
    (λ i. turned_or_needs options me c frame (rest_needs_nothing trace program me c frame end rests i) (segment_rests (setting_of trace program me c) frame c.fields end rests i))
    ∙ (λ i. record { turn = record { registers = frame.registers; fields = c.fields; made = sym none i }; place = end; act = End })
