-- What holds of blocks.
use Rattle.std.specs.Prelude.{ℕ, ◌≡◌, ◌+◌, ◌<◌, ◌↔◌, true, false, List, [], length, slice_get, Some, None}
use Rattle.std.specs.FinMap as m
use Rattle.orca_names.specs.declared.names.ObjName.{ObjName}
use Rattle.orca_names.specs.declared.names.Thing.{Thing}
use Rattle.orca_names.specs.declared.names.Thing.TheVariants.{Obj}
use Rattle.orca_names.specs.declared.trace.Trace.TheVariants.{Deep}
use Rattle.behaviour_code.specs.declared.code.Program.{Program}
use Rattle.event_rule.specs.Runs.{Goes}
use Rattle.event_rule.specs.declared.event.Event.{Event}
use Rattle.letter_kinds.specs.Letters.{Letter}
use Rattle.letter_kinds.specs.Sums.{brought_by}
use Rattle.machine_rules.specs.Actors.{Actors, Every, seat, seat_at}
use Rattle.machine_rules.specs.Cell.{Cell}
use Rattle.machine_rules.specs.Left.{IsLeft}
use Rattle.machine_rules.specs.Next.{next}
use Rattle.machine_rules.specs.Options.{Options}
use Rattle.machine_rules.specs.Run.{IsRun}
use Rattle.machine_rules.specs.State.{State, first_state}
use Rattle.count_laws.specs.Gone.{HasName}
use Rattle.count_laws.specs.Named.{IsNamedBy, NamesNothingFreed}
use Rattle.block_table.specs.Blocks.{Blocks, count_free, free_blocks}
use Rattle.row_laws.specs.Blocks.{AreBlocksOf, Fits, IsRowRun, LacksBlocks, LeadsWithBlocks, blocks_after, is_freed_by, made_by, objects_left}

-- the name of each object that is left was given
abbrev pub AreNamed : Actors → Type 0
AreNamed actors = (n : ObjName) → IsLeft actors (Obj n) → HasName actors (Obj n)

-- these are the blocks of the state, and names were given
pub record HasBlocks (s : State) (blocks : Blocks) : Type 0 where
  pub named : AreNamed s.actors
  pub are : AreBlocksOf s.actors blocks

-- ---- each event

-- what an event that has room for its rows makes of the blocks
pub record Keeps (s t : State) (e : Event) (blocks : Blocks) : Type 0 where
  pub has : HasBlocks t (blocks_after s e t blocks)
  pub size : length (blocks_after s e t blocks) ≡ length blocks
  -- what is left has the block that it had
  pub same : (k : ℕ) (n : ObjName) → slice_get blocks k ≡ Some (Some n) → IsLeft t.actors (Obj n)
      → slice_get (blocks_after s e t blocks) k ≡ Some (Some n)

abbrev pub BlocksStay : Type 0
BlocksStay =
    (s t : State) (e : Event) (blocks : Blocks) → next s e ≡ Goes t → Fits s e t blocks
    → HasBlocks s blocks → Keeps s t e blocks

-- a block whose object a present actor names, or a letter that waits for it, keeps that object
abbrev pub NoBlockIsTakenEarly : Type 0
NoBlockIsTakenEarly =
    (s t : State) (e : Event) (blocks : Blocks) → next s e ≡ Goes t → NamesNothingFreed t.actors
    → (k a : ℕ) (n : ObjName) (c : Cell) (mail : List Letter)
    → slice_get blocks k ≡ Some (Some n) → seat_at t.actors a ≡ seat c mail
    → IsNamedBy a c mail (Obj n) → slice_get (blocks_after s e t blocks) k ≡ Some (Some n)

-- what is left stays, but for what the event frees
pub record FreesExactly (s t : State) (e : Event) : Type 0 where
  pub stays : (n : ObjName) → IsLeft s.actors (Obj n) → is_freed_by s e n ≡ false
      → IsLeft t.actors (Obj n)
  pub goes : (n : ObjName) → is_freed_by s e n ≡ true → IsLeft t.actors (Obj n) → ⊥

abbrev pub EventsFreeExactly : Type 0
EventsFreeExactly = (s t : State) (e : Event) → next s e ≡ Goes t → FreesExactly s t e

-- ---- runs

-- all blocks of the start are free
abbrev pub StartsFree : Type 0
StartsFree =
    (program : Program) (options : Options) (count : ℕ)
    → HasBlocks (first_state program options) (free_blocks count)

-- the book is a run, and the blocks are those of its state, as many as at the start
pub record EndsWithBlocks (program : Program) (options : Options) (count : ℕ) (book : List Event)
    (t : State) (blocks : Blocks) : Type 0 where
  pub run : IsRun program options book t
  pub has : HasBlocks t blocks
  pub size : length blocks ≡ count

-- so is each run with blocks
abbrev pub RowRunsAreRuns : Type 0
RowRunsAreRuns =
    (program : Program) (options : Options) (count : ℕ) (book : List Event) (t : State)
    (blocks : Blocks) → IsRowRun program options count book t blocks
    → EndsWithBlocks program options count book t blocks

-- an object that had a block and is left after more events has that block still
abbrev pub LeftKeepsBlock : Type 0
LeftKeepsBlock =
    (s t : State) (book : List Event) (blocks later : Blocks) → HasBlocks s blocks
    → LeadsWithBlocks s blocks book t later → (k : ℕ) (n : ObjName)
    → slice_get blocks k ≡ Some (Some n) → IsLeft t.actors (Obj n)
    → slice_get later k ≡ Some (Some n)

-- in a run this holds of what an actor or a waiting letter names after more events
abbrev pub NamedKeepsBlock : Type 0
NamedKeepsBlock =
    (program : Program) (options : Options) → 0 < options.weight → (count : ℕ)
    (book more : List Event) (s t : State) (blocks later : Blocks)
    → IsRowRun program options count book s blocks → LeadsWithBlocks s blocks more t later
    → (k a : ℕ) (n : ObjName) (c : Cell) (mail : List Letter)
    → slice_get blocks k ≡ Some (Some n) → seat_at t.actors a ≡ seat c mail
    → IsNamedBy a c mail (Obj n) → slice_get later k ≡ Some (Some n)

-- ---- counts

-- the free blocks, with the objects that are left, are all blocks
abbrev pub FreeAreTheRest : Type 0
FreeAreTheRest =
    (s : State) (blocks : Blocks) → HasBlocks s blocks
    → count_free blocks + objects_left s.actors ≡ length blocks

-- more rows than there are blocks, without those of the objects that are left
pub record MakesTooMany (s : State) (e : Event) (blocks : Blocks) : Type 0 where
  pub to : State
  pub goes : next s e ≡ Goes to
  pub more : length blocks < objects_left s.actors + length (made_by s e to)

-- blocks are lacked exactly there
abbrev pub LackIsCounted : Type 0
LackIsCounted =
    (s : State) (e : Event) (blocks : Blocks) → HasBlocks s blocks
    → LacksBlocks s e blocks ↔ MakesTooMany s e blocks

-- ---- deep tracing

-- the actor keeps no row that a letter brought, and no letter that waits for it brings one uncounted
pub record BringsNone (c : Cell) (mail : List Letter) : Type 0 where
  pub known : (x : Thing) → m.get c.known x ≡ None
  pub letters : brought_by mail ≡ []

abbrev pub DeepBringsNone : Type 0
DeepBringsNone =
    (program : Program) (options : Options) → options.trace ≡ Deep → (book : List Event)
    (s : State) → IsRun program options book s → Every (λ a c mail. BringsNone c mail) s.actors
