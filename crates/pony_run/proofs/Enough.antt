-- A run with 1,024 blocks more than it made objects lacks none for its next event.
use Rattle.std.proofs.Common.{◌≡◌, ℕ, zero, suc, ◌+◌, ◌-◌, ◌≤◌, List, [], ◌∷◌, length, map, refl, ap, sym, arith, subst}
use Rattle.orca_names.specs.declared.limits.TheConstants.{BODY_LIMIT}
use Rattle.orca_names.specs.declared.names.ObjName.{ObjName}
use Rattle.orca_names.specs.declared.trace.Trace.{Trace}
use Rattle.behaviour_code.specs.WellFormed.{IsWellFormed}
use Rattle.behaviour_code.specs.declared.code.Program.{Program}
use Rattle.event_rule.specs.declared.event.Event.{Event}
use Rattle.event_rule.specs.declared.event.Event.TheVariants.{Go}
use Rattle.turn_rules.proofs.Bounds.{segment_makes}
use Rattle.turn_rules.specs.declared.act.Frame.{Frame}
use Rattle.machine_rules.proofs.Stepping.{step_of}
use Rattle.machine_rules.specs.Actors.{Actors}
use Rattle.machine_rules.specs.Cell.{Cell}
use Rattle.machine_rules.specs.Go.{setting_of, turn_of_cell}
use Rattle.machine_rules.specs.Options.{Options}
use Rattle.machine_rules.specs.Rules.{IsStep}
use Rattle.machine_rules.specs.Rules as rule
use Rattle.machine_rules.specs.State.{State, first_state}
use Rattle.block_table.proofs.Filling.{fill_count}
use Rattle.block_table.specs.Blocks.{Blocks, count_free, fill, free_blocks}
use Rattle.row_laws.proofs.Books.{row_runs_are_runs}
use Rattle.row_laws.proofs.Filling.{from_size, kept_room}
use Rattle.row_laws.specs.Blocks.{IsRowRun, LacksBlocks, LeadsWithBlocks, blocks_after, kept_of, made_by, next_at}
use Rattle.cell_laws.proofs.Keeping.{runs_keep_program}

-- ---- the objects of one event

-- no object is lost from the count, and at most as many come as a behaviour may have instructions
record Adds (s t : State) : Type 0 where
  kept : s.objects ≤ t.objects
  few : IsWellFormed s.program → t.objects ≤ s.objects + BODY_LIMIT

adds_none : (s t : State) → t.objects ≡ s.objects → Adds s t
adds_none s t same = record { kept = omega arith; few = λ good. omega arith }

adds_turn : (trace : Trace) (s t : State) (a : ℕ) (c : Cell) (f : Frame)
    → t.objects ≡ s.objects + length (turn_of_cell trace s.program a c f).turn.made → Adds s t
adds_turn trace s t a c f made = record {
  kept = omega arith;
  few = λ good. let few = segment_makes (setting_of trace s.program a c) f c.fields good in omega arith;
}

adds : (trace : Trace) (s : State) {e : Event} {t : State} → IsStep trace s e t → Adds s t
adds trace s (rule.ends a c mail f stops) = adds_turn trace s _ a c f refl
adds trace s (rule.prints a c mail f v stops) = adds_turn trace s _ a c f refl
adds trace s (rule.makes a c mail f kind register stops room) = adds_turn trace s _ a c f refl
adds trace s (rule.posts a c mail f to behaviour args stops none) = adds_turn trace s _ a c f refl
adds trace s step = adds_none s _ refl

-- what it makes is counted
made_counted : (s t : State) (e : Event) → length (made_by s e t) ≤ t.objects - s.objects
made_counted s t (Go a) = let size = from_size a (next_at s.actors a) (t.objects - s.objects) in omega arith
made_counted s t e = omega arith

-- ---- the free blocks after it

-- no more blocks are taken than objects come
room_kept : (ns : List ObjName) (actors : Actors) (blocks : Blocks) (from to : ℕ) → from ≤ to → length ns ≤ to - from
    → count_free blocks + from ≤ count_free (fill ns (map (kept_of actors) blocks)) + to
room_kept ns actors blocks from to more counted =
    let left = kept_room actors blocks in
    let taken = fill_count ns (map (kept_of actors) blocks) in
    omega arith

-- so it is over a book
leads_room : (book : List Event) (s t : State) (blocks later : Blocks) → LeadsWithBlocks s blocks book t later
    → count_free blocks + s.objects ≤ count_free later + t.objects
leads_room [] s t blocks later z =
    let objects = ap (λ (u : State). u.objects) z.0 in
    let free = ap (λ (b : Blocks). count_free b) z.1 in
    omega arith
leads_room (e ∷ book) s t blocks later (u, goes, fits, more) =
    let one = room_kept (made_by s e u) u.actors blocks s.objects u.objects (adds s.options.trace s (step_of s u e goes)).kept (made_counted s u e) in
    let rest = leads_room book u t (blocks_after s e u blocks) later more in
    omega arith

all_free : (count : ℕ) → count_free (free_blocks count) ≡ count
all_free zero = refl
all_free (suc count) = omega (arith, all_free count)

-- ---- enough blocks

-- a run with at least 1,024 blocks more than it makes objects lacks none
pub enough : (program : Program) (options : Options) (count : ℕ) (book : List Event) (s : State) (blocks : Blocks) (e : Event)
    → IsWellFormed program → IsRowRun program options count book s blocks → s.objects + BODY_LIMIT ≤ count → ¬ LacksBlocks s e blocks
enough program options count book s blocks e good run room lacks =
    let ends = row_runs_are_runs program options count book s blocks run in
    let same = (runs_keep_program program options book s ends.run).same_program in
    let few = (adds s.options.trace s (step_of s lacks.to e lacks.goes)).few (subst IsWellFormed (sym same) good) in
    let counted = made_counted s lacks.to e in
    let left = leads_room book (first_state program options) s (free_blocks count) blocks run in
    let all = all_free count in
    let more = lacks.more in
    absurd (omega arith)
