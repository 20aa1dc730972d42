-- What the events of a run keep, and how many objects they make.
use Rattle.std.proofs.Common.{◌≡◌, ℕ, suc, ◌+◌, ◌*◌, ◌≤◌, List, [], ◌∷◌, length, refl, ap, sym, ◌∙◌, arith, subst}
use Rattle.std.proofs.lemmas.Option.{get_or_from_slice_get, slice_get_within}
use Rattle.orca_names.specs.declared.trace.Trace.{Trace}
use Rattle.behaviour_code.specs.WellFormed.{IsWellFormed}
use Rattle.event_rule.specs.Runs.{Leads}
use Rattle.event_rule.specs.declared.event.Event.{Event}
use Rattle.reach_walk.specs.Reach.{thing_row}
use Rattle.turn_rules.proofs.Bounds.{segment_makes}
use Rattle.turn_rules.specs.declared.act.Frame.{Frame}
use Rattle.letter_kinds.proofs.Sums.{sum-at}
use Rattle.letter_kinds.specs.Letters.{Letter}
use Rattle.machine_rules.proofs.Stepping.{step_of}
use Rattle.machine_rules.specs.Actors.{seat, seat_at}
use Rattle.machine_rules.specs.Cell.{Cell}
use Rattle.machine_rules.specs.Go.{setting_of, turn_of_cell}
use Rattle.machine_rules.specs.Next.{next}
use Rattle.machine_rules.specs.Rules.{IsStep}
use Rattle.machine_rules.specs.Rules as rule
use Rattle.machine_rules.specs.State.{State, first_state}
use Rattle.plain_rules.specs.Machine.{PlainState, plain_row}
use Rattle.plain_rules.specs.declared.PlainActor.{PlainActor}
use Rattle.count_laws.proofs.agreement.PlainSide.{stands_beside}
use Rattle.count_laws.proofs.bounds.Bounding.{runs_make_few, runs_open}
use Rattle.count_laws.specs.Agreement.{Person}
use Rattle.count_laws.specs.Facts.{Facts}
use Rattle.cell_laws.proofs.Room.{facts}
use Rattle.cell_laws.specs.Limits.{RunsHaveRoom, RunsHaveSerials, RunsKeepTheProgram, RunsMakeFewObjects}

-- the program and the options stay, and at most 1,024 objects more are made for each of so many events
record Grows (events : ℕ) (s t : State) : Type 0 where
  program : t.program ≡ s.program
  options : t.options ≡ s.options
  objects : IsWellFormed s.program → t.objects ≤ s.objects + 1024 * events

none_made : (s t : State) → t.program ≡ s.program → t.options ≡ s.options → t.objects ≡ s.objects → Grows 1 s t
none_made s t program options same = record { program = program; options = options; objects = λ good. omega arith }

turn_made : (trace : Trace) (s t : State) (a : ℕ) (c : Cell) (f : Frame) → t.program ≡ s.program → t.options ≡ s.options
    → t.objects ≡ s.objects + length (turn_of_cell trace s.program a c f).turn.made → Grows 1 s t
turn_made trace s t a c f program options made = record {
  program = program;
  options = options;
  objects = λ good. let few = segment_makes (setting_of trace s.program a c) f c.fields good in omega arith;
}

grows : (trace : Trace) (s : State) {e : Event} {t : State} → IsStep trace s e t → Grows 1 s t
grows trace s (rule.ends a c mail f stops) = turn_made trace s _ a c f refl refl refl
grows trace s (rule.prints a c mail f v stops) = turn_made trace s _ a c f refl refl refl
grows trace s (rule.makes a c mail f kind register stops room) = turn_made trace s _ a c f refl refl refl
grows trace s (rule.posts a c mail f to behaviour args stops none) = turn_made trace s _ a c f refl refl refl
grows trace s step = none_made s _ refl refl refl

grows_on : (n : ℕ) (s t u : State) → Grows 1 s t → Grows n t u → Grows (suc n) s u
grows_on n s t u one more = record {
  program = more.program ∙ one.program;
  options = more.options ∙ one.options;
  objects = λ good. let first = one.objects good in let later = more.objects (subst IsWellFormed (sym one.program) good) in omega arith;
}

leads_grow : (book : List Event) (s t : State) → Leads next s book t → Grows (length book) s t
leads_grow [] s t same = subst (Grows 0 s) same (record { program = refl; options = refl; objects = λ good. omega arith })
leads_grow (e ∷ book) s t (u, goes, leads) = grows_on (length book) s u t (grows s.options.trace s (step_of s u e goes)) (leads_grow book u t leads)

pub runs_keep_program : RunsKeepTheProgram
runs_keep_program program options book t run =
    let all = leads_grow book (first_state program options) t run in
    record { same_program = all.program; same_options = all.options }

pub runs_make_few_objects : RunsMakeFewObjects
runs_make_few_objects program options book t good run = let few = (leads_grow book (first_state program options) t run).objects good in omega arith

pub runs_have_room : RunsHaveRoom
runs_have_room program options book t short = record {
  objects = λ good. let few = runs_make_few_objects program options book t good short.run in let long = short.short in omega arith;
  actors = runs_make_few program options book t short.run;
  tokens = λ room. let opened = runs_open program options book t short.run in omega arith;
}

-- an actor made no more objects than all actors did
serial_below : (trace : Trace) (p : PlainState) (s : State) → Facts trace p s → (a : ℕ) (c : Cell) (mail : List Letter) → seat_at s.actors a ≡ seat c mail → c.holdings.next ≤ s.objects
serial_below trace p s kept a c mail at =
    let beside = stands_beside (thing_row (plain_row p.actors)) p.actors s.actors kept.counts a c mail at in
    let serial : length beside.actor.rows ≡ c.holdings.next = ap (λ (q : Person). q.serial) beside.same in
    let part = sum-at (λ (x : PlainActor). length x.rows) p.actors a beside.actor (slice_get_within p.actors a beside.actor beside.there) in
    let here = ap (λ (x : PlainActor). length x.rows) (get_or_from_slice_get p.actors a beside.actor beside.actor beside.there) in
    let all = kept.objects in
    omega arith

pub runs_have_serials : RunsHaveSerials
runs_have_serials program options book t short a c mail at good =
    let all = facts program options book t short in
    let serial = serial_below options.trace all.0 t all.1.beside a c mail at in
    let room = (runs_have_room program options book t short).objects good in
    omega arith
