-- From how the machine went on to what every run promises.
use Rattle.std.proofs.Common.{◌≡◌, ◌*◌, ◌<◌, ◌≤◌, ℕ, List, [], ◌∷◌, ◌++◌, length, ap, ◌∙◌, Option, None, Some, refl, sym, subst, arith}
use Rattle.std.proofs.lemmas.List.{length-replicate}
use Rattle.std.specs.Prelude.{IfSome, unwrap_or}
use Rattle.orca_names.specs.declared.trace.Trace.{Trace}
use Rattle.orca_names.specs.declared.trace.Trace.TheVariants.{Deep, Roots}
use Rattle.event_rule.specs.Runs.{IsQuiet, Leads, LeadsInOrder, Machine}
use Rattle.event_rule.specs.declared.event.Event.{Event}
use Rattle.run_book.specs.Books.{BookValue}
use Rattle.report_text.specs.declared.status.Status.{Status}
use Rattle.report_text.specs.declared.status.Status.TheVariants as status
use Rattle.word_line.specs.declared.order.Order.{Order}
use Rattle.word_line.specs.declared.order.TheConstants.{MOST_ROWS}
use Rattle.behaviour_code.specs.declared.code.Program.{Program}
use Rattle.plain_rules.specs.Machine.{PlainState}
use Rattle.machine_rules.specs.Next.{next}
use Rattle.machine_rules.specs.Options.{Options}
use Rattle.machine_rules.specs.Run.{IsPlainBeside, IsRun}
use Rattle.machine_rules.specs.State.{State, first_state}
use Rattle.machine_laws.proofs.AtQuiet.{exactly_at_quiet, quiet_by_roots, traced_by_roots}
use Rattle.machine_laws.proofs.WholeRuns.{never_too_early}
use Rattle.orca_core.specs.Laws.{IsRunOf}
use Rattle.machine_laws.specs.Laws.{IsLeftExactly}
use Rattle.orca_core.specs.Machine.{NoneIsAway, Machine as Orca}
use Rattle.block_table.specs.Blocks.{Blocks, free_blocks}
use Rattle.row_blocks.specs.Blocks.{MayPutEach}
use Rattle.row_store.specs.Vectors.{places_in}
use Rattle.row_store.proofs.Blocks.{can_put_all}
use Rattle.row_laws.specs.Blocks.{IsRowRun, LeadsWithBlocks, blocks_after}
use Rattle.row_laws.proofs.Books.{row_runs_are_runs}
use Rattle.orca_core.proofs.Blockless.{none_still}
use Rattle.quiet_pass.specs.Ends.{EndsSo, GoesOnTo}
use Rattle.quiet_pass.specs.declared.ending.End.{End}
use Rattle.quiet_pass.specs.declared.ending.End.TheVariants as ends
use Rattle.pony_run.specs.Headline.{EndsWith, EveryRun, RunsInBlocks, options_in}
use Rattle.pony_run.specs.Inner.{IsAnswerOf, IsUnderWay}

exact_after : (trace : Trace) (program : Program) (options : Options) → options.trace ≡ trace → 0 < options.weight → (book : List Event) (t : State)
    → IsRun program options book t → IsQuiet next t → (plain : PlainState) × IsPlainBeside program options book plain × IsLeftExactly trace plain t.actors
exact_after Deep program options is heavy book t run quiet = exactly_at_quiet program options heavy is book t run quiet
exact_after Roots program options is heavy book t run quiet = quiet_by_roots program options heavy is book t run quiet

-- the run of a book that has the order's options and rows, and with one worker is in order
pub every_run : (order : Order) (program : Program) (book : BookValue) (t : State) (blocks : Blocks) → 0 < order.weight → book.weight ≡ order.weight → book.trace ≡ order.trace
    → length book.entries ≤ order.budget → IsRun program (options_in order) book.entries t
    → RunsInBlocks order.rows program (options_in order) book.entries t blocks
    → (order.workers ≡ 1 → LeadsInOrder next (first_state program (options_in order)) book.entries t)
    → (run : EveryRun order program book) × (run.state ≡ t) × (run.blocks ≡ blocks)
every_run order program book t blocks heavy weight trace within run rows in_order = (
  record {
    weight = weight;
    trace = trace;
    within = within;
    state = t;
    run = run;
    blocks = blocks;
    rows = rows;
    in_order = in_order;
    safe = λ front later e. never_too_early program (options_in order) heavy front later t (subst (λ b. IsRun program (options_in order) b t) e run);
    traced = λ roots front later e.
        let z = never_too_early program (options_in order) heavy front later t (subst (λ b. IsRun program (options_in order) b t) e run) in
        (z.0, z.1, traced_by_roots program (options_in order) heavy roots front z.0 z.1);
    exact = exact_after order.trace program (options_in order) refl heavy book.entries t run;
  },
  refl,
  refl,
)

-- the blocks of a run before its first event are free
pub no_entry_yet : (rows : Option ℕ) (program : Program) (options : Options) (book : List Event) (s : State) (blocks : Blocks) → book ≡ [] → first_state program options ≡ s
    → blocks ≡ free_blocks (unwrap_or rows 0) → RunsInBlocks rows program options book s blocks
no_entry_yet None program options book s blocks none first free = free
no_entry_yet (Some count) program options book s blocks none first free =
    subst (λ (b : List Event). IsRowRun program options count b s blocks) (sym none) (first, sym free)

-- before the first event
pub no_run_yet : (order : Order) (program : Program) (book : BookValue) → 0 < order.weight
    → book ≡ record { entries = []; spare = 0; weight = order.weight; trace = order.trace } → EveryRun order program book
no_run_yet order program book heavy fresh =
    let none = ap (λ (b : BookValue). b.entries) fresh in
    let first = first_state program (options_in order) in
    (every_run order program book first (free_blocks (unwrap_or order.rows 0)) heavy (ap (λ (b : BookValue). b.weight) fresh) (ap (λ (b : BookValue). b.trace) fresh)
    (subst (λ (b : List Event). length b ≤ order.budget) (sym none) (omega arith))
    (subst (λ (b : List Event). Leads next first b first) (sym none) refl)
    (no_entry_yet order.rows program (options_in order) book.entries first (free_blocks (unwrap_or order.rows 0)) none refl refl)
    (λ single. subst (λ (b : List Event). LeadsInOrder next first b first) (sym none) refl)).0

-- ---- a run that is under way

-- what it promises
pub run_under_way : (order : Order) (program : Program) (m : Orca) (book : BookValue) → 0 < order.weight → IsUnderWay order program m book
    → (run : EveryRun order program book) × (run.state ≡ m.state) × (run.blocks ≡ m.blocks)
run_under_way order program m book heavy h =
    every_run order program book m.state m.blocks heavy h.weight h.trace h.within
    (subst (λ (p : Program). IsRun p (options_in order) book.entries m.state) h.program_is
    (subst (λ (o : Options). IsRun m.state.program o book.entries m.state) h.options h.run.run))
    h.rows h.in_order

-- entries in order, and behind them more
in_order_on : {S : Type 0} (next : Machine S) (s t u : S) (book later : List Event) → LeadsInOrder next s book t → LeadsInOrder next t later u
    → LeadsInOrder next s (book ++ later) u
in_order_on next s t u [] later same on = subst (λ v. LeadsInOrder next v later u) (sym same) on
in_order_on next s t u (e ∷ book) later h on = (h.0, (h.1.0, h.1.1, in_order_on next h.1.0 t u book later h.1.2 on))

-- entries that had enough blocks, and behind them more
with_blocks_on : (s t u : State) (first mid last : Blocks) (book later : List Event) → LeadsWithBlocks s first book t mid → LeadsWithBlocks t mid later u last
    → LeadsWithBlocks s first (book ++ later) u last
with_blocks_on s t u first mid last [] later same on =
    subst (λ (x : State × Blocks). LeadsWithBlocks x.0 x.1 later u last) (λ i. (sym same.0 i, sym same.1 i)) on
with_blocks_on s t u first mid last (e ∷ book) later (v, went, fits, leads) on =
    (v, went, fits, with_blocks_on v t u (blocks_after s e v first) mid last book later leads on)

rows_on : (rows : Option ℕ) (program : Program) (options : Options) (m n : Orca) (book longer : List Event) → RunsInBlocks rows program options book m.state m.blocks
    → IfSome rows (λ count. (1 ≤ count) × (count ≤ MOST_ROWS)) → length n.blocks ≡ length m.blocks → GoesOnTo m book n longer → RunsInBlocks rows program options longer n.state n.blocks
rows_on None program options m n book longer none some size on = none_still m.blocks n.blocks none size
rows_on (Some count) program options m n book longer runs some size on =
    let least = some.0 in
    let long = (row_runs_are_runs program options count book m.state m.blocks runs).size in
    subst (λ (b : List Event). IsRowRun program options count b n.state n.blocks) (sym on.added)
    (with_blocks_on (first_state program options) m.state n.state (free_blocks count) m.blocks n.blocks book on.later runs (on.blocks (omega (arith, least, long))))

-- one worker goes on with it
pub goes_on_under_way : (order : Order) (program : Program) (m n : Orca) (book longer : BookValue) → IfSome order.rows (λ count. (1 ≤ count) × (count ≤ MOST_ROWS)) → IsUnderWay order program m book
    → IsRunOf n longer.entries → n.state.program ≡ m.state.program → n.state.options ≡ m.state.options
    → (longer.weight ≡ book.weight) × (longer.trace ≡ book.trace) → length longer.entries ≤ order.budget → NoneIsAway n → length n.blocks ≡ length m.blocks
    → GoesOnTo m book.entries n longer.entries → IsUnderWay order program n longer
goes_on_under_way order program m n book longer some h run same_program same_options same within home size on = record {
  program_is = same_program ∙ h.program_is;
  run = run;
  options = same_options ∙ h.options;
  weight = same.0 ∙ h.weight;
  trace = same.1 ∙ h.trace;
  within = within;
  home = home;
  rows = rows_on order.rows program (options_in order) m n book.entries longer.entries h.rows some size on;
  in_order = λ single. subst (λ (b : List Event). LeadsInOrder next (first_state program (options_in order)) b n.state) (sym on.added)
      (in_order_on next (first_state program (options_in order)) m.state n.state book.entries on.later (h.in_order single) on.leads);
}

-- as many words as so many blocks have
pub words_let_put : (blocks : ℕ) (ws : List ℕ) → length ws ≡ 17 * blocks → MayPutEach (free_blocks blocks) (places_in ws)
words_let_put blocks ws long = λ k less. let size : length (free_blocks blocks) ≡ blocks = length-replicate blocks None in can_put_all k ws (omega arith)

-- without rows in blocks it has none, and needs none
pub runs_without : (rows : Option ℕ) (program : Program) (options : Options) (book : List Event) (s : State) (blocks : Blocks) → rows ≡ None → blocks ≡ []
    → RunsInBlocks rows program options book s blocks
runs_without rows program options book s blocks none empty = subst (λ (r : Option ℕ). RunsInBlocks r program options book s blocks) (sym none) empty

pub no_blocks : (rows : Option ℕ) (program : Program) (options : Options) (book : List Event) (s : State) (blocks : Blocks) → RunsInBlocks rows program options book s blocks → rows ≡ None
    → blocks ≡ []
no_blocks None program options book s blocks runs none = runs
no_blocks (Some count) program options book s blocks runs none = absurd (cc)

-- ---- how a run ended, and how the call ends then

pub ends_with : (end : End) (answer : Status) → IsAnswerOf end (Some answer) → (s : State) (blocks : Blocks) (book : List Event) (budget : ℕ) → EndsSo end s blocks (length book) budget
    → EndsWith answer s blocks book budget
ends_with ends.Quiet answer is s blocks book budget h = let same : status.Quiet ≡ answer = cc in subst (λ (a : Status). EndsWith a s blocks book budget) same h
ends_with ends.Budget answer is s blocks book budget h = let same : status.Budget ≡ answer = cc in subst (λ (a : Status). EndsWith a s blocks book budget) same h
ends_with (ends.Full actor) answer is s blocks book budget h =
    let same : status.ActorsFull actor ≡ answer = cc in subst (λ (a : Status). EndsWith a s blocks book budget) same h
ends_with (ends.NoRows actor) answer is s blocks book budget h =
    let same : status.RowsFull actor ≡ answer = cc in subst (λ (a : Status). EndsWith a s blocks book budget) same h
ends_with ends.NoMemory answer is s blocks book budget h = absurd (cc)
