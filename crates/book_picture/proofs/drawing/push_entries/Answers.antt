use Rattle.std.proofs.Common.{◌+◌, take, string_bytes, ap, sym, subst, ◌∙◌}
use Rattle.cell_laws.proofs.Keeping.{runs_keep_program}
use Rattle.machine_rules.specs.Run.{IsRun}
use Rattle.machine_rules.specs.State.{first_state}
use Rattle.orca_core.proofs.Reached.{leads_more}
use Rattle.run_book.specs.Books.{options_of_book}
use Rattle.picture_lines.proofs.Steps.{one_more}
use Rattle.book_picture.specs.Entries.{TellsRun}
use Rattle.book_picture.proofs.Events.{reached_by}
use Rattle.book_picture.proofs.Runs.{leads_on, more_told, still_leads}
use Rattle.book_picture.proofs.drawing.push_entries.Goals as goal

pub push_event-requires-clause-run : goal.push_event-requires-clause-run
push_event-requires-clause-run c =
    reached_by c.args.orca.now.state.program (options_of_book c.args.book.now) (take c.loop-place.place c.args.book.now.entries)
    c.loop-place.orca.state c.loop-place.invariant.run

pub push_event-requires-clause-goes : goal.push_event-requires-clause-goes
push_event-requires-clause-goes c =
    leads_on c.args.book.now.entries c.loop-place.place c.at.result c.loop-place.orca.state c.at.ensures c.loop-place.invariant.rest

pub push_event-requires-clause-names : goal.push_event-requires-clause-names
push_event-requires-clause-names c =
    c.requires.names
    ∙ ap (λ p. p.names)
    (sym (runs_keep_program c.args.orca.now.state.program (options_of_book c.args.book.now) (take c.loop-place.place c.args.book.now.entries)
    c.loop-place.orca.state c.loop-place.invariant.run).same_program)

pub loop-place-preserved : goal.loop-place-preserved
loop-place-preserved c =
    let kept = c.loop-place.invariant in
    let entries = c.args.book.now.entries in
    let i = c.loop-place.place in
    let e = c.at.result in
    let start = c.args.orca.now.state in
    let s = c.loop-place.orca.state in
    let t = c.push_event.new.orca.state in
    let old = string_bytes c.args.out.now in
    let now = string_bytes c.loop-place.out in
    let later = string_bytes c.push_event.new.out in
    let options = options_of_book c.args.book.now in
    let done = c.in_ok-push_event.ensures in
    let more = sym (one_more entries i e c.at.ensures) in
    record {
      told = subst (λ es. TellsRun start es t old later) more (more_told start s t (take i entries) e old now later kept.told done.goes done.told);
      run = subst (λ es. IsRun start.program options es t) more (leads_more (take i entries) (first_state start.program options) s t e kept.run done.goes);
      rest = still_leads entries i e s c.at.ensures kept.rest t done.goes;
      steps = done.steps ∙ ap (λ n. n + 1) kept.steps;
      home = done.home;
      none = done.none;
    }
