-- What blocks change of a run: its end for rows alone.
use Rattle.std.proofs.Common.{◌≡◌, ◌+◌, ◌<◌, ℕ, List, [], length, Option, Some, ⊎_elim, refl, subst}
use Rattle.std.proofs.lemmas.Bool.{cases_lt}
use Rattle.orca_names.specs.declared.limits.TheConstants.{BODY_LIMIT}
use Rattle.event_rule.specs.declared.event.Event.TheVariants.{Go}
use Rattle.run_book.specs.Books.{BookValue}
use Rattle.behaviour_code.specs.declared.code.Program.{Program}
use Rattle.behaviour_code.specs.WellFormed.{IsWellFormed}
use Rattle.report_text.specs.declared.status.Status.{Status}
use Rattle.report_text.specs.declared.status.Status.TheVariants as status
use Rattle.word_line.specs.declared.order.Order.{Order}
use Rattle.quiet_pass.specs.Ends.{IsRowsFullAt}
use Rattle.pony_run.specs.Headline.{EndsWith, EveryRun, IsAsAtHand, IsReport, IsReportOf, RunsInBlocks, at_hand, options_in}
use Rattle.pony_run.proofs.Enough.{enough}

module _ (order : Order) (program : Program) (book : BookValue) (good : IsWellFormed program) (run : EveryRun order program book) (text : List ℕ) where
  -- where the end does not ask for the blocks
  hand : (end : Status) → EndsWith end run.state [] book.entries order.budget → IsReport end order book run.state text
      → (other : EveryRun (at_hand order) program book) × IsReportOf end other text
  hand end ends report = (
    record {
      weight = run.weight;
      trace = run.trace;
      within = run.within;
      state = run.state;
      run = run.run;
      blocks = [];
      rows = refl;
      in_order = run.in_order;
      safe = run.safe;
      traced = run.traced;
      exact = run.exact;
    },
    record {
      ends = ends;
      report = record {
        actors = report.actors;
        objects = report.objects;
        numbers = report.numbers;
        counts = report.counts;
        counted = report.counted;
        whys = report.whys;
        explained = report.explained;
        said = report.said;
      };
    },
  )

  -- blocks are lacked where they are few
  few : (actor count : ℕ) → order.rows ≡ Some count → IsRowsFullAt actor run.state run.blocks (length book.entries) order.budget → count < run.state.objects + BODY_LIMIT
  few actor count some full =
      let runs = subst (λ (rows : Option ℕ). RunsInBlocks rows program (options_in order) book.entries run.state run.blocks) some run.rows in
      ⊎_elim
      (λ below. below)
      (λ above. absurd (enough program (options_in order) count book.entries run.state run.blocks (Go actor) good runs above full.lacks))
      (cases_lt count (run.state.objects + BODY_LIMIT))

  pub as_at_hand : (end : Status) → IsReportOf end run text → IsAsAtHand end order program book run.state text
  as_at_hand status.Quiet report = hand status.Quiet report.ends report.report
  as_at_hand status.Budget report = hand status.Budget report.ends report.report
  as_at_hand (status.ActorsFull a) report = hand (status.ActorsFull a) report.ends report.report
  as_at_hand (status.RowsFull a) report = λ count some. few a count some report.ends
  as_at_hand end report = absurd report.ends
