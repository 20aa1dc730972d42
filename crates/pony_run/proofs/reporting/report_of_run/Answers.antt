use Rattle.std.proofs.Common.{◌≡◌, ℕ, ◌++◌, ap, None, Some, List, Option, Bor, option_map}
use Rattle.std.specs.Option.{option_copied}
use Rattle.orca_names.specs.declared.names.Value.{Value}
use Rattle.orca_names.specs.declared.tally.Sums.{Sums}
use Rattle.orca_names.specs.declared.tally.Tally.{Tally}
use Rattle.run_book.specs.Books.{BookValue}
use Rattle.report_text.specs.declared.status.Status.{Status}
use Rattle.report_text.specs.declared.numbers.Numbers.{Numbers}
use Rattle.report_text.specs.Reports.{report_of}
use Rattle.pony_run.proofs.reporting.report_of_run.Goals as goal

-- what is lent of a tally
lent_sums : (lent : Option (Bor Tally)) (whole : Option Tally) → option_copied lent ≡ whole
    → option_map (λ (t : Bor Tally). t.now.sums) lent ≡ option_map (λ (t : Tally). t.sums) whole
lent_sums None whole h = ap (option_map (λ (t : Tally). t.sums)) h
lent_sums (Some t) whole h = ap (option_map (λ (t : Tally). t.sums)) h

-- reports of the same, and the same lines behind them
says_same : (end : Status) (text front lines whys : List ℕ) (actors objects : Numbers) (prints prints' : List Value) (counts counts' : Option (List Sums)) (book book' : Option BookValue)
    → text ≡ front ++ lines → lines ≡ whys → front ≡ report_of end prints actors objects counts book → prints ≡ prints' → counts ≡ counts' → book ≡ book'
    → text ≡ report_of end prints' actors objects counts' book' ++ whys
says_same end text front lines whys actors objects prints prints' counts counts' book book' whole behind said one two three = cc

pub returns : goal.returns
returns c = record {
  actors = c.in_ok-actors.actors;
  objects = c.in_ok-actors.objects;
  numbers = c.in_ok-actors.ensures;
  counts = option_map (λ (t : Tally). t.sums) c.in_ok-counts.counts;
  counted = c.in_ok-counts.ensures;
  whys = c.in_ok-whys.whys.items;
  explained = c.in_ok-whys.ensures;
  said = says_same _ _ _ _ _ _ _ _ _ _ _ _ _ c.in_ok-extend_from_slice.ensures.items c.deref.ensures.value c.in_ok-text.ensures c.prints-prints.ensures
      (lent_sums c.as_ref.result c.in_ok-counts.counts c.as_ref.ensures.value) c.book_in-asked.ensures;
}
