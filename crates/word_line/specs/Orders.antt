-- The order that the words give.
use Rattle.std.specs.Prelude.{ℕ, Bool, ◌≡◌, ◌≤◌, ⊤, false, List, Some, None, IfSome, codes, if◌then◌else◌, option_and_then, option_map}
use Rattle.std.specs.declared.option.Option.{Option}
use Rattle.std.specs.Option.{option_map_or}
use Rattle.std.specs.Str.{bytes_eq}
use Rattle.std.specs.Str.Parse.{digits_value, without_leading_plus}
use Rattle.orca_names.specs.declared.limits.TheConstants.{BOOK_LIMIT, WORKERS_LIMIT}
use Rattle.orca_names.specs.declared.trace.Trace.{Trace}
use Rattle.orca_names.specs.declared.trace.Trace.TheVariants.{Deep, Roots}
use Rattle.load_maker.specs.declared.load.TheConstants.{NODES_LIMIT}
use Rattle.clap.specs.Words.{Row, Text, fault_of, first_of, subcommand_of}
use Rattle.clap.specs.Walk.{is_empty}
use Rattle.clap.specs.ValueTests.{accepts}
use Rattle.clap.specs.declared.builder.value_parser.ValueParser.TheVariants as vp
use Rattle.word_line.specs.declared.order.TheConstants.{LEAST_WEIGHT, MOST_ROWS, MOST_WEIGHT}
use Rattle.word_line.specs.declared.order.Job.{Job}
use Rattle.word_line.specs.declared.order.Job.TheVariants.{Audit, Load, Run, Why}
use Rattle.word_line.specs.declared.order.Order.{Order}
use Rattle.word_line.specs.Commands.{command_line}

-- the number that the text is, where `clap` takes it as a number from the least to the most
abbrev pub number_in : ℕ → ℕ → Text → Option ℕ
number_in least most text =
    if accepts false (vp.Unsigned least most) text
    then Some (digits_value 10 (without_leading_plus text)) else None

-- the number of an option, from the least to the most, or the default where it is not given
abbrev pub option_in : ℕ → ℕ → ℕ → Text → List Row → Option ℕ
option_in least most default name rows =
    option_map_or (number_in least most) (first_of name rows) (Some default)

-- the budget, 1,000,000 where it is not given
abbrev pub budget_in : List Row → Option ℕ
budget_in = option_in 1 BOOK_LIMIT 1000000 (codes "budget")

-- the weight, 256 where it is not given
abbrev pub weight_in : List Row → Option ℕ
weight_in = option_in LEAST_WEIGHT MOST_WEIGHT 256 (codes "weight")

-- an option without a value is given
abbrev pub flag_in : Text → List Row → Bool
flag_in name rows = option_map_or (λ text. bytes_eq text (codes "true")) (first_of name rows) false

-- the tracing of this name
abbrev pub trace_named : Text → Option Trace
trace_named text = if bytes_eq text (codes "deep") then Some Deep
    else (if bytes_eq text (codes "roots") then Some Roots else None)

-- the tracing, deep where it is not given
abbrev pub trace_in : List Row → Option Trace
trace_in rows = option_map_or trace_named (first_of (codes "trace") rows) (Some Deep)

-- how many blocks rows lie in, none where no text is given. Where one is, tracing must be deep
abbrev pub rows_given : Trace → Option Text → Option (Option ℕ)
rows_given trace None = Some None
rows_given Deep (Some text) = option_map Some (number_in 1 MOST_ROWS text)
rows_given Roots (Some text) = None

-- how many blocks rows lie in, with this tracing
abbrev pub rows_in : Trace → List Row → Option (Option ℕ)
rows_in trace rows = rows_given trace (first_of (codes "rows") rows)

-- the order, where each option's value is one that it may have
abbrev pub order_from : Job → Bool → Bool → Option ℕ → Option ℕ → Option ℕ → Option Trace
    → Option (Option ℕ) → Option Order
order_from job counts book (Some workers) (Some budget) (Some weight) (Some trace) (Some rows) =
    Some (record {
      job = job;
      workers = workers;
      budget = budget;
      counts = counts;
      book = book;
      weight = weight;
      trace = trace;
      rows = rows;
    })
order_from job counts book workers budget weight trace rows = None

-- the order that the options give for the job
abbrev pub order_with : Job → List Row → Option Order
order_with job rows =
    order_from job (flag_in (codes "counts") rows) (flag_in (codes "book") rows)
    (option_in 1 WORKERS_LIMIT 2 (codes "workers") rows)
    (budget_in rows) (weight_in rows) (trace_in rows)
    (option_and_then (λ trace. rows_in trace rows) (trace_in rows))

-- the order that the number and the options of `load` give
abbrev pub load_with : List Row → Option Order
load_with rows =
    option_and_then (λ count. order_with (Load count) rows)
    (option_and_then (number_in 1 NODES_LIMIT) (first_of (codes "count") rows))

-- the order that the options of `why` give: one worker, deep tracing and rows at hand, no counts and
-- no book
abbrev pub why_with : List Row → Option Order
why_with rows =
    order_from Why false false (Some 1) (budget_in rows) (weight_in rows) (Some Deep) (Some None)

-- what no words ask for
abbrev pub default_order : Order
default_order = record {
  job = Run;
  workers = 2;
  budget = 1000000;
  counts = false;
  book = false;
  weight = 256;
  trace = Deep;
  rows = None;
}

-- what `audit` asks for
abbrev pub audit_order : Order
audit_order = record default_order { job = Audit }

-- the order that the subcommand gives
abbrev pub order_in : Option (Text × List Row) → Option Order
order_in None = None
order_in (Some found) =
    if bytes_eq found.0 (codes "run") then order_with Run found.1
    else (if bytes_eq found.0 (codes "load") then load_with found.1
    else (if bytes_eq found.0 (codes "audit") then Some audit_order
    else (if bytes_eq found.0 (codes "why") then why_with found.1 else None)))

-- no words read as `run`; all others as the command reads them
unfoldable pub order_of : List Text → Option Order
order_of words = if is_empty words then Some default_order
    else (if is_empty (fault_of command_line words) then order_in
    (subcommand_of command_line words) else None)

-- the load program of a job has a number of nodes that it may have
abbrev pub IsJobInRange : Job → Type 0
IsJobInRange Run = ⊤
IsJobInRange (Load count) = (1 ≤ count) × (count ≤ NODES_LIMIT)
IsJobInRange Audit = ⊤
IsJobInRange Why = ⊤

-- the values of an order are in their ranges
pub record IsInRange (order : Order) : Type 0 where
  pub job : IsJobInRange order.job
  pub workers : (1 ≤ order.workers) × (order.workers ≤ WORKERS_LIMIT)
  pub budget : (1 ≤ order.budget) × (order.budget ≤ BOOK_LIMIT)
  pub weight : (LEAST_WEIGHT ≤ order.weight) × (order.weight ≤ MOST_WEIGHT)
  pub rows : IfSome order.rows (λ count. (1 ≤ count) × (count ≤ MOST_ROWS))
  -- rows lie in blocks only where tracing is deep, and no reasons are asked for
  pub tracing : IfSome order.rows (λ count. order.trace ≡ Deep)
  pub reasons : order.job ≡ Why → order.rows ≡ None
