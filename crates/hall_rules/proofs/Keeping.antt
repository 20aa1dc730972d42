-- A run and its book, whatever is done with them.
use Rattle.std.proofs.Common.{◌≡◌, ◌<◌, ◌+◌, ◌^◌, ℕ, Bool, List, [], ◌∷◌, ◌++◌, length, length-append, Option, Some, None, refl, sym, ap, subst, ◌∙◌, arith}
use Rattle.orca_names.specs.declared.limits.TheConstants.{BOOK_LIMIT}
use Rattle.orca_names.specs.declared.options.Options.{Options}
use Rattle.behaviour_code.specs.WellFormed.{IsWellFormed}
use Rattle.behaviour_code.specs.declared.code.Program.{Program}
use Rattle.event_rule.specs.Runs.{Goes}
use Rattle.event_rule.specs.declared.event.Event.{Event}
use Rattle.letter_kinds.specs.Letters.{Letter}
use Rattle.machine_rules.specs.Actors.{Actors, Seat, cell_at, cell_of, seat, seat_at}
use Rattle.machine_rules.specs.Cell as rules
use Rattle.machine_rules.specs.Next.{next}
use Rattle.machine_rules.specs.Run.{IsRun}
use Rattle.machine_rules.specs.State.{State}
use Rattle.run_book.specs.Books.{BookValue, options_of_book}
use Rattle.actor_cell.specs.Cells.{as_cell}
use Rattle.actor_cell.specs.Sweeps.{KnowsOthersOnly}
use Rattle.actor_cell.specs.declared.cell.Cell.{Cell}
use Rattle.cell_laws.specs.Runs.{IsShortRun}
use Rattle.cell_laws.proofs.Cells.{cells_know_others_only}
use Rattle.cell_laws.proofs.Keeping.{runs_have_serials, runs_keep_program}
use Rattle.orca_core.specs.Laws.{IsRunOf}
use Rattle.orca_core.specs.Machine.{Machine, NoneIsAway}
use Rattle.orca_core.proofs.Reached.{leads_more}
use Rattle.hall_rules.specs.Causes.{spent_cause}
use Rattle.hall_rules.specs.Halls.{HallValue}
use Rattle.hall_rules.specs.Kept.{AreParts, IsRunWithin}
use Rattle.hall_rules.specs.declared.claim.Claim.{Claim}
use Rattle.hall_rules.proofs.Leading.{leads_after}
use Rattle.hall_rules.proofs.Refusing.{room_for_one}

-- what is asked of a cell that is evaluated: there are serials for what it makes, and what it holds and knows
-- is others'
pub record CanFind (cell : Cell) : Type 0 where
  pub serials : cell.heap.next + 1024 < 2 ^ 64
  pub others : KnowsOthersOnly cell

-- whose cell is there has letters too
seat_of_cell : (actors : Actors) (a : ℕ) (k : rules.Cell) → cell_at actors a ≡ Some k
    → (mail : List Letter) × (seat_at actors a ≡ seat k mail)
seat_of_cell actors a k is = by (seat_at actors a) refl is
  where
    by : (o : Option Seat) → seat_at actors a ≡ o → cell_of o ≡ Some k
        → (mail : List Letter) × (seat_at actors a ≡ seat k mail)
    by None at is = absurd (cc)
    by (Some o) at is =
        let same : o.cell ≡ k = (let z : Some o.cell ≡ Some k = is in cc) in
        (o.mail, at ∙ ap (λ c. seat c o.mail) same)

-- the hall of a run with this book and these claims
abbrev pub hall_with : Program → ℕ → BookValue → List Claim → Bool → HallValue
hall_with program budget book claims stopped = record {
  program = program;
  options = options_of_book book;
  budget = budget;
  book = book.entries;
  claims = claims;
  stopped = stopped;
}

-- books of one weight and one tracing have one's options
pub options_alike : (book after : BookValue) → (after.weight ≡ book.weight) × (after.trace ≡ book.trace)
    → options_of_book after ≡ options_of_book book
options_alike book after is = λ i. record { weight = is.0 i; trace = is.1 i }

module _ (program : Program) (budget : ℕ) (m : Machine) (book : BookValue)
    (kept : IsRunWithin program (options_of_book book) budget m.state m.steps book.entries) where
  -- where the book isn't as long as the budget, the machine may do one event more
  pub is_early : spent_cause (length book.entries) budget ≡ None → m.steps < BOOK_LIMIT
  is_early room = omega (arith, room_for_one (length book.entries) budget kept.within room, kept.long, kept.most)

  -- the machine has the program and the options of the run, and the book is its run
  pub machine_run : (m.state.program ≡ program) × (m.state.options ≡ options_of_book book) × IsRunOf m book.entries
  machine_run =
      let same = runs_keep_program program (options_of_book book) book.entries m.state kept.run in (
        same.same_program,
        same.same_options,
        record {
          run = subst (λ (x : Program × Options). IsRun x.0 x.1 book.entries m.state)
              (λ i. (sym same.same_program i, sym same.same_options i)) kept.run;
          long = kept.long;
        },
      )

  -- with no cell away they are the parts of the hall
  pub are_parts : NoneIsAway m → (claims : List Claim) (stopped : Bool) (h : HallValue)
      → hall_with program budget book claims stopped ≡ h → AreParts h m book
  are_parts home claims stopped h seen = subst (λ (h : HallValue). AreParts h m book) seen (record {
    state = kept.state_is;
    run = machine_run.2;
    home = home;
    program = machine_run.0;
    options = machine_run.1;
    entries = refl;
    weight = refl;
    trace = refl;
    within = kept.within;
  })

  -- a cell of the run can be evaluated
  pub can_find : IsWellFormed program → (cell : Cell) → cell_at m.state.actors cell.heap.owner ≡ Some (as_cell cell) → CanFind cell
  can_find good cell at =
      let z = seat_of_cell m.state.actors cell.heap.owner (as_cell cell) at in
      let heavy = kept.weight.0 in let within = kept.within in let most = kept.most in
      let of_run : IsShortRun program (options_of_book book) book.entries m.state =
      record { heavy = omega arith; light = kept.weight.1; short = omega arith; run = kept.run } in
      record {
        serials = runs_have_serials program (options_of_book book) book.entries m.state of_run cell.heap.owner (as_cell cell) z.0 z.1 good;
        others = cells_know_others_only program (options_of_book book) book.entries m.state of_run cell z.0 z.1;
      }

  module _ (n : Machine) (after : BookValue) (options : options_of_book after ≡ options_of_book book) where
    -- with an entry more
    pub one_more : (e : Event) → spent_cause (length book.entries) budget ≡ None → next m.state e ≡ Goes n.state
        → n.steps ≡ m.steps + 1 → after.entries ≡ book.entries ++ e ∷ []
        → IsRunWithin program (options_of_book after) budget n.state n.steps after.entries
    one_more e room goes steps entry =
        let more = leads_more book.entries _ m.state n.state e kept.run goes in
        let long = length-append book.entries (e ∷ []) in let was = kept.long in
        let below = room_for_one (length book.entries) budget kept.within room in
        subst (λ (x : Options × List Event). IsRunWithin program x.0 budget n.state n.steps x.1)
        (λ i. (sym options i, sym entry i)) (record {
          state_is = leads_after (book.entries ++ e ∷ []) _ n.state more;
          run = more;
          long = omega arith;
          weight = kept.weight;
          within = omega arith;
          most = kept.most;
        })

    -- and unchanged
    pub still : n.state ≡ m.state → n.steps ≡ m.steps → after.entries ≡ book.entries
        → IsRunWithin program (options_of_book after) budget n.state n.steps after.entries
    still state steps entries =
        subst (λ (x : Options × State × ℕ × List Event). IsRunWithin program x.0 budget x.1 x.2 x.3)
        (λ i. (sym options i, sym state i, sym steps i, sym entries i)) kept
