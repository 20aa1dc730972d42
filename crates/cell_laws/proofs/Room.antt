-- The counts after a run leave room for one weight more.
use Rattle.std.proofs.Common.{◌≡◌, ℕ, ◌+◌, ◌*◌, ◌^◌, ◌<◌, ◌≤◌, List, length, ap, ◌∙◌, arith}
use Rattle.std.specs.Prelude.{sum_by}
use Rattle.std.proofs.Math.Nat.{mul-le-mul}
use Rattle.orca_names.specs.Names.{owner_of}
use Rattle.orca_names.specs.declared.names.Thing.{Thing}
use Rattle.behaviour_code.specs.declared.code.Program.{Program}
use Rattle.event_rule.specs.declared.event.Event.{Event}
use Rattle.ref_weights.specs.Limit.{count_limit}
use Rattle.letter_kinds.specs.Holdings.{held_in, own_in}
use Rattle.letter_kinds.specs.Sums.{inc_of}
use Rattle.letter_kinds.specs.Letters.{Letter}
use Rattle.machine_rules.specs.Actors.{seat, seat_at}
use Rattle.machine_rules.specs.Balance.{held_at, incs_at, own_at, owner_seat}
use Rattle.machine_rules.specs.Cell.{Cell}
use Rattle.machine_rules.specs.Options.{Options}
use Rattle.machine_rules.specs.State.{State}
use Rattle.plain_rules.specs.Machine.{PlainState}
use Rattle.count_laws.proofs.balance.SeatReads.{held_at-seat, incs_at-seat, own_at-seat}
use Rattle.machine_laws.proofs.Counting.{runs_count_at_most}
use Rattle.machine_laws.proofs.WholeRuns.{run_has_facts}
use Rattle.machine_laws.specs.AllFacts.{AllFacts}
use Rattle.machine_laws.specs.Bounds.{OfEachCount}
use Rattle.cell_laws.specs.Runs.{IsShortRun}

weight_fits : (n weight k : ℕ) → n ≤ 100000000 → weight ≤ 65536 → k ≤ n * weight → k + weight < 2 ^ 43
weight_fits n weight k short light most =
    let product : n * weight ≤ 100000000 * 65536 = mul-le-mul short light in
    omega arith

module _ (program : Program) (options : Options) (book : List Event) (t : State) (short : IsShortRun program options book t) where
  pub facts : (p : PlainState) × AllFacts options.trace p t
  facts = let all = run_has_facts program options short.heavy book t short.run in (all.0, all.2)

  counts : OfEachCount (λ n. n ≤ length book * options.weight) t.actors
  counts = (runs_count_at_most program options short.heavy book t short.run).0

  fits : (k : ℕ) → k ≤ length book * options.weight → k + options.weight < count_limit
  fits k most = weight_fits (length book) options.weight k short.short short.light most

  module _ (a : ℕ) (c : Cell) (mail : List Letter) (at : seat_at t.actors a ≡ seat c mail) where
    pub held_fits : (x : Thing) → held_in c.holdings x + options.weight < count_limit
    held_fits x = fits (held_in c.holdings x) (let h = counts.held x a in let e = ap (held_at x) at in let z = held_at-seat x c mail in omega arith)

    -- what the actor counts, with the increments that wait for it
    pub own_fits : (x : Thing) → owner_of x ≡ a → own_in c.holdings x + sum_by (inc_of x) mail + options.weight < count_limit
    own_fits x mine =
        let here : owner_seat t.actors x ≡ seat c mail = ap (seat_at t.actors) mine ∙ at in
        let own = ap (own_at x) here in
        let incs = ap (incs_at x) here in
        fits (own_in c.holdings x + sum_by (inc_of x) mail) (let k = counts.counted x in omega (arith, own_at-seat x c mail, incs_at-seat x c mail))
