use Rattle.std.proofs.Common.{◌≡◌, ◌<◌, ℕ, zero, suc, Bool, false, List, [], ◌∷◌, Option, None, Some, IsSome, ap, refl, subst, sym, arith}
use Rattle.std.specs.Prelude.{unwrap_or}
use Rattle.block_table.specs.Blocks.{Blocks}
use Rattle.behaviour_check.specs.Rules.{IsChecked}
use Rattle.machine_rules.specs.State.{State, first_state}
use Rattle.row_laws.specs.Laws.{HasBlocks}
use Rattle.row_laws.proofs.Keeping.{starts_free}
use Rattle.actor_table.specs.Slots.{actors_of}
use Rattle.orca_parts.specs.Away.{is_out}
use Rattle.orca_parts.specs.Parts.{options_of}
use Rattle.orca_core.proofs.Untold.{start_fits}
use Rattle.orca_core.proofs.machine.Orca.start.Goals as goal

some_rows : (rows : Option ℕ) → 0 < unwrap_or rows 0 → IsSome rows
some_rows None some = absurd (omega (arith, some))
some_rows (Some n) some = refl

pub invariant_of-result : goal.invariant_of-result
invariant_of-result c =
    let first = first_state c.args.code.now (options_of c.args.weight c.args.trace) in
    let count = unwrap_or c.args.rows 0 in
    let table = c.in_ok-table.ensures in
    let state : State = record first {
      actors = actors_of c.in_ok-table.table.slots;
      detector = c.new.result.state;
      notes = c.new-2.result.items;
      prints = c.new-3.result.items;
    } in
    let run : first ≡ state = λ i. record first {
      actors = sym table.actors i;
      detector = sym c.new.ensures i;
      notes = sym c.new-2.ensures.items i;
      prints = sym c.new-3.ensures.items i;
    } in
    record {
      reached = record {
        checked = subst IsChecked c.program-program.ensures.value c.program-program.ensures.kept;
        heavy = c.requires.heavy;
        light = c.requires.light;
        book = [];
        run = run;
        long = refl;
        early = omega arith;
      };
      stands = λ on. cc;
      fit = start_fits c.args.trace c.in_ok-blocks.blocks count c.in_ok-table.table.slots c.in_ok-blocks.ensures (λ some. c.requires.deep (some_rows c.args.rows some)) table.untold table.lie;
      has = λ some. subst (λ (x : State × Blocks). HasBlocks x.0 x.1) (λ i. (run i, sym c.in_ok-blocks.ensures i)) (starts_free c.args.code.now (options_of c.args.weight c.args.trace) count);
    }

-- where one actor is at home, none is away
none_out : (out : List Bool) → out ≡ false ∷ [] → (a : ℕ) → is_out out a ≡ false
none_out out h zero = ap (λ (o : List Bool). is_out o 0) h
none_out out h (suc a) = ap (λ (o : List Bool). is_out o (suc a)) h

pub returns-clause-home : goal.returns-clause-home
returns-clause-home c = none_out _ c.in_ok-table.ensures.home

pub returns-clause-stand : goal.returns-clause-stand
returns-clause-stand c = λ known some n row block told. absurd (c.in_ok-table.ensures.untold n row block told)
