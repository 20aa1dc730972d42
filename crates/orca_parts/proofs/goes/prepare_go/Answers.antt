use Rattle.std.proofs.Common.{refl, rules, subst, sym}
use Rattle.std.specs.Prelude.{IfErr}
use Rattle.event_rule.specs.declared.event.Event.TheVariants.{Go}
use Rattle.actor_table.specs.Changes.{HasCell}
use Rattle.actor_table.specs.Slots.{slot_at}
use Rattle.orca_parts.specs.Core.{KeepsCore}
use Rattle.orca_parts.specs.Ready.{IsFaultIn}
use Rattle.orca_parts.specs.Goes.{IsFoundGo}
use Rattle.orca_parts.specs.declared.insides.Core.{Core}
use Rattle.orca_parts.proofs.Prepared.{keeps_then}
use Rattle.orca_parts.proofs.Preparing.{refused_in, right_fault, found_core}
use Rattle.orca_parts.proofs.goes.prepare_go.Goals as goal
use Rattle.letter_kinds.specs.Telling.{HoldsTold, Told}
use Rattle.orca_parts.proofs.Untold.{none_ok, ok_holds}

pub returns-in_err-find_turn : goal.returns-in_err-find_turn
returns-in_err-find_turn g c =
    let m = c.args.m.now in
    record {
      prepares = refused_in (Go c.args.a) m c.find_turn.new.m
          (subst (KeepsCore m) (sym c.find_turn.ensures.same) (found_core m c.find_turn.new.m.parts.turn c.find_turn.new.m.parts.turned c.find_turn.new.m.stands))
          c.find_turn.ensures.stands _ _ (search rules) (right_fault (Go c.args.a) m c.args.a refl _ c.in_err-find_turn.ensures.fault);
      words = c.find_turn.ensures.words;
      hold = none_ok c.from_residual.result c.in_err-find_turn.field-0.0 _ (search rules);
    }

pub prepare_turn-requires-clause-found : goal.prepare_turn-requires-clause-found
prepare_turn-requires-clause-found g c =
    let mid = c.find_turn.new.m in
    subst (λ (x : Core). HasCell (slot_at x.parts.table.slots c.args.a) (IsFoundGo x.options x.code.now x.parts.blocks c.args.a mid.parts.turn mid.parts.turned))
    (sym c.find_turn.ensures.same) c.in_ok-find_turn.ensures.found

pub returns : goal.returns
returns g c =
    let m = c.args.m.now in
    let mid = c.find_turn.new.m in
    let does = c.prepare_turn.ensures.prepares in
    record {
      words = c.find_turn.ensures.words;
      hold = ok_holds c.prepare_turn.result _ (subst (λ l. HoldsTold (g.W.RowWords.known c.find_turn.new.words) (Told l)) (sym c.prepare_turn.ensures.sends) c.in_ok-find_turn.ensures.hold);
      prepares = record {
        same = keeps_then m mid c.prepare_turn.new.m
            (subst (KeepsCore m) (sym c.find_turn.ensures.same) (found_core m c.find_turn.new.m.parts.turn c.find_turn.new.m.parts.turned c.find_turn.new.m.stands)) does.same;
        ok = does.ok;
        fault = subst (λ (x : Core). IfErr c.prepare_turn.result (IsFaultIn x (Go c.args.a))) c.find_turn.ensures.same does.fault;
        stands = λ well. does.stands c.find_turn.ensures.stands;
      };
    }
