use Rattle.std.proofs.Common.{◌<◌, length, subst, sym}
use Rattle.orca_names.specs.declared.names.Thing.TheVariants.{Obj}
use Rattle.machine_rules.specs.Left.{IsLeft}
use Rattle.row_laws.specs.Laws.{HasBlocks}
use Rattle.actor_cell.specs.Tells.{AllIn}
use Rattle.actor_table.specs.Telling.{TableTells}
use Rattle.orca_parts.specs.Awaiting.{AwaitedIn}
use Rattle.orca_parts.specs.Core.{core_state}
use Rattle.orca_core.specs.Machine.{IsReached, Machine}
use Rattle.orca_core.proofs.Kept.{kept_still}
use Rattle.orca_core.proofs.machine.Orca.put_back.Goals as goal

pub invariant_of-self : goal.invariant_of-self
invariant_of-self c =
    let m = c.self.inside in
    let parts = m.core.parts in
    let does = c.put_back.ensures in
    let fit = c.self.invariant.fit in
    record {
      reached = subst (λ xs. IsReached (record (core_state m.core) { actors = xs }) m.steps) (sym does.actors) c.self.invariant.reached;
      stands = λ on. subst (AwaitedIn m.core.options.trace m.core.code.now parts.turn parts.turned) (sym does.actors) (c.self.invariant.stands on);
      fit = record {
        deep = fit.deep;
        lie = λ some. does.lie (subst (λ (x : Machine). 0 < length x.blocks → AllIn c.args.cell.heap) (sym c.self.view_is) c.requires.lie some) (fit.lie some);
        kept = kept_still parts.blocks (TableTells parts.table.slots) (TableTells c.put_back.new.self.slots) fit.kept does.told;
        left = λ k n has. subst (λ xs. IsLeft xs (Obj n)) (sym does.actors) (fit.left k n has);
        once = fit.once;
      };
      has = λ some. subst (λ xs. HasBlocks (record (core_state m.core) { actors = xs }) parts.blocks) (sym does.actors) (c.self.invariant.has some);
    }
