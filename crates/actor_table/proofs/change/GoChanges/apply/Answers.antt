use Rattle.std.proofs.Common.{⊎_elim, ap, rules, subst, sym}
use Rattle.letter_kinds.specs.Telling.{TellsOnly, in_block, made_in}
use Rattle.letter_kinds.proofs.Telling.{none_among}
use Rattle.letter_kinds.specs.Load.{as_load}
use Rattle.actor_cell.specs.Moves.{act_in, move_of}
use Rattle.actor_cell.specs.declared.cell.Cell.{Cell}
use Rattle.actor_cell.specs.Tells.{AllIn, Tells}
use Rattle.actor_table.proofs.Naming.{can_name}
use Rattle.actor_table.proofs.Telling.{with_told}
use Rattle.actor_table.proofs.change.GoChanges.apply.Goals as goal
use Rattle.actor_table.proofs.change.GoChanges.apply.Goals.{in-New, in_default}

pub settle_new-requires : goal.settle_new-requires
settle_new-requires c =
    let go = c.args.self.now in
    let t = go.found.now in
    let old = c.args.cell.now in
    let its = can_name old.heap.owner go.weight go.name go.turn.now t.place (act_in t) old c.apply_go.new.self c.in-New.kind c.in-New.register
    (ap (λ d. move_of d t.args (as_load t.load) (as_load t.rows) t.things) c.in-New.is) c.requires c.apply_go.ensures.cell in
    record { running = its.0; room = search rules; fits = its.1 }

pub returns-clause-told : goal.returns-clause-told
returns-clause-told c =
    let old = c.args.cell.now in
    let makes = made_in old.heap.owner old.heap.next c.args.self.now.turn.now.made c.args.self.now.blocks.now in
    with_told old c.match-self.cell c.args._mail.now.brought makes (elim c.match-self.branch [
      | in-New w ↦ subst (λ x. TellsOnly (Tells old) makes (Tells x)) (sym w.cell-is)
          (λ n row block told. ⊎_elim (c.apply_go.ensures.told n row block) (λ none. absurd (none_among (in_block n row block) none)) (w.settle_new.ensures.told n row block told))
      | in_default w ↦ subst (λ x. TellsOnly (Tells old) makes (Tells x)) (sym w.cell-is) c.apply_go.ensures.told
    ])

pub returns-clause-lie : goal.returns-clause-lie
returns-clause-lie c = λ puts all.
    let went = c.apply_go.ensures.lie puts all in
    elim c.match-self.branch [
      | in-New w ↦ subst (λ (x : Cell). AllIn x.heap) (sym w.cell-is) (w.settle_new.ensures.lie went)
      | in_default w ↦ subst (λ (x : Cell). AllIn x.heap) (sym w.cell-is) went
    ]
