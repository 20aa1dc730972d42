use Rattle.std.proofs.Common.{◌≡◌, ⊎_elim, Option, None, Some, refl, sym, ap, ◌∙◌}
use Rattle.std.specs.Prelude.{IsSomeAnd, option_map}
use Rattle.turn_rules.specs.declared.act.Frame.{Frame}
use Rattle.machine_rules.specs.Cell as rules
use Rattle.actor_cell.specs.Cells.{as_cell}
use Rattle.actor_cell.specs.Goes.{IsTold, cell_by, gone_by, out_of, turned_in}
use Rattle.actor_cell.specs.Moves.{act_in}
use Rattle.actor_cell.specs.Outs.{as_out}
use Rattle.letter_kinds.specs.Telling.{in_block}
use Rattle.letter_kinds.proofs.Lying.{none_made}
use Rattle.actor_cell.proofs.Telling.{told_gone}
use Rattle.actor_cell.proofs.cell.Cell.go.Goals as goal

pub returns-clause-told : goal.returns-clause-told
returns-clause-told g c = λ n row block told.
    ⊎_elim (c.in_ok-reserve_go.ensures.told n row block)
    (λ none. absurd (none_made c.reserve_go.new.self.heap.owner c.reserve_go.new.self.heap.next c.find_go.new.turn.made (in_block n row block) none))
    (c.apply_go.ensures.told n row block told)

pub returns-clause-gone : goal.returns-clause-gone
returns-clause-gone g c = by c.args.self.now.frame refl c.in_ok-find_go.ensures.found.told
  where
    by : (frame : Option Frame) → c.args.self.now.frame ≡ frame
        → IsSomeAnd frame (IsTold (record { weight = c.args.weight; trace = c.args.trace }) c.args.code.now c.args.self.now.heap.owner (as_cell c.args.self.now)
        c.find_go.new.turn c.find_go.new.found.place (act_in c.find_go.new.found))
        → option_map (λ f. gone_by c.args.self.now.heap.owner (as_cell c.args.self.now) f
        (turned_in (record { weight = c.args.weight; trace = c.args.trace }) c.args.code.now c.args.self.now.heap.owner (as_cell c.args.self.now) f)) frame
        ≡ Some (record { cell = as_cell c.apply_go.new.self; out = as_out c.give_out.result })
    by None at tells = absurd tells
    by (Some frame) at tells =
        let s = c.args.self.now in
        let me = s.heap.owner in
        let turn = c.find_go.new.turn in
        let place = c.find_go.new.found.place in
        let does = act_in c.find_go.new.found in
        let kept = c.in_ok-reserve_go.ensures in
        let found = c.in_ok-reserve_letter.ensures.rest in
        let its : as_cell c.apply_go.new.self ≡ cell_by me (as_cell s) frame turn place does =
        c.apply_go.ensures.cell frame (ap (λ (k : rules.Cell). k.frame) kept.same.0 ∙ at)
        ∙ (λ i. cell_by (kept.same.1 i) (kept.same.0 i) frame turn (found i).place (act_in (found i)))
        in
        ap Some (ap (gone_by me (as_cell s) frame) tells ∙ told_gone frame (as_cell s) turn place me does
        ∙ (λ i. record { cell = sym its i; out = sym (c.give_out.ensures ∙ ap (λ t. out_of (act_in t)) found) i }))
