use Rattle.std.proofs.Common.{◌+◌, ◌++◌, ◌∷◌, [], map, take, sym, ap, ◌∙◌}
use Rattle.std.proofs.lemmas.List.{take_all, take_more}
use Rattle.why_path.specs.Walk.{reached_from}
use Rattle.why_path.proofs.Walking.{from_more, from_none}
use Rattle.why_path.proofs.walk.Walk.reach_level.Goals as goal

pub loop-parent-init : goal.loop-parent-init
loop-parent-init c = record {
  lines = from_none c.args.orca.now.state.actors c.args.level c.args.self.now.reasons.items;
  next = c.requires.next;
}

pub loop-parent-preserved : goal.loop-parent-preserved
loop-parent-preserved c =
    let front = c.args.front.now in
    let i = c.loop-parent.parent-index in
    let t = c.parent-item.result in
    let whole = take_more front i t c.loop-parent-test.true ∙ ap (λ u. take i front ++ u ∷ []) (sym c.parent-item.is) in
    record {
      lines = from_more c.args.orca.now.state.actors c.args.level (take i front) (take (i + 1) front) t
          c.args.self.now.reasons.items c.loop-parent.self.reasons.items c.reach_from.new.self.reasons.items whole
          c.loop-parent.invariant.lines c.in_ok-reach_from.ensures.lines;
      next = c.in_ok-reach_from.ensures.next;
    }

pub returns : goal.returns
returns c = record {
  lines = c.loop-parent.invariant.lines
      ∙ ap (λ ts. map (reached_from c.args.orca.now.state.actors c.args.level ts) c.args.self.now.reasons.items)
      (take_all c.loop-parent.parent-index c.args.front.now c.loop-parent-test.false);
  next = c.loop-parent.invariant.next;
}
