use Rattle.std.proofs.Common.{◌≡◌, ◌+◌, ◌++◌, map, take, Some, sym, ap, ◌∙◌, arith}
use Rattle.std.proofs.lemmas.List.{take_all}
use Rattle.std.proofs.lemmas.Option.{slice_get-get_or}
use Rattle.why_path.specs.Edges.{lead_of, leads_from}
use Rattle.why_path.specs.Walk.{edge_in, reached}
use Rattle.why_path.proofs.Walking.{leads_more, map_more, map_nil}
use Rattle.why_path.proofs.walk.Walk.reach_values.Goals as goal

pub loop-i-init : goal.loop-i-init
loop-i-init c = record {
  lines = map_nil c.args.step.now.parent c.args.step.now.level c.args.self.now.reasons.items;
  next = c.requires.next;
}

pub loop-i-preserved : goal.loop-i-preserved
loop-i-preserved c =
    let rs = c.args.self.now.reasons.items in
    let step = c.args.step.now in
    let edge = edge_in c.args.holder in
    let vs = c.args.values.now in
    let i = c.loop-i.i in
    let v = c.index-values-i.result in
    let at = slice_get-get_or vs i v c.loop-i-test.true ∙ ap Some (sym c.index-values-i.is) in
    let place : 0 + i ≡ i = omega arith in
    let whole = leads_more edge 0 vs i v at
    ∙ ap (λ j. leads_from edge 0 (take i vs) ++ lead_of (edge j) v) place
    ∙ ap (λ d. leads_from edge 0 (take i vs) ++ lead_of d v) (sym c.edge.ensures) in
    record {
      lines = map_more step.parent step.level (leads_from edge 0 (take i vs)) (lead_of c.edge.result v)
          (leads_from edge 0 (take (i + 1) vs)) rs c.loop-i.self.reasons.items c.reach_value.new.self.reasons.items whole
          c.loop-i.invariant.lines c.in_ok-reach_value.ensures.lines;
      next = c.in_ok-reach_value.ensures.next;
    }

pub returns : goal.returns
returns c =
    let step = c.args.step.now in
    record {
      lines = c.loop-i.invariant.lines
          ∙ ap (λ vs. map (reached step.parent step.level (leads_from (edge_in c.args.holder) 0 vs)) c.args.self.now.reasons.items)
          (take_all c.loop-i.i c.args.values.now c.loop-i-test.false);
      next = c.loop-i.invariant.next;
    }
