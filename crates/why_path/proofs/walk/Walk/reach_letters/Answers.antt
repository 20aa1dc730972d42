use Rattle.std.proofs.Common.{◌≡◌, ◌≤◌, ◌+◌, ◌++◌, map, take, length, sym, ap, ◌∙◌, arith}
use Rattle.std.proofs.lemmas.List.{take_all}
use Rattle.orca_names.specs.declared.reason.Edge.TheVariants as edges
use Rattle.letter_kinds.specs.Letters.{as_letter}
use Rattle.why_path.specs.Edges.{args_of, leads_from, leads_of_letters}
use Rattle.why_path.specs.Walk.{reached}
use Rattle.why_path.proofs.Walking.{letters_more, map_more, map_nil}
use Rattle.why_path.proofs.walk.Walk.reach_letters.Goals as goal

pub loop-k-init : goal.loop-k-init
loop-k-init c = record {
  lines = map_nil c.args.step.now.parent c.args.step.now.level c.args.self.now.reasons.items;
  next = c.requires;
}

pub loop-k-preserved : goal.loop-k-preserved
loop-k-preserved c =
    let rs = c.args.self.now.reasons.items in
    let step = c.args.step.now in
    let ls = c.args.mail.now.letters in
    let k = c.loop-k.k in
    let l = as_letter c.at.result.now in
    let args = c.args_of.result.now in
    let place : 0 + k ≡ k = omega arith in
    let whole = letters_more 0 ls k l c.at.ensures.letter
    ∙ ap (λ j. leads_of_letters 0 (take k ls) ++ leads_from (edges.Letter j) 0 (args_of l)) place
    ∙ ap (λ vs. leads_of_letters 0 (take k ls) ++ leads_from (edges.Letter k) 0 vs) (sym c.args_of.ensures.value) in
    record {
      lines = map_more step.parent step.level (leads_of_letters 0 (take k ls)) (leads_from (edges.Letter k) 0 args)
          (leads_of_letters 0 (take (k + 1) ls)) rs c.loop-k.self.reasons.items c.reach_values.new.self.reasons.items whole
          c.loop-k.invariant.lines c.in_ok-reach_values.ensures.lines;
      next = c.in_ok-reach_values.ensures.next;
    }

pub returns : goal.returns
returns c =
    let step = c.args.step.now in
    let ls = c.args.mail.now.letters in
    let whole : length ls ≤ c.loop-k.k = omega (arith, c.loop-k-test.false, c.len-k-end.ensures) in
    record {
      lines = c.loop-k.invariant.lines
          ∙ ap (λ ms. map (reached step.parent step.level (leads_of_letters 0 ms)) c.args.self.now.reasons.items)
          (take_all c.loop-k.k ls whole);
      next = c.loop-k.invariant.next;
    }
