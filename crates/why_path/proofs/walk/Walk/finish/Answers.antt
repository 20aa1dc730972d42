use Rattle.std.proofs.Common.{◌≡◌, ◌+◌, inl, inr, suc, [], length, map, sym, ap, subst, ◌∙◌, arith}
use Rattle.std.specs.List.Sorted.{IsPermutation, IsSorted}
use Rattle.std.proofs.lemmas.List.{length-map}
use Rattle.orca_names.specs.Names.{thing_cmp}
use Rattle.why_path.specs.Reasons.{AreReasons}
use Rattle.why_path.specs.Walk.{AreAt, IsDoneTo, reached_from}
use Rattle.why_path.proofs.Explaining.{empty_len, empty_or, ends, goes_on, more_len, none_higher}
use Rattle.why_path.proofs.Runs.{run_led_left}
use Rattle.why_path.proofs.walk.Walk.finish.Goals as goal

pub loop-level-init : goal.loop-level-init
loop-level-init c = record { done = c.requires.start; long = sym c.requires.most }

pub reach_level-requires-clause-next : goal.reach_level-requires-clause-next
reach_level-requires-clause-next c =
    let actors = c.args.orca.now.state.actors in
    let w = c.loop-level.self in
    let level = c.loop-level.level in
    let done = c.loop-level.invariant.done in
    let none = ap (λ v. v.items) c.replace-front.ensures.after ∙ c.new.ensures.items in
    let up : suc level ≡ level + 1 = omega arith in
    record {
      rising = done.lists.rising;
      next = subst (AreAt w.reasons.items (level + 1)) (sym none)
          (subst (λ n. AreAt w.reasons.items n []) up (none_higher actors level w done));
    }

pub returns-then-is_empty : goal.returns-then-is_empty
returns-then-is_empty c =
    let s = c.args.orca.now.state in
    let w = c.loop-level.self in
    let run = c.keeps_the_reachable.ensures.run.run in
    let left = run_led_left s.program s.options c.weight_is_above_zero.ensures c.keeps_the_reachable.ensures.book s run in
    let len : w.next.len ≡ length w.next.items = omega (arith, w.next.ok) in
    ends s.actors c.loop-level.level w c.loop-level.invariant.done left
    (empty_len w.next.len w.next.items len (sym c.is_empty.ensures ∙ c.if-is_empty.true))

pub loop-level-preserved : goal.loop-level-preserved
loop-level-preserved c =
    let s = c.args.orca.now.state in
    let w = c.loop-level.self in
    let v = c.reach_level.new.self in
    let level = c.loop-level.level in
    let run = c.keeps_the_reachable.ensures.run.run in
    let left = run_led_left s.program s.options c.weight_is_above_zero.ensures c.keeps_the_reachable.ensures.book s run in
    let len : w.next.len ≡ length w.next.items = omega (arith, w.next.ok) in
    let more = more_len w.next.len w.next.items len (sym c.is_empty.ensures ∙ c.if-is_empty.false) in
    let front = c.as_slice.result.now in
    let same = sym c.as_slice.ensures.value in
    let moved = subst (IsPermutation w.next.items) same
    (subst (λ xs. IsPermutation xs c.sort_unstable.new.self.items) (ap (λ v. v.items) c.replace-front.ensures.value)
    c.sort_unstable.ensures.permutation) in
    let sorted = subst (IsSorted thing_cmp) same c.sort_unstable.ensures.sorted in
    let up : level + 1 ≡ suc level = omega arith in
    let lines = subst (λ n. v.reasons.items ≡ map (reached_from s.actors n front) w.reasons.items) up
    c.in_ok-reach_level.ensures.lines in
    let at = subst (λ n. AreAt v.reasons.items n v.next.items) up c.in_ok-reach_level.ensures.next.next in
    record {
      done = subst (λ n. IsDoneTo s.actors n v) (sym up)
          (goes_on s.actors level w c.loop-level.invariant.done left front moved sorted v lines at more);
      long = ap length lines ∙ length-map w.reasons.items (reached_from s.actors (suc level) front) ∙ c.loop-level.invariant.long;
    }

pub returns : goal.returns
returns c =
    let s = c.args.orca.now.state in
    let w = c.loop-level.self in
    let done = c.loop-level.invariant.done in
    let run = c.keeps_the_reachable.ensures.run.run in
    let left = run_led_left s.program s.options c.weight_is_above_zero.ensures c.keeps_the_reachable.ensures.book s run in
    elim (empty_or w.next.items) as (λ _. AreReasons s.actors w.reasons.items) [
      | inl none ↦ ends s.actors c.loop-level.level w done left none
      | inr some ↦ absurd (omega (arith, done.few some, c.loop-level.invariant.long, c.loop-level-test.false))
    ]
