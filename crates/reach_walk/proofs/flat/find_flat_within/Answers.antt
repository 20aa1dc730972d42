use Rattle.std.proofs.Common.{◌≡◌, [], All, length, take, refl, sym, ap, subst, ◌∙◌, arith}
use Rattle.std.proofs.lemmas.List.{take_all}
use Rattle.std.proofs.lemmas.List.Elements.{All-nil}
use Rattle.row_store.specs.Standing.{Stand}
use Rattle.reach_walk.specs.Flat.{LeadsNowhere, Puts}
use Rattle.reach_walk.specs.Marks.{with_owners}
use Rattle.reach_walk.specs.Reach.{named_by}
use Rattle.reach_walk.proofs.Blocks.{words_stay}
use Rattle.reach_walk.proofs.Flatly.{all_next, all_one, flat_marks, puts_next, puts_none}
use Rattle.reach_walk.proofs.flat.find_flat_within.Goals as goal

pub loop-value-init : goal.loop-value-init
loop-value-init g c = record {
  puts = subst (Puts [] []) (sym c.clear.ensures) puts_none;
  flat = All-nil (LeadsNowhere (g.R.BlockRows.rows c.args.rows.now));
  steps = omega arith;
  words = record { known = refl; places = refl; beside = refl };
}

pub put_named-requires-clause-rising : goal.put_named-requires-clause-rising
put_named-requires-clause-rising g c = c.loop-value.invariant.puts.rising

pub put_named-requires-clause-stand : goal.put_named-requires-clause-stand
put_named-requires-clause-stand g c =
    let rows = c.args.rows.now in
    subst (Stand (g.R.BlockRows.rows rows) (g.R.BlockRows.blocks rows)) (sym c.loop-value.invariant.words.known) c.requires

pub returns-then-not-branch-clause-flat : goal.returns-then-not-branch-clause-flat
returns-then-not-branch-clause-flat g c = (
  λ not_true. cc,
  λ all.
      let nowhere = LeadsNowhere (g.R.BlockRows.rows c.args.rows.now) in
      let values = c.as_slice-value-items.result.now in
      let here = subst (λ ws. All nowhere (named_by ws)) (sym c.as_slice-value-items.ensures.value) all in
      sym c.if-not-branch.true
      ∙ c.in_ok-put_named.ensures.flat.1 (all_one values c.loop-value.value-index c.value-item.result c.loop-value-test.true c.value-item.is nowhere here),
)

pub loop-value-preserved : goal.loop-value-preserved
loop-value-preserved g c =
    let values = c.as_slice-value-items.result.now in
    let i = c.loop-value.value-index in
    let v = c.value-item.result in
    let done = c.in_ok-put_named.ensures in
    record {
      puts = puts_next values i v c.loop-value-test.true c.value-item.is c.loop-value.things c.put_named.new.things
          c.loop-value.invariant.puts (done.puts c.if-not-branch.false);
      flat = all_next values i v c.loop-value-test.true c.value-item.is (LeadsNowhere (g.R.BlockRows.rows c.args.rows.now))
          c.loop-value.invariant.flat (done.flat.0 c.if-not-branch.false);
      steps = omega (arith, c.loop-value.invariant.steps, c.put_named.ensures.steps.1);
      words = words_stay g.W.RowWords.known g.W.RowWords.places g.W.RowWords.beside c.args.words.now c.loop-value.words c.put_named.new.words c.loop-value.invariant.words c.put_named.ensures.words;
    }

pub returns-clause-things : goal.returns-clause-things
returns-clause-things g c = λ _.
    let rows = g.R.BlockRows.rows c.args.rows.now in
    let values = c.as_slice-value-items.result.now in
    let i = c.loop-value.value-index in
    let whole : take i values ≡ c.args.args.now = take_all i values (omega (arith, c.loop-value-test.false)) ∙ c.as_slice-value-items.ensures.value in
    flat_marks rows (g.R.BlockRows.all c.args.rows.now) c.args.args.now c.loop-value.things (g.R.BlockRows.within c.args.rows.now)
    (subst (λ ws. All (LeadsNowhere rows) (named_by ws)) whole c.loop-value.invariant.flat)
    (subst (λ ws. Puts (with_owners (named_by ws)) [] c.loop-value.things) whole c.loop-value.invariant.puts)

pub returns-then-not-branch-clause-steps : goal.returns-then-not-branch-clause-steps
returns-then-not-branch-clause-steps g c =
    omega (arith, c.loop-value.invariant.steps, c.put_named.ensures.steps.1, c.loop-value-test.true, ap length c.as_slice-value-items.ensures.value)

pub returns-clause-steps : goal.returns-clause-steps
returns-clause-steps g c = omega (arith, c.loop-value.invariant.steps, ap length c.as_slice-value-items.ensures.value)
