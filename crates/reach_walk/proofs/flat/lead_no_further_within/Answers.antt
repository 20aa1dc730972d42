use Rattle.std.proofs.Common.{All, refl, sym, subst, ◌∙◌, arith}
use Rattle.std.proofs.lemmas.List.{take_all}
use Rattle.row_store.specs.Standing.{Stand}
use Rattle.reach_walk.specs.Flat.{LeadsNowhere}
use Rattle.reach_walk.specs.Reach.{named_by}
use Rattle.reach_walk.proofs.Blocks.{words_stay}
use Rattle.reach_walk.proofs.Flatly.{all_next, all_one}
use Rattle.reach_walk.proofs.flat.lead_no_further_within.Goals as goal

pub leads_no_further-requires : goal.leads_no_further-requires
leads_no_further-requires g c =
    let rows = c.args.rows.now in
    subst (Stand (g.R.BlockRows.rows rows) (g.R.BlockRows.blocks rows)) (sym c.loop-value.invariant.words.known) c.requires

pub returns-then-not-leads_no_further-clause-flat : goal.returns-then-not-leads_no_further-clause-flat
returns-then-not-leads_no_further-clause-flat g c =
    let nowhere = LeadsNowhere (g.R.BlockRows.rows c.args.rows.now) in
    let one = all_one c.args.values.now c.loop-value.value-index c.value-item.result c.loop-value-test.true c.value-item.is nowhere in
    (λ not_true. cc, λ all. sym c.if-not-leads_no_further.true ∙ c.leads_no_further.ensures.flat.1 (one all))

pub loop-value-preserved : goal.loop-value-preserved
loop-value-preserved g c =
    let nowhere = LeadsNowhere (g.R.BlockRows.rows c.args.rows.now) in
    record {
      flat = all_next c.args.values.now c.loop-value.value-index c.value-item.result c.loop-value-test.true c.value-item.is nowhere
          c.loop-value.invariant.flat (c.leads_no_further.ensures.flat.0 c.if-not-leads_no_further.false);
      steps = omega (arith, c.loop-value.invariant.steps, c.leads_no_further.ensures.steps.1);
      words = words_stay g.W.RowWords.known g.W.RowWords.places g.W.RowWords.beside c.args.words.now c.loop-value.words c.leads_no_further.new.words c.loop-value.invariant.words c.leads_no_further.ensures.words;
    }

pub returns-clause-flat : goal.returns-clause-flat
returns-clause-flat g c =
    let nowhere = LeadsNowhere (g.R.BlockRows.rows c.args.rows.now) in
    let whole = take_all c.loop-value.value-index c.args.values.now (omega (arith, c.loop-value-test.false)) in
    (λ _. subst (λ values. All nowhere (named_by values)) whole c.loop-value.invariant.flat, λ _. refl)

pub returns-then-not-leads_no_further-clause-words : goal.returns-then-not-leads_no_further-clause-words
returns-then-not-leads_no_further-clause-words g c = words_stay g.W.RowWords.known g.W.RowWords.places g.W.RowWords.beside c.args.words.now c.loop-value.words c.leads_no_further.new.words c.loop-value.invariant.words c.leads_no_further.ensures.words

pub returns-then-not-leads_no_further-clause-steps : goal.returns-then-not-leads_no_further-clause-steps
returns-then-not-leads_no_further-clause-steps g c = omega (arith, c.loop-value.invariant.steps, c.leads_no_further.ensures.steps.1, c.loop-value-test.true)
