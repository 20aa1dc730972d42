use Rattle.why_path.specs.Named.{NamesNoneLoose}
use Rattle.why_path.proofs.Answering.{all_more, all_so, not_all, not_so}
use Rattle.why_path.proofs.checks.name_none_loose.Goals as goal

pub loop-value-preserved : goal.loop-value-preserved
loop-value-preserved c =
    all_more (NamesNoneLoose c.args.reasons.now) c.args.values.now c.loop-value.value-index c.value-item.result
    c.loop-value-test.true c.value-item.is c.loop-value.invariant
    (c.names_none_loose.ensures.0 c.if-not-names_none_loose.false)

pub returns-then-not-names_none_loose : goal.returns-then-not-names_none_loose
returns-then-not-names_none_loose c =
    not_all (NamesNoneLoose c.args.reasons.now) c.args.values.now c.loop-value.value-index c.value-item.result
    c.loop-value-test.true c.value-item.is (not_so c.names_none_loose.ensures c.if-not-names_none_loose.true)

pub returns : goal.returns
returns c =
    all_so (NamesNoneLoose c.args.reasons.now) c.args.values.now c.loop-value.value-index
    c.loop-value-test.false c.loop-value.invariant
