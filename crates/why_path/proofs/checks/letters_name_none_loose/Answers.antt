use Rattle.std.proofs.Common.{◌<◌, ◌≤◌, length, sym, subst, arith}
use Rattle.std.specs.Prelude.{All}
use Rattle.std.proofs.lemmas.Option.{get_or_from_slice_get}
use Rattle.letter_kinds.specs.Letters.{Letter, as_letter}
use Rattle.why_path.specs.Edges.{args_of}
use Rattle.why_path.specs.Named.{NamesNoneLoose}
use Rattle.why_path.proofs.Answering.{all_more, all_so, not_all, not_so}
use Rattle.why_path.proofs.checks.letters_name_none_loose.Goals as goal

pub loop-k-preserved : goal.loop-k-preserved
loop-k-preserved c =
    let rs = c.args.reasons.now in
    let ls = c.args.mail.now.letters in
    let l = as_letter c.at.result.now in
    let within : c.loop-k.k < length ls = omega (arith, c.loop-k-test.true, c.len-k-end.ensures) in
    let none = c.name_none_loose.ensures.0 c.if-not-name_none_loose.false in
    all_more (λ (m : Letter). All (NamesNoneLoose rs) (args_of m)) ls c.loop-k.k l within
    (sym (get_or_from_slice_get ls c.loop-k.k l l c.at.ensures.letter)) c.loop-k.invariant
    (subst (All (NamesNoneLoose rs)) c.args_of.ensures.value none)

pub returns-then-not-name_none_loose : goal.returns-then-not-name_none_loose
returns-then-not-name_none_loose c =
    let rs = c.args.reasons.now in
    let ls = c.args.mail.now.letters in
    let l = as_letter c.at.result.now in
    let within : c.loop-k.k < length ls = omega (arith, c.loop-k-test.true, c.len-k-end.ensures) in
    not_all (λ (m : Letter). All (NamesNoneLoose rs) (args_of m)) ls c.loop-k.k l within
    (sym (get_or_from_slice_get ls c.loop-k.k l l c.at.ensures.letter))
    (λ none. not_so c.name_none_loose.ensures c.if-not-name_none_loose.true
    (subst (All (NamesNoneLoose rs)) (sym c.args_of.ensures.value) none))

pub returns : goal.returns
returns c =
    let rs = c.args.reasons.now in
    let ls = c.args.mail.now.letters in
    let whole : length ls ≤ c.loop-k.k = omega (arith, c.loop-k-test.false, c.len-k-end.ensures) in
    all_so (λ (m : Letter). All (NamesNoneLoose rs) (args_of m)) ls c.loop-k.k whole c.loop-k.invariant
