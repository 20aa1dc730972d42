use Rattle.std.proofs.Common.{rules, ◌≡◌, length, refl, vec_len}
use Rattle.std.specs.Vec.Iter.{into_iter_items}
use Rattle.std.proofs.lemmas.Result.{IfOk-weaker}
use Rattle.std.proofs.lemmas.Iterator.Adapters.{YieldsList-from_vec, fact_from_collect}
use Rattle.process_call.proofs.list_of.Goals as goal

pub returns : goal.returns
returns c =
    let all = into_iter_items c.args.arguments in
    IfOk-weaker c.collect.result _ _ (λ list same. same.0)
    (fact_from_collect (λ xs list. (list.items ≡ xs) × (vec_len list ≡ length xs)) c.collect.result c.collect.ensures.ran (YieldsList-from_vec all refl (search rules)))
