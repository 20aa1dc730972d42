use Rattle.std.proofs.Common.{inr, subst, sym}
use Rattle.std.proofs.lemmas.Result.{IfErr-weaker}
use Rattle.job_input.specs.Inputs.{IsInput}
use Rattle.job_input.specs.Streams.{sides}
use Rattle.job_input.proofs.beginning.begin.Goals as goal

pub returns-clause-stop : goal.returns-clause-stop
returns-clause-stop g c =
    let source = sides g.S.Source.left g.S.Source.faults c.args.source.now c.input_of.new.source in
    let read = subst (IsInput c.args.job source) (sym c.deref.ensures.value) c.in_ok-input.ensures.input in
    IfErr-weaker c.begin_with.result _ _ (λ stop stops. inr (record { input = c.deref.result.now; read = read; stops = stops })) c.begin_with.ensures.stop
