use Rattle.std.proofs.Common.{◌≡◌, ℕ, Bool, List}
use Rattle.std.proofs.lemmas.Result.{IfOk-weaker}
use Rattle.orca_names.specs.declared.names.Value.{Value}
use Rattle.report_text.specs.declared.numbers.Numbers.{Numbers}
use Rattle.report_text.specs.Reports.{audit_report_of}
use Rattle.pony_run.proofs.reporting.report_of_audit.Goals as goal

-- reports of the same
says_same : (text : List ℕ) (is_quiet : Bool) (prints prints' : List Value) (count count' : ℕ) (actors objects : Numbers)
    → text ≡ audit_report_of is_quiet prints count actors objects → prints ≡ prints' → count ≡ count' → text ≡ audit_report_of is_quiet prints' count' actors objects
says_same text is_quiet prints prints' count count' actors objects said one two = cc

pub returns : goal.returns
returns c =
    IfOk-weaker c.audit_report.result _ _ (λ text said. record {
      is_quiet = c.quiet.result;
      quiet = c.quiet.ensures;
      actors = c.in_ok-actors.actors;
      objects = c.in_ok-actors.objects;
      numbers = c.in_ok-actors.ensures;
      said = says_same _ _ _ _ _ _ _ _ said c.prints.ensures c.len.ensures;
    }) c.audit_report.ensures
