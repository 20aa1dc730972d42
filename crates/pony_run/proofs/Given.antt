-- What was read, told from what was given.
use Rattle.std.proofs.Common.{◌≡◌, ℕ, ◌<◌, ◌≤◌, List, [], ◌++◌, length, take, Some, None, Ok, sym, ◌∙◌, subst, arith}
use Rattle.std.specs.declared.option.Option.{Option}
use Rattle.std.proofs.lemmas.Grind.{common_steps}
use Rattle.run_book.proofs.Marks.{one_way}
use Rattle.report_text.specs.Ends.{IsEnd}
use Rattle.report_text.specs.declared.status.Status.{Status}
use Rattle.report_text.specs.declared.status.Status.TheVariants as status
use Rattle.word_line.specs.declared.order.Job.{Job}
use Rattle.word_line.specs.declared.order.Job.TheVariants.{Run, Load, Audit, Why}
use Rattle.behaviour_code.specs.declared.code.Program.{Program}
use Rattle.behaviour_text.specs.Faults.{told_fault}
use Rattle.behaviour_text.proofs.Again.{again, no_fault_told}
use Rattle.outside_world.specs.Pieces.{TakesAll}
use Rattle.pony_run.specs.Causes.{IsGiven, IsOfAudit, ReadsWell, Tells}
use Rattle.job_input.specs.Inputs.{IsInput, IsProgramText, RunsProgram, Spells, TakesInput}
use Rattle.job_input.specs.Streams.{CountsNoFault, HasFailed, Sides, most_bytes}

-- ---- what was read is what was given

-- the first bytes of what was left, or all where there are fewer
take-front : (n : ℕ) (taken rest : List ℕ) → length taken ≤ n → (length taken < n → rest ≡ []) → take n (taken ++ rest) ≡ taken
take-front n taken rest bounded whole = grind (arith, common_steps)

taken_is : (after : Option (List ℕ)) (all taken : List ℕ) → TakesAll most_bytes (Some all) after taken → take most_bytes all ≡ taken
taken_is None all taken h = absurd h.front
taken_is (Some rest) all taken h = subst (λ (xs : List ℕ). take most_bytes xs ≡ taken) (sym h.front) (take-front most_bytes taken rest h.bounded h.whole)

told_is : (source : Sides) (input read : List ℕ) → Tells source input → TakesAll most_bytes source.before source.after read → read ≡ input
told_is source input read given taken =
    sym (given.taken ∙ taken_is source.after given.all read (subst (λ (b : Option (List ℕ)). TakesAll most_bytes b source.after read) given.told taken))

pub read_is : (job : Job) (source : Sides) (input read : List ℕ) → IsGiven job source input → IsInput job source read → read ≡ input
read_is Run source input read given h = told_is source input read given h.1
read_is Audit source input read given h = told_is source input read given h.1
read_is Why source input read given h = told_is source input read given h.1
read_is (Load count) source input read given h = h.1 ∙ sym given

-- an input has one text of a program
pub one_text : (job : Job) (input text other : List ℕ) → IsProgramText job input text → IsProgramText job input other → text ≡ other
one_text Run input text other h k = h ∙ sym k
one_text (Load count) input text other h k = h ∙ sym k
one_text Why input text other h k = h ∙ sym k
one_text Audit input text other h k = (one_way input text h.0 other k.0 h.1 k.1).0

-- a text is of one program
pub one_program : (text : List ℕ) (p q : Program) → Spells text p → Spells text q → q ≡ p
one_program text p q p_of q_of = let same : Ok q ≡ Ok p = sym (again text q q_of.says q_of.good) ∙ again text p p_of.says p_of.good in cc

-- the text of a program has no fault
pub no_fault : (text : List ℕ) (p : Program) → Spells text p → told_fault text ≡ None
no_fault text p is = no_fault_told text p (again text p is.says is.good)

-- no read failed where an input came
pub input_is_well : (job : Job) (source : Sides) (input : List ℕ) → IsInput job source input → CountsNoFault source
input_is_well Run source input h = h.0
input_is_well Audit source input h = h.0
input_is_well Why source input h = h.0
input_is_well (Load count) source input h = h.0.1

-- where reads went well, the source did not fail
pub well_read : (job : Job) (source : Sides) → ReadsWell job source → TakesInput job → ¬ HasFailed source
well_read Run source well takes = well
well_read Audit source well takes = well
well_read Why source well takes = well
well_read (Load count) source well takes = absurd takes

-- an end of a run is no answer of an audit
pub ends_no_audit : (answer : Status) → IsEnd answer → IsOfAudit answer → ⊥
ends_no_audit status.Quiet end audits = audits
ends_no_audit status.Budget end audits = audits
ends_no_audit (status.ActorsFull a) end audits = audits
ends_no_audit (status.RowsFull a) end audits = audits
ends_no_audit answer end audits = end

-- an audit runs no program
pub no_run : (job : Job) → RunsProgram job → job ≡ Audit → ⊥
no_run job runs is = subst RunsProgram is runs
