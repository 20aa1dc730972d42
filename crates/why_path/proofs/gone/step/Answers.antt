use Rattle.std.proofs.Common.{ℕ, [], ◌∷◌, sym, subst, ◌∙◌}
use Rattle.std.specs.declared.result.Result.TheVariants.{Err}
use Rattle.orca_parts.specs.Away.{next_without}
use Rattle.orca_parts.specs.Faults.{IsFault}
use Rattle.orca_parts.specs.declared.fault.StepFault.TheVariants as faults
use Rattle.orca_core.proofs.Blockless.{none_after, none_lacked, none_put, none_stand}
use Rattle.orca_core.proofs.Enabled.{with_none_away}
use Rattle.why_path.proofs.gone.step.Goals as goal

pub unreachable-requires : goal.unreachable-requires
unreachable-requires c =
    let m = c.args.orca.now in
    let e = c.args.e.now in
    let told = none_lacked {X = ℕ} (Err c.in-Err-NotEnabled.field-0) m e c.requires.none c.in-Err-NotEnabled.ensures.fault in
    let fault = subst (IsFault (next_without m.out m.state e) e) c.in-Err-NotEnabled.field-0-is told in
    let here = subst (λ rule. IsFault (rule m.state e) e faults.NotEnabled) (with_none_away m.out c.requires.home) fault in
    let both = sym here ∙ c.requires.leads.1 in
    cc

pub unreachable-requires-in-Err-ActorsFull : goal.unreachable-requires-in-Err-ActorsFull
unreachable-requires-in-Err-ActorsFull c =
    let m = c.args.orca.now in
    let e = c.args.e.now in
    let a = c.in-Err-ActorsFull.field-0-0 in
    let told = none_lacked {X = ℕ} (Err c.in-Err-ActorsFull.field-0) m e c.requires.none c.in-Err-ActorsFull.ensures.fault in
    let fault = subst (IsFault (next_without m.out m.state e) e) c.in-Err-ActorsFull.field-0-is told in
    let here = subst (λ rule. IsFault (rule m.state e) e (faults.ActorsFull a)) (with_none_away m.out c.requires.home) fault in
    let both = sym here.0 ∙ c.requires.leads.1 in
    cc

pub unreachable-requires-in-Err-NoRows : goal.unreachable-requires-in-Err-NoRows
unreachable-requires-in-Err-NoRows c =
    let m = c.args.orca.now in
    let e = c.args.e.now in
    let told = none_lacked {X = ℕ} (Err c.in-Err-NoRows.field-0) m e c.requires.none c.in-Err-NoRows.ensures.fault in
    absurd (subst (IsFault (next_without m.out m.state e) e) c.in-Err-NoRows.field-0-is told)

pub step-requires-clause-stand : goal.step-requires-clause-stand
step-requires-clause-stand c = none_stand _ c.args.orca.now c.requires.none

pub step-requires-clause-put : goal.step-requires-clause-put
step-requires-clause-put c = none_put c.args.orca.now.blocks (0 ∷ []) c.requires.none

pub returns-in-Ok-clause-none : goal.returns-in-Ok-clause-none
returns-in-Ok-clause-none c =
    let m = c.args.orca.now in
    let n = c.step.new.self in
    none_after m.state n.state c.args.e.now m.blocks n.blocks c.requires.none c.in-Ok.ensures.blocks

pub returns-in-Err-NoMemory-clause-none : goal.returns-in-Err-NoMemory-clause-none
returns-in-Err-NoMemory-clause-none c = c.in-Err-NoMemory.ensures.same.blocks ∙ c.requires.none
