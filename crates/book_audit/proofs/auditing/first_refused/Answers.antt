use Rattle.std.proofs.Common.{◌+◌, ℕ, [], ◌∷◌, ap, subst, ◌∙◌}
use Rattle.std.specs.declared.result.Result.TheVariants.{Err}
use Rattle.orca_parts.specs.Away.{next_without}
use Rattle.orca_parts.specs.Faults.{IsFault}
use Rattle.orca_core.proofs.Blockless.{none_after, none_lacked, none_put, none_stand}
use Rattle.book_audit.proofs.Following.{follows, full_here, off_here, refused_at}
use Rattle.book_audit.proofs.auditing.first_refused.Goals as goal

pub returns-in-Err-NotEnabled : goal.returns-in-Err-NotEnabled
returns-in-Err-NotEnabled c =
    let m = c.loop-place.orca in
    let kept = c.loop-place.invariant in
    refused_at c.args.orca.now.state.program c.args.book.now c.loop-place.place c.at.result m.state kept.run c.at.ensures 1
    (off_here m.out m.state c.at.result kept.home c.in-Err-NotEnabled.field-0
    (none_lacked {X = ℕ} (Err c.in-Err-NotEnabled.field-0) m c.at.result kept.none c.in-Err-NotEnabled.ensures.fault) c.in-Err-NotEnabled.field-0-is)

pub returns-in-Err-ActorsFull : goal.returns-in-Err-ActorsFull
returns-in-Err-ActorsFull c =
    let m = c.loop-place.orca in
    let kept = c.loop-place.invariant in
    let full = c.in-Err-ActorsFull in
    refused_at c.args.orca.now.state.program c.args.book.now c.loop-place.place c.at.result m.state kept.run c.at.ensures 2
    (full_here m.out m.state c.at.result kept.home full.field-0
    (none_lacked {X = ℕ} (Err full.field-0) m c.at.result kept.none full.ensures.fault) full.field-0-0 full.field-0-is)

pub loop-place-preserved : goal.loop-place-preserved
loop-place-preserved c =
    let m = c.loop-place.orca in
    let n = c.step.new.self in
    let kept = c.loop-place.invariant in
    record {
      run = follows c.args.orca.now.state.program c.args.book.now c.loop-place.place c.at.result c.loop-place.orca.state kept.run c.at.ensures
          n.state c.in-Ok.ensures.ok;
      steps = c.in-Ok.ensures.steps ∙ ap (λ n. n + 1) kept.steps;
      home = λ a. c.in-Ok.ensures.out a ∙ kept.home a;
      none = none_after m.state n.state c.at.result m.blocks n.blocks kept.none c.in-Ok.ensures.blocks;
    }

pub step-requires-clause-stand : goal.step-requires-clause-stand
step-requires-clause-stand c = none_stand _ c.loop-place.orca c.loop-place.invariant.none

pub step-requires-clause-put : goal.step-requires-clause-put
step-requires-clause-put c = none_put c.loop-place.orca.blocks (0 ∷ []) c.loop-place.invariant.none

pub unreachable-requires : goal.unreachable-requires
unreachable-requires c =
    let m = c.loop-place.orca in
    let e = c.at.result in
    let told = none_lacked {X = ℕ} (Err c.in-Err-NoRows.field-0) m e c.loop-place.invariant.none c.in-Err-NoRows.ensures.fault in
    absurd (subst (IsFault (next_without m.out m.state e) e) c.in-Err-NoRows.field-0-is told)
