use Rattle.std.proofs.Common.{Err, ap, refl, sym, subst, ◌∙◌}
use Rattle.std.specs.Option.{ForSome}
use Rattle.orca_names.specs.declared.options.Options.{Options}
use Rattle.behaviour_code.specs.declared.code.Program.{Program}
use Rattle.hall_rules.specs.Halls.{HallValue}
use Rattle.hall_rules.proofs.Entries.{keeps, may_enter, refused_early}
use Rattle.hall_rules.proofs.Keeping.{hall_with, machine_run}
use Rattle.book_hall.specs.Answers.{AnswersEntry}
use Rattle.book_hall.specs.Proposals.{IsOf}
use Rattle.book_hall.proofs.Entries.{answers, home_for, reaps_at_home}
use Rattle.book_hall.proofs.hall.Hall.enter_as.Goals as goal

pub early_refusal-requires : goal.early_refusal-requires
early_refusal-requires c = λ none. home_for c.self.inside.orca c.self.invariant.1 c.args.e

pub returns-in-Some : goal.returns-in-Some
returns-in-Some c =
    let s = c.self.inside in
    subst (λ (v : HallValue). AnswersEntry v c.args.asker c.args.e v.claims (Err c.in-Some.refuse) v) c.self.view_is (record {
      answers = (
        refused_early s.code.now s.budget s.orca s.book c.self.invariant.0 c.holder_for-holder.result c.args.e s.claims s.stopped
            c.args.asker c.holder_for-holder.ensures c.in-Some.refuse c.in-Some.ensures,
        refl,
      );
      rest = refl;
    })

pub fitting-found-requires-clause-own : goal.fitting-found-requires-clause-own
fitting-found-requires-clause-own c =
    let s = c.self.inside in let view = c.self.view_is in
    let run = machine_run s.code.now s.budget s.orca s.book c.self.invariant.0 in
    let program = sym (run.0 ∙ ap (λ (v : HallValue). v.program) view) in
    let options = sym (run.1 ∙ ap (λ (v : HallValue). v.options) view) in
    subst (λ (x : Program × Options). ForSome c.args.proposal (IsOf x.0 x.1 c.args.e)) (λ i. (program i, options i)) c.requires

pub enter-requires : goal.enter-requires
enter-requires c =
    let s = c.self.inside in let kept = c.self.invariant in
    may_enter s.code.now s.budget s.orca s.book kept.0 c.holder_for-holder.result c.args.e c.in_default.ensures
    (home_for s.orca kept.1 c.args.e) kept.2 (reaps_at_home s.orca kept.1 c.args.e) _ c.fitting-found.ensures

pub invariant_of-self : goal.invariant_of-self
invariant_of-self c =
    let s = c.self.inside in let kept = c.self.invariant in let told = c.enter.ensures in (
      keeps s.code.now s.budget s.orca s.book kept.0 c.holder_for-holder.result c.args.e c.in_default.ensures c.enter.new.orca c.enter.new.book
          told.book c.enter.result told.ok told.refused,
      λ a. told.away a ∙ kept.1 a,
      told.none,
    )

pub returns : goal.returns
returns c =
    let s = c.self.inside in let told = c.enter.ensures in
    subst (λ (v : HallValue). AnswersEntry v c.args.asker c.args.e v.claims c.enter.result
    (hall_with s.code.now s.budget c.enter.new.book s.claims s.stopped)) c.self.view_is
    (answers s.code.now s.budget s.orca c.enter.new.orca s.book c.enter.new.book c.self.invariant.0 s.claims s.stopped c.args.asker c.args.e
    c.holder_for-holder.result c.holder_for-holder.ensures c.in_default.ensures told.book c.enter.result told.ok told.refused)
