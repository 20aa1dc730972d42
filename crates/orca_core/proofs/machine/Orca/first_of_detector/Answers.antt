use Rattle.std.proofs.Common.{rules, Some, None, refl, subst, sym, ◌∙◌}
use Rattle.std.proofs.lemmas.List.{nil_from_length}
use Rattle.event_rule.specs.Runs.{IsFirst, IsQuiet}
use Rattle.event_rule.specs.declared.event.Event.TheVariants.{Reap}
use Rattle.actor_table.specs.Slots.{away_of}
use Rattle.orca_core.specs.Firsts.{next_of_kind}
use Rattle.event_rule.specs.Events.{is_of_detector}
use Rattle.orca_core.specs.Machine.{Machine}
use Rattle.orca_parts.specs.Core.{core_state}
use Rattle.orca_core.proofs.Firsts.{first_of_tokens}
use Rattle.orca_core.proofs.machine.Orca.first_of_detector.Goals as goal

pub returns-in-Some : goal.returns-in-Some
returns-in-Some c =
    let m = c.self.inside in
    let slots = m.core.parts.table.slots in
    subst (λ t. IsFirst (next_of_kind is_of_detector c.args.self.now.out) c.args.self.now.state (Reap t)) (sym c.of.ensures)
    (subst (λ (v : Machine). IsFirst (next_of_kind is_of_detector v.out) v.state (Reap c.in-Some.token)) c.self.view_is
    (first_of_tokens slots (away_of slots) (core_state m.core) refl refl
    (nil_from_length m.core.parts.notes.items (search rules)) (sym c.news.ensures ∙ c.if-news.false)
    (Some c.in-Some.token) c.in-Some.ensures.value c.in-Some.ensures.lowest))

pub returns-in-None : goal.returns-in-None
returns-in-None c =
    let m = c.self.inside in
    let slots = m.core.parts.table.slots in
    subst (λ (v : Machine). IsQuiet (next_of_kind is_of_detector v.out) v.state) c.self.view_is
    (first_of_tokens slots (away_of slots) (core_state m.core) refl refl
    (nil_from_length m.core.parts.notes.items (search rules)) (sym c.news.ensures ∙ c.if-news.false)
    None c.in-None.ensures.value tt)
