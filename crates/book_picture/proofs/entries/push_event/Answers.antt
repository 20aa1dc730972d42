use Rattle.std.proofs.Common.{◌≡◌, [], ◌∷◌, ◌++◌, ◌-◌, ap, length, sym, subst, ◌∙◌, string_bytes}
use Rattle.std.proofs.lemmas.Result.{on_ok_weaker}
use Rattle.event_rule.specs.Runs.{Goes}
use Rattle.machine_rules.specs.Next.{next}
use Rattle.orca_core.proofs.Blockless.{none_after, none_put, none_ready, none_stand}
use Rattle.picture_rules.specs.Pictures.{heard}
use Rattle.picture_rules.specs.Words.{text_of_lines}
use Rattle.orca_parts.proofs.Untold.{ok_holds}
use Rattle.book_picture.proofs.Events.{have_texts, keeps_program, told_at}
use Rattle.book_picture.proofs.entries.push_event.Goals as goal

pub before_event-requires-clause-none : goal.before_event-requires-clause-none
before_event-requires-clause-none c = c.in_ok-ready.ensures.same.blocks ∙ c.requires.none

pub apply_ready-requires-clause-stand : goal.apply_ready-requires-clause-stand
apply_ready-requires-clause-stand c = none_stand _ c.prepared.new.orca (c.in_ok-ready.ensures.same.blocks ∙ c.requires.none)

pub apply_ready-requires-clause-found : goal.apply_ready-requires-clause-found
apply_ready-requires-clause-found c = none_ready _ c.in_ok-ready.ready c.prepared.new.orca (c.in_ok-ready.ensures.same.blocks ∙ c.requires.none)

pub apply_ready-requires-clause-put : goal.apply_ready-requires-clause-put
apply_ready-requires-clause-put c = none_put c.prepared.new.orca.blocks (0 ∷ []) (c.in_ok-ready.ensures.same.blocks ∙ c.requires.none)

pub push_after-requires-clause-none : goal.push_after-requires-clause-none
push_after-requires-clause-none c =
    let m = c.prepared.new.orca in
    let n = c.apply_ready.new.self in
    none_after m.state n.state c.in_ok-ready.ready.event m.blocks n.blocks (c.in_ok-ready.ensures.same.blocks ∙ c.requires.none) c.apply_ready.ensures.blocks

pub push_after-requires-clause-texts : goal.push_after-requires-clause-texts
push_after-requires-clause-texts c =
    let before = c.in_ok-before.before in
    have_texts c.args.names.now c.prepared.new.orca.state before.touched.actors.items before.touched.token before.texts c.in_ok-before.ensures.before.texts

pub returns-clause-none : goal.returns-clause-none
returns-clause-none c =
    let m = c.prepared.new.orca in
    let n = c.apply_ready.new.self in
    ok_holds c.push_after.result (n.blocks ≡ [])
    (none_after m.state n.state c.in_ok-ready.ready.event m.blocks n.blocks (c.in_ok-ready.ensures.same.blocks ∙ c.requires.none) c.apply_ready.ensures.blocks)

pub returns-clause-told : goal.returns-clause-told
returns-clause-told c =
    let start = c.args.orca.now.state in
    let e = c.args.event in
    let m = c.prepared.new.orca in
    let x = c.in_ok-ready.ready.event in
    let t = c.apply_ready.new.self.state in
    let same = c.in_ok-ready.ensures.same.state in
    let is = c.in_ok-ready.ensures.event in
    let its = c.in_ok-before.ensures.before in
    let goes = c.apply_ready.ensures.state in
    let goes_on = subst (λ s. next s e ≡ Goes t) same (subst (λ y. next m.state y ≡ Goes t) is goes) in
    on_ok_weaker c.push_after.result
    (λ told. told ∙ ap (λ ls. string_bytes c.args.out.now ++ text_of_lines ls)
    (told_at start m e x t c.args.names.now c.in_ok-before.before same is its c.in_ok-before.ensures.state c.weight_is_above_zero.ensures c.requires.run
    c.in_ok-ready.ensures.ok goes))
    (c.push_after.ensures m.state its.texts its.prints (its.notes ∙ ap (λ y. length m.state.notes - heard y) is)
    (c.requires.names ∙ ap (λ p. p.names) (sym (keeps_program start t e c.requires.run goes_on))))
