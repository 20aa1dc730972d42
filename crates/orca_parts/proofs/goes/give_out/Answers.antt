use Rattle.std.proofs.Common.{subst, sym, ap, ◌∙◌, [], ◌++◌, ◌≡◌}
use Rattle.std.proofs.lemmas.Option.{none-some}
use Rattle.letter_kinds.specs.Letters.{Inc}
use Rattle.actor_table.specs.Slots.{actors_of}
use Rattle.orca_parts.specs.declared.parts.Parts.{Parts}
use Rattle.orca_parts.specs.Awaiting.{AwaitedIn}
use Rattle.orca_parts.proofs.Awaiting.{awaited_without, push_awaits}
use Rattle.orca_parts.proofs.goes.give_out.Goals as goal
use Rattle.letter_kinds.specs.Telling.{TellsOnly}
use Rattle.actor_cell.specs.Tells.{told_out, where_sent}
use Rattle.actor_table.specs.Telling.{TableTells}
use Rattle.actor_table.proofs.Telling.{tells_more}

pub returns-in-Post-clause-awaited : goal.returns-in-Post-clause-awaited
returns-in-Post-clause-awaited c = λ trace minted letter x e.
    absurd (none-some letter (sym (ap (λ (m : Parts). m.turned.awaited) c.keep_turn.ensures) ∙ sym c.post_letter.ensures.awaited ∙ e))

pub returns-in-Mint-clause-awaited : goal.returns-in-Mint-clause-awaited
returns-in-Mint-clause-awaited c = λ trace minted.
    let m = c.args.parts.now in
    let t = m.turned in
    let does = c.post_things.ensures in
    let code = c.args.code.now in
    let its : AwaitedIn trace code m.turn t (actors_of c.post_things.new.table.slots) =
    subst (AwaitedIn trace code m.turn t) (sym does.posts.actors)
    (push_awaits trace code m.turn t c.in-Mint.owner (Inc t.things) (actors_of m.table.slots) (minted c.in-Mint.owner c.in-Mint.is))
    in
    subst (λ found. AwaitedIn trace code m.turn found (actors_of c.post_things.new.table.slots)) (sym does.rest)
    (awaited_without trace code m.turn t c.post_things.new.found.things t.room (actors_of c.post_things.new.table.slots) its)

pub returns-in-Post-clause-told : goal.returns-in-Post-clause-told
returns-in-Post-clause-told c =
    let m = c.args.parts.now in
    let t = m.turned in
    let kept : c.keep_turn.new.self ≡ _ = c.keep_turn.ensures in
    let told = c.post_letter.ensures.posts.told in
    subst (λ d. TellsOnly (TableTells m.table.slots) (where_sent d (t.load ++ t.rows)) (TableTells c.post_letter.new.table.slots)) (sym c.in-Post.is)
    (subst (λ (k : Parts). TellsOnly (TableTells k.table.slots) (k.turned.load ++ k.turned.rows) (TableTells c.post_letter.new.table.slots)) kept told)

pub returns-in-Mint-clause-told : goal.returns-in-Mint-clause-told
returns-in-Mint-clause-told c =
    let m = c.args.parts.now in
    tells_more (TableTells m.table.slots) (TableTells c.post_things.new.table.slots) (told_out m.turned) c.post_things.ensures.posts.told

pub returns-in-New-clause-told : goal.returns-in-New-clause-told
returns-in-New-clause-told c =
    let m = c.args.parts.now in
    tells_more (TableTells m.table.slots) (TableTells c.make.new.table.slots) (told_out m.turned)
    (subst (λ (k : Parts). TellsOnly (TableTells k.table.slots) [] (TableTells c.make.new.table.slots)) c.keep_turn-in-New.ensures c.make.ensures.told)
