use Rattle.std.proofs.Common.{ap, drop, subst, sym, ◌+◌}
use Rattle.std.proofs.lemmas.List.{drop_all}
use Rattle.letter_kinds.specs.Letters.{Confirm}
use Rattle.machine_rules.specs.Detect.{ask_all}
use Rattle.trace_send.proofs.Steps.{rest_of}
use Rattle.actor_table.specs.Slots.{actors_of}
use Rattle.orca_parts.specs.Letters.{FitLetters}
use Rattle.orca_parts.proofs.Posting.{first_fits}
use Rattle.orca_parts.proofs.Pushed.{Pushes, pushes_all, pushes_none, pushes_one}
use Rattle.orca_parts.proofs.scans.ask_all.Goals as goal

pub loop-member-init : goal.loop-member-init
loop-member-init c = pushes_none c.args.members.now (ask_all c.args.members.now c.args.number) c.args.table.now.slots c.requires

pub post-requires : goal.post-requires
post-requires c =
    let members = c.args.members.now in
    let i = c.loop-member.member-index in
    let m = c.member-item.result in
    first_fits m (drop (i + 1) members) c.loop-member.table.slots
    (subst (λ ms. FitLetters ms c.loop-member.table.slots) (rest_of members i m c.loop-member-test.true c.member-item.is) c.loop-member.invariant.fits)

pub loop-member-preserved : goal.loop-member-preserved
loop-member-preserved c =
    let members = c.args.members.now in
    let i = c.loop-member.member-index in
    let m = c.member-item.result in
    let rest = drop (i + 1) members in
    let number = c.args.number in
    let start = c.args.table.now.slots in
    let old = c.loop-member.table.slots in
    let all = ask_all members number (actors_of start) in
    subst (Pushes rest (ask_all rest number) all start c.post.new.table.slots) (sym c.lower-lowest.ensures)
    (pushes_one m (Confirm number) rest (ask_all rest number) all start old c.post.new.table.slots c.loop-member.lowest c.post.result
    (subst (λ ms. Pushes ms (ask_all ms number) all start old c.loop-member.lowest) (rest_of members i m c.loop-member-test.true c.member-item.is) c.loop-member.invariant)
    c.post.ensures.posts c.post.ensures.room)

pub returns : goal.returns
returns c =
    let members = c.args.members.now in
    let left = drop c.loop-member.member-index members in
    let number = c.args.number in
    let now = c.loop-member.table.slots in
    pushes_all left (ask_all left number) (ask_all members number) c.args.table.now.slots now c.loop-member.lowest
    (ap (λ ms. ask_all ms number (actors_of now)) (drop_all c.loop-member.member-index members c.loop-member-test.false)) c.loop-member.invariant
