use Rattle.std.proofs.Common.{◌∙◌, ◌++◌, ap, drop, subst, sym, ◌+◌}
use Rattle.std.proofs.lemmas.List.{append-nil, append_assoc, drop_all}
use Rattle.std.specs.List.Sorted.{IsStrictlySortedBy}
use Rattle.std.specs.Ordering.{nat_cmp}
use Rattle.detector_tokens.proofs.RisingLemmas.{rest_rises}
use Rattle.actor_cell.specs.Cells.{as_cell}
use Rattle.actor_cell.specs.Outs.{left_outside}
use Rattle.actor_table.specs.Slots.{slot_at}
use Rattle.trace_send.proofs.Steps.{rest_of}
use Rattle.orca_parts.proofs.Homes.{home_is}
use Rattle.orca_parts.proofs.Reaping.{first_returned, none_returned, returned}
use Rattle.orca_parts.proofs.reaps.letters_outside.Goals as goal

pub loop-member-preserved : goal.loop-member-preserved
loop-member-preserved c =
    let members = c.args.members.now in
    let i = c.loop-member.member-index in
    let m = c.member-item.result in
    let later = drop (i + 1) members in
    let rest = rest_of members i m c.loop-member-test.true c.member-item.is in
    let slots = c.args.table.now.slots in
    let rising = subst (IsStrictlySortedBy nat_cmp) rest c.loop-member.invariant.rising in
    let cell = c.in-Some.cell.now in
    let its = left_outside members (as_cell cell) in
    let sofar = c.loop-member.letters.items in
    record {
      rising = rest_rises m later rising;
      letters =
          ap (λ ls. ls ++ returned members later slots) (c.in_ok-append.ensures.items ∙ ap (λ ls. sofar ++ ls) c.in_ok-returned.ensures)
          ∙ append_assoc sofar its (returned members later slots)
          ∙ ap (λ ls. sofar ++ ls) (sym (first_returned members m later slots cell rising (home_is (slot_at slots m) cell c.in-Some.ensures.cell)))
          ∙ sym (ap (λ ms. sofar ++ returned members ms slots) rest) ∙ c.loop-member.invariant.letters;
    }

pub returns : goal.returns
returns c =
    let members = c.args.members.now in
    let slots = c.args.table.now.slots in
    let sofar = c.loop-member.letters.items in
    let left = drop c.loop-member.member-index members in
    sym (append-nil sofar)
    ∙ ap (λ ls. sofar ++ ls) (sym (none_returned members left slots (drop_all c.loop-member.member-index members c.loop-member-test.false)))
    ∙ c.loop-member.invariant.letters
