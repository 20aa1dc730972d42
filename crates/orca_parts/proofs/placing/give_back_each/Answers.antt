use Rattle.std.proofs.Common.{◌+◌, drop, ap, subst, sym, ◌∙◌}
use Rattle.std.specs.List.Sorted.{IsStrictlySortedBy}
use Rattle.std.specs.Ordering.{nat_cmp}
use Rattle.std.proofs.lemmas.List.{drop_all}
use Rattle.letter_kinds.specs.Detector.{has}
use Rattle.detector_tokens.proofs.RisingLemmas.{rest_rises}
use Rattle.trace_send.proofs.Steps.{rest_of}
use Rattle.row_blocks.specs.Blocks.{without}
use Rattle.orca_parts.specs.Blocks.{OwnFit}
use Rattle.orca_parts.proofs.Owned.{all_given, first_member, later_member, member_given, others_fit}
use Rattle.orca_parts.proofs.placing.give_back_each.Goals as goal

pub give_back-requires : goal.give_back-requires
give_back-requires c =
    let members = c.args.members.now in
    let i = c.loop-member.member-index in
    let m = c.member-item.result in
    c.loop-member.invariant.home m
    (ap (λ ms. has ms m) (rest_of members i m c.loop-member-test.true c.member-item.is) ∙ first_member m (drop (i + 1) members))

pub loop-member-preserved : goal.loop-member-preserved
loop-member-preserved c =
    let members = c.args.members.now in
    let i = c.loop-member.member-index in
    let m = c.member-item.result in
    let later = drop (i + 1) members in
    let rest = rest_of members i m c.loop-member-test.true c.member-item.is in
    let rising = subst (IsStrictlySortedBy nat_cmp) rest c.loop-member.invariant.rising in
    let old = c.loop-member.blocks in
    record {
      rising = rest_rises m later rising;
      blocks = ap (without (λ n. has later n.owner)) c.give_back.ensures ∙ member_given m later old
          ∙ sym (ap (λ ms. without (λ n. has ms n.owner) old) rest) ∙ c.loop-member.invariant.blocks;
      home = λ a among.
          let here = c.loop-member.invariant.home a (ap (λ ms. has ms a) rest ∙ later_member m later a among) in
          record {
            cell = here.cell;
            home = here.home;
            so = λ its. subst (λ blocks. OwnFit blocks here.cell) (sym c.give_back.ensures) (others_fit m later a old here.cell rising among its (here.so its));
          };
    }

pub returns : goal.returns
returns c =
    sym (all_given (drop c.loop-member.member-index c.args.members.now) c.loop-member.blocks
    (drop_all c.loop-member.member-index c.args.members.now c.loop-member-test.false))
    ∙ c.loop-member.invariant.blocks
