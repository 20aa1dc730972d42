use Rattle.std.proofs.Common.{ap, sym, ◌∙◌, drop, ◌+◌, []}
use Rattle.machine_rules.specs.Detect.{empty_seats}
use Rattle.std.proofs.lemmas.List.{drop_all}
use Rattle.trace_send.proofs.Steps.{rest_of}
use Rattle.actor_table.specs.Slots.{actors_of, away_of}
use Rattle.orca_parts.specs.Fits.{without_all}
use Rattle.orca_parts.proofs.Giving.{fits_without, seats_emptied, none_emptied}
use Rattle.orca_parts.proofs.reaps.clear_all.Goals as goal
use Rattle.actor_table.specs.Telling.{TableTells}
use Rattle.letter_kinds.proofs.Telling.{tells_then}

pub loop-member-preserved : goal.loop-member-preserved
loop-member-preserved c =
    let members = c.args.members.now in
    let i = c.loop-member.member-index in
    let m = c.member-item.result in
    let rest = rest_of members i m c.loop-member-test.true c.member-item.is in
    let slots = c.loop-member.table.slots in
    record {
      actors = ap (empty_seats (drop (i + 1) members)) c.clear.ensures.actors
          ∙ sym (seats_emptied m (drop (i + 1) members) (actors_of slots))
          ∙ sym (ap (λ ms. empty_seats ms (actors_of slots)) rest) ∙ c.loop-member.invariant.actors;
      away = ap (without_all (drop (i + 1) members)) c.clear.ensures.away
          ∙ sym (ap (λ ms. without_all ms (away_of slots)) rest) ∙ c.loop-member.invariant.away;
      told = tells_then (TableTells c.args.table.now.slots) (TableTells slots) (TableTells c.clear.new.self.slots) [] c.loop-member.invariant.told c.clear.ensures.told;
      lie = λ lies. c.clear.ensures.lie (c.loop-member.invariant.lie lies);
      room = λ names fits.
          fits_without names slots c.clear.new.self.slots m (c.loop-member.invariant.room names fits) c.clear.ensures.actors c.clear.ensures.room;
    }

pub returns-clause-actors : goal.returns-clause-actors
returns-clause-actors c =
    let slots = c.loop-member.table.slots in
    sym (none_emptied (actors_of slots))
    ∙ sym (ap (λ ms. empty_seats ms (actors_of slots)) (drop_all c.loop-member.member-index c.args.members.now c.loop-member-test.false))
    ∙ c.loop-member.invariant.actors
