use Rattle.std.proofs.Common.{ℕ, List, rules, ◌≡◌, sym, ap, ◌∙◌, subst, Some, IsSome, refl, get_or}
use mathlib.Core.Option.{some-injective}
use Rattle.turn_log.specs.Ends.{IsClosed}
use Rattle.std.specs.Slots.{slots_items}
use Rattle.turn_log.specs.Queue.{user_words}
use Rattle.turn_log.specs.Seats.{knows}
use Rattle.turn_log.proofs.Closings.{closes, index_at, stays_open}
use Rattle.turn_log.proofs.table.TurnLog.close.Goals as goal

pub unwrap-requires : goal.unwrap-requires
unwrap-requires g c =
    let rule = g.P.LogRule in
    let end = c.close_with-closed.ensures.values.2 in
    let same : c.word-ticket.result ≡ c.word-serving.result = search rules in
    let at_end = closes rule.holds rule.live rule.calm end.0 c.args.seat.id c.args.seat.me.0 _ _ c.requires.few end.1.0 end.1.1 end.2 end.4
    (index_at _ 1 _ c.word-ticket.ensures ∙ (same ∙ sym (index_at _ 2 _ c.word-serving.ensures))) in
    subst IsSome (some-injective _ _ (sym at_end.1 ∙ c.take-value.ensures.value)) refl

pub returns-clause-closed : goal.returns-clause-closed
returns-clause-closed g c =
    let rule = g.P.LogRule in
    let end = c.close_with-closed.ensures.values.2 in
    let same : c.word-ticket.result ≡ c.word-serving.result = search rules in
    let at_end = closes rule.holds rule.live rule.calm end.0 c.args.seat.id c.args.seat.me.0 _ _ c.requires.few end.1.0 end.1.1 end.2 end.4
    (index_at _ 1 _ c.word-ticket.ensures ∙ (same ∙ sym (index_at _ 2 _ c.word-serving.ensures))) in
    let is : Some at_end.0 ≡ c.take-value.result = some-injective _ _ (sym at_end.1 ∙ c.take-value.ensures.value) in
    let value : at_end.0 ≡ c.unwrap.result = search rules in
    let words = c.of.ensures ∙ ap (λ (ws : _). user_words (slots_items ws)) c.take-value.ensures.others.3 in
    subst (λ (z : g.row.T.Denot × List ℕ). IsClosed rule.holds rule.live rule.calm (knows c.args.seat) z.0 z.1) (λ i. (value i, sym words i)) at_end.2

pub returns-then-ticket-serving-clause-still : goal.returns-then-ticket-serving-clause-still
returns-then-ticket-serving-clause-still g c =
    let rule = g.P.LogRule in
    let end = c.close_with-closed.ensures.values.2 in
    let differ : ¬ (c.word-ticket.result ≡ c.word-serving.result) = search rules in (
      differ,
      stays_open rule.holds rule.live rule.calm end.0 c.args.seat.id c.args.seat.me.0 _ _ end.1.0 end.1.1
          (ap (λ l. get_or l 1 0) end.2 ∙ index_at _ 1 _ c.word-ticket.ensures)
          (ap (λ l. get_or l 2 0) end.2 ∙ index_at _ 2 _ c.word-serving.ensures) differ,
    )
