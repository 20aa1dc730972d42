use Rattle.std.proofs.Common.{◌+◌, ◌/◌, ◌*◌, ◌<◌, Some, None, arith, length, sym, ap, subst}
use Rattle.ready_set.specs.Levels.{places}
use Rattle.ready_set.specs.Next.{AreOff, IsNext}
use Rattle.ready_set.proofs.Words.{length-places}
use Rattle.ready_set.proofs.NextWords.{next-below, next-below_none, positive, positive-within}
use Rattle.ready_set.proofs.set.ReadySet.next.Goals as goal

pub next_in_word-requires : goal.next_in_word-requires
next_in_word-requires c =
    omega (arith, length-places c.self.inside.words.items, ap length c.self.view_is, ap length c.deref.ensures.value)

pub returns-in-None : goal.returns-in-None
returns-in-None c =
    let s = c.self.inside in
    let m = c.args.from / 64 + 1 in
    let before : AreOff (places s.words.items) c.args.from (64 * m) = subst (λ ws. AreOff (places ws) c.args.from (64 * m)) c.deref.ensures.value c.in_default.ensures.none in
    let next : IsNext (places s.summary.items) m None = subst (λ ws. IsNext (places ws) m None) c.deref-2.ensures.value c.in-None.ensures in
    subst (λ ons. IsNext ons c.args.from None) c.self.view_is
    (next-below_none s.summary.items s.words.items c.args.from m c.self.invariant.words_told c.self.invariant.words_within before next)

pub first_in_word-requires-clause-small : goal.first_in_word-requires-clause-small
first_in_word-requires-clause-small c =
    let s = c.self.inside in
    let next : IsNext (places s.summary.items) (c.args.from / 64 + 1) (Some c.in-Some-next_word.word) =
    subst (λ ws. IsNext (places ws) (c.args.from / 64 + 1) (Some c.in-Some-next_word.word)) c.deref-2.ensures.value c.in-Some-next_word.ensures in
    let within = positive-within s.words.items c.in-Some-next_word.word (positive s.summary.items s.words.items (c.args.from / 64 + 1) c.in-Some-next_word.word c.self.invariant.words_told next) in
    omega (arith, c.self.invariant.words_within, c.self.invariant.summary_within)

pub first_in_word-requires-clause-within : goal.first_in_word-requires-clause-within
first_in_word-requires-clause-within c =
    let s = c.self.inside in
    let next : IsNext (places s.summary.items) (c.args.from / 64 + 1) (Some c.in-Some-next_word.word) =
    subst (λ ws. IsNext (places ws) (c.args.from / 64 + 1) (Some c.in-Some-next_word.word)) c.deref-2.ensures.value c.in-Some-next_word.ensures in
    subst (λ ws. c.in-Some-next_word.word < length ws) (sym c.deref-in-Some-next_word.ensures.value)
    (positive-within s.words.items c.in-Some-next_word.word (positive s.summary.items s.words.items (c.args.from / 64 + 1) c.in-Some-next_word.word c.self.invariant.words_told next))

pub first_in_word-requires-clause-some : goal.first_in_word-requires-clause-some
first_in_word-requires-clause-some c =
    let s = c.self.inside in
    let next : IsNext (places s.summary.items) (c.args.from / 64 + 1) (Some c.in-Some-next_word.word) =
    subst (λ ws. IsNext (places ws) (c.args.from / 64 + 1) (Some c.in-Some-next_word.word)) c.deref-2.ensures.value c.in-Some-next_word.ensures in
    rw c.deref-in-Some-next_word.ensures.value (positive s.summary.items s.words.items (c.args.from / 64 + 1) c.in-Some-next_word.word c.self.invariant.words_told next)

pub returns-in-Some-next_word : goal.returns-in-Some-next_word
returns-in-Some-next_word c =
    let s = c.self.inside in
    let m = c.args.from / 64 + 1 in
    let before : AreOff (places s.words.items) c.args.from (64 * m) = subst (λ ws. AreOff (places ws) c.args.from (64 * m)) c.deref.ensures.value c.in_default.ensures.none in
    let next : IsNext (places s.summary.items) m (Some c.in-Some-next_word.word) = subst (λ ws. IsNext (places ws) m (Some c.in-Some-next_word.word)) c.deref-2.ensures.value c.in-Some-next_word.ensures in
    let here : IsNext (places s.words.items) (64 * c.in-Some-next_word.word) (Some c.first_in_word.result) =
    subst (λ ws. IsNext (places ws) (64 * c.in-Some-next_word.word) (Some c.first_in_word.result)) c.deref-in-Some-next_word.ensures.value c.first_in_word.ensures in
    subst (λ ons. IsNext ons c.args.from (Some c.first_in_word.result)) c.self.view_is
    (next-below s.summary.items s.words.items c.args.from m c.in-Some-next_word.word c.first_in_word.result c.self.invariant.words_told (omega arith) before next here)
