use Rattle.std.proofs.Common.{◌/◌, ◌<◌, length, set, ap, ◌∙◌, arith}
use Rattle.ready_set.proofs.Words.{length-places, places-set, read_one}
use Rattle.ready_set.proofs.Summaries.{AreLevels-set}
use Rattle.ready_set.proofs.set.ReadySet.change.Goals as goal

pub index-requires : goal.index-requires
index-requires c = omega (arith, length-places c.self.inside.words.items, ap length c.self.view_is, c.self.inside.words.ok.0)

pub index-requires-2 : goal.index-requires-2
index-requires-2 c = omega (arith, length-places c.self.inside.words.items, ap length c.self.view_is, c.self.invariant.words_within, c.self.inside.summary.ok.0)

pub index_mut-requires : goal.index_mut-requires
index_mut-requires c = omega (arith, length-places c.self.inside.words.items, ap length c.self.view_is, c.self.inside.words.ok.0)

pub index_mut-requires-2 : goal.index_mut-requires-2
index_mut-requires-2 c = omega (arith, length-places c.self.inside.words.items, ap length c.self.view_is, c.self.invariant.words_within, c.self.inside.summary.ok.0)

pub invariant_of-self : goal.invariant_of-self
invariant_of-self c =
    let s = c.self.inside in
    let a = c.args.a in
    let levels = c.self.invariant in
    let word_within : a / 64 < length s.words.items = omega (arith, length-places s.words.items, ap length c.self.view_is) in
    let summary_within : a / 64 / 64 < length s.summary.items = omega (arith, levels.words_within) in
    let top_within : a / 64 / 64 / 64 < 1 = omega (arith, levels.summary_within) in
    AreLevels-set s.words.items s.summary.items s.top a _ _ _ _ _ c.args.on levels
    (record { within = word_within; read = c.index.ensures; put = c.put_bit-word.ensures })
    (record { within = summary_within; read = c.index-2.ensures; put = c.put_bit-summary.ensures })
    (record { within = top_within; read = read_one s.top _; put = c.put_bit-self-inside.ensures })

pub returns : goal.returns
returns c =
    let words = c.self.inside.words.items in
    let within : c.args.a / 64 < length words = omega (arith, length-places words, ap length c.self.view_is) in
    places-set words c.args.a _ _ c.args.on (record { within = within; read = c.index.ensures; put = c.put_bit-word.ensures })
    ∙ ap (λ ons. set ons c.args.a c.args.on) c.self.view_is
