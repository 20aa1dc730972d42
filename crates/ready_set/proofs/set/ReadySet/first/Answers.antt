use Rattle.std.proofs.Common.{[], ◌∷◌, sym, ap, subst, ◌∙◌, arith}
use Rattle.std.specs.List.{position}
use Rattle.ready_set.specs.Levels.{Summarizes}
use Rattle.ready_set.proofs.Summaries.{bit-zero}
use Rattle.ready_set.proofs.Least.{is_within, least_down_read, least_of_one, none_below, position-places, position-places_none, read_positive}
use Rattle.ready_set.proofs.set.ReadySet.first.Goals as goal

pub returns-then-self-eq0 : goal.returns-then-self-eq0
returns-then-self-eq0 c =
    let s = c.self.inside in
    let told : Summarizes (0 ∷ []) s.summary.items = subst (λ t. Summarizes (t ∷ []) s.summary.items) c.if-self-eq0.true c.self.invariant.summary_told in
    sym (ap (λ ons. position (λ on. on) ons) (sym c.self.view_is)
    ∙ position-places_none s.words.items (none_below s.summary.items s.words.items c.self.invariant.words_told (none_below (0 ∷ []) s.summary.items told bit-zero)))

pub index-requires : goal.index-requires
index-requires c =
    let s = c.self.inside in
    let least = least_of_one s.top _ c.lowest_bit-c.ensures in
    omega (arith, is_within _ s.summary.items _ c.self.invariant.summary_told least, s.summary.ok.0)

pub index-requires-2 : goal.index-requires-2
index-requires-2 c =
    let s = c.self.inside in
    let least = least_of_one s.top _ c.lowest_bit-c.ensures in
    let least2 = least_down_read _ s.summary.items _ _ _ c.self.invariant.summary_told least c.index.ensures c.lowest_bit.ensures in
    omega (arith, is_within _ s.words.items _ c.self.invariant.words_told least2, s.words.ok.0)

pub lowest_bit-requires-2 : goal.lowest_bit-requires-2
lowest_bit-requires-2 c =
    let s = c.self.inside in
    let least = least_of_one s.top _ c.lowest_bit-c.ensures in
    let least2 = least_down_read _ s.summary.items _ _ _ c.self.invariant.summary_told least c.index.ensures c.lowest_bit.ensures in
    read_positive _ s.words.items _ _ c.self.invariant.words_told least2 c.index-2.ensures

pub returns : goal.returns
returns c =
    let s = c.self.inside in
    let least = least_of_one s.top _ c.lowest_bit-c.ensures in
    let least2 = least_down_read _ s.summary.items _ _ _ c.self.invariant.summary_told least c.index.ensures c.lowest_bit.ensures in
    let least3 = least_down_read _ s.words.items _ _ _ c.self.invariant.words_told least2 c.index-2.ensures c.lowest_bit-2.ensures in
    let within = is_within _ s.words.items _ c.self.invariant.words_told least2 in
    sym (ap (λ ons. position (λ on. on) ons) (sym c.self.view_is) ∙ position-places s.words.items _ (omega (arith, within, c.lowest_bit-2.ensures.within)) least3)
