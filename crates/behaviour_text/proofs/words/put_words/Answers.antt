use Rattle.std.proofs.Common.{◌∙◌, ap, filter}
use Rattle.std.proofs.lemmas.Iterator.Consumers.{YieldsList-at, YieldsList-end}
use Rattle.std.proofs.lemmas.Iterator.Splits.{YieldsList-from_slice_split}
use Rattle.text_lines.specs.Lines.{is_space}
use borrow.Author.Rules.{rules}
use Rattle.behaviour_text.specs.Words.{is_word}
use Rattle.behaviour_text.proofs.words.put_words.Goals as goal

pub returns : goal.returns
returns c =
    c.loop-piece.invariant
    ∙ ap (filter is_word) (YieldsList-end (YieldsList-at c.into_iter-piece-iterator.ensures.into_iter_gives
    (YieldsList-from_slice_split _ is_space c.args.line.now c.split-piece-items.ensures.rest c.split-piece-items.ensures.done c.split-piece-items.ensures.closure (λ x b q k. search rules)))
    c.loop-piece.yielded _ c.loop-piece.yielded_by _ _ c.in-None.is c.next.ensures.steps).0
