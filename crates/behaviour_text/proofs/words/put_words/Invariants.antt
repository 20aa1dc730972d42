use Rattle.std.proofs.Common.{◌≡◌, map, filter}
use Rattle.behaviour_text.specs.Words.{is_word}
use Rattle.behaviour_text.proofs.words.put_words.Given as goal

abbrev pub invariant-loop-piece : goal.invariant-loop-piece
invariant-loop-piece l = map (λ w. w.now) l.words.items ≡ filter is_word (map (λ w. w.now) l.yielded)
