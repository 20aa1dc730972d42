use Rattle.std.proofs.Common.{◌≡◌, zero, [], ◌∷◌, ap, ◌∙◌, arith}
use Rattle.std.specs.FinMap as m
use Rattle.row_store.specs.Vectors.{known_in}
use Rattle.row_store.proofs.Vectors.{get_all, known_within}
use Rattle.row_store.proofs.no_blocks.NoBlocksRowWords.get_word.Goals as goal

pub returns-clause-word : goal.returns-clause-word
returns-clause-word c =
    let word = c.args.self.now.word in
    let l = known_within (word ∷ []) c.args.at c.requires in
    let first : c.args.at ≡ zero = omega arith in
    ap (m.get (known_in 0 (word ∷ []))) first ∙ get_all (word ∷ []) 0
