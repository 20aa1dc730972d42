use Rattle.std.proofs.Common.{◌≡◌, zero, [], ◌∷◌, ap, ◌∙◌, arith}
use Rattle.std.specs.FinMap as m
use Rattle.row_store.specs.Vectors.{known_in}
use Rattle.row_store.proofs.Vectors.{known_in-set, place_below}
use Rattle.row_store.proofs.no_blocks.NoBlocksRowWords.put_word.Goals as goal

pub returns-clause-known : goal.returns-clause-known
returns-clause-known c =
    let word = c.args.self.now.word in
    let l = place_below (word ∷ []) c.args.at c.requires in
    let first : zero ≡ c.args.at = omega arith in
    known_in-set (word ∷ []) 0 c.args.w (omega arith) ∙ ap (λ at. m.insert (known_in 0 (word ∷ [])) at c.args.w) first
