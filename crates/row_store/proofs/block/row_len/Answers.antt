use Rattle.std.proofs.Common.{◌≡◌, ◌*◌, IsSome, arith, refl, sym, ap, ◌∙◌, subst}
use Rattle.std.specs.FinMap as m
use Rattle.row_store.specs.Words.{first_word}
use Rattle.row_store.proofs.Rows.{length_lies, length_read}
use Rattle.row_store.proofs.block.row_len.Goals as goal

pub get_word-requires : goal.get_word-requires
get_word-requires g c =
    let r = c.requires in
    let e : 17 * c.from.result ≡ first_word c.args.block = omega arith in
    subst IsSome (sym (ap (m.get (g.W.RowWords.known c.args.words.now)) e ∙ length_lies c.args.block r.0 _ r.2)) refl

pub returns-clause-len : goal.returns-clause-len
returns-clause-len g c = λ row lie.
    let e : first_word c.args.block ≡ 17 * c.from.result = omega arith in
    length_read c.args.block row _ _ lie (ap (m.get (g.W.RowWords.known c.args.words.now)) e ∙ c.get_word.ensures.word)
