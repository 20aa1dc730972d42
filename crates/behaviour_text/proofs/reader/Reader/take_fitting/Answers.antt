use Rattle.std.proofs.Common.{◌≡◌, ℕ, List, sym, ◌∙◌, ap, map, length, subst, true}
use denote.Ref.{Bor}
use Rattle.behaviour_text.specs.Table.{word_operands, fits_count}
use Rattle.behaviour_text.proofs.Operands.{numbers_length}
use Rattle.behaviour_text.proofs.Shapes.{fits}
use Rattle.behaviour_text.proofs.reader.Reader.take_fitting.Goals as goal

pub take_item-requires : goal.take_item-requires
take_item-requires c =
    let words = map (λ (w : Bor (List ℕ)). w.now) c.args.operands.now in
    let count : length c.args.numbers.now ≡ length words = ap length c.requires.numbers ∙ numbers_length (word_operands c.args.word) words in
    subst (λ (n : ℕ). fits_count c.args.word n ≡ true) (sym count) (fits c.args.word words c.requires.fits).0
