use Rattle.std.proofs.Common.{◌≡◌, sym, subst, true, List, ℕ, map}
use denote.Ref.{Bor}
use Rattle.behaviour_code.specs.Names.{is_name}
use Rattle.behaviour_text.proofs.Shapes.{name_at}
use Rattle.behaviour_text.proofs.reader.Reader.name_of.Goals as goal

pub text_of-text-requires : goal.text_of-text-requires
text_of-text-requires c =
    subst (λ (w : List ℕ). is_name w ≡ true) (sym c.word_at.ensures)
    (name_at c.args.word c.in-Some.place (map (λ (w : Bor (List ℕ)). w.now) c.args.operands.now) (sym c.in-Some.ensures) c.requires.fits)
