use Rattle.std.proofs.Common.{sym, ap, ◌∙◌}
use Rattle.std.proofs.Common.{slice_get}
use Rattle.turn_log.proofs.UserWords.{read_user_word}
use Rattle.turn_log.proofs.last.LastWords.get.Goals as goal

pub returns : goal.returns
returns g c =
    ap (λ ws. slice_get ws c.args.at) (sym c.self.view_is) ∙ read_user_word _ c.args.at c.word.result c.word.ensures
