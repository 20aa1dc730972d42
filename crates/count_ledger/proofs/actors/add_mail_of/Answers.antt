use Rattle.std.proofs.Common.{[], map, sym, ap, ◌∙◌}
use Rattle.machine_rules.specs.Actors.{seat_at}
use Rattle.count_ledger.specs.Lines.{with_mail}
use Rattle.count_ledger.proofs.Adding.{map_itself}
use Rattle.count_ledger.proofs.Mailed.{no_mail}
use Rattle.count_ledger.proofs.Seated.{no_letters}
use Rattle.count_ledger.proofs.actors.add_mail_of.Goals as goal

pub returns-in_default : goal.returns-in_default
returns-in_default c =
    let a = c.args.a in
    let sums = c.args.sums.now in
    sym (map_itself (with_mail a []) (no_mail a) sums)
    ∙ ap (λ ls. map (with_mail a ls) sums)
    (sym (no_letters (seat_at c.args.orca.now.state.actors a) (sym c.in_default.ensures.letters)))
