use Rattle.std.proofs.Common.{◌≡◌, ◌==◌, ◌&&◌, List, rules, subst}
use Rattle.std.specs.Prelude.{not}
use Rattle.std.proofs.lemmas.Fn.{filter_same}
use Rattle.hall_rules.specs.Claims.{without}
use Rattle.hall_rules.specs.declared.claim.Claim.{Claim}
use Rattle.book_hall.proofs.claims.Claims.end.Goals as goal

pub returns : goal.returns
returns c =
    let stays = λ (claim : Claim). not (claim.actor == c.args.a && claim.pass == c.args.pass) in
    subst (λ (claims : List Claim). c.retain.new.self.items ≡ without c.args.pass c.args.a claims) c.self.view_is
    (filter_same _ stays _ (λ x b f' k. search rules) _ _ c.retain.ensures.filtered)
