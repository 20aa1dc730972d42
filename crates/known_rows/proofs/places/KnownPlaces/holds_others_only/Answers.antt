use Rattle.std.proofs.Common.{◌≡◌, true, false, eqb, refl, sym, ◌∙◌}
use Rattle.std.proofs.lemmas.Bool.{eq-eqb, eqb-true, false≢true}
use Rattle.known_rows.proofs.Placed.{not_others_only, others_only}
use Rattle.known_rows.proofs.places.KnownPlaces.holds_others_only.Goals as goal

pub returns : goal.returns
returns c =
    let s = c.args.self.now in
    let heap = s.rows.heap.now in
    let foreign = s.rows.foreign.now in (
      λ t. others_only heap foreign s.first s.end s.span (eqb-true s.first s.end t),
      λ others. elim (eqb s.first s.end) as (λ b. eqb s.first s.end ≡ b → b ≡ true) [
        | true ↦ λ _. refl
        | false ↦ λ e. absurd (not_others_only heap foreign s.first s.end s.span (λ same. false≢true (sym e ∙ eq-eqb s.first s.end same)) others)
      ] refl,
    )
