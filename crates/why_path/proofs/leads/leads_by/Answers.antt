use Rattle.std.proofs.Common.{◌≡◌, Some, sym, ap, ◌∙◌}
use Rattle.std.specs.Ordering.{is_eq}
use Rattle.orca_names.proofs.ThingOrder.{is_eq_true, is_same}
use Rattle.why_path.proofs.Ending.{end_leads, leads_end}
use Rattle.why_path.proofs.leads.leads_by.Goals as goal

pub returns-in-Some : goal.returns-in-Some
returns-in-Some c =
    let actors = c.args.orca.now.state.actors in
    let t = c.args.from.now in
    let e = c.args.edge.now in
    let x = c.args.to.now in
    let y = c.in-Some.end in
    let is = sym c.end_of.ensures ∙ c.in-Some.is in
    let tests = c.is_eq.ensures ∙ ap is_eq c.cmp.ensures in (
      λ h. end_leads actors t e x (is ∙ ap Some (is_same y x (sym tests ∙ h))),
      λ leads. let both = sym is ∙ leads_end actors t e x leads in
          let same : y ≡ x = cc in
          tests ∙ is_eq_true y x same,
    )

pub returns-in-None : goal.returns-in-None
returns-in-None c =
    let is = sym c.end_of.ensures ∙ c.in-None.is in (
      λ h. cc,
      λ leads. let both = sym is ∙ leads_end c.args.orca.now.state.actors c.args.from.now c.args.edge.now c.args.to.now leads in cc,
    )
