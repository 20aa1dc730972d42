use Rattle.std.proofs.Common.{length, map, ap, ◌∙◌, arith}
use Rattle.std.specs.Prelude.{not}
use Rattle.std.specs.List.{filter}
use Rattle.std.proofs.lemmas.List.{length-map}
use Rattle.orca_names.specs.declared.reason.Reason.{Reason}
use Rattle.why_path.specs.Checks.{is_loose}
use Rattle.why_path.specs.Walk.{first_line}
use Rattle.why_path.proofs.Explaining.{starts}
use Rattle.why_path.proofs.reasons.explain.Goals as goal

pub finish-requires-clause-start : goal.finish-requires-clause-start
finish-requires-clause-start c =
    let actors = c.args.orca.now.state.actors in
    let things = c.in_ok-things.things.items in
    let lines = c.in_ok-reasons.ensures ∙ ap (map (first_line actors)) c.as_slice.ensures.value in
    let next = c.in_ok-next.ensures
    ∙ ap (λ rs. map (λ (r : Reason). r.thing) (filter (λ (r : Reason). not (is_loose r.why)) rs)) c.as_slice-2.ensures.value in
    starts actors things c.in_ok-things.ensures.exact c.in_ok-things.ensures.rising _ lines next

pub finish-requires-clause-most : goal.finish-requires-clause-most
finish-requires-clause-most c =
    let things = c.in_ok-things.things in
    let lines = c.in_ok-reasons.ensures ∙ ap (map (first_line c.args.orca.now.state.actors)) c.as_slice.ensures.value in
    omega (arith, c.len.ensures, things.ok, ap length lines, length-map things.items (first_line c.args.orca.now.state.actors))

pub returns : goal.returns
returns c = c.in_ok-finish.ensures
