use Rattle.std.proofs.Common.{ap, ◌∙◌, count_by, not}
use Rattle.pony_run.specs.Headline.{is_actor}
use Rattle.pony_run.proofs.reporting.left.Goals as goal

pub returns : goal.returns
returns c = record {
  things = c.in_ok-things.things.items;
  exact = c.in_ok-things.ensures.exact;
  rising = c.in_ok-things.ensures.rising;
  actors_left = c.count_actors.ensures ∙ ap (count_by is_actor) c.deref.ensures.value;
  objects_left = c.count_objects.ensures ∙ ap (count_by (λ x. not (is_actor x))) c.deref-2.ensures.value;
}
