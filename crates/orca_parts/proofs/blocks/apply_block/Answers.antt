use Rattle.std.proofs.Common.{ap, arith, refl, true}
use Rattle.std.proofs.lemmas.Grind.{common_steps}
use Rattle.machine_rules.specs.Cell.{Cell}
use Rattle.actor_table.specs.Slots.{actors_of}
use Rattle.orca_parts.specs.Away.{is_out}
use Rattle.orca_parts.proofs.Waking.{none_woken_by}
use Rattle.orca_parts.proofs.blocks.apply_block.Goals as goal

pub returns : goal.returns
returns c = record {
  state = grind (arith, common_steps);
  alike = record { code = refl; options = refl };
  away = λ b. ap (λ bs. is_out bs b) c.change.ensures.rest.away;
  told = c.change.ensures.told c.requires.acts.cell c.requires.acts.home;
  lie = λ some. c.change.ensures.lie tt;
  blocks = refl;
  woken = none_woken_by (λ (x : Cell). record x { reported = true }) c.args.a (actors_of c.args.m.now.parts.table.slots)
      (actors_of c.change.new.self.slots) c.change.ensures.actors;
  stands = λ well on. cc;
}
