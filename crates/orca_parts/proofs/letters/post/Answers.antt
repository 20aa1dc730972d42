use Rattle.std.proofs.Common.{subst, sym}
use Rattle.letter_kinds.specs.Letters.{as_letter}
use Rattle.machine_rules.specs.Actors.{push_letter}
use Rattle.actor_table.specs.Slots.{actors_of}
use Rattle.orca_parts.specs.Woken.{IsLowestWoken}
use Rattle.orca_parts.proofs.Waking.{push_wakes}
use Rattle.orca_parts.proofs.letters.post.Goals as goal

pub returns-clause-posts : goal.returns-clause-posts
returns-clause-posts c =
    let actors = actors_of c.args.table.now.slots in
    let letter = as_letter c.args.letter in
    record {
      actors = c.push_letter.ensures.actors;
      away = c.push_letter.ensures.away;
      told = c.push_letter.ensures.told;
      lie = c.push_letter.ensures.lie;
      woken = subst (λ xs. IsLowestWoken actors xs c.present-woken.result) (sym c.push_letter.ensures.actors)
          (subst (IsLowestWoken actors (push_letter c.args.to letter actors)) (sym c.present-woken.ensures)
          (push_wakes c.args.to letter actors));
    }
