use Rattle.std.proofs.Common.{◌≡◌, ◌⊎◌, true, length, inl, inr, sym, ◌∙◌}
use Rattle.actor_cell.specs.Moves.{act_in}
use Rattle.orca_parts.specs.Blocks.{is_mint}
use Rattle.orca_parts.proofs.Placed.{places_none}
use Rattle.orca_parts.proofs.placing.place_made.Goals as goal
use Rattle.orca_parts.proofs.placing.place_made.Goals.{then-len-eq0-via-then-len-eq0, then-len-eq0-via-else-len-eq0+then-mints}

pub returns-then-len-eq0-clause-places : goal.returns-then-len-eq0-clause-places
returns-then-len-eq0-clause-places g c =
    let old = c.args.m.now.parts in
    let why : (length old.blocks ≡ 0) ⊎ (is_mint (act_in old.turned) ≡ true) = elim c.then-len-eq0.branch [
      | then-len-eq0-via-then-len-eq0 w ↦ inl (sym c.len.ensures ∙ w.if-len-eq0.true)
      | then-len-eq0-via-else-len-eq0+then-mints w ↦ inr (sym w.if-mints.ensures)
    ] in
    places_none c.args.a old c.clear.new.self _ why c.clear.ensures.items
