use Rattle.std.proofs.Common.{◌≡◌, length, Some, [], ◌∷◌, refl, subst, sym, ap, ◌∙◌}
use Rattle.std.proofs.lemmas.List.{length-map, map-append}
use Rattle.actor_table.specs.declared.slot.Place.TheVariants.{Home}
use Rattle.actor_table.specs.declared.slot.Slot.{Slot}
use Rattle.actor_table.specs.Slots.{actors_of, away_of, seat_of}
use Rattle.orca_parts.specs.Away.{KeepsAway}
use Rattle.orca_parts.specs.Woken.{IsLowestWoken}
use Rattle.orca_parts.proofs.Homes.{pushed_keeps}
use Rattle.orca_parts.proofs.Waking.{made_wakes}
use Rattle.orca_parts.proofs.goes.make.Goals as goal
use Rattle.letter_kinds.specs.Telling.{TellsOnly}
use Rattle.actor_table.specs.Telling.{TableTells}
use Rattle.actor_table.proofs.Bringing.{as_brought}
use Rattle.actor_table.proofs.Telling.{fresh_untold, place_added}

pub push_actor-requires-clause-brings : goal.push_actor-requires-clause-brings
push_actor-requires-clause-brings c = as_brought c.new.result [] [] c.new.ensures.0 c.new.ensures.1 tt

pub returns-clause-away : goal.returns-clause-away
returns-clause-away c =
    let slots = c.args.table.now.slots in
    subst (λ xs. KeepsAway (away_of slots) (away_of xs)) (sym c.push_actor.ensures.slots)
    (pushed_keeps slots (record { place = Home c.fresh-cell.result; mail = c.new.result }) refl)

pub returns-clause-woken : goal.returns-clause-woken
returns-clause-woken c =
    let old = c.args.table.now.slots in
    let new = actors_of c.push_actor.new.self.slots in
    let x : Slot = record { place = Home c.fresh-cell.result; mail = c.new.result } in
    let is = ap actors_of c.push_actor.ensures.slots ∙ map-append seat_of old (x ∷ []) in
    let long : length (actors_of old) ≡ c.next_name-name.result = length-map old seat_of ∙ sym c.next_name-name.ensures in
    subst (λ n. IsLowestWoken (actors_of old) new (Some n)) long (made_wakes (seat_of x) (actors_of old) new c.new.ensures.0 is)

pub returns-clause-told : goal.returns-clause-told
returns-clause-told c =
    let slots = c.args.table.now.slots in
    subst (λ xs. TellsOnly (TableTells slots) [] (TableTells xs)) (sym c.push_actor.ensures.slots)
    (place_added slots (record { place = Home c.fresh-cell.result; mail = c.new.result }) (fresh_untold c.fresh-cell.result c.new.result c.fresh-cell.ensures.told c.new.ensures.1))
