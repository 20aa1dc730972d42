use Rattle.std.proofs.Common.{◌≡◌, ℕ, ◌+◌, ◌-◌, ◌≤◌, Option, Some, slice_get, refl, sym, ap, subst, ◌∙◌, arith}
use Rattle.std.specs.Prelude.{option_map}
use Rattle.std.specs.FinMap as m
use Rattle.std.proofs.lemmas.Option.{slice_get-map}
use Rattle.orca_names.specs.declared.names.Thing.TheVariants.{Actor, Obj}
use Rattle.row_store.specs.Lent.{IsLent}
use Rattle.letter_kinds.specs.Holdings.{Row}
use Rattle.known_rows.specs.Places.{place_in}
use Rattle.known_rows.proofs.Placed.{blocked_own, count_is, keys_count, lies_above, lies_below, place_above, place_below, place_of_owner, place_own, rowed_own}
use Rattle.known_rows.proofs.places.KnownPlaces.entry_there.Goals as goal

pub held_entry-requires : goal.held_entry-requires
held_entry-requires c =
    let s = c.args.self.now in
    omega (arith, s.span.first_within, s.span.end_within, keys_count s.rows.foreign.now)

pub returns-then-at-self-clause-thing : goal.returns-then-at-self-clause-thing
returns-then-at-self-clause-thing c =
    let s = c.args.self.now in
    place_below s.rows.heap.now s.rows.foreign.now s.first s.end s.span c.args.at c.held_entry.result.0 c.held_entry.ensures.thing c.if-at-self.true

pub returns-then-at-self-clause-row : goal.returns-then-at-self-clause-row
returns-then-at-self-clause-row c =
    let s = c.args.self.now in
    subst (λ lies. IsLent lies.row lies.block c.held_entry.result.1)
    (lies_below s.rows.heap.now s.rows.foreign.now s.first s.end s.span c.args.at c.held_entry.result.0 c.held_entry.ensures.thing c.if-at-self.true)
    c.held_entry.ensures.row

pub returns-then-at-self-2-clause-thing : goal.returns-then-at-self-2-clause-thing
returns-then-at-self-2-clause-thing c =
    let s = c.args.self.now in
    ap (λ a. place_in s.rows.heap.now s.rows.foreign.now (Actor a)) c.owner.ensures ∙ place_of_owner s.rows.heap.now s.rows.foreign.now s.first s.end s.span ∙ ap Some (sym c.if-at-self-2.true)

pub returns-then-at-self-2-clause-row : goal.returns-then-at-self-2-clause-row
returns-then-at-self-2-clause-row c = (refl, refl)

pub returns-then-at-self-3-clause-thing : goal.returns-then-at-self-3-clause-thing
returns-then-at-self-3-clause-thing c =
    let s = c.args.self.now in
    let i = c.args.at - s.first - 1 in
    let key : slice_get (m.keys s.rows.heap.now.rows) (c.args.at - s.first - 1) ≡ Some c.at-n.result.0.serial =
    slice_get-map (λ e. e.0) (m.entries s.rows.heap.now.rows) i ∙ ap (option_map (λ e. e.0)) c.at-n.ensures.entry.1 in
    let back : s.first + 1 + (c.args.at - s.first - 1) ≡ c.args.at = omega arith in
    ap (place_in s.rows.heap.now s.rows.foreign.now) (λ j. Obj (record { owner = c.at-n.ensures.owner j; serial = c.at-n.result.0.serial }))
    ∙ place_own s.rows.heap.now s.rows.foreign.now s.first s.end s.span i c.at-n.result.0.serial key ∙ ap Some back

pub returns-then-at-self-3-clause-row : goal.returns-then-at-self-3-clause-row
returns-then-at-self-3-clause-row c =
    let s = c.args.self.now in
    let its = c.at-n.ensures.entry in
    let row = rowed_own s.rows.heap.now s.rows.foreign.now c.at-n.result.0 (c.args.at - s.first - 1) its.0 c.at-n.result.2 c.at-n.ensures.owner its.1 in
    let block = blocked_own s.rows.heap.now s.rows.foreign.now c.at-n.result.0 c.at-n.ensures.owner in
    subst (λ (l : Option Row × Option ℕ). IsLent l.0 l.1 c.at-n.result.1) (λ j. (row j, block j)) its.2

pub overflow_add-at : goal.overflow_add-at
overflow_add-at c =
    let s = c.args.self.now in
    let total = count_is s.rows.heap.now s.rows.foreign.now s.first s.end s.span in
    omega (arith, s.start, s.size, s.fits.1, c.requires, s.span.end_within, keys_count s.rows.foreign.now)

pub held_entry-requires-2 : goal.held_entry-requires-2
held_entry-requires-2 c =
    let s = c.args.self.now in
    let total = count_is s.rows.heap.now s.rows.foreign.now s.first s.end s.span in
    omega (arith, s.start, s.size, c.requires, s.span.end_within, keys_count s.rows.foreign.now)

pub returns-clause-thing : goal.returns-clause-thing
returns-clause-thing c =
    let s = c.args.self.now in
    let j = c.args.at - s.above + s.end in
    let behind : s.end ≤ j = omega arith in
    let back : s.first + 1 + m.len s.rows.heap.now.rows + (c.args.at - s.above + s.end - s.end) ≡ c.args.at = omega (arith, s.start) in
    place_above s.rows.heap.now s.rows.foreign.now s.first s.end s.span j c.held_entry-2.result.0 c.held_entry-2.ensures.thing behind ∙ ap Some back

pub returns-clause-row : goal.returns-clause-row
returns-clause-row c =
    let s = c.args.self.now in
    let j = c.args.at - s.above + s.end in
    let behind : s.end ≤ j = omega arith in
    subst (λ lies. IsLent lies.row lies.block c.held_entry-2.result.1)
    (lies_above s.rows.heap.now s.rows.foreign.now s.first s.end s.span j c.held_entry-2.result.0 c.held_entry-2.ensures.thing behind)
    c.held_entry-2.ensures.row
