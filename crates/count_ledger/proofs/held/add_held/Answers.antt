use Rattle.std.proofs.Common.{◌≡◌, ◌+◌, ℕ, [], Option, length, map, take, sym, ap, ◌∙◌, arith, refl}
use Rattle.std.specs.FinMap as m
use Rattle.std.proofs.Math.Seq.{take-length}
use Rattle.std.proofs.lemmas.Option.{get_or_from_slice_get, slice_get_within}
use Rattle.orca_names.specs.Names.{thing_cmp}
use Rattle.orca_names.specs.declared.names.Thing.{Thing}
use Rattle.letter_kinds.specs.Holdings.{Row, entry_count}
use Rattle.foreign_table.specs.Table.{count_on}
use Rattle.count_ledger.specs.Lines.{only, raised, raised_by}
use Rattle.count_ledger.specs.declared.lines.Column.TheVariants.{Held}
use Rattle.count_ledger.proofs.Adding.{map_same, none_added, still_rise, still_room, then_added}
use Rattle.count_ledger.proofs.Said.{held_by, said_found, said_more, said_more_le}
use Rattle.count_ledger.proofs.held.add_held.Goals as goal

pub loop-i-init : goal.loop-i-init
loop-i-init c = sym (none_added Held c.args.sums.now (held_by []) (λ x. refl))

pub add-requires-clause-rising : goal.add-requires-clause-rising
add-requires-clause-rising c =
    let entries = m.entries c.args.foreign.now.entries in
    still_rise Held c.args.sums.now c.loop-i.sums (held_by (take c.loop-i.i entries))
    c.loop-i.invariant c.requires.rising

-- the entries say of a thing what is held on it
all_said : (entries : m.FinMap thing_cmp (ℕ × Option Row)) (x : Thing)
    → held_by (m.entries entries) x ≡ entry_count (m.get entries x)
all_said entries x = said_found x (m.entries entries) (m.entries_sorted entries)
    ∙ ap entry_count (sym (m.get-entries entries x))

abbrev thing_of : Thing × (ℕ × Option Row) → Thing
thing_of e = e.0

abbrev count_of : Thing × (ℕ × Option Row) → ℕ
count_of e = e.1.0

pub add-requires-clause-room : goal.add-requires-clause-room
add-requires-clause-room c =
    let entries = m.entries c.args.foreign.now.entries in
    let i = c.loop-i.i in
    let e : Thing × (ℕ × Option Row) =
    (c.at-thing.result.0, (c.at-thing.result.1, c.at-thing.ensures.entry.0)) in
    let is = sym (get_or_from_slice_get entries i e e c.at-thing.ensures.entry.1) in
    let inside = slice_get_within entries i e c.at-thing.ensures.entry.1 in
    still_room Held c.args.sums.now c.loop-i.sums (held_by (take i entries)) c.loop-i.invariant
    (only e.0 e.1.0)
    (count_on c.args.foreign.now)
    (λ x. omega (
      arith,
      said_more_le thing_of count_of entries i e inside is x,
      all_said
          c.args.foreign.now.entries x,
    ))
    c.requires.room

pub loop-i-preserved : goal.loop-i-preserved
loop-i-preserved c =
    let entries = m.entries c.args.foreign.now.entries in
    let i = c.loop-i.i in
    let e : Thing × (ℕ × Option Row) =
    (c.at-thing.result.0, (c.at-thing.result.1, c.at-thing.ensures.entry.0)) in
    let is = sym (get_or_from_slice_get entries i e e c.at-thing.ensures.entry.1) in
    let inside = slice_get_within entries i e c.at-thing.ensures.entry.1 in
    then_added Held c.args.sums.now c.loop-i.sums (held_by (take i entries)) c.loop-i.invariant
    (only e.0 e.1.0)
    (held_by (take (i + 1) entries)) c.add.new.sums c.add.ensures
    (said_more thing_of count_of entries i e inside is)

pub returns : goal.returns
returns c =
    let foreign = c.args.foreign.now in
    let entries = m.entries foreign.entries in
    let count = c.len-i-end.ensures.count in
    let end = c.loop-i.auto.i-end in
    let all : c.loop-i.i ≡ length entries =
    omega (arith, c.loop-i-test.false, end, count, m.len-entries foreign.entries) in
    c.loop-i.invariant
    ∙ ap (λ es. map (raised_by Held (held_by es)) c.args.sums.now)
    (ap (λ n. take n entries) all ∙ take-length entries)
    ∙ map_same (raised_by Held (held_by entries)) (raised_by Held (count_on foreign))
    (λ s. ap (λ n. raised Held n s) (all_said foreign.entries s.thing)) c.args.sums.now
