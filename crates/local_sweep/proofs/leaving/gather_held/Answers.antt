use Rattle.std.proofs.Common.{◌≡◌, ℕ, ◌<◌, Bool, not, Option, None, length, map, take, get_or, sym, ap, ◌∙◌, arith}
use Rattle.std.specs.List.{filter}
use Rattle.std.specs.FinMap as m
use Rattle.std.proofs.Math.Seq.{take-length}
use Rattle.std.proofs.lemmas.Option.{slice_get-get_or}
use Rattle.orca_names.specs.Names.{owner_of}
use Rattle.orca_names.specs.declared.names.Thing.{Thing}
use Rattle.orca_names.specs.declared.names.Thing.TheVariants.{Actor}
use Rattle.letter_kinds.specs.Counting.{Amount, by_owner, given_back}
use Rattle.letter_kinds.specs.Detector.{has}
use Rattle.letter_kinds.specs.Holdings.{Row}
use Rattle.local_sweep.proofs.Gathered.{gathered}
use Rattle.local_sweep.proofs.leaving.gather_held.Goals as goal

pub loop-j-init : goal.loop-j-init
unfolding by_owner
loop-j-init c = c.new-back.ensures.items

pub loop-j-preserved : goal.loop-j-preserved
loop-j-preserved c =
    let entries = m.entries c.args.foreign.now.entries in
    let off : Thing × (ℕ × Option Row) → Bool = λ e. not (has c.args.gone.now (owner_of e.0)) in
    let amount : Thing × (ℕ × Option Row) → Amount = λ e. (e.0, e.1.0) in
    let e = get_or entries c.loop-j.j (Actor 0, (0, None)) in
    let inside : c.loop-j.j < length entries = omega (arith, c.loop-j-test.true, c.len-j-end.ensures, m.len-entries c.args.foreign.now.entries) in
    let is = slice_get-get_or entries c.loop-j.j (Actor 0, (0, None)) inside in
    c.in_ok-note_held.ensures e (map amount (filter off (take c.loop-j.j entries))) is c.loop-j.invariant ∙ ap by_owner (sym (gathered amount off entries c.loop-j.j e is))

pub returns : goal.returns
unfolding given_back
returns c = λ _ _.
    let entries = m.entries c.args.foreign.now.entries in
    let amount : Thing × (ℕ × Option Row) → Amount = λ e. (e.0, e.1.0) in
    let all : c.loop-j.j ≡ length entries = omega (arith, c.loop-j-test.false, c.loop-j.auto.j-end, c.len-j-end.ensures, m.len-entries c.args.foreign.now.entries) in
    c.loop-j.invariant
    ∙ ap (λ es. by_owner (map (λ e. (e.0, e.1.0)) (filter (λ e. not (has c.args.gone.now (owner_of e.0))) es)))
    (ap (λ n. take n entries) all ∙ take-length entries)
