use Rattle.std.proofs.Common.{◌≡◌, ℕ, ◌<◌, Bool, not, Option, None, length, map, take, get_or, sym, ap, ◌∙◌, arith}
use Rattle.std.specs.List.{filter}
use Rattle.std.specs.FinMap as m
use Rattle.std.proofs.Math.Seq.{take-length}
use Rattle.std.proofs.lemmas.Option.{slice_get-get_or}
use Rattle.orca_names.specs.declared.names.Thing.{Thing}
use Rattle.orca_names.specs.declared.names.Thing.TheVariants.{Actor}
use Rattle.letter_kinds.specs.Counting.{Amount, by_owner, given_back}
use Rattle.letter_kinds.specs.Holdings.{Row}
use Rattle.local_sweep.proofs.Gathered.{gathered}
use Rattle.local_sweep.proofs.plans.gather_given.Goals as goal

pub loop-j-init : goal.loop-j-init
unfolding by_owner
loop-j-init g c = c.new-back.ensures.items

pub loop-j-preserved : goal.loop-j-preserved
loop-j-preserved g c =
    let foreign = g.K.Kept.held c.args.kept.now in
    let off : Thing × (ℕ × Option Row) → Bool = λ e. not (g.K.Kept.marked c.args.kept.now e.0) in
    let amount : Thing × (ℕ × Option Row) → Amount = λ e. (e.0, e.1.0) in
    let entries = m.entries foreign.entries in
    let e = get_or entries c.loop-j.j (Actor 0, (0, None)) in
    let inside : c.loop-j.j < length entries = omega (arith, c.loop-j-test.true, c.len-j-end.ensures.count, ap (λ h. m.len h.entries) c.foreign.ensures, m.len-entries foreign.entries) in
    let is = slice_get-get_or entries c.loop-j.j (Actor 0, (0, None)) inside in
    c.in_ok-note_given.ensures e (map amount (filter off (take c.loop-j.j entries))) is c.loop-j.invariant ∙ ap by_owner (sym (gathered amount off entries c.loop-j.j e is))

pub returns : goal.returns
unfolding given_back
returns g c =
    let foreign = g.K.Kept.held c.args.kept.now in
    let off : Thing × (ℕ × Option Row) → Bool = λ e. not (g.K.Kept.marked c.args.kept.now e.0) in
    let amount : Thing × (ℕ × Option Row) → Amount = λ e. (e.0, e.1.0) in
    let entries = m.entries foreign.entries in
    let all : c.loop-j.j ≡ length entries = omega (arith, c.loop-j-test.false, c.loop-j.auto.j-end, c.len-j-end.ensures.count, ap (λ h. m.len h.entries) c.foreign.ensures, m.len-entries foreign.entries) in
    c.loop-j.invariant ∙ ap (λ xs. by_owner (map amount (filter off xs))) (ap (λ n. take n entries) all ∙ take-length entries)
