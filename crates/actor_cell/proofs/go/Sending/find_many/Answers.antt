use Rattle.std.proofs.Common.{rules, [], Some, map, sym, ap, subst, ◌∙◌, refl}
use Rattle.std.specs.Prelude.{IfSome}
use Rattle.letter_kinds.specs.Load.{as_load}
use Rattle.letter_kinds.specs.Counting.{Loaded}
use Rattle.letter_kinds.specs.Telling.{TellsOnly, Told}
use Rattle.actor_cell.specs.Tells.{Tells}
use Rattle.actor_cell.proofs.Posting.{done_first, loaded_deeply, sent_deeply}
use Rattle.actor_cell.proofs.Standing.{both_told, nothing_told}
use Rattle.actor_cell.proofs.go.Sending.find_many.Goals as goal

pub returns-then-not-lacks_any-clause-done : goal.returns-then-not-lacks_any-clause-done
returns-then-not-lacks_any-clause-done g c = λ _.
    let s = c.args.self.now in
    let args = c.args.found.now.args in
    let loads = loaded_deeply s args c.requires.traced c.in_ok-load.field-0 c.in-Some.load c.in-Some.is c.in_ok-load.ensures.load in
    let any = sym c.if-not-lacks_any.true ∙ c.lacks_any.ensures s.cell.now.count s.cell.now.heap in
    record {
      act = sent_deeply s args c.requires.traced c.owner-me.result c.owner-me.ensures (as_load c.in-Some.load) (as_load c.new.result) loads (ap as_load c.new.ensures) any;
      awaited = search rules;
      place = refl;
    }

pub returns-clause-done : goal.returns-clause-done
returns-clause-done g c = λ _.
    let s = c.args.self.now in
    let args = c.args.found.now.args in
    let loads = loaded_deeply s args c.requires.traced c.in_ok-load.field-0 c.in-Some.load c.in-Some.is c.in_ok-load.ensures.load in
    let things = c.as_slice.ensures ∙ c.in_ok-loaded.ensures ∙ ap (map (λ (e : Loaded). e.0)) loads in
    let is = sym c.in-Some-minted.is ∙ c.in_ok-minted.ensures s.cell.now.count s.cell.now.heap in
    record {
      act = done_first s args c.owner-me.result c.owner-me.ensures c.as_slice.result.now things (Some c.in-Some-minted.lacked) is;
      awaited = search rules;
      place = refl;
    }

pub returns-then-not-lacks_any-clause-told : goal.returns-then-not-lacks_any-clause-told
returns-then-not-lacks_any-clause-told g c = λ _.
    let tells = Tells c.args.self.now.cell.now in
    let loaded = subst (λ found. IfSome found (λ load. TellsOnly tells [] (Told load))) c.in-Some.is c.in_ok-load.ensures.told in
    both_told tells c.in-Some.load c.new.result loaded (subst (λ rows. TellsOnly tells [] (Told rows)) (sym c.new.ensures) (nothing_told tells))
