use Rattle.std.proofs.Common.{rules, None, Some, sym, subst, ◌∙◌, refl}
use Rattle.letter_kinds.specs.Letters.{App}
use Rattle.letter_kinds.specs.Telling.{HoldsTold}
use Rattle.actor_cell.specs.Moves.{Post}
use Rattle.actor_cell.specs.Tells.{Tells}
use Rattle.actor_cell.proofs.Posting.{done_first}
use Rattle.actor_cell.proofs.Standing.{both_told, nothing_told}
use Rattle.actor_cell.proofs.go.Sending.find_found.Goals as goal

pub returns-in-Some-clause-letter : goal.returns-in-Some-clause-letter
returns-in-Some-clause-letter g c =
    let s = c.args.self.now in
    let args = c.args.found.now.args in
    let is = sym c.in-Some.is ∙ c.in_ok-minted.ensures s.cell.now.count s.cell.now.heap in
    record {
      act = done_first s args c.owner-me.result c.owner-me.ensures c.as_slice.result.now (c.as_slice.ensures ∙ c.requires.seen) (Some c.in-Some.minted) is;
      awaited = search rules;
      place = refl;
    }

pub returns-in_ok-found-in-None-2-clause-letter : goal.returns-in_ok-found-in-None-2-clause-letter
returns-in_ok-found-in-None-2-clause-letter g c =
    let s = c.args.self.now in
    let args = c.args.found.now.args in
    let is = sym c.in-None.is ∙ c.in_ok-minted.ensures s.cell.now.count s.cell.now.heap in
    let load = c.in_ok-found-in-None.ensures.load args (c.as_slice-in-None.ensures ∙ c.requires.seen) in
    record {
      act = (λ i. Post s.to (App s.behaviour args (load i) (c.in_ok-found-in-None-2.ensures.rows i)))
          ∙ done_first s args c.owner-me.result c.owner-me.ensures c.as_slice.result.now (c.as_slice.ensures ∙ c.requires.seen) None is;
      awaited = search rules;
      place = refl;
    }

pub carried-requires : goal.carried-requires
carried-requires g c =
    let s = c.args.self.now in
    record { stand = subst (λ known. HoldsTold known (Tells s.cell.now)) (sym c.load.ensures.words.known) c.requires.stand }

pub returns-in-Some-clause-told : goal.returns-in-Some-clause-told
returns-in-Some-clause-told g c = nothing_told (Tells c.args.self.now.cell.now)

pub returns-in_ok-found-in-None-2-clause-told : goal.returns-in_ok-found-in-None-2-clause-told
returns-in_ok-found-in-None-2-clause-told g c =
    both_told (Tells c.args.self.now.cell.now) c.in_ok-found-in-None.field-0 c.in_ok-found-in-None-2.field-0 c.in_ok-found-in-None.ensures.told c.in_ok-found-in-None-2.ensures.told
