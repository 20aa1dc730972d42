use Rattle.std.proofs.Common.{◌≡◌, ◌≤◌, ◌+◌, List, ℕ, [], ◌∷◌, ◌++◌, ◌∙◌, map, map-id, sym, ap, subst, arith, length, length-append, vec_len}
use Rattle.std.proofs.lemmas.List.{map-append}
use Rattle.std.proofs.lemmas.Iterator.Adapters.{YieldsList-from_vec}
use Rattle.std.proofs.lemmas.Iterator.Consumers.{YieldsList-turn, YieldsList-end}
use Rattle.letter_kinds.specs.Counting.{Amount}
use Rattle.letter_kinds.specs.Letters.{Dec, as_sent}
use Rattle.letter_kinds.specs.declared.letter.Letter.TheVariants as sent
use Rattle.actor_cell.specs.Outs.{decs_to}
use Rattle.actor_cell.proofs.letters.decs_of.Goals as goal

pub push_reserved-requires : goal.push_reserved-requires
push_reserved-requires c =
    let groups = c.args.groups.items in
    let gives = c.into_iter-owner-iterator.ensures.into_iter_gives in
    let all : vec_len c.args.groups ≡ length groups = omega arith in
    let road = YieldsList-from_vec groups gives.0 (gives.1 ∙ all) in
    let turn = YieldsList-turn road c.loop-owner.yielded _ c.loop-owner.yielded_by _ c.next.new.self _ c.in-Some.is c.next.ensures.steps in
    omega (arith, turn.0, c.loop-owner.invariant.count, c.loop-owner.invariant.room)

pub loop-owner-preserved : goal.loop-owner-preserved
loop-owner-preserved c =
    let group : ℕ × List Amount = (c.in-Some.owner, c.in-Some.things) in
    let now = c.loop-owner.invariant in
    record {
      letters = ap (map as_sent) c.push_reserved.ensures.items ∙ map-append as_sent c.loop-owner.room.items ((group.0, sent.Dec group.1) ∷ [])
          ∙ ap (λ letters. letters ++ (group.0, Dec group.1) ∷ []) now.letters
          ∙ sym (map-append {A = ℕ × List Amount} (λ g. (g.0, Dec g.1)) c.loop-owner.yielded (group ∷ []));
      count = c.push_reserved.ensures.len ∙ ap (λ n. n + 1) now.count ∙ sym (length-append c.loop-owner.yielded (group ∷ []));
      room = subst (λ n. length c.args.groups.items ≤ n) (sym c.push_reserved.ensures.capacity) now.room;
    }

pub returns : goal.returns
returns c =
    let groups = c.args.groups.items in
    let gives = c.into_iter-owner-iterator.ensures.into_iter_gives in
    let all : vec_len c.args.groups ≡ length groups = omega arith in
    let road = YieldsList-from_vec groups gives.0 (gives.1 ∙ all) in
    let end = YieldsList-end road c.loop-owner.yielded _ c.loop-owner.yielded_by _ c.next.new.self c.in-None.is c.next.ensures.steps in
    ap (map as_sent) c.from.ensures ∙ c.loop-owner.invariant.letters ∙ ap decs_to (sym (map-id _) ∙ end.0)
