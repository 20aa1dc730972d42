use Rattle.std.proofs.Common.{◌≡◌, ◌≢◌, ℕ, List, ◌-◌, ◌<◌, ◌∷◌, [], ◌++◌, length, set, get_or, sym, ap, ◌∙◌, arith}
use Rattle.orca_names.specs.Names.{owner_of}
use Rattle.letter_kinds.specs.Counting.{Amount}
use Rattle.local_sweep.proofs.LastGroup.{Groups, pushed_behind, pushed_to_last}
use Rattle.local_sweep.proofs.amounts.push_amount.Goals as goal

pub returns-then-ends_with : goal.returns-then-ends_with
returns-then-ends_with c = λ given is.
    let e : Amount = (c.args.thing.now, c.args.count) in
    let groups : Groups = c.args.back.now.items in
    let g : ℕ × List Amount = c.index_mut.result.now in
    let count : c.len-last.result ≡ length groups = omega (arith, c.len-last.ensures, c.args.back.now.ok.0) in
    let some : 0 < length groups = omega (arith, c.ends_with.ensures.some c.if-ends_with.true, ap length c.as_slice.ensures.value) in
    let at : g ≡ get_or groups (length groups - 1) g = c.index_mut.ensures.value ∙ ap (λ n. get_or groups (n - 1) g) count in
    let own : g.0 ≡ owner_of e.0 =
    ap (λ x. x.0) at ∙ ap (λ gs. (get_or gs (length gs - 1) g).0) (sym c.as_slice.ensures.value)
    ∙ c.ends_with.ensures.own c.if-ends_with.true g ∙ c.owner-owner.ensures in
    (λ j. set groups (count j - 1) (g.0, c.in_ok-push.ensures.ok j)) ∙ pushed_to_last given e groups g is some at own

pub returns : goal.returns
returns c = λ given is.
    let e : Amount = (c.args.thing.now, c.args.count) in
    let groups : Groups = c.args.back.now.items in
    let things : c.push-2.new.self ≡ e ∷ [] = c.in_ok-push-2.ensures.ok ∙ ap (λ xs. xs ++ e ∷ []) c.new-things.ensures in
    let other : 0 < length groups → (d : ℕ × List Amount) → (get_or groups (length groups - 1) d).0 ≢ owner_of e.0 = λ l d same.
    c.if-ends_with.ensures.other (omega (arith, ap length c.as_slice.ensures.value)) d (ap (λ gs. (get_or gs (length gs - 1) d).0) c.as_slice.ensures.value ∙ same ∙ sym c.owner-owner.ensures) in
    c.in_ok-push-3.ensures.items ∙ (λ j. groups ++ (c.owner-owner.ensures j, things j) ∷ []) ∙ pushed_behind given e groups is other
