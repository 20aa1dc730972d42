use Rattle.std.proofs.Common.{◌≡◌, ◌↔◌, ◌≤◌, ◌∷◌, [], true, Contains, Some, length, refl, sym, subst, ◌∙◌, arith}
use Rattle.std.proofs.lemmas.Bool.{true≢false}
use Rattle.reach_walk.specs.Walk.{Adds, AreNoted}
use Rattle.reach_walk.proofs.Added.{Adds-new}
use Rattle.reach_walk.proofs.Seeing.{sees_new}
use Rattle.reach_walk.proofs.seen.Seen.see_early.Goals as goal

pub returns-in_ok-set_of-clause-adds : goal.returns-in_ok-set_of-clause-adds
returns-in_ok-set_of-clause-adds c =
    let x = c.args.thing.now in
    let things = c.args.self.now.things in
    subst (Adds (x ∷ []) things) (sym c.in_ok-push.ensures) (Adds-new x things)

pub returns-in_ok-set_of-clause-seen : goal.returns-in_ok-set_of-clause-seen
returns-in_ok-set_of-clause-seen c =
    let x = c.args.thing.now in
    let old = c.args.self.now in
    let now = c.in_ok-set_of.field-0 in
    let among = subst (λ ts. c.is_among.result ≡ true ↔ Contains ts x) c.as_slice.ensures c.is_among.ensures in
    let noted = subst (AreNoted (Some now)) c.as_slice-then-len-gt-FEW.ensures c.in_ok-set_of.ensures in
    sees_new old (record { things = c.push.new.self; noted = Some now; owner = old.owner }) x c.requires.seen
    (λ there. true≢false (sym (among.1 there) ∙ c.if-is_among.false)) c.in_ok-push.ensures refl noted

pub returns-else-len-gt-FEW-clause-adds : goal.returns-else-len-gt-FEW-clause-adds
returns-else-len-gt-FEW-clause-adds c =
    let x = c.args.thing.now in
    let things = c.args.self.now.things in
    subst (Adds (x ∷ []) things) (sym c.in_ok-push.ensures) (Adds-new x things)

pub returns-else-len-gt-FEW-clause-seen : goal.returns-else-len-gt-FEW-clause-seen
returns-else-len-gt-FEW-clause-seen c =
    let x = c.args.thing.now in
    let old = c.args.self.now in
    let now = c.push.new.self in
    let among = subst (λ ts. c.is_among.result ≡ true ↔ Contains ts x) c.as_slice.ensures c.is_among.ensures in
    let few : length now ≤ 8 = omega (arith, c.len.ensures, c.if-len-gt-FEW.false) in
    sees_new old (record { things = now; noted = old.noted; owner = old.owner }) x c.requires.seen
    (λ there. true≢false (sym (among.1 there) ∙ c.if-is_among.false)) c.in_ok-push.ensures refl (subst (λ noted. AreNoted noted now) (sym c.requires.early) few)
