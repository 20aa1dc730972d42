use Rattle.std.proofs.Common.{◌≡◌, ◌↔◌, ◌∷◌, [], true, Contains, sym, subst, ◌∙◌}
use Rattle.std.proofs.lemmas.Bool.{true≢false}
use Rattle.std.proofs.lemmas.Result.{on_ok_weaker}
use Rattle.thing_list.specs.Putting.{Puts}
use Rattle.thing_list.proofs.Puts.{puts_inserted, puts_known}
use Rattle.thing_list.proofs.putting.put_among.Goals as goal

pub insert-requires-clause-fresh : goal.insert-requires-clause-fresh
insert-requires-clause-fresh c = λ there.
    let among = subst (λ ts. c.is_among.result ≡ true ↔ Contains ts c.args.thing) c.as_slice.ensures c.is_among.ensures in
    true≢false (sym (among.1 there) ∙ c.if-is_among.false)

pub returns : goal.returns
returns c =
    let old = c.args.things.now in
    on_ok_weaker c.insert.result (λ inserted. subst (Puts (c.args.thing ∷ []) old) (sym inserted) (puts_inserted old c.args.thing c.requires)) c.insert.ensures

pub returns-then-is_among : goal.returns-then-is_among
returns-then-is_among c =
    puts_known c.args.things.now c.args.thing c.requires
    (subst (λ ts. Contains ts c.args.thing) c.as_slice.ensures (c.is_among.ensures.0 c.if-is_among.true))
