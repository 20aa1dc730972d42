use Rattle.std.proofs.Common.{◌≡◌, ◌∷◌, [], Contains, sym, subst}
use Rattle.std.specs.declared.cmp.Ordering.TheVariants.{Less}
use Rattle.std.proofs.lemmas.Result.{on_ok_weaker}
use Rattle.orca_names.specs.Names.{thing_cmp}
use Rattle.orca_names.specs.declared.names.Thing.{Thing}
use Rattle.thing_list.specs.Putting.{Puts}
use Rattle.thing_list.proofs.Puts.{puts_last}
use Rattle.thing_list.proofs.putting.put.Goals as goal

pub returns-then-comes_last : goal.returns-then-comes_last
returns-then-comes_last c =
    let x = c.args.thing in
    let old = c.args.things.now in
    let last = subst (λ ts. (y : Thing) → Contains ts y → thing_cmp y x ≡ Less) c.as_slice.ensures (c.comes_last.ensures c.if-comes_last.true) in
    on_ok_weaker c.push.result (λ pushed. subst (Puts (x ∷ []) old) (sym pushed) (puts_last old x c.requires last)) c.push.ensures
