-- The one-worker order of events is total, and tells events apart.
use Rattle.std.proofs.Common.{◌≡◌, ◌≢◌, ◌⊎◌, inl, inr, ℕ, zero, suc, refl, ap, sym, ◌∙◌}
use Rattle.std.specs.Ordering.{nat_cmp, ordering_reverse, ordering_then}
use Rattle.std.specs.declared.cmp.Ordering.{Ordering}
use Rattle.std.specs.declared.cmp.Ordering.TheVariants.{Less, Equal, Greater}
use Rattle.std.specs.Cmp.{IsTotalOrder, on_total, then_total, nat_cmp_total, ranked}
use Rattle.event_rule.specs.Events.{event_cmp, actor_or_token, round_of, turn_in_round}
use Rattle.event_rule.specs.declared.event.Event.{Event}
use Rattle.event_rule.specs.declared.event.Event.TheVariants.{Take, Go, Collect, Leave, Block, Hear, Scan, Reap}

event_total : IsTotalOrder event_cmp
event_total = then_total (then_total (on_total round_of nat_cmp_total) (on_total actor_or_token nat_cmp_total)) (on_total turn_in_round nat_cmp_total)

-- ---- at most

abbrev pub Upto : Event → Event → Type 0
Upto e f = event_cmp e f ≢ Greater

pub upto_or : (e f : Event) → Upto e f ⊎ Upto f e
upto_or e f = by_order (event_cmp e f) refl
  where
    by_order : (o : Ordering) → event_cmp e f ≡ o → Upto e f ⊎ Upto f e
    by_order Less is = inl (λ g. cc)
    by_order Equal is = inl (λ g. cc)
    by_order Greater is = inr (λ g. let r = event_total.antisymm f e in let w = ap ordering_reverse is in let z : ordering_reverse Greater ≡ Greater = sym w ∙ sym r ∙ g in cc)

pub upto_trans : (e f g : Event) → Upto e f → Upto f g → Upto e g
upto_trans e f g one two = by_first (event_cmp e f) refl
  where
    by_second : (o : Ordering) → event_cmp f g ≡ o → event_cmp e f ≡ Less → Upto e g
    by_second Less is less = λ up. let t = event_total.trans e f g less is in cc
    by_second Equal is less = λ up.
        let back : event_cmp g f ≡ Equal = event_total.antisymm g f ∙ ap ordering_reverse is in
        let same : event_cmp g e ≡ event_cmp f e = event_total.congr g f e back in
        let more : event_cmp f e ≡ Greater = event_total.antisymm f e ∙ ap ordering_reverse less in
        let z : event_cmp e g ≡ Less = event_total.antisymm e g ∙ ap ordering_reverse (same ∙ more) in cc
    by_second Greater is less = absurd (two is)

    by_first : (o : Ordering) → event_cmp e f ≡ o → Upto e g
    by_first Less is = by_second (event_cmp f g) refl is
    by_first Equal is = λ up. two (sym (event_total.congr e f g is) ∙ up)
    by_first Greater is = absurd (one is)

-- ---- events that compare alike are one

abbrev event_at : ℕ → ℕ → ℕ → Event
event_at zero a zero = Go a
event_at zero a (suc n) = Take a
event_at (suc zero) a zero = Collect a
event_at (suc zero) a (suc zero) = Leave a
event_at (suc zero) a (suc (suc n)) = Block a
event_at (suc (suc zero)) a turn = Hear
event_at (suc (suc (suc zero))) a turn = Scan
event_at (suc (suc (suc (suc n)))) a turn = Reap a

event_back : (e : Event) → event_at (round_of e) (actor_or_token e) (turn_in_round e) ≡ e
event_back (Take a) = refl
event_back e = refl

both_equal : (o p : Ordering) → ordering_then o p ≡ Equal → (o ≡ Equal) × (p ≡ Equal)
both_equal Less p e = cc
both_equal Equal p e = (refl, e)
both_equal Greater p e = cc

tied_same : (e f : Event) → event_cmp e f ≡ Equal → e ≡ f
tied_same e f tied =
    let outer = both_equal (ordering_then (nat_cmp (round_of e) (round_of f)) (nat_cmp (actor_or_token e) (actor_or_token f))) (nat_cmp (turn_in_round e) (turn_in_round f)) tied in
    let inner = both_equal (nat_cmp (round_of e) (round_of f)) (nat_cmp (actor_or_token e) (actor_or_token f)) outer.0 in
    let r : round_of e ≡ round_of f = ranked (round_of e) (round_of f) Equal (sym inner.0) in
    let n : actor_or_token e ≡ actor_or_token f = ranked (actor_or_token e) (actor_or_token f) Equal (sym inner.1) in
    let t : turn_in_round e ≡ turn_in_round f = ranked (turn_in_round e) (turn_in_round f) Equal (sym outer.1) in
    sym (event_back e) ∙ (λ i. event_at (r i) (n i) (t i)) ∙ event_back f

pub upto_both : (e f : Event) → Upto e f → Upto f e → e ≡ f
upto_both e f one two = by_order (event_cmp e f) refl
  where
    by_order : (o : Ordering) → event_cmp e f ≡ o → e ≡ f
    by_order Less is = absurd (two (event_total.antisymm f e ∙ ap ordering_reverse is))
    by_order Equal is = tied_same e f is
    by_order Greater is = absurd (one is)
