-- What a pass has, it has until it ends the claim, whatever others do.
use Rattle.std.proofs.Common.{◌≡◌, ◌≢◌, ℕ, ◌<◌, ◌==◌, Bool, true, false, not, List, [], ◌∷◌, ◌++◌, Option, Some, None, refl, sym, ap, ◌∙◌, subst, arith}
use Rattle.std.specs.Prelude.{if◌then◌else◌}
use Rattle.std.specs.Option.{option_and_then}
use Rattle.std.proofs.lemmas.Bool.Decides.{nat_tests}
use Rattle.event_rule.specs.Events.{actor_of}
use Rattle.event_rule.specs.declared.event.Event.{Event}
use Rattle.machine_rules.specs.Actors.{cell_at}
use Rattle.machine_rules.specs.State.{State, first_state}
use Rattle.orca_core.proofs.Reached.{leads_more}
use Rattle.hall_rules.specs.Causes.{absent_cause, busy_cause, event_at}
use Rattle.hall_rules.specs.Claims.{holder}
use Rattle.hall_rules.proofs.Leading.{leads_after}
use Rattle.hall_rules.proofs.Refusing.{nobody_holds, none_holds, or_none}
use Rattle.seat_hall.specs.declared.item.Item.{Item}
use Rattle.seat_hall.specs.declared.item.Item.TheVariants.{Claimed, Entered, Ended, Stopped, Made}
use Rattle.seat_hall.specs.Log.{Legal, Logged, MayFollow, after, by, claim_cause, claim_in, claims_in, entry_cause, hall_from, items_by, plain, state_in}
use Rattle.seat_hall.proofs.Busy.{busy_of, event_of, others_leave_busy, stands_apart}
use Rattle.seat_hall.proofs.Claims.{claim_grown, claim_released, claim_set, holder_is, of_another, of_any}
use Rattle.seat_hall.proofs.Runs.{IsRunOf, can_enter, run_one}

-- the claim on the actor is out, and it has an event; the cell is as it was
pub record Keeps (pass a : ℕ) (l m : Logged) : Type 0 where
  pub claimed : claim_in m.claims a ≡ Some pass
  pub cell : cell_at (state_in m).actors a ≡ cell_at (state_in l).actors a
  pub busy : event_at (state_in m) a ≢ None

abbrev pub pass_or : ℕ → Option ℕ → ℕ
pass_or d (Some pass) = pass
pass_or d None = d

-- an actor that another asks for, and is not refused as busy, is not this pass's
not_mine : (c : Option ℕ) (asker pass : ℕ) → asker ≢ pass → of_another (Some asker) c ≡ None → c ≢ Some pass
not_mine None asker pass apart none is = cc
not_mine (Some p) asker pass apart none is =
    let same : p ≡ pass = ap (pass_or 0) is in by (p == asker) refl none same
  where
    by : (b : Bool) → (p == asker) ≡ b → (if not (p == asker) then Some p else None) ≡ None → p ≡ pass → ⊥
    by true is none same = let e : p ≡ asker = grind (arith, nat_tests) in apart (sym e ∙ same)
    by false is none same =
        let some : Some p ≡ None = sym (ap (λ b. if not b then Some p else None) is) ∙ none in cc

-- ---- whose actor an item is of

-- the actor that the item is about
abbrev pub about : Item → Option ℕ
about (Claimed pass actor) = Some actor
about (Entered pass event) = actor_of event
about (Ended pass actor) = Some actor
about (Stopped pass) = None
about (Made pass) = None

about_entered : (l : Logged) (pass q a : ℕ) (e : Event) → q ≢ pass → entry_cause l (Some q) e ≡ None
    → claim_in l.claims a ≡ Some pass → actor_of e ≢ Some a
about_entered l pass q a e apart none mine is =
    let free = sym (ap (option_and_then (λ a. holder (Some q) a (claims_in l))) is) ∙ nobody_holds (plain l) (Some q) e none in
    not_mine (claim_in l.claims a) q pass apart (sym (holder_is (Some q) a l.claims) ∙ free) mine

-- a granted claim is on an actor that nobody has
pub free_for : (l : Logged) (a : ℕ) → claim_cause l a ≡ None → claim_in l.claims a ≡ None
free_for l a none =
    let held = or_none (busy_cause (holder None a (claims_in l))) _ (or_none (absent_cause (state_in l) a) _ none).1 in
    sym (of_any (claim_in l.claims a)) ∙ (sym (holder_is None a l.claims) ∙ none_holds (holder None a (claims_in l)) held.0)

-- an item of others is about no actor that this pass has
pub not_about : (pass a : ℕ) (l : Logged) (i : Item) → by i ≢ pass → MayFollow l i → claim_in l.claims a ≡ Some pass → about i ≢ Some a
not_about pass a l (Claimed q b) apart may mine same =
    let free = free_for l b may.1 in
    let clash : None ≡ Some pass = sym free ∙ (ap (λ o. claim_in l.claims (pass_or 0 o)) same ∙ mine) in cc
not_about pass a l (Entered q e) apart may mine same = about_entered l pass q a e apart may.1 mine same
not_about pass a l (Ended q b) apart may mine same =
    apart (ap (pass_or 0) (sym may.1 ∙ (ap (λ o. claim_in l.claims (pass_or 0 o)) same ∙ mine)))
not_about pass a l (Stopped q) apart may mine same = cc
not_about pass a l (Made q) apart may mine same = cc

-- ---- items about other actors

keeps_entered : (pass q a : ℕ) (l : Logged) (e : Event) → actor_of e ≢ Some a → 0 < l.options.weight → IsRunOf l
    → entry_cause l (Some q) e ≡ None → claim_in l.claims a ≡ Some pass → event_at (state_in l) a ≢ None
    → Keeps pass a l (after l (Entered q e))
keeps_entered pass q a l e others heavy run none mine busy =
    let can = can_enter l (Some q) e run.1 none in
    let start : State = first_state l.program l.options in
    let more = leads_more l.book start (state_in l) can.after_it e run.0 can.goes in
    let there : can.after_it ≡ state_in (after l (Entered q e)) = leads_after (l.book ++ e ∷ []) start can.after_it more in
    let b = busy_of (state_in l) a busy in
    let apart = stands_apart l.program l.options l.book (state_in l) can.after_it a e heavy run.0 b others can.goes in
    let left = others_leave_busy (state_in l) can.after_it a e apart can.goes b in record {
      claimed = claim_grown _ _ a ∙ (claim_released e l.claims a others ∙ mine);
      cell = ap (λ (s : State). cell_at s.actors a) (sym there) ∙ left.0;
      busy = subst (λ (s : State). event_at s a ≢ None) there (event_of can.after_it a left.1);
    }

pub keeps_about : (pass a : ℕ) (l : Logged) (i : Item) → about i ≢ Some a → 0 < l.options.weight → IsRunOf l → MayFollow l i
    → claim_in l.claims a ≡ Some pass → event_at (state_in l) a ≢ None → Keeps pass a l (after l i)
keeps_about pass a l (Claimed q b) others heavy run may mine busy = record {
  claimed = claim_set l.claims b a (Some q) (λ same. others (ap Some (sym same))) ∙ mine;
  cell = refl;
  busy = busy;
}
keeps_about pass a l (Entered q e) others heavy run may mine busy = keeps_entered pass q a l e others heavy run may.1 mine busy
keeps_about pass a l (Ended q b) others heavy run may mine busy = record {
  claimed = claim_set l.claims b a None (λ same. others (ap Some (sym same))) ∙ mine;
  cell = refl;
  busy = busy;
}
keeps_about pass a l (Stopped q) others heavy run may mine busy = record { claimed = mine; cell = refl; busy = busy }
keeps_about pass a l (Made q) others heavy run may mine busy = record { claimed = mine; cell = refl; busy = busy }

-- where a pass has no item, each is another's
pub none_by : (pass : ℕ) (i : Item) (log : List Item) → items_by pass (i ∷ log) ≡ [] → (by i ≢ pass) × (items_by pass log ≡ [])
none_by pass i log none = pick (by i == pass) refl none
  where
    pick : (b : Bool) → (by i == pass) ≡ b → items_by pass (i ∷ log) ≡ [] → (by i ≢ pass) × (items_by pass log ≡ [])
    pick true is none =
        let cons : i ∷ items_by pass log ≡ [] =
        sym (ap (λ b. if b then i ∷ items_by pass log else items_by pass log) is) ∙ none in absurd (cc)
    pick false is none = (
      (λ same. let e : (by i == pass) ≡ true = grind (arith, nat_tests) in let clash : true ≡ false = sym e ∙ is in cc),
      sym (ap (λ b. if b then i ∷ items_by pass log else items_by pass log) is) ∙ none,
    )

-- through all items of others
pub keeps_all : (pass a : ℕ) (l : Logged) (log : List Item) → 0 < l.options.weight → IsRunOf l → Legal l log
    → items_by pass log ≡ [] → claim_in l.claims a ≡ Some pass → event_at (state_in l) a ≢ None
    → Keeps pass a l (hall_from l log)
keeps_all pass a l [] heavy run legal none mine busy = record { claimed = mine; cell = refl; busy = busy }
keeps_all pass a l (i ∷ log) heavy run legal none mine busy =
    let n = none_by pass i log none in
    let one = keeps_about pass a l i (not_about pass a l i n.0 legal.0 mine) heavy run legal.0 mine busy in
    let rest = keeps_all pass a (after l i) log (heavy_one l i heavy) (run_one l i run legal.0) legal.1 n.1 one.claimed one.busy in
    record { claimed = rest.claimed; cell = rest.cell ∙ one.cell; busy = rest.busy }
  where
    heavy_one : (l : Logged) (i : Item) → 0 < l.options.weight → 0 < (after l i).options.weight
    heavy_one l (Claimed q b) heavy = heavy
    heavy_one l i heavy = heavy
