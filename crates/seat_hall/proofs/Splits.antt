-- A pass splits off another.
use Rattle.std.proofs.Common.{◌≡◌, ◌<◌, ◌≤◌, ℕ, zero, suc, [], ◌∷◌, ◌++◌, ◌+◌, ◌==◌, true, count_by, sym, ap, ◌∙◌, subst, arith}
use Rattle.std.specs.Prelude.{if◌then◌else◌, take}
use Rattle.std.proofs.lemmas.Bool.Decides.{nat_tests}
use Rattle.std.proofs.lemmas.List.Elements.{filter-append}
use Rattle.turn_log.specs.Knowing.{half, having_written}
use Rattle.turn_log.specs.Seats.{knows}
use Rattle.seat_hall.specs.declared.item.Item.TheVariants.{Made}
use Rattle.seat_hall.specs.declared.item.PassView.{PassView}
use Rattle.seat_hall.specs.Answers.{AllAreGiven, GivesNumber}
use Rattle.seat_hall.specs.Fair.{after_item, gets_other, hall_of, keeps_own, start_of}
use Rattle.seat_hall.specs.Halls.{HallView}
use Rattle.seat_hall.specs.Log.{Logged, after, by, items_by, most_made}
use Rattle.seat_hall.specs.Passes.{HasIn, IsAtHall, IsPass, KeepsCells, SplitsOff, Token, hall, is_of, out, seen}
use Rattle.seat_hall.proofs.Keeps.{not_by}
use Rattle.seat_hall.proofs.Logs.{few_made, hall_append}
use Rattle.seat_hall.proofs.Turns.{client_still, has_now, out_now, own_still}
use Rattle.seat_hall.proofs.Unmade.{NoneOf, no_items, none_out}

-- all numbers are given where no more may be
pub all_given : (pass : ℕ) (old mid : Token) (h : HallView) → IsAtHall pass old mid h → most_made ≤ h.logged.made
    → AllAreGiven h.logged
all_given pass old mid h at most =
    let few = few_made (start_of (knows old).client) (seen mid) (omega arith) at.whole.legal in
    let e = ap (λ (l : Logged). l.made) at.shows in omega arith

module _ (pass next : ℕ) (old mid new : Token) (h : HallView) (at : IsAtHall pass old mid h)
    (room : h.logged.made < most_made) (next_is : next ≡ h.logged.made + 1) where
  module _ (wrote : Token) (written : knows wrote ≡ having_written after_item (Made next) (knows mid))
      (kept : knows new ≡ half keeps_own (knows wrote)) where
    seen_new : seen new ≡ seen mid ++ Made next ∷ []
    seen_new = ap (λ k. k.seen) kept ∙ ap (λ k. k.seen) written

    keeps : (v : PassView) → v.numbers ≡ pass ∷ [] → keeps_own (after_item (Made next) v) ≡ v
    keeps v number = ap (λ ns. record v { numbers = take 1 (ns ++ next ∷ []) }) number ∙ ap (λ ns. record v { numbers = ns }) (sym number)

    pub client_split : (knows new).client ≡ (knows old).client
    client_split =
        ap (λ k. k.client) kept ∙ (ap (λ k. keeps_own k.client) written
        ∙ (keeps (knows mid).client at.number ∙ client_still pass old mid new h at))

    -- the hall that it leaves
    hall_new : after h.logged (Made next) ≡ hall new (seen new)
    hall_new =
        ap (λ (l : Logged). after l (Made next)) at.shows
        ∙ (sym (hall_append (start_of (knows old).client) (seen mid) (Made next ∷ []))
        ∙ (λ i. hall_of (sym client_split i) (sym seen_new i)))

    pub split_cells : KeepsCells pass old new
    split_cells a c has =
        let now = has_now pass old mid new h at a c has in
        subst (HasIn pass a c) hall_new (record { claimed = now.claimed; cell = now.cell; busy = now.busy })

    pub split_out : out pass new ≡ out pass old
    split_out = ap (λ (l : Logged). count_by (is_of pass) l.claims) (sym hall_new) ∙ out_now pass old mid new h at

    -- the other has the number, and nothing more
    module _ (other : Token) (got : knows other ≡ half gets_other (knows wrote)) (table : other.table_id ≡ old.table_id)
        (is_pass : IsPass next other) where
      seen_other : seen other ≡ seen mid ++ Made next ∷ []
      seen_other = ap (λ k. k.seen) got ∙ ap (λ k. k.seen) written

      run_other : start_of (knows other).client ≡ start_of (knows old).client
      run_other =
          ap (λ k. start_of k.client) got ∙ (ap (λ k. start_of (gets_other k.client)) written
          ∙ ap start_of (client_still pass old mid new h at))

      fresh : (hall old (seen mid)).made < next
      fresh = let e = ap (λ (l : Logged). l.made) at.shows in omega arith

      none_first : NoneOf next (start_of (knows old).client).claims
      none_first zero is = cc
      none_first (suc b) is = cc

      none_of_other : out next other ≡ 0
      none_of_other =
          ap (λ (l : Logged). count_by (is_of next) l.claims)
          ((λ i. Rattle.seat_hall.specs.Log.hall_from (run_other i) (seen_other i))
          ∙ hall_append (start_of (knows old).client) (seen mid) (Made next ∷ []))
          ∙ none_out (start_of (knows old).client) (seen mid) next at.whole.legal fresh none_first

      pub splits_off : SplitsOff pass next old new other
      splits_off = record {
        log = seen mid;
        whole = at.whole;
        now = seen_new;
        answers = subst (GivesNumber next) at.shows (next_is, omega arith);
        mine = ap (items_by pass) seen_new
            ∙ (not_by pass (seen mid) (Made next) (λ same. let g = at.given in absurd (omega arith)) ∙ own_still pass old mid new h at);
        same = seen_other ∙ sym seen_new;
        own = ap (items_by next) seen_other ∙ (filter-append (λ i. by i == next) (seen mid) (Made next ∷ [])
            ∙ (ap (λ b. items_by next (seen mid) ++ (if b then Made next ∷ [] else [])) itself
            ∙ ap (λ xs. xs ++ Made next ∷ []) (no_items (start_of (knows old).client) (seen mid) next at.whole.legal fresh)));
        run = run_other;
        idle = record { own = table; pass_is = is_pass; none = none_of_other };
      }
        where
          itself : (next == next) ≡ true
          itself = grind (arith, nat_tests)
