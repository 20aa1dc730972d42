-- Each step on the table keeps the rule.
use Rattle.std.proofs.Common.{◌≡◌, ◌≢◌, ℕ, ◌+◌, ◌<◌, ◌≤◌, ◌==◌, Bool, true, false, List, [], ◌∷◌, ◌++◌, length, set, count_by, sum_by, refl, sym, ap, ◌∙◌, subst, ⊎_elim, arith, append-nil, length-append}
use Rattle.std.specs.Prelude.{if◌then◌else◌}
use Rattle.std.proofs.lemmas.Bool.Decides.{nat_tests}
use Rattle.std.proofs.lemmas.List.Elements.{filter-append}
use Rattle.std.proofs.lemmas.List.Sums.{sum_by-cons, sum_by-le-sum_by, sum_by_push}
use mathlib.Core.Bool.{cond}
use mathlib.Core.Logic.{dite}
use mathlib.Core.Option.{some}
use native.Mathlib.Decide.{ℕ_discrete}
use lib.ListN.{get_elem?}
use Rattle.atomic_table.proofs.Lists.{at_set}
use Rattle.turn_log.specs.Knowing.{at_turn, having_written}
use Rattle.turn_log.specs.Owed.{FewTickets, MayLook, MayWrite}
use Rattle.turn_log.proofs.Sums.{each_term, sum_set}
use Rattle.seat_hall.specs.declared.item.Item.{Item}
use Rattle.seat_hall.specs.declared.item.Item.TheVariants.{Claimed, Entered, Ended, Stopped, Made}
use Rattle.seat_hall.specs.declared.item.PassView.{PassView}
use Rattle.seat_hall.specs.Fair.{Fair, Follows, HallRule, IsFair, IsOwn, Knower, Shown, after_item, hall_of, has_number, live, numbers_of}
use Rattle.seat_hall.specs.Halls.{HallView}
use Rattle.seat_hall.specs.Log.{Logged, MayFollow, after, begins, by, hall_from, items_by}
use Rattle.seat_hall.proofs.Apart.{one_pass, shown}
use Rattle.seat_hall.proofs.Logs.{few_made, hall_append, legal_snoc}

-- few passes have tickets
pub few : FewTickets HallRule live
few log hall passes words fair =
    let le = sum_by-le-sum_by (λ (k : Knower). live k.client) numbers_of passes (λ k. at_most k) in
    let most = fair.few in
    let made = few_made (begins fair.program fair.options fair.budget) log (omega arith) fair.legal in
    let same = ap (λ (l : Logged). l.made) fair.shows in omega arith
  where
    at_most : (k : Knower) → live k.client ≤ numbers_of k
    at_most k = omega arith

-- a pass that keeps its numbers may come to know something else
pub with_pass : (log : List Item) (hall : HallView) (passes : List Knower) (fair : Fair log hall passes) (id : ℕ) (k w : Knower)
    → get_elem? passes id ≡ some k → w.client.numbers ≡ k.client.numbers
    → IsFair fair.program fair.options fair.budget log w → Fair log hall (set passes id w)
with_pass log hall passes fair id k w at same mine = record {
  program = fair.program;
  options = fair.options;
  budget = fair.budget;
  heavy = fair.heavy;
  shows = fair.shows;
  legal = fair.legal;
  each = λ j d there. ⊎_elim
      (λ (t : (j ≡ id) × (w ≡ d)). subst (IsFair fair.program fair.options fair.budget log) t.1 mine)
      (λ (t : (j ≢ id) × (get_elem? passes j ≡ some d)). fair.each j d t.1)
      (at_set passes id j w d there);
  once = λ n. let s = sum_set (has_number n) passes id k w at in let e = numbers n in let o = fair.once n in omega arith;
  given = λ n more. let s = sum_set (has_number n) passes id k w at in let e = numbers n in let o = fair.given n more in omega arith;
  few = let s = sum_set numbers_of passes id k w at in let e = ap (λ (ns : List ℕ). length ns) same in let o = fair.few in omega arith;
}
  where
    numbers : (n : ℕ) → has_number n w ≡ has_number n k
    numbers n = ap (count_by (λ m. m == n)) same

pub may_look : MayLook HallRule Shown
may_look log hall passes words id k fair at saw =
    let mine = fair.each id k at in (
      with_pass log hall passes fair id k (at_turn log k) at refl (record { run = mine.run; own = λ n has. refl }),
      shown log hall passes fair id k at,
    )

-- ---- writing

pub not_by : (n : ℕ) (seen : List Item) (i : Item) → by i ≢ n → items_by n (seen ++ i ∷ []) ≡ items_by n seen
not_by n seen i apart =
    filter-append (λ j. by j == n) seen (i ∷ [])
    ∙ (ap (λ b. items_by n seen ++ (if b then i ∷ [] else [])) off ∙ append-nil (items_by n seen))
  where
    off : (by i == n) ≡ false
    off = grind (arith, nat_tests)

pub own_is : (p : ℕ) (i : Item) → IsOwn p i → by i ≡ p
own_is p (Claimed q a) own = own
own_is p (Entered q e) own = own
own_is p (Ended q a) own = own
own_is p (Stopped q) own = own
own_is p (Made q) own = absurd own

pub own_client : (p : ℕ) (i : Item) (v : PassView) → IsOwn p i → after_item i v ≡ v
own_client p (Claimed q a) v own = refl
own_client p (Entered q e) v own = refl
own_client p (Ended q a) v own = refl
own_client p (Stopped q) v own = refl
own_client p (Made q) v own = absurd own

own_made : (p : ℕ) (i : Item) (l : Logged) → IsOwn p i → (after l i).made ≡ l.made
own_made p (Claimed q a) l own = refl
own_made p (Entered q e) l own = refl
own_made p (Ended q a) l own = refl
own_made p (Stopped q) l own = refl
own_made p (Made q) l own = absurd own

counted : (n m : ℕ) (ns : List ℕ) → count_by (λ x. x == n) (m ∷ ns) ≡ cond (m == n) 1 0 + count_by (λ x. x == n) ns
counted n m ns = sum_by-cons (λ x. cond (x == n) 1 0) m ns

counted_here : (n : ℕ) (ns : List ℕ) → count_by (λ x. x == n) (n ∷ ns) ≡ 1 + count_by (λ x. x == n) ns
counted_here n ns = counted n n ns ∙ ap (λ b. cond b 1 0 + count_by (λ x. x == n) ns) same
  where
    same : (n == n) ≡ true
    same = grind (arith, nat_tests)

pub has_first : (p : ℕ) (ns : List ℕ) (v : Knower) → v.client.numbers ≡ p ∷ ns → 0 < has_number p v
has_first p ns v is =
    let c = counted_here p ns in let e = ap (count_by (λ m. m == p)) is in omega arith

-- the pass's reckoning is the rule's
same_hall : (log : List Item) (hall : HallView) (passes : List Knower) (fair : Fair log hall passes) (id : ℕ) (k : Knower)
    → get_elem? passes id ≡ some k → 0 < numbers_of k → (xs : List Item)
    → hall_of k.client xs ≡ hall_from (begins fair.program fair.options fair.budget) xs
same_hall log hall passes fair id k at voiced xs =
    let run = (fair.each id k at).run voiced in λ i. hall_from (begins (run.0 i) (run.1 i) (run.2 i)) xs

pub one_number : (p : ℕ) (ns : List ℕ) (k : Knower) → k.client.numbers ≡ p ∷ ns → 0 < numbers_of k
one_number p ns k is = let e = ap (λ (xs : List ℕ). length xs) is in omega arith

-- an item of the pass's own call
pub may_write_own : (id p : ℕ) (i : Item) (k : Knower) (puts : List (ℕ × ℕ)) (before value : HallView) → IsOwn p i
    → Follows p i k value → MayWrite HallRule after_item id k puts before value i
may_write_own id p i k puts before value own follows passes words fair at stand =
    let voiced = one_number p [] k follows.number in
    let start : Logged = begins fair.program fair.options fair.budget in
    let here = same_hall k.seen before passes fair id k at voiced k.seen in
    let client = own_client p i k.client own in
    let w : Knower = having_written after_item i k in
    let log : List Item = k.seen ++ i ∷ [] in
    let shows : value.logged ≡ hall_from start log =
    follows.logged ∙ (ap (λ l. after l i) here ∙ sym (hall_append start k.seen (i ∷ []))) in
    let made : value.logged.made ≡ before.logged.made =
    ap (λ (l : Logged). l.made) follows.logged
    ∙ (own_made p i (hall_of k.client k.seen) own ∙ ap (λ (l : Logged). l.made) (here ∙ sym fair.shows)) in
    let numbers : w.client.numbers ≡ k.client.numbers = ap (λ (v : PassView). v.numbers) client in
    let mine = fair.each id k at in record {
      program = fair.program;
      options = fair.options;
      budget = fair.budget;
      heavy = fair.heavy;
      shows = shows;
      legal = legal_snoc start k.seen i fair.legal (subst (λ (l : Logged). MayFollow l i) here follows.may);
      each = λ j d there. ⊎_elim
          (λ (t : (j ≡ id) × (w ≡ d)). subst (IsFair fair.program fair.options fair.budget log) t.1 (record {
            run = λ _. subst (λ (v : PassView). (v.program ≡ fair.program) × (v.options ≡ fair.options) × (v.budget ≡ fair.budget))
                (sym client) (mine.run voiced);
            own = λ n has. refl;
          }))
          (λ (t : (j ≢ id) × (get_elem? passes j ≡ some d)). let theirs = fair.each j d t.1 in record {
            run = theirs.run;
            own = λ n has. not_by n k.seen i (λ same. t.0 (one_pass passes p id j k d at t.1 (has_first p [] k follows.number)
                (subst (λ (m : ℕ). 0 < has_number m d) (sym same ∙ own_is p i own) has) (fair.once p))) ∙ theirs.own n has;
          })
          (at_set passes id j w d there);
      once = λ n.
          let s = sum_set (has_number n) passes id k w at in
          let e = ap (count_by (λ m. m == n)) numbers in let o = fair.once n in omega arith;
      given = λ n more.
          let s = sum_set (has_number n) passes id k w at in
          let e = ap (count_by (λ m. m == n)) numbers in let o = fair.given n (omega arith) in omega arith;
      few = let s = sum_set numbers_of passes id k w at in
          let e = ap (λ (ns : List ℕ). length ns) numbers in let o = fair.few in omega arith;
    }

-- the pass gives a number
pub may_give : (id p q : ℕ) (k : Knower) (puts : List (ℕ × ℕ)) (before value : HallView) → Follows p (Made q) k value
    → MayWrite HallRule after_item id k puts before value (Made q)
may_give id p q k puts before value follows passes words fair at stand =
    let voiced = one_number p [] k follows.number in
    let start : Logged = begins fair.program fair.options fair.budget in
    let here = same_hall k.seen before passes fair id k at voiced k.seen in
    let w : Knower = having_written after_item (Made q) k in
    let log : List Item = k.seen ++ Made q ∷ [] in
    let was : (hall_of k.client k.seen).made ≡ before.logged.made = ap (λ (l : Logged). l.made) (here ∙ sym fair.shows) in
    let made : value.logged.made ≡ before.logged.made + 1 =
    ap (λ (l : Logged). l.made) follows.logged ∙ ap (λ (n : ℕ). n + 1) was in
    let number : q ≡ before.logged.made + 1 = follows.may.0 ∙ ap (λ (n : ℕ). n + 1) was in
    let fresh = fair.given q (omega arith) in
    let mine = fair.each id k at in
    let more : (n : ℕ) → has_number n w ≡ has_number n k + cond (q == n) 1 0 = λ n.
    sum_by_push (λ x. cond (x == n) 1 0) k.client.numbers q in record {
      program = fair.program;
      options = fair.options;
      budget = fair.budget;
      heavy = fair.heavy;
      shows = follows.logged ∙ (ap (λ l. after l (Made q)) here ∙ sym (hall_append start k.seen (Made q ∷ [])));
      legal = legal_snoc start k.seen (Made q) fair.legal (subst (λ (l : Logged). MayFollow l (Made q)) here follows.may);
      each = λ j d there. ⊎_elim
          (λ (t : (j ≡ id) × (w ≡ d)). subst (IsFair fair.program fair.options fair.budget log) t.1
          (record { run = λ _. mine.run voiced; own = λ n has. refl }))
          (λ (t : (j ≢ id) × (get_elem? passes j ≡ some d)). let theirs = fair.each j d t.1 in record {
            run = theirs.run;
            own = λ n has. not_by n k.seen (Made q) (λ same.
                let none = each_term (has_number q) passes fresh j d t.1 in
                let has' = subst (λ (m : ℕ). 0 < has_number m d) (sym same) has in absurd (omega arith)) ∙ theirs.own n has;
          })
          (at_set passes id j w d there);
      once = λ n.
          let s = sum_set (has_number n) passes id k w at in let e = more n in let o = fair.once n in
          dite (ℕ_discrete q n)
          (λ same. let none = subst (λ (m : ℕ). sum_by (has_number m) passes ≡ 0) same fresh in
          let le = cond_le (q == n) in omega arith)
          (λ apart. let z = cond_else q n apart in omega arith);
      given = λ n above.
          let s = sum_set (has_number n) passes id k w at in let e = more n in let o = fair.given n (omega arith) in
          let z = cond_else q n (λ same. omega arith) in omega arith;
      few = let s = sum_set numbers_of passes id k w at in
          let e : numbers_of w ≡ numbers_of k + 1 = length-append k.client.numbers (q ∷ []) in let o = fair.few in omega arith;
    }
  where
    cond_le : (b : Bool) → cond {A = ℕ} b 1 0 ≤ 1
    cond_le true = omega arith
    cond_le false = omega arith

    cond_else : (q n : ℕ) → q ≢ n → cond {A = ℕ} (q == n) 1 0 ≡ 0
    cond_else q n apart = let off : (q == n) ≡ false = grind (arith, nat_tests) in ap (λ b. cond {A = ℕ} b 1 0) off
