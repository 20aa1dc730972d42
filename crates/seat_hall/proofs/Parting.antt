-- A pass is split in two, and takes in another.
use Rattle.std.proofs.Common.{◌≡◌, ◌≢◌, ℕ, ◌+◌, ◌<◌, ◌==◌, List, [], ◌∷◌, length, set, count_by, refl, ap, subst, ⊎_elim, arith}
use Rattle.std.proofs.lemmas.List.Sums.{sum_by-cons, sum_by_push}
use Rattle.std.specs.Prelude.{drop, take}
use mathlib.Core.Bool.{cond}
use mathlib.Core.Option.{some}
use lib.ListN.{get_elem?}
use Rattle.atomic_table.proofs.Lists.{at_set, at_snoc}
use Rattle.turn_log.specs.Knowing.{half, having_joined, newcomer}
use Rattle.turn_log.specs.Owed.{MayJoin, MaySplit}
use Rattle.turn_log.proofs.Places.{at_other}
use Rattle.turn_log.proofs.Sums.{sum_set}
use Rattle.seat_hall.specs.declared.item.Item.{Item}
use Rattle.seat_hall.specs.Fair.{HallRule, IsFair, Knower, gets_other, has_number, keeps_own, numbers_of, spent_view, stays_itself}
use Rattle.seat_hall.proofs.Keeps.{with_pass}

-- ---- a pass with a number to give is split

module _ (id p q : ℕ) (k : Knower) (two : k.client.numbers ≡ p ∷ q ∷ []) where
  abbrev left : Knower
  left = half keeps_own k

  abbrev right : Knower
  right = half gets_other k

  left_is : left.client.numbers ≡ p ∷ []
  left_is = ap (take 1) two

  right_is : right.client.numbers ≡ q ∷ []
  right_is = ap (drop 1) two

  -- each number is with one of both
  shared : (n : ℕ) → has_number n left + has_number n right ≡ has_number n k
  shared n =
      let a = ap (count_by (λ m. m == n)) left_is in
      let b = ap (count_by (λ m. m == n)) right_is in
      let c = ap (count_by (λ m. m == n)) two in
      let d = sum_by-cons (λ x. cond {A = ℕ} (x == n) 1 0) p (q ∷ []) in
      let e = sum_by-cons (λ x. cond {A = ℕ} (x == n) 1 0) p [] in omega arith

  voices : numbers_of left + numbers_of right ≡ numbers_of k
  voices =
      let a = ap (λ (ns : List ℕ). length ns) left_is in
      let b = ap (λ (ns : List ℕ). length ns) right_is in
      let c = ap (λ (ns : List ℕ). length ns) two in omega arith

  pub may_split : MaySplit HallRule id k left right
  may_split log hall passes words fair at =
      let mine = fair.each id k at in
      let c = ap (λ (ns : List ℕ). length ns) two in record {
        program = fair.program;
        options = fair.options;
        budget = fair.budget;
        heavy = fair.heavy;
        shows = fair.shows;
        legal = fair.legal;
        each = λ j d there. ⊎_elim
            (λ (x : get_elem? (set passes id left) j ≡ some d). ⊎_elim
            (λ (t : (j ≡ id) × (left ≡ d)). subst (IsFair fair.program fair.options fair.budget log) t.1 (record {
              run = λ _. mine.run (omega arith);
              own = λ n has. mine.own n (let s = shared n in omega arith);
            }))
            (λ (t : (j ≢ id) × (get_elem? passes j ≡ some d)). fair.each j d t.1)
            (at_set passes id j left d x))
            (λ (x : right ≡ d). subst (IsFair fair.program fair.options fair.budget log) x (record {
              run = λ _. mine.run (omega arith);
              own = λ n has. mine.own n (let s = shared n in omega arith);
            }))
            (at_snoc (set passes id left) right d j there);
        once = λ n.
            let s = sum_set (has_number n) passes id k left at in
            let t = sum_by_push (has_number n) (set passes id left) right in
            let u = shared n in let o = fair.once n in omega arith;
        given = λ n above.
            let s = sum_set (has_number n) passes id k left at in
            let t = sum_by_push (has_number n) (set passes id left) right in
            let u = shared n in let o = fair.given n above in omega arith;
        few = let s = sum_set numbers_of passes id k left at in
            let t = sum_by_push numbers_of (set passes id left) right in
            let u = voices in let o = fair.few in omega arith;
      }

-- ---- a pass takes in another

pub may_join : (id : ℕ) (k : Knower) (other : ℕ) (w : Knower)
    → MayJoin HallRule id k other w (having_joined stays_itself w k) (newcomer spent_view)
may_join id k other w log hall passes words fair at apart there saw saw' =
    let both : Knower = having_joined stays_itself w k in
    let spent : Knower = newcomer spent_view in
    let mine = fair.each id k at in
    let first = with_pass log hall passes fair id k both at refl (record { run = mine.run; own = mine.own }) in
    let here = at_other passes id other w both apart there in record {
      program = first.program;
      options = first.options;
      budget = first.budget;
      heavy = first.heavy;
      shows = first.shows;
      legal = first.legal;
      each = λ j d at_j. ⊎_elim
          (λ (t : (j ≡ other) × (spent ≡ d)). subst (IsFair first.program first.options first.budget log) t.1 (record {
            run = λ some_number. absurd (omega arith);
            own = λ n has. absurd (none n has);
          }))
          (λ (t : (j ≢ other) × (get_elem? (set passes id both) j ≡ some d)). first.each j d t.1)
          (at_set (set passes id both) other j spent d at_j);
      once = λ n. let s = sum_set (has_number n) (set passes id both) other w spent here in let z = zero_of n in
          let o = first.once n in omega arith;
      given = λ n above. let s = sum_set (has_number n) (set passes id both) other w spent here in let z = zero_of n in
          let o = first.given n above in omega arith;
      few = let s = sum_set numbers_of (set passes id both) other w spent here in let o = first.few in omega arith;
    }
  where
    zero_of : (n : ℕ) → has_number n (newcomer {I = Item} spent_view) ≡ 0
    zero_of n = refl

    none : (n : ℕ) → 0 < has_number n (newcomer {I = Item} spent_view) → ⊥
    none n has = let z = zero_of n in omega arith
