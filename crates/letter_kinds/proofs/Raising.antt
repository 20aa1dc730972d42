-- By how much raising, sending and minting raise a count at most, whether the thing is there or not.
use Rattle.std.proofs.Common.{◌≡◌, ◌≢◌, ℕ, suc, ◌+◌, ◌-◌, ◌*◌, ◌≤◌, ◌==◌, Bool, true, false, cond, Option, Some, None, List, [], ◌∷◌, map, filter, refl, ap, sym, ◌∙◌, arith, ⊎_elim}
use Rattle.std.specs.FinMap as m
use Rattle.std.specs.Ordering.{nat_cmp, eq_by_cmp}
use Rattle.std.specs.Prelude.{if◌then◌else◌, sum_by}
use Rattle.std.proofs.lemmas.Bool.{cases_eq}
use Rattle.std.proofs.lemmas.Cmp.{nat_cmp_total}
use Rattle.std.proofs.lemmas.List.Sums.{sum_by-cons}
use Rattle.orca_names.proofs.ThingOrder.{cases_thing, is_eq_true, is_ne_false}
use Rattle.orca_names.specs.Names.{is_thing, owner_of}
use Rattle.orca_names.specs.declared.names.Thing.{Thing}
use Rattle.orca_names.specs.declared.names.Thing.TheVariants.{Actor, Obj}
use Rattle.letter_kinds.proofs.Counts.{amount-nil, amount-same, amount-other, cond_eq, cond_ne, loaded-same, loaded-other, own_set_held, own_set_other}
use Rattle.letter_kinds.specs.Counting.{Amount, Loaded, raise, raise_all, send, send_one, set_own, spend, with_row_count}
use Rattle.letter_kinds.specs.Holdings.{Holdings, OwnRows, Row, add_rows, entry_row, own_in, row_count, with_made}
use Rattle.letter_kinds.specs.Sums.{amount_of, times_loaded}

-- ---- one count

eq_by_self : (n : ℕ) → eq_by_cmp nat_cmp n n ≡ true
eq_by_self n = search arith

row_set_le : (rows : OwnRows) (k : ℕ) (f : ℕ → ℕ) (o : Option (Row × ℕ)) → m.get rows k ≡ o → row_count (m.get (with_row_count rows k f o) k) ≤ f (row_count o)
row_set_le rows k f None e = rw e (omega arith)
row_set_le rows k f (Some r) e = rw (m.get-insert nat_cmp_total) (rw (eq_by_self k) (omega arith))

own_set_le : (f : ℕ → ℕ) (x : Thing) (c : Holdings) → own_in (set_own f x c) x ≤ f (own_in c x)
unfolding own_in set_own
own_set_le f (Actor a) c = omega arith
own_set_le f (Obj n) c = row_set_le c.rows n.serial f _ refl

raised_le : (k : ℕ) (x y : Thing) (c : Holdings) → x ≡ y → own_in (raise k y c) x ≤ own_in c x + k
raised_le k x y c same = rw (← same) (own_set_le (λ count. count + k) x c)

-- ---- all of a list

raised_one_le : (me : ℕ) (x : Thing) (e : Amount) (es : List Amount) (c : Holdings) → owner_of x ≡ me
    → own_in (cond (owner_of e.0 == me) (raise e.1 e.0 c) c) x + amount_of x es ≤ own_in c x + amount_of x (e ∷ es)
raised_one_le me x e es c o = ⊎_elim
    (λ is. let t = amount-same x e es is in let u = raised_le e.1 x e.0 c is in
    rw (cond_eq (owner_of e.0) me (raise e.1 e.0 c) c (ap owner_of (sym is) ∙ o)) (omega arith))
    (λ not. let t = amount-other x e es not in ⊎_elim
    (λ same. let u = own_set_other (λ h. h + e.1) x e.0 c (o ∙ sym same) not in
    rw (cond_eq (owner_of e.0) me (raise e.1 e.0 c) c same) (omega arith))
    (λ apart. rw (cond_ne (owner_of e.0) me (raise e.1 e.0 c) c apart) (omega arith))
    (cases_eq (owner_of e.0) me))
    (cases_thing x e.0)

pub own_le-raise_all : (me : ℕ) (x : Thing) (es : List Amount) (c : Holdings) → owner_of x ≡ me → own_in (raise_all me es c) x ≤ own_in c x + amount_of x es
unfolding raise_all
own_le-raise_all me x [] c o = omega arith
own_le-raise_all me x (e ∷ es) c o =
    let one = raised_one_le me x e es c o in
    let more = own_le-raise_all me x es (cond (owner_of e.0 == me) (raise e.1 e.0 c) c) o in
    omega arith

sent_one_le : (me : ℕ) (x : Thing) (e : Loaded) (es : List Loaded) (c : Holdings) → owner_of x ≡ me
    → own_in (send_one me e c) x + times_loaded x es ≤ own_in c x + times_loaded x (e ∷ es)
sent_one_le me x e es c o = ⊎_elim
    (λ same. ⊎_elim
    (λ is. let t = loaded-same x e es is in let u = raised_le 1 x e.0 c is in
    rw (cond_eq (owner_of e.0) me (raise 1 e.0 c) (spend 1 e.0 c) same) (omega arith))
    (λ not. let t = loaded-other x e es not in let u = own_set_other (λ h. h + 1) x e.0 c (o ∙ sym same) not in
    rw (cond_eq (owner_of e.0) me (raise 1 e.0 c) (spend 1 e.0 c) same) (omega arith))
    (cases_thing x e.0))
    (λ apart.
    let not : x ≢ e.0 = λ is. apart (ap owner_of (sym is) ∙ o) in
    let t = loaded-other x e es not in
    rw (cond_ne (owner_of e.0) me (raise 1 e.0 c) (spend 1 e.0 c) apart) (omega (arith, own_set_held (λ h. h - 1) x e.0 (entry_row (m.get c.foreign e.0)) c)))
    (cases_eq (owner_of e.0) me)

pub own_le-send : (me : ℕ) (x : Thing) (es : List Loaded) (c : Holdings) → owner_of x ≡ me → own_in (send me es c) x ≤ own_in c x + times_loaded x es
unfolding send
own_le-send me x [] c o = omega arith
own_le-send me x (e ∷ es) c o =
    let one = sent_one_le me x e es c o in
    let more = own_le-send me x es (send_one me e c) o in
    omega arith

-- ---- new rows are not counted

rows_le : (made : List Row) (serial k : ℕ) (rows : OwnRows) → row_count (m.get (add_rows serial made rows) k) ≤ row_count (m.get rows k)
unfolding add_rows
rows_le [] serial k rows = omega arith
rows_le (row ∷ made) serial k rows =
    let later = rows_le made (suc serial) k (m.insert rows serial (row, 0)) in
    let one = inserted (eq_by_cmp nat_cmp k serial) refl in omega arith
  where
    inserted : (b : Bool) → eq_by_cmp nat_cmp k serial ≡ b → row_count (m.get (m.insert rows serial (row, 0)) k) ≤ row_count (m.get rows k)
    inserted true e = rw (m.get-insert nat_cmp_total) (rw e (omega arith))
    inserted false e = rw (m.get-insert nat_cmp_total) (rw e (omega arith))

pub own_le-with_made : (made : List Row) (h : Holdings) (x : Thing) → own_in (with_made made h) x ≤ own_in h x
unfolding own_in
own_le-with_made made h (Actor a) = omega arith
own_le-with_made made h (Obj n) = rows_le made h.next n.serial h.rows

-- ---- one amount for each of a list

-- how often a thing stands among these
abbrev pub times_in : {A : Type 0} → (A → Thing) → Thing → List A → ℕ
times_in thing x es = sum_by (λ e. if is_thing x (thing e) then 1 else 0) es

module _ {A : Type 0} (w : ℕ) (thing : A → Thing) (x : Thing) where
  amount_more : (e : A) (es later : List A) (b : Bool) → amount_of x (map (λ e. (thing e, w)) later) ≤ w * times_in thing x es
      → amount_of x (map (λ e. (thing e, w)) (cond b (e ∷ later) later)) ≤ w * times_in thing x (e ∷ es)
  amount_more e es later false le = rw (sum_by-cons (λ e. if is_thing x (thing e) then 1 else 0) e es) (⊎_elim
      (λ is. rw (is_eq_true x (thing e) is) (omega arith))
      (λ not. rw (is_ne_false x (thing e) not) (omega arith))
      (cases_thing x (thing e)))
  amount_more e es later true le = rw (sum_by-cons (λ e. if is_thing x (thing e) then 1 else 0) e es) (⊎_elim
      (λ is. let t = amount-same x (thing e, w) (map (λ e. (thing e, w)) later) is in rw (is_eq_true x (thing e) is) (omega arith))
      (λ not. let t = amount-other x (thing e, w) (map (λ e. (thing e, w)) later) not in rw (is_ne_false x (thing e) not) (omega arith))
      (cases_thing x (thing e)))

  pub amount_le : (keep : A → Bool) (es : List A) → amount_of x (map (λ e. (thing e, w)) (filter keep es)) ≤ w * times_in thing x es
  amount_le keep [] = omega (arith, amount-nil x)
  amount_le keep (e ∷ es) = amount_more e es (filter keep es) (keep e) (amount_le keep es)
