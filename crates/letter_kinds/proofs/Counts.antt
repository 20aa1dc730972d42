-- What one change of a count does to each count, and what sending and receiving a load do.
use Rattle.std.proofs.Common.{◌≡◌, ◌≢◌, ◌⊎◌, ℕ, ◌+◌, ◌-◌, ◌<◌, ◌==◌, true, cond, Option, Some, None, is_some, List, [], ◌∷◌, refl, ap, sym, ◌∙◌, arith, inl, inr, ⊎_elim, eq-eqb, ne_eqb}
use Rattle.std.specs.FinMap as m
use Rattle.std.specs.Ordering.{nat_cmp, eq_by_cmp}
use Rattle.std.proofs.lemmas.Cmp.{nat_cmp_total}
use Rattle.std.proofs.lemmas.Bool.{cases_eq}
use Rattle.std.specs.Cmp.{unsigned_tied}
use Rattle.std.proofs.lemmas.List.Sums.{sum_by-cons}
use Rattle.orca_names.proofs.ThingOrder.{is_self, is_eq_true, is_ne_false, cases_thing, thing_total}
use Rattle.letter_kinds.specs.Counting.{with_row_count, set_own, raise, lower, set_held, gain, spend, receive_one, receive, send_one, send}
use Rattle.letter_kinds.specs.Holdings.{Holdings, Row, own_in, held_in, has_own, row_count, entry_row}
use Rattle.letter_kinds.specs.Sums.{amount_of, times_loaded}
use Rattle.orca_names.specs.Names.{owner_of}
use Rattle.orca_names.specs.declared.names.ObjName.{ObjName}
use Rattle.orca_names.specs.declared.names.Thing.{Thing}
use Rattle.orca_names.specs.declared.names.Thing.TheVariants.{Actor, Obj}

pub cond_eq : {A : Type 0} (a b : ℕ) (x y : A) → a ≡ b → cond (a == b) x y ≡ x
cond_eq a b x y e = rw (eq-eqb a b e) refl

pub cond_ne : {A : Type 0} (a b : ℕ) (x y : A) → a ≢ b → cond (a == b) x y ≡ y
cond_ne a b x y n = rw (ne_eqb a b n) refl

pub amount-nil : (x : Thing) → amount_of x [] ≡ 0
unfolding amount_of
amount-nil x = refl

pub amount-same : (x : Thing) (e : Thing × ℕ) (es : List (Thing × ℕ)) → x ≡ e.0 → amount_of x (e ∷ es) ≡ e.1 + amount_of x es
unfolding amount_of
amount-same x e es h = sum_by-cons _ e es ∙ rw (is_eq_true x e.0 h) refl

pub amount-other : (x : Thing) (e : Thing × ℕ) (es : List (Thing × ℕ)) → x ≢ e.0 → amount_of x (e ∷ es) ≡ amount_of x es
unfolding amount_of
amount-other x e es h = sum_by-cons _ e es ∙ rw (is_ne_false x e.0 h) (omega arith)

pub loaded-nil : (x : Thing) → times_loaded x [] ≡ 0
unfolding times_loaded
loaded-nil x = refl

pub loaded-same : (x : Thing) (e : Thing × Option Row) (es : List (Thing × Option Row)) → x ≡ e.0 → times_loaded x (e ∷ es) ≡ 1 + times_loaded x es
unfolding times_loaded
loaded-same x e es h = sum_by-cons _ e es ∙ rw (is_eq_true x e.0 h) refl

pub loaded-other : (x : Thing) (e : Thing × Option Row) (es : List (Thing × Option Row)) → x ≢ e.0 → times_loaded x (e ∷ es) ≡ times_loaded x es
unfolding times_loaded
loaded-other x e es h = sum_by-cons _ e es ∙ rw (is_ne_false x e.0 h) (omega arith)

pub loaded_more : (x : Thing) (e : Thing × Option Row) (es : List (Thing × Option Row)) → 0 < times_loaded x es → 0 < times_loaded x (e ∷ es)
loaded_more x e es h = ⊎_elim (λ is. let t = loaded-same x e es is in omega arith) (λ not. let t = loaded-other x e es not in omega arith) (cases_thing x e.0)

-- rows: what `get` says after a count was set
row_set_same : (rows : m.FinMap nat_cmp (Row × ℕ)) (k : ℕ) (f : ℕ → ℕ) (o : Option (Row × ℕ)) → m.get rows k ≡ o
    → (f 0 ≡ 0) ⊎ (is_some o ≡ true) → row_count (m.get (with_row_count rows k f o) k) ≡ f (row_count o)
row_set_same rows k f None e (inl z) = rw e (sym z)
row_set_same rows k f None e (inr z) = cc
row_set_same rows k f (Some r) e h = rw (m.get-insert nat_cmp_total) (rw (eq_by_self k) refl)
  where
    eq_by_self : (n : ℕ) → eq_by_cmp nat_cmp n n ≡ true
    eq_by_self n = search arith

row_set_other : (rows : m.FinMap nat_cmp (Row × ℕ)) (k : ℕ) (f : ℕ → ℕ) (o : Option (Row × ℕ)) (n : ℕ) → n ≢ k
    → m.get (with_row_count rows k f o) n ≡ m.get rows n
row_set_other rows k f None n h = refl
row_set_other rows k f (Some r) n h = rw (m.get-insert nat_cmp_total) (rw (unsigned_tied n k, ne_eqb n k h) refl)

pub own_set_same : (f : ℕ → ℕ) (x : Thing) (c : Holdings) → (f 0 ≡ 0) ⊎ (has_own c x ≡ true) → own_in (set_own f x c) x ≡ f (own_in c x)
unfolding own_in set_own has_own
own_set_same f (Actor a) c h = refl
own_set_same f (Obj n) c h = row_set_same c.rows n.serial f _ refl h

row_counted : (o : Option (Row × ℕ)) → 0 < row_count o → is_some o ≡ true
row_counted None h = absurd (omega arith)
row_counted (Some e) h = refl

-- what is counted is there
pub counted_has : (c : Holdings) (x : Thing) → 0 < own_in c x → has_own c x ≡ true
unfolding own_in has_own
counted_has c (Actor a) h = refl
counted_has c (Obj n) h = row_counted _ h

row_kept : (rows : m.FinMap nat_cmp (Row × ℕ)) (k : ℕ) (f : ℕ → ℕ) (o : Option (Row × ℕ)) → m.get rows k ≡ o → is_some (m.get (with_row_count rows k f o) k) ≡ is_some o
row_kept rows k f None e = rw e refl
row_kept rows k f (Some r) e = rw (m.get-insert nat_cmp_total) (rw (unsigned_tied k k, eq-eqb k k refl) refl)

pub has_set_own : (f : ℕ → ℕ) (x y : Thing) (c : Holdings) → has_own (set_own f y c) x ≡ has_own c x
unfolding has_own set_own
has_set_own f (Actor a) y c = refl
has_set_own f (Obj n) (Actor b) c = refl
has_set_own f (Obj n) (Obj q) c = ⊎_elim
    (λ e. rw e (row_kept c.rows q.serial f _ refl))
    (λ other. ap is_some (row_set_other c.rows q.serial f _ n.serial other))
    (cases_eq n.serial q.serial)

pub has_set_held : (f : ℕ → ℕ) (x y : Thing) (r : Option Row) (c : Holdings) → has_own (set_held f y r c) x ≡ has_own c x
unfolding has_own set_held
has_set_held f (Actor a) y r c = refl
has_set_held f (Obj n) y r c = refl

pub own_set_at : (f : ℕ → ℕ) (x y : Thing) (c : Holdings) → x ≡ y → (f 0 ≡ 0) ⊎ (has_own c x ≡ true) → own_in (set_own f y c) x ≡ f (own_in c x)
own_set_at f x y c e h = rw (← e) (own_set_same f x c h)

same_object : (p q : ObjName) → p.owner ≡ q.owner → p.serial ≡ q.serial → Obj p ≡ Obj q
same_object p q o e i = Obj (record { owner = o i; serial = e i })

pub own_set_other : (f : ℕ → ℕ) (x y : Thing) (c : Holdings) → owner_of x ≡ owner_of y → x ≢ y → own_in (set_own f y c) x ≡ own_in c x
unfolding own_in set_own
own_set_other f (Actor a) (Actor b) c o n = absurd (n (ap Actor o))
own_set_other f (Actor a) (Obj q) c o n = refl
own_set_other f (Obj q) (Actor b) c o n = refl
own_set_other f (Obj p) (Obj q) c o n = ap row_count (row_set_other c.rows q.serial f _ p.serial (λ e. n (same_object p q o e)))

pub held_set_own : (f : ℕ → ℕ) (x y : Thing) (c : Holdings) → held_in (set_own f y c) x ≡ held_in c x
unfolding held_in set_own
held_set_own f x (Actor b) c = refl
held_set_own f x (Obj n) c = refl

pub own_set_held : (f : ℕ → ℕ) (x y : Thing) (r : Option Row) (c : Holdings) → own_in (set_held f y r c) x ≡ own_in c x
unfolding own_in set_held
own_set_held f (Actor a) y r c = refl
own_set_held f (Obj n) y r c = refl

pub held_set_same : (f : ℕ → ℕ) (x y : Thing) (r : Option Row) (c : Holdings) → x ≡ y → held_in (set_held f y r c) x ≡ f (held_in c x)
unfolding held_in set_held
held_set_same f x y r c e = rw e (rw (m.get-insert thing_total) (rw (is_self y) refl))

pub held_set_other : (f : ℕ → ℕ) (x y : Thing) (r : Option Row) (c : Holdings) → x ≢ y → held_in (set_held f y r c) x ≡ held_in c x
unfolding held_in set_held
held_set_other f x y r c n = rw (m.get-insert thing_total) (rw (is_ne_false x y n) refl)

-- ---- receiving a load
own_one : (me : ℕ) (x : Thing) (e : Thing × Option Row) (es : List (Thing × Option Row)) (c : Holdings) → owner_of x ≡ me
    → own_in (receive_one me e c) x - times_loaded x es ≡ own_in c x - times_loaded x (e ∷ es)
own_one me x e es c o = ⊎_elim
    (λ same. ⊎_elim
    (λ is. let t = loaded-same x e es is in let u = own_set_at (λ h. h - 1) x e.0 c is (inl refl) in
    rw (cond_eq (owner_of e.0) me _ _ same) (omega arith))
    (λ not. let t = loaded-other x e es not in let u = own_set_other (λ h. h - 1) x e.0 c (cc) not in
    rw (cond_eq (owner_of e.0) me _ _ same) (omega arith))
    (cases_thing x e.0))
    (λ apart.
    let not : x ≢ e.0 = λ is. apart (ap owner_of (sym is) ∙ o) in
    let t = loaded-other x e es not in
    rw (cond_ne (owner_of e.0) me (lower 1 e.0 c) (gain 1 e.0 e.1 c) apart) (omega (arith, own_set_held (λ h. h + 1) x e.0 e.1 c)))
    (cases_eq (owner_of e.0) me)

pub own-receive : (me : ℕ) (x : Thing) (es : List (Thing × Option Row)) (c : Holdings) → owner_of x ≡ me → own_in (receive me es c) x ≡ own_in c x - times_loaded x es
unfolding receive
own-receive me x [] c o = omega (arith, loaded-nil x)
own-receive me x (e ∷ es) c o = own-receive me x es (receive_one me e c) o ∙ own_one me x e es c o

held_one : (me : ℕ) (x : Thing) (e : Thing × Option Row) (es : List (Thing × Option Row)) (c : Holdings) → owner_of x ≢ me
    → held_in (receive_one me e c) x + times_loaded x es ≡ held_in c x + times_loaded x (e ∷ es)
held_one me x e es c o = ⊎_elim
    (λ same.
    let not : x ≢ e.0 = λ is. o (ap owner_of is ∙ same) in
    let t = loaded-other x e es not in
    rw (cond_eq (owner_of e.0) me (lower 1 e.0 c) (gain 1 e.0 e.1 c) same) (omega (arith, held_set_own (λ h. h - 1) x e.0 c)))
    (λ apart. ⊎_elim
    (λ is. let t = loaded-same x e es is in let u = held_set_same (λ h. h + 1) x e.0 e.1 c is in
    rw (cond_ne (owner_of e.0) me (lower 1 e.0 c) (gain 1 e.0 e.1 c) apart) (omega arith))
    (λ not. let t = loaded-other x e es not in let u = held_set_other (λ h. h + 1) x e.0 e.1 c not in
    rw (cond_ne (owner_of e.0) me (lower 1 e.0 c) (gain 1 e.0 e.1 c) apart) (omega arith))
    (cases_thing x e.0))
    (cases_eq (owner_of e.0) me)

pub held-receive : (me : ℕ) (x : Thing) (es : List (Thing × Option Row)) (c : Holdings) → owner_of x ≢ me → held_in (receive me es c) x ≡ held_in c x + times_loaded x es
unfolding receive
held-receive me x [] c o = omega (arith, loaded-nil x)
held-receive me x (e ∷ es) c o = omega (arith, held-receive me x es (receive_one me e c) o, held_one me x e es c o)

-- a thing of one's own: nothing changes in the foreign table
held_own_one : (me : ℕ) (x : Thing) (e : Thing × Option Row) (c : Holdings) → owner_of x ≡ me → held_in (receive_one me e c) x ≡ held_in c x
held_own_one me x e c o = ⊎_elim
    (λ same. rw (cond_eq (owner_of e.0) me (lower 1 e.0 c) (gain 1 e.0 e.1 c) same) (held_set_own (λ h. h - 1) x e.0 c))
    (λ apart.
    let not : x ≢ e.0 = λ is. apart (ap owner_of (sym is) ∙ o) in
    rw (cond_ne (owner_of e.0) me (lower 1 e.0 c) (gain 1 e.0 e.1 c) apart) (held_set_other (λ h. h + 1) x e.0 e.1 c not))
    (cases_eq (owner_of e.0) me)

pub held-receive_own : (me : ℕ) (x : Thing) (es : List (Thing × Option Row)) (c : Holdings) → owner_of x ≡ me → held_in (receive me es c) x ≡ held_in c x
unfolding receive
held-receive_own me x [] c o = refl
held-receive_own me x (e ∷ es) c o = held-receive_own me x es (receive_one me e c) o ∙ held_own_one me x e c o

-- ---- sending a load: for each thing of it that is mine the count is there, and the foreign counts are enough
send_own_one : (me : ℕ) (x : Thing) (e : Thing × Option Row) (es : List (Thing × Option Row)) (c : Holdings) → owner_of x ≡ me
    → (0 < times_loaded x (e ∷ es) → has_own c x ≡ true) → own_in (send_one me e c) x + times_loaded x es ≡ own_in c x + times_loaded x (e ∷ es)
send_own_one me x e es c o has = ⊎_elim
    (λ same. ⊎_elim
    (λ is. let t = loaded-same x e es is in let u = own_set_at (λ h. h + 1) x e.0 c is (inr (has (omega arith))) in
    rw (cond_eq (owner_of e.0) me (raise 1 e.0 c) (spend 1 e.0 c) same) (omega arith))
    (λ not. let t = loaded-other x e es not in let u = own_set_other (λ h. h + 1) x e.0 c (cc) not in
    rw (cond_eq (owner_of e.0) me (raise 1 e.0 c) (spend 1 e.0 c) same) (omega arith))
    (cases_thing x e.0))
    (λ apart.
    let not : x ≢ e.0 = λ is. apart (ap owner_of (sym is) ∙ o) in
    let t = loaded-other x e es not in
    rw (cond_ne (owner_of e.0) me (raise 1 e.0 c) (spend 1 e.0 c) apart) (omega (arith, own_set_held (λ h. h - 1) x e.0 (entry_row (m.get c.foreign e.0)) c)))
    (cases_eq (owner_of e.0) me)

send_has_one : (me : ℕ) (x : Thing) (e : Thing × Option Row) (c : Holdings) → owner_of x ≡ me → has_own (send_one me e c) x ≡ has_own c x
send_has_one me x e c o = ⊎_elim
    (λ same. rw (cond_eq (owner_of e.0) me (raise 1 e.0 c) (spend 1 e.0 c) same) (has_set_own (λ h. h + 1) x e.0 c))
    (λ apart. rw (cond_ne (owner_of e.0) me (raise 1 e.0 c) (spend 1 e.0 c) apart) (has_set_held (λ h. h - 1) x e.0 (entry_row (m.get c.foreign e.0)) c))
    (cases_eq (owner_of e.0) me)

pub own-send : (me : ℕ) (x : Thing) (es : List (Thing × Option Row)) (c : Holdings) → owner_of x ≡ me → (0 < times_loaded x es → has_own c x ≡ true)
    → own_in (send me es c) x ≡ own_in c x + times_loaded x es
unfolding send
own-send me x [] c o has = omega (arith, loaded-nil x)
own-send me x (e ∷ es) c o has =
    let one = send_own_one me x e es c o has in
    let more = own-send me x es (send_one me e c) o (λ h. send_has_one me x e c o ∙ has (loaded_more x e es h)) in
    omega arith

pub held_one_sent : (me : ℕ) (x : Thing) (e : Thing × Option Row) (es : List (Thing × Option Row)) (c : Holdings) → owner_of x ≢ me
    → held_in (send_one me e c) x - times_loaded x es ≡ held_in c x - times_loaded x (e ∷ es)
held_one_sent me x e es c o = ⊎_elim
    (λ same.
    let not : x ≢ e.0 = λ is. o (ap owner_of is ∙ same) in
    let t = loaded-other x e es not in
    rw (cond_eq (owner_of e.0) me (raise 1 e.0 c) (spend 1 e.0 c) same) (omega (arith, held_set_own (λ h. h + 1) x e.0 c)))
    (λ apart. ⊎_elim
    (λ is. let t = loaded-same x e es is in let u = held_set_same (λ h. h - 1) x e.0 (entry_row (m.get c.foreign e.0)) c is in
    rw (cond_ne (owner_of e.0) me (raise 1 e.0 c) (spend 1 e.0 c) apart) (omega arith))
    (λ not. let t = loaded-other x e es not in let u = held_set_other (λ h. h - 1) x e.0 (entry_row (m.get c.foreign e.0)) c not in
    rw (cond_ne (owner_of e.0) me (raise 1 e.0 c) (spend 1 e.0 c) apart) (omega arith))
    (cases_thing x e.0))
    (cases_eq (owner_of e.0) me)

pub held-send : (me : ℕ) (x : Thing) (es : List (Thing × Option Row)) (c : Holdings) → owner_of x ≢ me → held_in (send me es c) x ≡ held_in c x - times_loaded x es
unfolding send
held-send me x [] c o = omega (arith, loaded-nil x)
held-send me x (e ∷ es) c o = held-send me x es (send_one me e c) o ∙ held_one_sent me x e es c o

held_own_one_sent : (me : ℕ) (x : Thing) (e : Thing × Option Row) (c : Holdings) → owner_of x ≡ me → held_in (send_one me e c) x ≡ held_in c x
held_own_one_sent me x e c o = ⊎_elim
    (λ same. rw (cond_eq (owner_of e.0) me (raise 1 e.0 c) (spend 1 e.0 c) same) (held_set_own (λ h. h + 1) x e.0 c))
    (λ apart.
    let not : x ≢ e.0 = λ is. apart (ap owner_of (sym is) ∙ o) in
    rw (cond_ne (owner_of e.0) me (raise 1 e.0 c) (spend 1 e.0 c) apart) (held_set_other (λ h. h - 1) x e.0 (entry_row (m.get c.foreign e.0)) c not))
    (cases_eq (owner_of e.0) me)

pub held-send_own : (me : ℕ) (x : Thing) (es : List (Thing × Option Row)) (c : Holdings) → owner_of x ≡ me → held_in (send me es c) x ≡ held_in c x
unfolding send
held-send_own me x [] c o = refl
held-send_own me x (e ∷ es) c o = held-send_own me x es (send_one me e c) o ∙ held_own_one_sent me x e c o

pub has_actor : (h : Holdings) (a : ℕ) → has_own h (Actor a) ≡ true
unfolding has_own
has_actor h a = refl
