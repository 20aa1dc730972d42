-- What increments, decrements and minting do to each count.
use Rattle.std.proofs.Common.{◌≡◌, ◌⊎◌, ℕ, suc, zero, ◌+◌, ◌-◌, ◌<◌, ◌==◌, Bool, true, false, cond, List, [], ◌∷◌, refl, ap, sym, ◌∙◌, arith, inl, inr, ⊎_elim}
use Rattle.std.specs.FinMap as m
use Rattle.std.proofs.lemmas.Bool.{cases_eq}
use Rattle.orca_names.proofs.ThingOrder.{cases_thing}
use Rattle.letter_kinds.proofs.Counts.{amount-nil, amount-same, amount-other, own_set_at, own_set_other, held_set_own, own_set_held, held_set_same, held_set_other, has_set_own, cond_eq, cond_ne}
use Rattle.letter_kinds.specs.Counting.{raise, lower, mint_one, raise_all, lower_all, mint_all}
use Rattle.letter_kinds.specs.Holdings.{Holdings, own_in, held_in, has_own, entry_row}
use Rattle.letter_kinds.specs.Sums.{amount_of}
use Rattle.orca_names.specs.Names.{owner_of}
use Rattle.orca_names.specs.declared.names.Thing.{Thing}

pub amount_more : (x : Thing) (e : Thing × ℕ) (es : List (Thing × ℕ)) → 0 < amount_of x es → 0 < amount_of x (e ∷ es)
amount_more x e es h = ⊎_elim (λ is. let t = amount-same x e es is in omega arith) (λ not. let t = amount-other x e es not in omega arith) (cases_thing x e.0)

pub zero_or : (n : ℕ) → (n ≡ 0) ⊎ (0 < n)
zero_or zero = inl refl
zero_or (suc n) = inr (omega arith)

-- ---- lowering
lowered_one : (me : ℕ) (x : Thing) (e : Thing × ℕ) (es : List (Thing × ℕ)) (c : Holdings) → owner_of x ≡ me
    → own_in (cond (owner_of e.0 == me) (lower e.1 e.0 c) c) x - amount_of x es ≡ own_in c x - amount_of x (e ∷ es)
lowered_one me x e es c o = ⊎_elim
    (λ is. let t = amount-same x e es is in let u = own_set_at (λ h. h - e.1) x e.0 c is (inl (omega arith)) in
    rw (cond_eq (owner_of e.0) me (lower e.1 e.0 c) c (ap owner_of (sym is) ∙ o)) (omega arith))
    (λ not. let t = amount-other x e es not in ⊎_elim
    (λ same. let u = own_set_other (λ h. h - e.1) x e.0 c (o ∙ sym same) not in
    rw (cond_eq (owner_of e.0) me (lower e.1 e.0 c) c same) (omega arith))
    (λ apart. rw (cond_ne (owner_of e.0) me (lower e.1 e.0 c) c apart) (omega arith))
    (cases_eq (owner_of e.0) me))
    (cases_thing x e.0)

pub own-lower_all : (me : ℕ) (x : Thing) (es : List (Thing × ℕ)) (c : Holdings) → owner_of x ≡ me → own_in (lower_all me es c) x ≡ own_in c x - amount_of x es
unfolding lower_all
own-lower_all me x [] c o = omega (arith, amount-nil x)
own-lower_all me x (e ∷ es) c o = own-lower_all me x es _ o ∙ lowered_one me x e es c o

held_lowered_one : (me n : ℕ) (x y : Thing) (c : Holdings) (b : Bool) → held_in (cond b (lower n y c) c) x ≡ held_in c x
held_lowered_one me n x y c true = held_set_own (λ h. h - n) x y c
held_lowered_one me n x y c false = refl

pub held-lower_all : (me : ℕ) (x : Thing) (es : List (Thing × ℕ)) (c : Holdings) → held_in (lower_all me es c) x ≡ held_in c x
unfolding lower_all
held-lower_all me x [] c = refl
held-lower_all me x (e ∷ es) c = held-lower_all me x es _ ∙ held_lowered_one me e.1 x e.0 c (owner_of e.0 == me)

-- ---- raising
raised_one : (me : ℕ) (x : Thing) (e : Thing × ℕ) (es : List (Thing × ℕ)) (c : Holdings) → owner_of x ≡ me → (0 < amount_of x (e ∷ es) → has_own c x ≡ true)
    → own_in (cond (owner_of e.0 == me) (raise e.1 e.0 c) c) x + amount_of x es ≡ own_in c x + amount_of x (e ∷ es)
raised_one me x e es c o has = ⊎_elim
    (λ is. let t = amount-same x e es is in ⊎_elim
    (λ none. let u = own_set_at (λ h. h + e.1) x e.0 c is (inl (omega arith)) in
    rw (cond_eq (owner_of e.0) me (raise e.1 e.0 c) c (ap owner_of (sym is) ∙ o)) (omega arith))
    (λ some. let u = own_set_at (λ h. h + e.1) x e.0 c is (inr (has (omega arith))) in
    rw (cond_eq (owner_of e.0) me (raise e.1 e.0 c) c (ap owner_of (sym is) ∙ o)) (omega arith))
    (zero_or e.1))
    (λ not. let t = amount-other x e es not in ⊎_elim
    (λ same. let u = own_set_other (λ h. h + e.1) x e.0 c (o ∙ sym same) not in
    rw (cond_eq (owner_of e.0) me (raise e.1 e.0 c) c same) (omega arith))
    (λ apart. rw (cond_ne (owner_of e.0) me (raise e.1 e.0 c) c apart) (omega arith))
    (cases_eq (owner_of e.0) me))
    (cases_thing x e.0)

has_raised_one : (me n : ℕ) (x y : Thing) (c : Holdings) → owner_of x ≡ me → has_own (cond (owner_of y == me) (raise n y c) c) x ≡ has_own c x
has_raised_one me n x y c o = ⊎_elim
    (λ same. rw (cond_eq (owner_of y) me (raise n y c) c same) (has_set_own (λ h. h + n) x y c))
    (λ apart. rw (cond_ne (owner_of y) me (raise n y c) c apart) refl)
    (cases_eq (owner_of y) me)

pub own-raise_all : (me : ℕ) (x : Thing) (es : List (Thing × ℕ)) (c : Holdings) → owner_of x ≡ me → (0 < amount_of x es → has_own c x ≡ true) → own_in (raise_all me es c) x ≡ own_in c x + amount_of x es
unfolding raise_all
own-raise_all me x [] c o has = omega (arith, amount-nil x)
own-raise_all me x (e ∷ es) c o has =
    let one = raised_one me x e es c o has in
    let more = own-raise_all me x es _ o (λ h. has_raised_one me e.1 x e.0 c o ∙ has (amount_more x e es h)) in
    omega arith

held_raised_one : (n : ℕ) (x y : Thing) (c : Holdings) (b : Bool) → held_in (cond b (raise n y c) c) x ≡ held_in c x
held_raised_one n x y c true = held_set_own (λ h. h + n) x y c
held_raised_one n x y c false = refl

pub held-raise_all : (me : ℕ) (x : Thing) (es : List (Thing × ℕ)) (c : Holdings) → held_in (raise_all me es c) x ≡ held_in c x
unfolding raise_all
held-raise_all me x [] c = refl
held-raise_all me x (e ∷ es) c = held-raise_all me x es _ ∙ held_raised_one e.1 x e.0 c (owner_of e.0 == me)

-- ---- minting
pub held-mint_all : (x : Thing) (es : List (Thing × ℕ)) (c : Holdings) → held_in (mint_all es c) x ≡ held_in c x + amount_of x es
unfolding mint_all
held-mint_all x [] c = omega (arith, amount-nil x)
held-mint_all x (e ∷ es) c =
    let more = held-mint_all x es (mint_one e c) in
    let r = entry_row (m.get c.foreign e.0) in
    ⊎_elim
    (λ is. let t = amount-same x e es is in let u = held_set_same (λ h. h + e.1) x e.0 r c is in omega arith)
    (λ not. let t = amount-other x e es not in let u = held_set_other (λ h. h + e.1) x e.0 r c not in omega arith)
    (cases_thing x e.0)

pub own-mint_all : (x : Thing) (es : List (Thing × ℕ)) (c : Holdings) → own_in (mint_all es c) x ≡ own_in c x
unfolding mint_all
own-mint_all x [] c = refl
own-mint_all x (e ∷ es) c = own-mint_all x es (mint_one e c) ∙ own_set_held (λ h. h + e.1) x e.0 (entry_row (m.get c.foreign e.0)) c
