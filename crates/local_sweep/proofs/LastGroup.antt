-- One amount more in groups of owners.
use Rattle.std.proofs.Common.{◌≡◌, ◌≢◌, ℕ, zero, suc, ◌-◌, ◌<◌, Bool, true, false, cond, eqb, List, [], ◌∷◌, ◌++◌, length, get_or, set, refl, sym, ap, ◌∙◌, arith}
use Rattle.std.proofs.lemmas.Bool.{eq-eqb, eqb-true, ne_eqb}
use Rattle.orca_names.specs.Names.{owner_of}
use Rattle.letter_kinds.specs.Counting.{Amount, by_owner, join_owner}

abbrev pub Groups : Type 0
Groups = List (ℕ × List Amount)

-- the amount joins the last group, or is a new one
abbrev with_last : Amount → Groups → Groups
with_last e [] = (owner_of e.0, e ∷ []) ∷ []
with_last e (g ∷ []) = cond (eqb (owner_of e.0) g.0) ((g.0, g.1 ++ e ∷ []) ∷ []) (g ∷ (owner_of e.0, e ∷ []) ∷ [])
with_last e (g ∷ h ∷ gs) = g ∷ with_last e (h ∷ gs)

join_last : (x e : Amount) (gs : Groups) → join_owner x (with_last e gs) ≡ with_last e (join_owner x gs)
join_last x e [] = by_test (eqb (owner_of x.0) (owner_of e.0)) (eqb (owner_of e.0) (owner_of x.0)) refl refl
  where
    by_test : (a b : Bool) → eqb (owner_of x.0) (owner_of e.0) ≡ a → eqb (owner_of e.0) (owner_of x.0) ≡ b
        → cond {A = Groups} a ((owner_of e.0, x ∷ e ∷ []) ∷ []) ((owner_of x.0, x ∷ []) ∷ (owner_of e.0, e ∷ []) ∷ []) ≡ cond {A = Groups} b ((owner_of x.0, x ∷ e ∷ []) ∷ []) ((owner_of x.0, x ∷ []) ∷ (owner_of e.0, e ∷ []) ∷ [])
    by_test true true s t = ap (λ o. (o, x ∷ e ∷ []) ∷ []) (eqb-true (owner_of e.0) (owner_of x.0) t)
    by_test true false s t = absurd (let same = eq-eqb (owner_of e.0) (owner_of x.0) (sym (eqb-true (owner_of x.0) (owner_of e.0) s)) in let no : true ≡ false = sym same ∙ t in cc)
    by_test false true s t = absurd (let same = eq-eqb (owner_of x.0) (owner_of e.0) (sym (eqb-true (owner_of e.0) (owner_of x.0) t)) in let no : true ≡ false = sym same ∙ s in cc)
    by_test false false s t = refl
join_last x e (g ∷ []) = by_test (eqb (owner_of e.0) g.0) (eqb (owner_of x.0) g.0) refl refl
  where
    by_test : (a b : Bool) → eqb (owner_of e.0) g.0 ≡ a → eqb (owner_of x.0) g.0 ≡ b → join_owner x (cond (eqb (owner_of e.0) g.0) ((g.0, g.1 ++ e ∷ []) ∷ []) (g ∷ (owner_of e.0, e ∷ []) ∷ [])) ≡ with_last e (cond (eqb (owner_of x.0) g.0) ((g.0, x ∷ g.1) ∷ []) ((owner_of x.0, x ∷ []) ∷ g ∷ []))
    by_test true true s t = rw (s, t) (rw s refl)
    by_test true false s t = rw (s, t) (rw s refl)
    by_test false true s t = rw (s, t) (rw s refl)
    by_test false false s t = rw (s, t) (rw s refl)
join_last x e (g ∷ h ∷ gs) = elim (eqb (owner_of x.0) g.0) as (λ b. cond b ((g.0, x ∷ g.1) ∷ with_last e (h ∷ gs)) ((owner_of x.0, x ∷ []) ∷ g ∷ with_last e (h ∷ gs)) ≡ with_last e (cond b ((g.0, x ∷ g.1) ∷ h ∷ gs) ((owner_of x.0, x ∷ []) ∷ g ∷ h ∷ gs))) [
  | true ↦ refl
  | false ↦ refl
]

by_owner-push : (xs : List Amount) (e : Amount) → by_owner (xs ++ e ∷ []) ≡ with_last e (by_owner xs)
unfolding by_owner
by_owner-push [] e = refl
by_owner-push (x ∷ xs) e = ap (join_owner x) (by_owner-push xs e) ∙ join_last x e (by_owner xs)

joined : (e : Amount) (gs : Groups) (n : ℕ) (g : ℕ × List Amount) → suc n ≡ length gs → g ≡ get_or gs n g → g.0 ≡ owner_of e.0 → with_last e gs ≡ set gs n (g.0, g.1 ++ e ∷ [])
joined e [] n g l is own = absurd (omega arith)
joined e (f ∷ []) zero g l is own = ap (λ b. cond b ((f.0, f.1 ++ e ∷ []) ∷ []) (f ∷ (owner_of e.0, e ∷ []) ∷ [])) (eq-eqb (owner_of e.0) f.0 (sym own ∙ ap (λ x. x.0) is)) ∙ ap (λ x. (x.0, x.1 ++ e ∷ []) ∷ []) (sym is)
joined e (f ∷ []) (suc n) g l is own = absurd (omega arith)
joined e (f ∷ h ∷ gs) zero g l is own = absurd (omega arith)
joined e (f ∷ h ∷ gs) (suc n) g l is own = ap (λ xs. f ∷ xs) (joined e (h ∷ gs) n g (omega arith) is own)

opened : (e : Amount) (gs : Groups) (n : ℕ) → suc n ≡ length gs → ((d : ℕ × List Amount) → (get_or gs n d).0 ≢ owner_of e.0) → with_last e gs ≡ gs ++ (owner_of e.0, e ∷ []) ∷ []
opened e [] n l other = absurd (omega arith)
opened e (f ∷ []) zero l other = ap (λ b. cond b ((f.0, f.1 ++ e ∷ []) ∷ []) (f ∷ (owner_of e.0, e ∷ []) ∷ [])) (ne_eqb (owner_of e.0) f.0 (λ same. other f (sym same)))
opened e (f ∷ []) (suc n) l other = absurd (omega arith)
opened e (f ∷ h ∷ gs) zero l other = absurd (omega arith)
opened e (f ∷ h ∷ gs) (suc n) l other = ap (λ xs. f ∷ xs) (opened e (h ∷ gs) n (omega arith) other)

opened_any : (e : Amount) (gs : Groups) → (0 < length gs → (d : ℕ × List Amount) → (get_or gs (length gs - 1) d).0 ≢ owner_of e.0) → with_last e gs ≡ gs ++ (owner_of e.0, e ∷ []) ∷ []
opened_any e [] other = refl
opened_any e (f ∷ gs) other = opened e (f ∷ gs) (length (f ∷ gs) - 1) (omega arith) (other (omega arith))

-- where the last group is its owner's
pub pushed_to_last : (given : List Amount) (e : Amount) (gs : Groups) (g : ℕ × List Amount) → gs ≡ by_owner given → 0 < length gs → g ≡ get_or gs (length gs - 1) g → g.0 ≡ owner_of e.0
    → set gs (length gs - 1) (g.0, g.1 ++ e ∷ []) ≡ by_owner (given ++ e ∷ [])
pushed_to_last given e gs g is l at own = sym (joined e gs (length gs - 1) g (omega arith) at own) ∙ ap (with_last e) is ∙ sym (by_owner-push given e)

-- where it is not
pub pushed_behind : (given : List Amount) (e : Amount) (gs : Groups) → gs ≡ by_owner given → (0 < length gs → (d : ℕ × List Amount) → (get_or gs (length gs - 1) d).0 ≢ owner_of e.0)
    → gs ++ (owner_of e.0, e ∷ []) ∷ [] ≡ by_owner (given ++ e ∷ [])
pushed_behind given e gs is other = sym (opened_any e gs other) ∙ ap (with_last e) is ∙ sym (by_owner-push given e)
