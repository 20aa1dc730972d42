-- The counts that an actor reports are those that it holds on actors.
use Rattle.std.proofs.Common.{◌≡◌, ◌≢◌, ℕ, ◌+◌, ◌==◌, T, if◌then◌else◌, Option, List, [], ◌∷◌, filter_map, refl, ap, sym, subst, ◌∙◌, arith, ⊎_elim, eq-eqb, ne_eqb}
use Rattle.std.specs.FinMap as m
use Rattle.std.specs.FinMap.Entries.{below_all}
use Rattle.std.proofs.lemmas.Bool.{cases_eq}
use Rattle.std.proofs.lemmas.List.Sums.{sum_by-cons}
use Rattle.orca_names.proofs.ThingOrder.{is_eq_true, is_ne_false}
use Rattle.orca_names.specs.Names.{owner_of, thing_cmp}
use Rattle.orca_names.specs.declared.names.Thing.{Thing}
use Rattle.orca_names.specs.declared.names.Thing.TheVariants.{Actor, Obj}
use Rattle.letter_kinds.specs.Holdings.{Holdings, Row, entry_count, held_in}
use Rattle.letter_kinds.specs.Reports.{count_on}
use Rattle.count_laws.proofs.balance.Sweeping.{both_true, not_above}
use Rattle.machine_rules.specs.Block.{actor_entry, held_actors}

-- the counts on actors, of entries
abbrev told : List (Thing × (ℕ × Option Row)) → List (ℕ × ℕ)
told es = filter_map actor_entry es

count-same : (x b n : ℕ) (rest : List (ℕ × ℕ)) → b ≡ x → count_on ((b, n) ∷ rest) x ≡ n + count_on rest x
count-same x b n rest e = sum_by-cons (λ (q : ℕ × ℕ). if q.0 == x then q.1 else 0) (b, n) rest ∙ rw (eq-eqb b x e) refl

count-other : (x b n : ℕ) (rest : List (ℕ × ℕ)) → b ≢ x → count_on ((b, n) ∷ rest) x ≡ count_on rest x
count-other x b n rest d = sum_by-cons (λ (q : ℕ × ℕ). if q.0 == x then q.1 else 0) (b, n) rest ∙ rw (ne_eqb b x d) (nothing (count_on rest x))
  where
    nothing : (n : ℕ) → 0 + n ≡ n
    nothing n = omega arith

told-above : (x : ℕ) (es : List (Thing × (ℕ × Option Row))) → T (below_all thing_cmp (Actor x) es) → count_on (told es) x ≡ 0
told-above x [] h = refl
told-above x ((Actor b, v) ∷ es) h =
    let parts = both_true _ _ h in
    count-other x b v.0 (told es) (λ e. not_above (Actor x) (Actor b) parts.0 (ap Actor (sym e))) ∙ told-above x es parts.1
told-above x ((Obj n, v) ∷ es) h = told-above x es (both_true _ _ h).1

told-find : (x : ℕ) (es : List (Thing × (ℕ × Option Row))) → T (m.is_sorted thing_cmp es) → count_on (told es) x ≡ entry_count (m.find thing_cmp (Actor x) es)
told-find x [] h = refl
told-find x ((Actor b, v) ∷ es) h =
    let parts = both_true _ _ h in
    ⊎_elim
    (λ same.
    let above : T (below_all thing_cmp (Actor x) es) = subst (λ (i : ℕ). T (below_all thing_cmp (Actor i) es)) same parts.0 in
    count-same x b v.0 (told es) same ∙ rw (is_eq_true (Actor x) (Actor b) (ap Actor (sym same))) (let z = told-above x es above in omega arith))
    (λ other. count-other x b v.0 (told es) other ∙ told-find x es parts.1 ∙ sym (rw (is_ne_false (Actor x) (Actor b) (λ e. other (sym (ap owner_of e)))) refl))
    (cases_eq b x)
told-find x ((Obj n, v) ∷ es) h = told-find x es (both_true _ _ h).1 ∙ sym (rw (is_ne_false (Actor x) (Obj n) (λ e. cc)) refl)

pub count_on-held_actors : (h : Holdings) (x : ℕ) → count_on (held_actors h) x ≡ held_in h (Actor x)
unfolding held_in
count_on-held_actors h x = told-find x (m.entries h.foreign) (m.entries_sorted h.foreign) ∙ ap entry_count (sym (m.get-entries h.foreign (Actor x)))
