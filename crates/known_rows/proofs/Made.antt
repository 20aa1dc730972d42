-- The rows that an actor has in a turn.
use Rattle.std.proofs.Common.{◌≡◌, ℕ, ◌-◌, ◌<◌, ◌≤◌, ◌==◌, ◌&&◌, Bool, true, false, cond, Option, Some, None, List, [], length, refl, sym, ap, ◌∙◌, arith, ⊎_elim, nat_le}
use Rattle.std.specs.Prelude.{option_map, slice_get}
use Rattle.std.specs.Option.{option_map_or}
use Rattle.std.specs.FinMap as m
use Rattle.std.proofs.lemmas.Bool.Decides.{nat_tests}
use Rattle.std.proofs.lemmas.Option.{slice_get-get_or, slice_get_past}
use Rattle.orca_names.specs.declared.names.ObjName.{ObjName}
use Rattle.orca_names.specs.declared.names.Thing.TheVariants.{Obj}
use Rattle.letter_kinds.proofs.MadeRows.{add_rows-below, add_rows-made, add_rows-past, cases_serial}
use Rattle.letter_kinds.specs.Holdings.{Holdings, OwnRows, Row, add_rows, entry_row, row_of, with_made}
use Rattle.known_rows.specs.InTurn.{made_in_turn}

-- a row that was made, or else one of before
abbrev pub or_before : Option Row → Option Row → Option Row
or_before made before = option_map_or Some made before

some_made : (made : List Row) (first k : ℕ) → first ≤ k → (if_made : Bool) → nat_le first k ≡ if_made → cond if_made (slice_get made (k - first)) None ≡ slice_get made (k - first)
some_made made first k h true e = refl
some_made made first k h false e = absurd (let t : nat_le first k ≡ true = grind (arith, nat_tests) in (let u : true ≡ false = sym t ∙ e in cc))

none_made : (made : List Row) (first k : ℕ) → k < first → (if_made : Bool) → nat_le first k ≡ if_made → cond if_made (slice_get made (k - first)) None ≡ None
none_made made first k h false e = refl
none_made made first k h true e = absurd (let t : nat_le first k ≡ false = grind (arith, nat_tests) in (let u : false ≡ true = sym t ∙ e in cc))

-- by the serial, of an own object
own_row_made : (made : List Row) (first k : ℕ) (rows : OwnRows) → option_map (λ (e : Row × ℕ). e.0) (m.get (add_rows first made rows) k)
    ≡ or_before (cond (nat_le first k) (slice_get made (k - first)) None) (option_map (λ (e : Row × ℕ). e.0) (m.get rows k))
own_row_made made first k rows = ⊎_elim
    (λ below. ap (option_map (λ (e : Row × ℕ). e.0)) (add_rows-below first made rows k below)
    ∙ ap (λ o. or_before o (option_map (λ (e : Row × ℕ). e.0) (m.get rows k))) (sym (none_made made first k below (nat_le first k) refl)))
    (λ from. ⊎_elim
    (λ at. ap (option_map (λ (e : Row × ℕ). e.0)) (add_rows-made first made rows at.0 k at.1 at.2)
    ∙ ap (λ o. or_before o (option_map (λ (e : Row × ℕ). e.0) (m.get rows k)))
    (sym (slice_get-get_or made at.0 [] at.1) ∙ ap (slice_get made) (let is = at.2 in let e : at.0 ≡ k - first = omega arith in e) ∙ sym (some_made made first k (let is = at.2 in omega arith) (nat_le first k) refl)))
    (λ past. ap (option_map (λ (e : Row × ℕ). e.0)) (add_rows-past first made rows k past)
    ∙ ap (λ o. or_before o (option_map (λ (e : Row × ℕ). e.0) (m.get rows k)))
    (sym (slice_get_past made (k - first) (omega arith)) ∙ sym (some_made made first k (omega arith) (nat_le first k) refl)))
    from)
    (cases_serial first (length made) k)

pub row_of-made : (me : ℕ) (made : List Row) (h : Holdings) (n : ObjName) → row_of me (with_made made h) n ≡ or_before (made_in_turn me h.next made n) (row_of me h n)
unfolding row_of
row_of-made me made h n =
    let own = option_map (λ (e : Row × ℕ). e.0) (m.get h.rows n.serial) in
    let own_after = option_map (λ (e : Row × ℕ). e.0) (m.get (add_rows h.next made h.rows) n.serial) in
    let other = entry_row (m.get h.foreign (Obj n)) in
    elim (n.owner == me) as (λ b. cond b own_after other ≡ or_before (cond (b && nat_le h.next n.serial) (slice_get made (n.serial - h.next)) None) (cond b own other)) [
      | true ↦ own_row_made made h.next n.serial h.rows
      | false ↦ refl
    ]
