-- Minting changes no row.
use Rattle.std.proofs.Common.{◌≡◌, ◌==◌, ℕ, ◌+◌, cond, Option, List, [], ◌∷◌, refl, ap, ◌∙◌, ⊎_elim}
use Rattle.std.specs.Prelude.{option_map}
use Rattle.std.specs.FinMap as m
use Rattle.orca_names.proofs.ThingOrder.{cases_thing, is_ne_false, is_self, thing_total}
use Rattle.orca_names.specs.Names.{thing_cmp}
use Rattle.orca_names.specs.declared.names.ObjName.{ObjName}
use Rattle.orca_names.specs.declared.names.Thing.{Thing}
use Rattle.orca_names.specs.declared.names.Thing.TheVariants.{Obj}
use Rattle.letter_kinds.specs.Counting.{Amount, mint_all, mint_one, set_held}
use Rattle.letter_kinds.specs.Holdings.{Holdings, Row, entry_row, held_in, row_of}

-- an entry with another count and the same row
entry_kept : (es : m.FinMap thing_cmp (ℕ × Option Row)) (y x : Thing) (k : ℕ)
    → entry_row (m.get (m.insert es y (k, entry_row (m.get es y))) x) ≡ entry_row (m.get es x)
entry_kept es y x k = ⊎_elim
    (λ same. rw same (rw (m.get-insert thing_total) (rw (is_self y) refl)))
    (λ other. rw (m.get-insert thing_total) (rw (is_ne_false x y other) refl))
    (cases_thing x y)

-- a count is changed and the rows stay
pub row-set_held : (me : ℕ) (f : ℕ → ℕ) (y : Thing) (n : ObjName) (c : Holdings)
    → row_of me (set_held f y (entry_row (m.get c.foreign y)) c) n ≡ row_of me c n
unfolding row_of set_held
row-set_held me f y n c = ap (cond (n.owner == me) (option_map (λ e. e.0) (m.get c.rows n.serial)))
    (entry_kept c.foreign y (Obj n) (f (held_in c y)))

pub row-mint_all : (me : ℕ) (n : ObjName) (es : List Amount) (c : Holdings) → row_of me (mint_all es c) n ≡ row_of me c n
unfolding mint_all
row-mint_all me n [] c = refl
row-mint_all me n (e ∷ es) c = row-mint_all me n es (mint_one e c) ∙ row-set_held me (λ h. h + e.1) e.0 n c
