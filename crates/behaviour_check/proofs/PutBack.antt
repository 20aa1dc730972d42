-- A kind whose behaviours are taken out and put back.
use Rattle.std.proofs.Common.{◌≡◌, ℕ, ◌<◌, List, length, get_or, set, set-set, get_or-set_same, ap, ◌∙◌}
use Rattle.std.proofs.lemmas.List.{set-get_or}
use Rattle.behaviour_code.specs.declared.code.Behaviour.{Behaviour}
use Rattle.behaviour_code.specs.declared.code.Kind.{Kind}

abbrev with_behaviours : Kind → List Behaviour → Kind
with_behaviours k behaviours = record { name = k.name; fields = k.fields; behaviours = behaviours }

pub put_back : (kinds : List Kind) (i : ℕ) (x y : Kind) (none behaviours : List Behaviour) → i < length kinds →
    x ≡ get_or kinds i x → y ≡ get_or (set kinds i (with_behaviours x none)) i y → behaviours ≡ x.behaviours →
    set (set kinds i (with_behaviours x none)) i (with_behaviours y behaviours) ≡ kinds
put_back kinds i x y none behaviours inside taken left same =
    let emptied : y ≡ with_behaviours x none = left ∙ get_or-set_same kinds i (with_behaviours x none) y inside in
    set-set kinds i (with_behaviours x none) (with_behaviours y behaviours)
    ∙ ap (λ (k : Kind). set kinds i (with_behaviours k behaviours)) emptied
    ∙ ap (λ (bs : List Behaviour). set kinds i (with_behaviours x bs)) same
    ∙ ap (set kinds i) taken
    ∙ set-get_or kinds i x
