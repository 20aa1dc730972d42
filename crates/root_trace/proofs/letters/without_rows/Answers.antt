use Rattle.std.proofs.Common.{◌≡◌, ℕ, Option, Some, None, List, [], ◌∷◌, map, refl, sym, ap, subst, ◌∙◌}
use Rattle.orca_names.specs.declared.names.ObjName.{ObjName}
use Rattle.orca_names.specs.declared.names.Thing.{Thing}
use Rattle.orca_names.specs.declared.names.Value.{Value}
use Rattle.row_store.specs.Memory.{remembered}
use Rattle.row_store.specs.Told.{Lying, thing_lies, thing_row}
use Rattle.row_store.proofs.Standing.{none_remembered}
use Rattle.row_store.proofs.Telling.{lie_same}
use Rattle.letter_kinds.specs.Load.{AreKnown, as_load}
use Rattle.letter_kinds.specs.Telling.{TellsNothing, Told}
use Rattle.root_trace.proofs.Lying.{lie_known, lying_tells}
use Rattle.root_trace.proofs.letters.without_rows.Goals as goal

-- no row is known, nor does one lie in a block
abbrev no_row : ObjName → Option (List Value)
no_row n = None

abbrev no_block : ObjName → Option ℕ
no_block n = None

-- how the rows of these things lie, as their load
lying_loaded : (things : List Thing)
    → as_load (map {B = Thing × Lying} (λ x. (x, thing_lies no_row no_block x)) things) ≡ map (λ x. (x, thing_row no_row x)) things
lying_loaded [] = refl
lying_loaded (x ∷ things) = ap (λ load. (x, thing_row no_row x) ∷ load) (lying_loaded things)

pub with-requires : goal.with-requires
with-requires c =
    let memory = remembered c.new.result in
    let things = c.args.things.now in
    let lie = c.in_ok-items.ensures.load in
    let same = lie_same no_row memory no_block (none_remembered no_row memory no_block (λ n. refl)) c.in_ok-items.items things lie in
    subst AreKnown (sym (same ∙ lie)) (lie_known no_row no_block (λ n some. some) things)

pub returns-clause-load : goal.returns-clause-load
returns-clause-load c =
    let memory = remembered c.new.result in
    let things = c.args.things.now in
    let lie = c.in_ok-items.ensures.load in
    let same = lie_same no_row memory no_block (none_remembered no_row memory no_block (λ n. refl)) c.in_ok-items.items things lie in
    ap as_load (c.with.ensures ∙ same ∙ lie) ∙ lying_loaded things

pub returns-clause-told : goal.returns-clause-told
returns-clause-told c =
    let memory = remembered c.new.result in
    let things = c.args.things.now in
    let lie = c.in_ok-items.ensures.load in
    let same = lie_same no_row memory no_block (none_remembered no_row memory no_block (λ n. refl)) c.in_ok-items.items things lie in
    subst (λ load. TellsNothing (Told load)) (sym (c.with.ensures ∙ same ∙ lie))
    (λ n row block told. let none : None ≡ Some row = (lying_tells no_row no_block things n row block told).0 in cc)
