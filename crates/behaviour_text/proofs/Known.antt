-- The names that were read so far keep their texts.
use Rattle.std.proofs.Common.{◌≡◌, ℕ, ◌+◌, ◌<◌, Bool, true, false, cond, not, List, [], ◌∷◌, ◌++◌, ◌||◌, length, map, flat_map, refl, ap, ap₂, sym, arith, if◌then◌else◌, bytes_eq, zero, suc, slice_index_or, one-add}
use Rattle.std.specs.Prelude.{⊤}
use Rattle.std.specs.List.{AllByRecursion, list_any, position_or_len}
use Rattle.std.proofs.lemmas.Slice.Eq.{bytes_eq-Decides}
use Rattle.behaviour_text.proofs.Said.{Lines, so_far_at, open_lines, in_kind, in_behaviour}
use Rattle.behaviour_code.specs.Names.{text_of, with_text, intern}
use Rattle.behaviour_code.specs.declared.code.Behaviour.{Behaviour}
use Rattle.behaviour_code.specs.declared.code.Kind.{Kind}
use Rattle.behaviour_code.specs.declared.instr.Instr.{Instr}
use Rattle.behaviour_text.specs.Text.{instr_words, behaviour_begin, kind_begin, behaviour_lines, kind_lines}
use Rattle.behaviour_text.specs.declared.place.Stage.{Stage}
use Rattle.behaviour_text.specs.declared.place.Stage.TheVariants.{Start, InKind, InBehaviour}
use Rattle.behaviour_text.specs.declared.reader.Reader.{Reader}
use Rattle.std.proofs.Common.{IfSome}
use Rattle.behaviour_code.specs.declared.operand.Operand.{Operand}
use Rattle.behaviour_code.specs.declared.operand.Operand.TheVariants as O
use Rattle.behaviour_code.specs.Opcodes.{spelling}
use Rattle.behaviour_code.specs.Operands.{opcode_of, operands_in}
use Rattle.behaviour_code.specs.WellFormed.{name_in, named_by}
use Rattle.behaviour_text.proofs.Instructions.{names_all}
use Rattle.behaviour_text.specs.Text.{operand_word}

map_same : {X Y : Type 0} (P : X → Type 0) (f g : X → Y) (xs : List X) → ((x : X) → P x → f x ≡ g x) → AllByRecursion P xs → map f xs ≡ map g xs
map_same P f g [] h e = refl
map_same P f g (x ∷ xs) h e = ap₂ (λ a b. a ∷ b) (h x e.0) (map_same P f g xs h e.1)

flat_same : {X Y : Type 0} (P : X → Type 0) (f g : X → List Y) (xs : List X) → ((x : X) → P x → f x ≡ g x) → AllByRecursion P xs → flat_map f xs ≡ flat_map g xs
flat_same P f g [] h e = refl
flat_same P f g (x ∷ xs) h e = ap₂ (λ a b. a ++ b) (h x e.0) (flat_same P f g xs h e.1)

abbrev pub InstrKnown : ℕ → Instr → Type 0
InstrKnown m i = IfSome (name_in i) (λ n. n < m)

pub record BehaviourKnown (m : ℕ) (b : Behaviour) : Type 0 where
  pub name : b.name < m
  pub body : AllByRecursion (InstrKnown m) b.body

pub record KindKnown (m : ℕ) (k : Kind) : Type 0 where
  pub name : k.name < m
  pub behaviours : AllByRecursion (BehaviourKnown m) k.behaviours

pub record InKindKnown (m : ℕ) (r : Reader) : Type 0 where
  pub name : r.kind_name < m
  pub behaviours : AllByRecursion (BehaviourKnown m) r.behaviours

pub record InBehaviourKnown (m : ℕ) (r : Reader) : Type 0 where
  pub name : r.behaviour_name < m
  pub body : AllByRecursion (InstrKnown m) r.body

abbrev pub OpenKnown : ℕ → Reader → Stage → Type 0
OpenKnown m r Start = ⊤
OpenKnown m r InKind = InKindKnown m r
OpenKnown m r InBehaviour = InKindKnown m r × InBehaviourKnown m r

abbrev pub KnownAt : ℕ → Reader → Stage → Type 0
KnownAt m r stage = AllByRecursion (KindKnown m) r.kinds × OpenKnown m r stage

abbrev Agree : ℕ → (ℕ → List ℕ) → (ℕ → List ℕ) → Type 0
Agree m f g = (n : ℕ) → n < m → f n ≡ g n

operand_same : (m : ℕ) (f g : ℕ → List ℕ) → Agree m f g → (o : Operand) → IfSome (named_by o) (λ n. n < m) → operand_word f o ≡ operand_word g o
operand_same m f g same (O.Register n) h = refl
operand_same m f g same (O.Field n) h = refl
operand_same m f g same (O.Number n) h = refl
operand_same m f g same (O.Name name) h = same name h

instr_same : (m : ℕ) (f g : ℕ → List ℕ) → Agree m f g → (i : Instr) → InstrKnown m i → instr_words f i ≡ instr_words g i
instr_same m f g same i h =
    ap (λ (ws : List (List ℕ)). spelling (opcode_of i) ∷ ws)
    (map_same (λ (o : Operand). IfSome (named_by o) (λ n. n < m)) (operand_word f) (operand_word g) (operands_in i) (operand_same m f g same) (names_all (λ n. n < m) i h))

behaviour_same : (m : ℕ) (f g : ℕ → List ℕ) → Agree m f g → (b : Behaviour) → BehaviourKnown m b → behaviour_lines f b ≡ behaviour_lines g b
behaviour_same m f g same b h =
    ap₂ (λ (t : List ℕ) (ls : Lines). behaviour_begin (λ _. t) b.name b.parameters ∷ (ls ++ behaviour_end ∷ []))
    (same b.name h.name) (map_same (InstrKnown m) (instr_words f) (instr_words g) b.body (instr_same m f g same) h.body)
  where
    behaviour_end : List (List ℕ)
    behaviour_end = (101 ∷ 110 ∷ 100 ∷ []) ∷ []

kind_same : (m : ℕ) (f g : ℕ → List ℕ) → Agree m f g → (k : Kind) → KindKnown m k → kind_lines f k ≡ kind_lines g k
kind_same m f g same k h =
    ap₂ (λ (t : List ℕ) (ls : Lines). kind_begin (λ _. t) k.name k.fields ∷ ls)
    (same k.name h.name) (flat_same (BehaviourKnown m) (behaviour_lines f) (behaviour_lines g) k.behaviours (behaviour_same m f g same) h.behaviours)

in_kind_same : (m : ℕ) (f g : ℕ → List ℕ) → Agree m f g → (r : Reader) → InKindKnown m r → in_kind f r ≡ in_kind g r
in_kind_same m f g same r h =
    ap₂ (λ (t : List ℕ) (ls : Lines). kind_begin (λ _. t) r.kind_name r.fields ∷ ls)
    (same r.kind_name h.name) (flat_same (BehaviourKnown m) (behaviour_lines f) (behaviour_lines g) r.behaviours (behaviour_same m f g same) h.behaviours)

in_behaviour_same : (m : ℕ) (f g : ℕ → List ℕ) → Agree m f g → (r : Reader) → InBehaviourKnown m r → in_behaviour f r ≡ in_behaviour g r
in_behaviour_same m f g same r h =
    ap₂ (λ (t : List ℕ) (ls : Lines). behaviour_begin (λ _. t) r.behaviour_name r.parameters ∷ ls)
    (same r.behaviour_name h.name) (map_same (InstrKnown m) (instr_words f) (instr_words g) r.body (instr_same m f g same) h.body)

open_same : (m : ℕ) (f g : ℕ → List ℕ) → Agree m f g → (r : Reader) (stage : Stage) → OpenKnown m r stage → open_lines f r stage ≡ open_lines g r stage
open_same m f g same r Start h = refl
open_same m f g same r InKind h = in_kind_same m f g same r h
open_same m f g same r InBehaviour h = ap₂ (λ (a b : Lines). a ++ b) (in_kind_same m f g same r h.0) (in_behaviour_same m f g same r h.1)

-- what was read so far says the same under texts that agree on its names
pub said_same : (m : ℕ) (f g : ℕ → List ℕ) → ((n : ℕ) → n < m → f n ≡ g n) → (r : Reader) (stage : Stage) → KnownAt m r stage → so_far_at f r stage ≡ so_far_at g r stage
said_same m f g same r stage h =
    ap₂ (λ (a b : Lines). a ++ b) (flat_same (KindKnown m) (kind_lines f) (kind_lines g) r.kinds (kind_same m f g same) h.0) (open_same m f g same r stage h.1)

-- one text more
text_kept : (names : List (List ℕ)) (text : List ℕ) (i : ℕ) → i < length names → slice_index_or names i [] ≡ slice_index_or (names ++ text ∷ []) i []
text_kept [] text i h = absurd (omega arith)
text_kept (n ∷ ns) text zero h = refl
text_kept (n ∷ ns) text (suc i) h = text_kept ns text i (omega arith)

with_text_at : (b : Bool) (names : List (List ℕ)) (text : List ℕ) (i : ℕ) → i < length names → slice_index_or names i [] ≡ slice_index_or (if b then names else names ++ text ∷ []) i []
with_text_at true names text i h = refl
with_text_at false names text i h = text_kept names text i h

pub texts_kept : (names : List (List ℕ)) (text : List ℕ) (n : ℕ) → n < length names → text_of names n ≡ text_of (with_text names text) n
texts_kept names text n h = with_text_at (list_any (bytes_eq text) names) names text n h

-- the number of a text leads to it
pub record Finds (names : List (List ℕ)) (text : List ℕ) (place : ℕ) (after : List (List ℕ)) : Type 0 where
  pub said : slice_index_or after place [] ≡ text
  pub within : place < length after

found_first : (b : Bool) (n : List ℕ) (ns : List (List ℕ)) (text : List ℕ) → bytes_eq text n ≡ b → Finds ns text (position_or_len (bytes_eq text) ns) (with_text ns text) →
    Finds (n ∷ ns) text (cond (not b) (1 + position_or_len (bytes_eq text) ns) 0) (if b || list_any (bytes_eq text) ns then n ∷ ns else n ∷ (ns ++ text ∷ []))
found_first true n ns text e rest = record { said = sym ((bytes_eq-Decides text n).0 e); within = omega arith }
found_first false n ns text e rest = later (list_any (bytes_eq text) ns) (position_or_len (bytes_eq text) ns) rest
  where
    later : (any : Bool) (p : ℕ) → Finds ns text p (if any then ns else ns ++ text ∷ []) → Finds (n ∷ ns) text (1 + p) (if any then n ∷ ns else n ∷ (ns ++ text ∷ []))
    later true p f = record { said = rw one-add f.said; within = omega (arith, f.within) }
    later false p f = record { said = rw one-add f.said; within = omega (arith, f.within) }

pub finds : (names : List (List ℕ)) (text : List ℕ) → Finds names text (intern names text).0 (intern names text).1
finds [] text = record { said = refl; within = omega arith }
finds (n ∷ ns) text = found_first (bytes_eq text n) n ns text refl (finds ns text)
