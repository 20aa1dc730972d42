-- What was read so far says what was in the lines.
use Rattle.behaviour_text.proofs.Choices.{neither, no_fault}
use Rattle.std.proofs.Common.{◌≡◌, ◌≢◌, ℕ, false, List, [], ◌∷◌, ◌++◌, length, map, flat_map, refl, ap, sym, ◌∙◌, Option, Some, None, IfSome, nat_lt, append_assoc, append-nil, min}
use Rattle.std.proofs.lemmas.List.{map-append}
use Rattle.std.proofs.lemmas.List.Concat.{flat_map-append}
use Rattle.behaviour_text.proofs.Spelling.{instr_again, begin_again, end_again}
use Rattle.behaviour_code.specs.declared.code.Behaviour.{Behaviour}
use Rattle.behaviour_code.specs.declared.code.Kind.{Kind}
use Rattle.behaviour_code.specs.declared.instr.Instr.{Instr}
use Rattle.behaviour_text.specs.Faults.{kind_fault, on_fault, inside_fault, body_fault, place_fault}
use Rattle.behaviour_text.specs.Items.{instr_of, name_place}
use Rattle.behaviour_text.specs.Reading.{kinds_begun, place_of, close_kind_at, close_kind, with_kind, with_on, with_end, with_instr, intern_name, with_item}
use Rattle.behaviour_text.specs.Table.{line_word, shape_fault}
use Rattle.behaviour_text.specs.Text.{instr_words, behaviour_begin, behaviour_end, kind_begin, behaviour_lines, kind_lines}
use Rattle.behaviour_text.specs.Words.{word_at, number_at}
use Rattle.behaviour_text.specs.declared.place.Stage.{Stage}
use Rattle.behaviour_text.specs.declared.place.Stage.TheVariants.{Start, InKind, InBehaviour}
use Rattle.behaviour_text.specs.declared.reader.Reader.{Reader}
use Rattle.behaviour_text.specs.declared.table.LineWord.{LineWord}
use Rattle.behaviour_text.specs.declared.table.LineWord.TheVariants as W
use Rattle.behaviour_text.specs.declared.errors.FaultKind.{FaultKind}
use Rattle.behaviour_text.specs.declared.errors.FaultKind.TheVariants as K

abbrev pub Lines : Type 0
Lines = List (List (List ℕ))

-- the lines of the kind that is begun, and of the behaviour
abbrev pub in_kind : (ℕ → List ℕ) → Reader → Lines
in_kind text r = kind_begin text r.kind_name r.fields ∷ flat_map (behaviour_lines text) r.behaviours

abbrev pub in_behaviour : (ℕ → List ℕ) → Reader → Lines
in_behaviour text r = behaviour_begin text r.behaviour_name r.parameters ∷ map (instr_words text) r.body

abbrev pub open_lines : (ℕ → List ℕ) → Reader → Stage → Lines
open_lines text r Start = []
open_lines text r InKind = in_kind text r
open_lines text r InBehaviour = in_kind text r ++ in_behaviour text r

abbrev pub so_far_at : (ℕ → List ℕ) → Reader → Stage → Lines
so_far_at text r stage = flat_map (kind_lines text) r.kinds ++ open_lines text r stage

abbrev pub so_far : (ℕ → List ℕ) → Reader → Lines
so_far text r = so_far_at text r r.stage

one_line : (text : ℕ → List ℕ) (ks : List Kind) (k : Kind) → flat_map (kind_lines text) (ks ++ k ∷ []) ≡ flat_map (kind_lines text) ks ++ kind_lines text k
one_line text ks k = flat_map-append (kind_lines text) ks (k ∷ []) ∙ ap (λ (t : Lines). flat_map (kind_lines text) ks ++ t) (append-nil (kind_lines text k))

one_behaviour : (text : ℕ → List ℕ) (bs : List Behaviour) (b : Behaviour) → flat_map (behaviour_lines text) (bs ++ b ∷ []) ≡ flat_map (behaviour_lines text) bs ++ behaviour_lines text b
one_behaviour text bs b = flat_map-append (behaviour_lines text) bs (b ∷ []) ∙ ap (λ (t : Lines). flat_map (behaviour_lines text) bs ++ t) (append-nil (behaviour_lines text b))

-- closing a kind says nothing new
pub closed_said : (text : ℕ → List ℕ) (r : Reader) (stage : Stage) → stage ≢ InBehaviour → flat_map (kind_lines text) (close_kind_at stage r).kinds ≡ so_far_at text r stage
closed_said text r Start away = sym (append-nil (flat_map (kind_lines text) r.kinds))
closed_said text r InKind away = one_line text r.kinds (record { name = r.kind_name; fields = r.fields; behaviours = r.behaviours })
closed_said text r InBehaviour away = absurd (away refl)

kind_place : (stage : Stage) (kinds fields : ℕ) → kind_fault stage kinds fields ≡ None → (stage ≢ InBehaviour) × (nat_lt 8 fields ≡ false)
kind_place InBehaviour kinds fields h = cc
kind_place Start kinds fields h = (λ e. cc, (neither (nat_lt 255 kinds) (nat_lt 8 fields) (no_fault _ K.TooMany h)).1)
kind_place InKind kinds fields h = (λ e. cc, (neither (nat_lt 255 kinds) (nat_lt 8 fields) (no_fault _ K.TooMany h)).1)

pub on_place : (stage : Stage) (behaviours parameters : ℕ) → on_fault stage behaviours parameters ≡ None → (stage ≡ InKind) × (nat_lt 8 parameters ≡ false)
on_place Start behaviours parameters h = cc
on_place InBehaviour behaviours parameters h = cc
on_place InKind behaviours parameters h = (refl, (neither (nat_lt 63 behaviours) (nat_lt 8 parameters) (no_fault _ K.TooMany h)).1)

pub inside_place : (stage : Stage) (more : Option FaultKind) → inside_fault stage more ≡ None → stage ≡ InBehaviour
inside_place InBehaviour more h = refl
inside_place Start more h = cc
inside_place InKind more h = cc

kind_said : (text : ℕ → List ℕ) (r : Reader) (name : ℕ) (fields : ℕ) → r.stage ≢ InBehaviour →
    so_far text (with_kind r name fields) ≡ so_far text r ++ kind_begin text name fields ∷ []
unfolding with_kind close_kind
kind_said text r name fields away = ap (λ (t : Lines). t ++ kind_begin text name fields ∷ []) (closed_said text r r.stage away)

on_said : (text : ℕ → List ℕ) (r : Reader) (name : ℕ) (parameters : ℕ) → r.stage ≡ InKind →
    so_far text (with_on r name parameters) ≡ so_far text r ++ behaviour_begin text name parameters ∷ []
unfolding with_on
on_said text r name parameters e =
    sym (append_assoc (flat_map (kind_lines text) r.kinds) (in_kind text r) (behaviour_begin text name parameters ∷ []))
    ∙ ap (λ (s : Stage). so_far_at text r s ++ behaviour_begin text name parameters ∷ []) (sym e)

instr_said : (text : ℕ → List ℕ) (r : Reader) (i : Instr) → r.stage ≡ InBehaviour →
    so_far text (with_instr r i) ≡ so_far text r ++ instr_words text i ∷ []
unfolding with_instr
instr_said text r i e =
    ap (so_far_at text (record r { body = r.body ++ i ∷ [] })) e
    ∙ ap (λ (t : Lines). flat_map (kind_lines text) r.kinds ++ (in_kind text r ++ (behaviour_begin text r.behaviour_name r.parameters ∷ t))) (map-append (instr_words text) r.body (i ∷ []))
    ∙ ap (λ (t : Lines). flat_map (kind_lines text) r.kinds ++ t) (sym (append_assoc (in_kind text r) (in_behaviour text r) (instr_words text i ∷ [])))
    ∙ sym (append_assoc (flat_map (kind_lines text) r.kinds) (in_kind text r ++ in_behaviour text r) (instr_words text i ∷ []))
    ∙ ap (λ (s : Stage). so_far_at text r s ++ instr_words text i ∷ []) (sym e)

end_said : (text : ℕ → List ℕ) (r : Reader) → r.stage ≡ InBehaviour → so_far text (with_end r) ≡ so_far text r ++ behaviour_end ∷ []
unfolding with_end
end_said text r e =
    ap (λ (t : Lines). flat_map (kind_lines text) r.kinds ++ (kind_begin text r.kind_name r.fields ∷ t))
    (one_behaviour text r.behaviours (record { name = r.behaviour_name; parameters = r.parameters; body = r.body })
    ∙ sym (append_assoc (flat_map (behaviour_lines text) r.behaviours) (in_behaviour text r) (behaviour_end ∷ [])))
    ∙ sym (append_assoc (flat_map (kind_lines text) r.kinds) (in_kind text r ++ in_behaviour text r) (behaviour_end ∷ []))
    ∙ ap (λ (s : Stage). so_far_at text r s ++ behaviour_end ∷ []) (sym e)

-- an item says its line
pub item_said : (text : ℕ → List ℕ) (r : Reader) (word : LineWord) (name : ℕ) (w : List ℕ) (ws : List (List ℕ)) → line_word w ≡ Some word → shape_fault word ws ≡ None →
    place_fault (place_of r) word ws ≡ None → IfSome (name_place word) (λ place. text name ≡ word_at ws place) →
    so_far text (with_item r word name ws) ≡ so_far text r ++ (w ∷ ws) ∷ []
item_said text r W.Kind name w ws e h place intern_name =
    let p = kind_place r.stage (kinds_begun r.stage (length r.kinds)) (number_at ws 1) place in
    kind_said text r name (min (number_at ws 1) 8) p.0
    ∙ ap (λ (t : List (List ℕ)). so_far text r ++ t ∷ []) (sym (begin_again text W.Kind name w ws refl refl e h intern_name p.1))
item_said text r W.On name w ws e h place intern_name =
    let p = on_place r.stage (length r.behaviours) (number_at ws 1) place in
    on_said text r name (min (number_at ws 1) 8) p.0
    ∙ ap (λ (t : List (List ℕ)). so_far text r ++ t ∷ []) (sym (begin_again text W.On name w ws refl refl e h intern_name p.1))
item_said text r W.End name w ws e h place intern_name =
    end_said text r (inside_place r.stage None place)
    ∙ ap (λ (t : List (List ℕ)). so_far text r ++ t ∷ []) (sym (end_again w ws e h))
item_said text r (W.Instr code) name w ws e h place intern_name =
    instr_said text r (instr_of code name ws) (inside_place r.stage (body_fault (length r.body)) place)
    ∙ ap (λ (t : List (List ℕ)). so_far text r ++ t ∷ []) (sym (instr_again text code name w ws e h intern_name))
