-- A text of a program is read as that program.
use Rattle.std.proofs.Common.{option_map, ◌≡◌, ◌≢◌, ℕ, ◌+◌, ◌<◌, ◌≤◌, ◌^◌, ◌||◌, Bool, true, false, cond, not, List, [], ◌∷◌, ◌++◌, length, map, flat_map, refl, ap, ap₂, sym, ◌∙◌, subst, arith, Option, Some, None, Result, Ok, Err, if◌then◌else◌, le-ltb, min, decimal, append-nil, append_assoc, length-append, zero, suc, IfOk, IfErr, OnOk}
use Rattle.std.specs.List.{AllByRecursion}
use Rattle.text_lines.specs.Lines.{line_fault, lines_of}
use Rattle.text_lines.specs.declared.LineKind.{LineKind}
use Rattle.behaviour_text.proofs.Sound.{text_sound}
use Rattle.behaviour_text.proofs.Places.{first_fault_read}
use Rattle.behaviour_text.proofs.Said.{Lines}
use Rattle.behaviour_text.proofs.Reread.{number_read, numeral_fits, name_fits, nones}
use Rattle.behaviour_text.proofs.Whole.{IsFront, front_before, number_found, Takes, takes_word, instr_takes}
use Rattle.std.specs.Option.{option_or}
use Rattle.behaviour_code.specs.WellFormed.{name_in, AreApart, NameFits, instr_names, body_names, behaviours_names, kinds_names, InstrIsWellFormed, BehaviourIsWellFormed, KindIsWellFormed, IsWellFormed}
use Rattle.behaviour_code.specs.Names.{is_name, text_of, with_text, intern}
use Rattle.behaviour_code.specs.declared.code.Behaviour.{Behaviour}
use Rattle.behaviour_code.specs.declared.code.Kind.{Kind}
use Rattle.behaviour_code.specs.declared.code.Program.{Program}
use Rattle.behaviour_code.specs.declared.instr.Instr.{Instr}
use Rattle.behaviour_text.specs.Faults.{kind_fault, on_fault, inside_fault, word_fault, words_fault, lowest_fault, first_fault, told_fault, IsFault, Tells}
use Rattle.behaviour_text.specs.Reading.{start, kinds_begun, place_of, close_kind_at, close_kind, with_kind, with_on, with_end, with_word, with_words, read_end, unless_fault, read_from, finish, read_text, fault_of}
use Rattle.behaviour_text.specs.Table.{line_word, starts_with, operands_fault, shape_fault}
use Rattle.behaviour_text.specs.Text.{instr_words, behaviour_begin, behaviour_end, kind_begin, behaviour_lines, kind_lines, program_lines, speaks, said_lines, AreClean, IsText}
use Rattle.behaviour_text.specs.Words.{words_of, number_of}
use Rattle.behaviour_text.specs.declared.errors.TextErr.{TextErr}
use Rattle.behaviour_text.specs.declared.place.Stage.{Stage}
use Rattle.behaviour_text.specs.declared.place.Stage.TheVariants.{Start, InKind, InBehaviour}
use Rattle.behaviour_text.specs.declared.reader.Reader.{Reader}
use Rattle.behaviour_text.specs.declared.table.LineWord.TheVariants as W
use Rattle.behaviour_code.specs.declared.opcode.OperandKind.TheVariants as P
use Rattle.behaviour_text.specs.declared.errors.TextErr.TheVariants as E
use Rattle.behaviour_text.specs.Kinds.{kind_of, number}
use Rattle.behaviour_text.specs.declared.errors.FaultKind.{FaultKind}
use Rattle.behaviour_text.specs.declared.errors.FaultKind.TheVariants as K

abbrev small_number : (n : ℕ) → n ≤ 8 → n < 2 ^ 64
small_number n h = omega arith

-- a line that begins a kind or a behaviour
begin_shape : (text : List ℕ) (n : ℕ) → is_name text ≡ true → n ≤ 8 → operands_fault (P.Name ∷ P.Number ∷ []) (text ∷ decimal n ∷ []) ≡ None
begin_shape text n name h = nones _ _ (name_fits text name) (nones _ _ (numeral_fits n (small_number n h)) refl)

smaller : (n : ℕ) → n ≤ 8 → min (number_of (decimal n)) 8 ≡ n
smaller n h = ap (λ (k : ℕ). min k 8) (number_read n (small_number n h)) ∙ omega arith

on_place_read : (stage : Stage) (behaviours n : ℕ) → stage ≡ InKind → behaviours < 64 → n ≤ 8 → on_fault stage behaviours (number_of (decimal n)) ≡ None
on_place_read stage behaviours n e few h =
    ap₂ (λ (s : Stage) (k : ℕ). on_fault s behaviours k) e (number_read n (small_number n h))
    ∙ ap₂ (λ (a b : Bool). if◌then◌else◌ {A = Option FaultKind} (a || b) (Some K.TooMany) None) (le-ltb 63 behaviours (omega arith)) (le-ltb 8 n h)

kind_place_read : (stage : Stage) (kinds n : ℕ) → stage ≢ InBehaviour → kinds < 256 → n ≤ 8 → kind_fault stage kinds (number_of (decimal n)) ≡ None
kind_place_read InBehaviour kinds n away few h = absurd (away refl)
kind_place_read Start kinds n away few h =
    ap (kind_fault Start kinds) (number_read n (small_number n h))
    ∙ ap₂ (λ (a b : Bool). if◌then◌else◌ {A = Option FaultKind} (a || b) (Some K.TooMany) None) (le-ltb 255 kinds (omega arith)) (le-ltb 8 n h)
kind_place_read InKind kinds n away few h =
    ap (kind_fault InKind kinds) (number_read n (small_number n h))
    ∙ ap₂ (λ (a b : Bool). if◌then◌else◌ {A = Option FaultKind} (a || b) (Some K.TooMany) None) (le-ltb 255 kinds (omega arith)) (le-ltb 8 n h)

one_name : (all : List (List ℕ)) (names : List (List ℕ)) (n : ℕ) → AreApart all → NameFits all n → IsFront (with_text names (text_of all n)) all →
    (intern names (text_of all n)).0 ≡ n
one_name all names n apart fits front = number_found names all n apart fits.within front

on_takes : (all : List (List ℕ)) (r : Reader) (name : ℕ) (n : ℕ) → AreApart all → r.stage ≡ InKind → length r.behaviours < 64 → n ≤ 8 → NameFits all name →
    IsFront (with_text r.names (text_of all name)) all →
    Takes r (with_on (record r { names = with_text r.names (text_of all name) }) name n) (behaviour_begin (text_of all) name n)
unfolding shape_fault
on_takes all r name n apart stage few small fits front =
    let renamed : Reader = record r { names = with_text r.names (text_of all name) } in
    takes_word r (with_on renamed name n) W.On (text_of all name ∷ decimal n ∷ []) (begin_shape (text_of all name) n fits.form small)
    (on_place_read r.stage (length r.behaviours) n stage few small)
    (ap₂ (with_on renamed) (one_name all r.names name apart fits front) (smaller n small))

kind_takes : (all : List (List ℕ)) (r : Reader) (name : ℕ) (n : ℕ) → AreApart all → r.stage ≢ InBehaviour → kinds_begun r.stage (length r.kinds) < 256 → n ≤ 8 → NameFits all name →
    IsFront (with_text r.names (text_of all name)) all →
    Takes r (with_kind (record r { names = with_text r.names (text_of all name) }) name n) (kind_begin (text_of all) name n)
unfolding shape_fault
kind_takes all r name n apart stage few small fits front =
    let renamed : Reader = record r { names = with_text r.names (text_of all name) } in
    takes_word r (with_kind renamed name n) W.Kind (text_of all name ∷ decimal n ∷ []) (begin_shape (text_of all name) n fits.form small)
    (kind_place_read r.stage (kinds_begun r.stage (length r.kinds)) n stage few small)
    (ap₂ (with_kind renamed) (one_name all r.names name apart fits front) (smaller n small))

end_takes : (r : Reader) → r.stage ≡ InBehaviour → Takes r (with_end r) behaviour_end
unfolding shape_fault
end_takes r stage = takes_word r (with_end r) W.End [] refl (ap (λ (s : Stage). inside_fault s None) stage) refl

-- lines without a fault, and what they leave
abbrev pub ReadsTo : Reader → Lines → Reader → Type 0
ReadsTo r [] s = r ≡ s
ReadsTo r (ws ∷ ls) s = (t : Reader) × Takes r t ws × ReadsTo t ls s

reads_on : (r s t : Reader) (xs ys : Lines) → ReadsTo r xs s → ReadsTo s ys t → ReadsTo r (xs ++ ys) t
reads_on r s t [] ys e h = subst (λ (x : Reader). ReadsTo x ys t) (sym e) h
reads_on r s t (ws ∷ xs) ys g h = (g.0, g.1, reads_on g.0 s t xs ys g.2 h)

front_named : (all names : List (List ℕ)) (text : ℕ → List ℕ) (o : Option ℕ) → IsFront (instr_names text names o) all → IsFront names all
front_named all names text None h = h
front_named all names text (Some l) h = front_before names all (text l) h

front_body : (all names : List (List ℕ)) (text : ℕ → List ℕ) (is : List Instr) → IsFront (body_names text names is) all → IsFront names all
front_body all names text [] h = h
front_body all names text (i ∷ is) h = front_named all names text (name_in i) (front_body all (instr_names text names (name_in i)) text is h)

front_behaviours : (all names : List (List ℕ)) (text : ℕ → List ℕ) (bs : List Behaviour) → IsFront (behaviours_names text names bs) all → IsFront names all
front_behaviours all names text [] h = h
front_behaviours all names text (b ∷ bs) h =
    front_before names all (text b.name) (front_body all (with_text names (text b.name)) text b.body (front_behaviours all (body_names text (with_text names (text b.name)) b.body) text bs h))

front_kinds : (all names : List (List ℕ)) (text : ℕ → List ℕ) (ks : List Kind) → IsFront (kinds_names text names ks) all → IsFront names all
front_kinds all names text [] h = h
front_kinds all names text (k ∷ ks) h =
    front_before names all (text k.name) (front_behaviours all (with_text names (text k.name)) text k.behaviours (front_kinds all (behaviours_names text (with_text names (text k.name)) k.behaviours) text ks h))

body_reads : (all : List (List ℕ)) (r : Reader) (is : List Instr) → AreApart all → r.stage ≡ InBehaviour → length r.body + length is ≤ 1024 → AllByRecursion (InstrIsWellFormed all) is →
    IsFront (body_names (text_of all) r.names is) all →
    ReadsTo r (map (instr_words (text_of all)) is) (record r { names = body_names (text_of all) r.names is; body = r.body ++ is })
body_reads all r [] apart stage few good front = ap (λ (b : List Instr). let s : Reader = record r { body = b } in s) (sym (append-nil r.body))
body_reads all r (i ∷ is) apart stage few good front =
    let names = instr_names (text_of all) r.names (name_in i) in
    let t : Reader = record r { names = names; body = r.body ++ i ∷ [] } in
    let rest = body_reads all t is apart stage (omega (arith, length-append r.body (i ∷ []))) good.1 front in (
      t,
      instr_takes all r i apart stage (omega arith) good.0.fits good.0.named (front_body all names (text_of all) is front),
      subst (λ (b : List Instr). ReadsTo t (map (instr_words (text_of all)) is) (record r { names = body_names (text_of all) names is; body = b })) (append_assoc r.body (i ∷ []) is) rest,
    )

-- what behaviours leave
pub record Adds (r s : Reader) (names : List (List ℕ)) (bs : List Behaviour) : Type 0 where
  pub names_are : s.names ≡ names
  pub kinds_are : s.kinds ≡ r.kinds
  pub stage_is : s.stage ≡ InKind
  pub name_is : s.kind_name ≡ r.kind_name
  pub fields_are : s.fields ≡ r.fields
  pub behaviours_are : s.behaviours ≡ r.behaviours ++ bs

behaviour_reads : (all : List (List ℕ)) (r : Reader) (b : Behaviour) → AreApart all → r.stage ≡ InKind → length r.behaviours < 64 → BehaviourIsWellFormed all b →
    IsFront (body_names (text_of all) (with_text r.names (text_of all b.name)) b.body) all →
    (s : Reader) × ReadsTo r (behaviour_lines (text_of all) b) s × Adds r s (body_names (text_of all) (with_text r.names (text_of all b.name)) b.body) (b ∷ [])
unfolding with_on with_end
behaviour_reads all r b apart stage few good front =
    let text = text_of all in
    let names = with_text r.names (text b.name) in
    let begun : Reader = with_on (record r { names = names }) b.name b.parameters in
    let body : Reader = record begun { names = body_names text names b.body; body = b.body } in (
      with_end body,
      (
        begun,
        on_takes all r b.name b.parameters apart stage few good.parameters good.named (front_body all names text b.body front),
        reads_on begun body (with_end body) (map (instr_words text) b.body) (behaviour_end ∷ [])
            (body_reads all begun b.body apart refl (let short = good.short in omega arith) good.body front)
            (with_end body, end_takes body refl, refl),
      ),
      record { names_are = refl; kinds_are = refl; stage_is = refl; name_is = refl; fields_are = refl; behaviours_are = refl },
    )

behaviours_read : (all : List (List ℕ)) (r : Reader) (bs : List Behaviour) → AreApart all → r.stage ≡ InKind → length r.behaviours + length bs ≤ 64 → AllByRecursion (BehaviourIsWellFormed all) bs →
    IsFront (behaviours_names (text_of all) r.names bs) all →
    (s : Reader) × ReadsTo r (flat_map (behaviour_lines (text_of all)) bs) s × Adds r s (behaviours_names (text_of all) r.names bs) bs
behaviours_read all r [] apart stage few good front =
    (r, refl, record { names_are = refl; kinds_are = refl; stage_is = stage; name_is = refl; fields_are = refl; behaviours_are = sym (append-nil r.behaviours) })
behaviours_read all r (b ∷ bs) apart stage few good front =
    let text = text_of all in
    let names = body_names text (with_text r.names (text b.name)) b.body in
    let first = behaviour_reads all r b apart stage (omega arith) good.0 (front_behaviours all names text bs front) in
    let a = first.2 in
    let rest = behaviours_read all first.0 bs apart a.stage_is (omega (arith, ap length a.behaviours_are, length-append r.behaviours (b ∷ []))) good.1
    (subst (λ (ns : List (List ℕ)). IsFront (behaviours_names text ns bs) all) (sym a.names_are) front) in
    let c = rest.2 in (
      rest.0,
      reads_on r first.0 rest.0 (behaviour_lines text b) (flat_map (behaviour_lines text) bs) first.1 rest.1,
      record {
        names_are = c.names_are ∙ ap (λ (ns : List (List ℕ)). behaviours_names text ns bs) a.names_are;
        kinds_are = c.kinds_are ∙ a.kinds_are;
        stage_is = c.stage_is;
        name_is = c.name_is ∙ a.name_is;
        fields_are = c.fields_are ∙ a.fields_are;
        behaviours_are = c.behaviours_are ∙ ap (λ (xs : List Behaviour). xs ++ bs) a.behaviours_are ∙ append_assoc r.behaviours (b ∷ []) bs;
      },
    )

closed_renamed : (r : Reader) (names : List (List ℕ)) (stage : Stage) → (close_kind_at stage (record r { names = names })).kinds ≡ (close_kind_at stage r).kinds
closed_renamed r names Start = refl
closed_renamed r names InKind = refl
closed_renamed r names InBehaviour = refl

begun_is : (r : Reader) (stage : Stage) → kinds_begun stage (length r.kinds) ≡ length (close_kind_at stage r).kinds
begun_is r Start = refl
begun_is r InKind = sym (length-append r.kinds _)
begun_is r InBehaviour = sym (length-append r.kinds _)

-- what kinds leave
pub record AddsKinds (r s : Reader) (names : List (List ℕ)) (ks : List Kind) : Type 0 where
  pub names_are : s.names ≡ names
  pub ended : s.stage ≢ InBehaviour
  pub kinds_are : (close_kind_at s.stage s).kinds ≡ (close_kind_at r.stage r).kinds ++ ks

kind_same : (s : Reader) (k : Kind) → s.kind_name ≡ k.name → s.fields ≡ k.fields → s.behaviours ≡ k.behaviours → record { name = s.kind_name; fields = s.fields; behaviours = s.behaviours } ≡ k
kind_same s k e f b =
    ap (λ (n : ℕ). let x : Kind = record { name = n; fields = s.fields; behaviours = s.behaviours } in x) e
    ∙ ap₂ (λ (n : ℕ) (bs : List Behaviour). let x : Kind = record { name = k.name; fields = n; behaviours = bs } in x) f b

kind_read : (all : List (List ℕ)) (r : Reader) (k : Kind) → AreApart all → r.stage ≢ InBehaviour → length (close_kind_at r.stage r).kinds < 256 → KindIsWellFormed all k →
    IsFront (behaviours_names (text_of all) (with_text r.names (text_of all k.name)) k.behaviours) all →
    (s : Reader) × ReadsTo r (kind_lines (text_of all) k) s × AddsKinds r s (behaviours_names (text_of all) (with_text r.names (text_of all k.name)) k.behaviours) (k ∷ [])
unfolding with_kind close_kind
kind_read all r k apart away few good front =
    let text = text_of all in
    let names = with_text r.names (text k.name) in
    let t : Reader = with_kind (record r { names = names }) k.name k.fields in
    let first = kind_takes all r k.name k.fields apart away (omega (arith, begun_is r r.stage)) good.fields good.named (front_behaviours all names text k.behaviours front) in
    let rest = behaviours_read all (record t { names = names }) k.behaviours apart refl (let few = good.few in omega arith) good.behaviours front in
    let a = rest.2 in
    let s = rest.0 in (
      s,
      (t, first, subst (λ (x : Reader). ReadsTo x (flat_map (behaviour_lines text) k.behaviours) s) (kept_names r names k.name k.fields) rest.1),
      record {
        names_are = a.names_are;
        ended = λ e. in_kind_only s.stage a.stage_is e;
        kinds_are = ap (λ (x : Stage). (close_kind_at x s).kinds) a.stage_is
            ∙ ap₂ (λ (xs : List Kind) (x : Kind). xs ++ x ∷ []) (a.kinds_are ∙ closed_renamed r names r.stage) (kind_same s k a.name_is a.fields_are a.behaviours_are);
      },
    )
  where
    in_kind_only : (stage : Stage) → stage ≡ InKind → stage ≢ InBehaviour
    in_kind_only stage e h = cc

    kept_names : (r : Reader) (names : List (List ℕ)) (name : ℕ) (n : ℕ) → record (with_kind (record r { names = names }) name n) { names = names } ≡ with_kind (record r { names = names }) name n
    kept_names r names name n = by_stage r.stage
      where
        by_stage : (stage : Stage) → record (record (close_kind_at stage (record r { names = names })) { stage = InKind; kind_name = name; fields = n; behaviours = [] }) { names = names }
            ≡ record (close_kind_at stage (record r { names = names })) { stage = InKind; kind_name = name; fields = n; behaviours = [] }
        by_stage Start = refl
        by_stage InKind = refl
        by_stage InBehaviour = refl

kinds_read : (all : List (List ℕ)) (r : Reader) (ks : List Kind) → AreApart all → r.stage ≢ InBehaviour → length (close_kind_at r.stage r).kinds + length ks ≤ 256 → AllByRecursion (KindIsWellFormed all) ks →
    IsFront (kinds_names (text_of all) r.names ks) all →
    (s : Reader) × ReadsTo r (flat_map (kind_lines (text_of all)) ks) s × AddsKinds r s (kinds_names (text_of all) r.names ks) ks
kinds_read all r [] apart away few good front = (r, refl, record { names_are = refl; ended = away; kinds_are = sym (append-nil (close_kind_at r.stage r).kinds) })
kinds_read all r (k ∷ ks) apart away few good front =
    let text = text_of all in
    let names = behaviours_names text (with_text r.names (text k.name)) k.behaviours in
    let first = kind_read all r k apart away (omega arith) good.0 (front_kinds all names text ks front) in
    let a = first.2 in
    let rest = kinds_read all first.0 ks apart a.ended (omega (arith, ap length a.kinds_are, length-append (close_kind_at r.stage r).kinds (k ∷ []))) good.1
    (subst (λ (ns : List (List ℕ)). IsFront (kinds_names text ns ks) all) (sym a.names_are) front) in
    let c = rest.2 in (
      rest.0,
      reads_on r first.0 rest.0 (kind_lines text k) (flat_map (kind_lines text) ks) first.1 rest.1,
      record {
        names_are = c.names_are ∙ ap (λ (ns : List (List ℕ)). kinds_names text ns ks) a.names_are;
        ended = c.ended;
        kinds_are = c.kinds_are ∙ ap (λ (xs : List Kind). xs ++ ks) a.kinds_are ∙ append_assoc (close_kind_at r.stage r).kinds (k ∷ []) ks;
      },
    )

-- a line that may be silent
record Follows (r s : Reader) (ws : List (List ℕ)) (rest : Lines) : Type 0 where
  clean : words_fault (place_of r) ws ≡ None
  goes_on : ReadsTo (with_words r ws) rest s

line_back : (r s : Reader) (ws : List (List ℕ)) (rest : Lines) → ReadsTo r (cond (speaks ws) (ws ∷ rest) rest) s → Follows r s ws rest
unfolding words_fault with_words
line_back r s [] rest h = record { clean = refl; goes_on = h }
line_back r s (w ∷ ws) rest h = by_mark (starts_with 35 w) refl h
  where
    by_mark : (b : Bool) → starts_with 35 w ≡ b → ReadsTo r (cond (not b) ((w ∷ ws) ∷ rest) rest) s → Follows r s (w ∷ ws) rest
    by_mark true e k = record {
      clean = ap (λ (x : Bool). if◌then◌else◌ {A = Option FaultKind} x None (word_fault (place_of r) (line_word w) ws)) e;
      goes_on = subst (λ (t : Reader). ReadsTo t rest s) (sym (ap (λ (x : Bool). if◌then◌else◌ {A = Reader} x r (with_word r (line_word w) ws)) e)) k;
    }
    by_mark false e (t, takes, more) = record { clean = takes.clean; goes_on = subst (λ (x : Reader). ReadsTo x rest s) (sym takes.next) more }

ended_ok : (n : ℕ) (r : Reader) (stage : Stage) → stage ≢ InBehaviour → read_end n r stage ≡ Ok r
ended_ok n r Start away = refl
ended_ok n r InKind away = refl
ended_ok n r InBehaviour away = absurd (away refl)

pub read_back : (n : ℕ) (r s : Reader) (lines : List (List ℕ)) → AllByRecursion (λ line. line_fault line ≡ None) lines → ReadsTo r (said_lines lines) s → s.stage ≢ InBehaviour → read_from n r lines ≡ Ok s
unfolding read_from lowest_fault
read_back n r s [] clean e away = ap (λ (x : Reader). read_end n x x.stage) e ∙ ended_ok n s s.stage away
read_back n r s (line ∷ lines) clean h away =
    let step = line_back r s (words_of line) (said_lines lines) h in
    ap₂ (λ (o : Option LineKind) (f : Option FaultKind). unless_fault (n + 1) (option_or (option_map kind_of o) f) (read_from (n + 1) (with_words r (words_of line)) lines)) clean.0 step.clean
    ∙ read_back (n + 1) (with_words r (words_of line)) s lines clean.1 step.goes_on away

-- a text of a program is read as that program
pub text_again : (bytes : List ℕ) (p : Program) → AllByRecursion (λ line. line_fault line ≡ None) (lines_of bytes) → said_lines (lines_of bytes) ≡ program_lines p → IsWellFormed p → read_text bytes ≡ Ok p
unfolding read_text start close_kind
text_again bytes p clean lines good =
    let whole : IsFront (kinds_names (text_of p.names) [] p.kinds) p.names =
    subst (λ (ns : List (List ℕ)). IsFront ns p.names) (sym good.in_order) (record { same = λ n k. refl; short = omega arith }) in
    let read = kinds_read p.names start p.kinds good.apart (λ e. cc) (let few = good.few in omega arith) good.kinds whole in
    let s = read.0 in
    let said : ReadsTo start (said_lines (lines_of bytes)) s = subst (λ (ls : Lines). ReadsTo start ls s) (sym lines) read.1 in
    ap finish (read_back 0 start s (lines_of bytes) clean said read.2.ended)
    ∙ ap₂ (λ (ks : List Kind) (ns : List (List ℕ)). let x : Result Program (ℕ × FaultKind) = Ok (record { kinds = ks; names = ns }) in x) read.2.kinds_are (read.2.names_are ∙ good.in_order)

all_each : (lines : List (List ℕ)) → AreClean lines → AllByRecursion (λ line. line_fault line ≡ None) lines
all_each [] h = tt
all_each (l ∷ ls) h = (h zero [] (omega arith), all_each ls (λ i d k. h (suc i) d (omega arith)))

pub again : (bytes : List ℕ) (p : Program) → IsText bytes p → IsWellFormed p → read_text bytes ≡ Ok p
again bytes p text good = text_again bytes p (all_each (lines_of bytes) text.clean) text.lines good

-- a program is the only one that a text says
pub only_one : (bytes : List ℕ) (r : Result Program TextErr) → IfOk r (λ p. read_text bytes ≡ Ok p) → (p : Program) → IsText bytes p → IsWellFormed p → IfOk r (λ found. found ≡ p)
only_one bytes (Ok found) ok p text good = let same : Ok found ≡ Ok p = sym ok ∙ again bytes p text good in cc
only_one bytes (Err e) ok p text good = tt

refused : (bytes : List ℕ) (e : TextErr) → Tells (fault_of (read_text bytes)) e → IsFault e → (p : Program) → IsText bytes p → ¬ IsWellFormed p
refused bytes (E.Fault line kind) h f p text good = let none = ap fault_of (again bytes p text good) in cc
refused bytes E.NoMemory h f p text good = f

pub no_program : (bytes : List ℕ) (r : Result Program TextErr) → IfErr r (Tells (fault_of (read_text bytes))) →
    IfErr r (λ e. IsFault e → (p : Program) → IsText bytes p → ¬ IsWellFormed p)
no_program bytes (Ok p) h = tt
no_program bytes (Err e) h = refused bytes e h

pub texts : (bytes : List ℕ) (r : Result Program TextErr) → IfOk r (λ p. read_text bytes ≡ Ok p) → IfOk r (IsText bytes)
texts bytes (Ok p) h = text_sound bytes p h
texts bytes (Err e) h = tt

-- a text that is read has no fault
pub no_fault_read : (bytes : List ℕ) (p : Program) → read_text bytes ≡ Ok p → first_fault bytes ≡ None
no_fault_read bytes p h = sym (first_fault_read bytes) ∙ ap fault_of h

pub no_fault_told : (bytes : List ℕ) (p : Program) → read_text bytes ≡ Ok p → told_fault bytes ≡ None
no_fault_told bytes p h = ap (option_map (λ (fault : ℕ × FaultKind). (fault.0, number fault.1))) (no_fault_read bytes p h)

pub no_fault_there : (bytes : List ℕ) (r : Result Program TextErr) → IfOk r (λ p. read_text bytes ≡ Ok p) → OnOk r (first_fault bytes ≡ None)
no_fault_there bytes (Ok p) h = no_fault_read bytes p h
no_fault_there bytes (Err e) h = tt
