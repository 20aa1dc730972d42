-- What is read is a program that has a text.
use Rattle.std.proofs.Common.{◌≡◌, ℕ, ◌<◌, true, List, [], ◌∷◌, length, flat_map, refl, ap, sym, ◌∙◌, subst, arith, IfSome, Result, Ok, Err, IfOk, slice_index_or, zero, suc}
use Rattle.std.specs.List.{AllByRecursion}
use Rattle.text_lines.specs.Lines.{lines_of}
use Rattle.behaviour_text.proofs.Known.{InstrKnown, BehaviourKnown, KindKnown}
use Rattle.behaviour_text.proofs.Said.{closed_said}
use Rattle.behaviour_text.proofs.Sound.{read_sound, closed_known}
use Rattle.behaviour_text.proofs.Limits.{BehaviourSmall, KindSmall, read_small, closed_small, closed_count}
use Rattle.behaviour_text.proofs.Named.{NamesOk, read_adds, kinds_same, lines_names}
use Rattle.behaviour_code.specs.WellFormed.{InstrFits, name_in, NameFits, kinds_names, InstrIsWellFormed, BehaviourIsWellFormed, KindIsWellFormed, IsWellFormed}
use Rattle.behaviour_code.specs.Names.{is_name, text_of}
use Rattle.behaviour_code.specs.declared.code.Behaviour.{Behaviour}
use Rattle.behaviour_code.specs.declared.code.Kind.{Kind}
use Rattle.behaviour_code.specs.declared.code.Program.{Program}
use Rattle.behaviour_code.specs.declared.instr.Instr.{Instr}
use Rattle.behaviour_text.specs.Reading.{start, close_kind_at, close_kind, read_from, program_of, finish, read_text}
use Rattle.behaviour_text.specs.Text.{kind_lines, said_lines}
use Rattle.behaviour_text.specs.declared.errors.TextErr.{TextErr}
use Rattle.behaviour_text.specs.declared.reader.Reader.{Reader}
use Rattle.behaviour_text.specs.declared.errors.FaultKind.{FaultKind}
use Rattle.behaviour_text.proofs.Instructions.{if_some_weaker}

name_at : (names : List (List ℕ)) (i : ℕ) → AllByRecursion (λ w. is_name w ≡ true) names → i < length names → is_name (slice_index_or names i []) ≡ true
name_at [] i h k = absurd (omega arith)
name_at (n ∷ ns) zero h k = h.0
name_at (n ∷ ns) (suc i) h k = name_at ns i h.1 (omega arith)

name_fits : (names : List (List ℕ)) (n : ℕ) → NamesOk names → n < length names → NameFits names n
name_fits names n ok h = record { within = h; form = name_at names n ok.each h }

instr_name : (names : List (List ℕ)) (i : Instr) → NamesOk names → InstrKnown (length names) i → IfSome (name_in i) (NameFits names)
instr_name names i ok h = if_some_weaker (λ n. n < length names) (NameFits names) (name_in i) (λ n within. name_fits names n ok within) h

instrs_good : (names : List (List ℕ)) (is : List Instr) → NamesOk names → AllByRecursion (InstrKnown (length names)) is → AllByRecursion InstrFits is → AllByRecursion (InstrIsWellFormed names) is
instrs_good names [] ok k s = tt
instrs_good names (i ∷ is) ok k s = (record { fits = s.0; named = instr_name names i ok k.0 }, instrs_good names is ok k.1 s.1)

behaviours_good : (names : List (List ℕ)) (bs : List Behaviour) → NamesOk names → AllByRecursion (BehaviourKnown (length names)) bs → AllByRecursion BehaviourSmall bs → AllByRecursion (BehaviourIsWellFormed names) bs
behaviours_good names [] ok k s = tt
behaviours_good names (b ∷ bs) ok k s = (
  record { named = name_fits names b.name ok k.0.name; parameters = s.0.few; short = s.0.short; body = instrs_good names b.body ok k.0.body s.0.instrs },
  behaviours_good names bs ok k.1 s.1,
)

kinds_good : (names : List (List ℕ)) (ks : List Kind) → NamesOk names → AllByRecursion (KindKnown (length names)) ks → AllByRecursion KindSmall ks → AllByRecursion (KindIsWellFormed names) ks
kinds_good names [] ok k s = tt
kinds_good names (x ∷ xs) ok k s = (
  record { named = name_fits names x.name ok k.0.name; fields = s.0.few; few = s.0.short; behaviours = behaviours_good names x.behaviours ok k.0.behaviours s.0.each },
  kinds_good names xs ok k.1 s.1,
)

none_ok : NamesOk []
none_ok = record { each = tt; apart = record { apart = λ m n h k e. absurd (omega arith) } }

done_good : (bytes : List ℕ) (p : Program) (read : Result Reader (ℕ × FaultKind)) → read_from 0 start (lines_of bytes) ≡ read → finish read ≡ Ok p → IsWellFormed p
unfolding start close_kind
done_good bytes p (Err e) told h = cc
done_good bytes p (Ok s) told h =
    let lines = lines_of bytes in
    let reads = read_sound 0 start s lines (tt, tt) told in
    let small = read_small 0 start s lines (tt, omega arith) told in
    let adds = read_adds 0 start s lines told in
    let ok = adds.ok none_ok in
    let kinds = (close_kind_at s.stage s).kinds in
    let said : flat_map (kind_lines (text_of s.names)) kinds ≡ said_lines lines = closed_said (text_of s.names) s s.stage reads.ended ∙ reads.says.said in
    let order : kinds_names (text_of s.names) [] kinds ≡ s.names =
    sym (kinds_same (text_of s.names) [] kinds) ∙ ap (lines_names []) said ∙ sym adds.order in
    let same : program_of s ≡ p = cc in
    subst IsWellFormed same (record {
      few = closed_count s s.stage small;
      kinds = kinds_good s.names kinds ok (closed_known (length s.names) s s.stage reads.says.known) (closed_small s s.stage small);
      apart = ok.apart;
      in_order = order;
    })

-- what is read has a text
pub read_good : (bytes : List ℕ) (p : Program) → read_text bytes ≡ Ok p → IsWellFormed p
unfolding read_text
read_good bytes p h = done_good bytes p (read_from 0 start (lines_of bytes)) refl h

pub goods : (bytes : List ℕ) (r : Result Program TextErr) → IfOk r (λ p. read_text bytes ≡ Ok p) → IfOk r IsWellFormed
goods bytes (Ok p) h = read_good bytes p h
goods bytes (Err e) h = tt
