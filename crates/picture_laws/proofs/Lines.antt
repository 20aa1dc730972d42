-- The lines of parts have words alone.
use Rattle.std.proofs.Common.{◌≡◌, ℕ, true, List, [], ◌∷◌, Option, Some, None, refl}
use Rattle.std.specs.Prelude.{codes}
use Rattle.std.specs.FinMap as m
use Rattle.std.specs.Option.{option_map_or}
use Rattle.orca_names.specs.declared.names.Thing.{Thing}
use Rattle.orca_names.specs.declared.names.Value.{Value}
use Rattle.behaviour_code.specs.Names.{text_of}
use Rattle.turn_rules.specs.declared.act.Frame.{Frame}
use Rattle.letter_kinds.specs.Letters.{Letter, App, Inc, Dec, Confirm}
use Rattle.letter_kinds.specs.declared.note.Note.{Note}
use Rattle.letter_kinds.specs.declared.note.Note.TheVariants.{Block, Unblock, Ack}
use Rattle.letter_kinds.specs.declared.note.Report.{Report}
use Rattle.letter_kinds.specs.Counting.{Loaded}
use Rattle.letter_kinds.specs.Holdings.{Row}
use Rattle.letter_kinds.specs.Detector.{Detector, Token, has}
use Rattle.machine_rules.specs.Actors.{Seat}
use Rattle.machine_rules.specs.Cell.{Cell}
use Rattle.picture_rules.specs.Words.{Line, Word, amount_words, held_words, thing_word}
use Rattle.picture_rules.specs.Seats.{actor_line, brings_line, cell_lines, fields_lines, holds_line, knows_line, letter_lines, loads_lines, object_line, seat_lines, turn_lines}
use Rattle.picture_rules.specs.Blocked.{detector_lines, member_line, note_line, report_lines, told_words, token_lines}
use Rattle.picture_laws.proofs.Bytes.{AreWords, IsWord, Pass, all_append, all_cons, all_flat, all_map, amount_is, are_words, bit_is, decimal_word, held_is, next_word, no_words, said, thing_is, values_are}

abbrev pub AreLines : List Line → Type 0
AreLines lines = Pass are_words lines

-- each name is a word
abbrev pub TextsAre : List (List ℕ) → Type 0
TextsAre texts = (n : ℕ) → IsWord (text_of texts n)

-- a line before others
pub next_line : {w : Word} {ws : List Word} {ls : List Line} → AreWords (w ∷ ws) → AreLines ls → AreLines ((w ∷ ws) ∷ ls)
next_line h k = all_cons h.all k

pub no_lines : AreLines []
no_lines = said refl

-- ---- letters

loads_are : (load : List Loaded) → AreLines (loads_lines load)
loads_are [] = no_lines
loads_are (e ∷ load) = next_line (next_word (said refl) (all_map (λ (l : Loaded). thing_word l.0) (e ∷ load) (λ l. (thing_is l.0).all))) no_lines

brings_is : (e : Loaded) → AreWords (brings_line e)
brings_is e = next_word (said refl) (next_word (thing_is e.0) (values_are (option_map_or (λ row. row) e.1 [])))

letter_are : (texts : List (List ℕ)) → TextsAre texts → (l : Letter) → AreLines (letter_lines texts l)
letter_are texts ok (App behaviour args load rows) =
    next_line (next_word (said refl) (next_word (ok behaviour) (values_are args)))
    (all_append (loads_are load) (all_map brings_line rows (λ e. (brings_is e).all)))
letter_are texts ok (Inc things) = next_line (next_word (said refl) (all_flat amount_words things amount_is)) no_lines
letter_are texts ok (Dec things) = next_line (next_word (said refl) (all_flat amount_words things amount_is)) no_lines
letter_are texts ok (Confirm token) = next_line (next_word (said refl) (next_word (decimal_word token) no_words)) no_lines

-- ---- cells

actor_is : (a : ℕ) (c : Cell) → AreWords (actor_line a c)
actor_is a c =
    next_word (said refl) (next_word (decimal_word a) (next_word (decimal_word c.kind)
    (next_word (bit_is c.fields.pinned) (next_word (bit_is c.dirty) (next_word (bit_is c.reported)
    (next_word (decimal_word c.holdings.count) (next_word (decimal_word c.holdings.next) no_words)))))))

turn_are : (frame : Option Frame) → AreLines (turn_lines frame)
turn_are None = no_lines
turn_are (Some f) = next_line (next_word (said refl) (next_word (decimal_word f.behaviour) (next_word (decimal_word f.place) (values_are f.registers)))) no_lines

fields_are : (vs : List Value) → AreLines (fields_lines vs)
fields_are [] = no_lines
fields_are (v ∷ vs) = next_line (next_word (said refl) (values_are (v ∷ vs))) no_lines

object_is : (e : ℕ × (Row × ℕ)) → AreWords (object_line e)
object_is e = next_word (said refl) (next_word (decimal_word e.0) (next_word (decimal_word e.1.1) (values_are e.1.0)))

holds_is : (e : Thing × (ℕ × Option Row)) → AreWords (holds_line e)
holds_is e = next_word (said refl) (next_word (thing_is e.0) (next_word (decimal_word e.1.0) no_words))

knows_is : (e : Thing × Row) → AreWords (knows_line e)
knows_is e = next_word (said refl) (next_word (thing_is e.0) (values_are e.1))

cell_are : (a : ℕ) (c : Cell) → AreLines (cell_lines a c)
cell_are a c =
    next_line (actor_is a c)
    (all_append (all_append (all_append (all_append (turn_are c.frame)
    (fields_are c.fields.values))
    (all_map object_line (m.entries c.holdings.rows) (λ e. (object_is e).all)))
    (all_map holds_line (m.entries c.holdings.foreign) (λ e. (holds_is e).all)))
    (all_map knows_line (m.entries c.known) (λ e. (knows_is e).all)))

pub seat_are : (texts : List (List ℕ)) → TextsAre texts → (a : ℕ) (o : Option Seat) → AreLines (seat_lines texts a o)
seat_are texts ok a None = no_lines
seat_are texts ok a (Some o) = all_append (cell_are a o.cell) (all_flat (letter_lines texts) o.mail (letter_are texts ok))

-- ---- the detector

pub detector_are : (d : Detector) → AreLines (detector_lines d)
detector_are d = next_line (next_word (said refl) (next_word (bit_is d.news) (next_word (decimal_word d.opened) no_words))) no_lines

told_are : (a count : ℕ) (held : List (ℕ × ℕ)) → AreWords (told_words a count held)
told_are a count held = next_word (decimal_word a) (next_word (decimal_word count) (all_flat held_words held held_is))

pub report_are : (r : Option Report) → AreLines (report_lines r)
report_are None = no_lines
report_are (Some r) = next_line (next_word (said refl) (told_are r.actor r.count r.held)) no_lines

member_is : (acked : List ℕ) (a : ℕ) → AreWords (member_line acked a)
member_is acked a = next_word (said refl) (next_word (decimal_word a) (next_word (bit_is (has acked a)) no_words))

pub token_are : (t : Option Token) → AreLines (token_lines t)
token_are None = no_lines
token_are (Some t) =
    next_line (next_word (said refl) (next_word (decimal_word t.number) no_words)) (all_map (member_line t.acked) t.members (λ a. (member_is t.acked a).all))

pub note_is : (n : Note) → are_words (note_line n) ≡ true
note_is (Block a count held) = (next_word {w = codes "note"} (said refl) (next_word {w = codes "block"} (said refl) (told_are a count held))).all
note_is (Unblock a) = (next_word {w = codes "note"} (said refl) (next_word {w = codes "unblock"} (said refl) (next_word (decimal_word a) no_words))).all
note_is (Ack token a) = (next_word {w = codes "note"} (said refl) (next_word {w = codes "ack"} (said refl) (next_word (decimal_word token) (next_word (decimal_word a) no_words)))).all
