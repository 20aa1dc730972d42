-- The bytes of lines whose words are of the alphabet.
use Rattle.std.proofs.Common.{◌≡◌, ℕ, Bool, true, false, ◌&&◌, ◌||◌, ◌==◌, not, List, [], ◌∷◌, ◌++◌, refl, ap}
use Rattle.std.specs.Prelude.{codes}
use Rattle.std.specs.Fmt.{decimal}
use Rattle.std.specs.List.{list_all}
use Rattle.behaviour_text.specs.Text.{line_of, rest_of_line}
use Rattle.event_rule.specs.Events.{event_text}
use Rattle.event_rule.specs.declared.event.Event.{Event}
use Rattle.event_rule.specs.declared.event.Event.TheVariants.{Take, Go, Collect, Leave, Block, Hear, Scan, Reap}
use Rattle.picture_rules.specs.Words.{Line, Word, text_of_lines}
use Rattle.picture_laws.specs.Alphabet.{is_shown, is_word_byte}
use Rattle.picture_laws.proofs.Bytes.{IsWord, Pass, all_append, all_cons, all_weaker, are_words, decimal_word, said}
use Rattle.picture_laws.proofs.Lines.{AreLines}

pub first_true : (a b : Bool) → (a && b) ≡ true → a ≡ true
first_true true b h = refl
first_true false b h = cc

pub second_true : (a b : Bool) → (a && b) ≡ true → b ≡ true
second_true true b h = h
second_true false b h = cc

pub off : (b : Bool) → not b ≡ true → b ≡ false
off true h = cc
off false h = refl

pub first_passes : {X : Type 0} {p : X → Bool} {x : X} {xs : List X} → Pass p (x ∷ xs) → p x ≡ true
first_passes {p = p} {x = x} {xs = xs} h = first_true (p x) (list_all p xs) h.all

pub others_pass : {X : Type 0} {p : X → Bool} {x : X} {xs : List X} → Pass p (x ∷ xs) → Pass p xs
others_pass {p = p} {x = x} {xs = xs} h = said (second_true (p x) (list_all p xs) h.all)

abbrev pub IsShown : List ℕ → Type 0
IsShown bytes = Pass is_shown bytes

abbrev pub line_shown : Line → Bool
line_shown l = list_all (list_all is_shown) l

abbrev pub LineShown : Line → Type 0
LineShown l = Pass (list_all is_shown) l

abbrev pub AreShown : List Line → Type 0
AreShown ls = Pass line_shown ls

byte_shown : (b : ℕ) → is_word_byte b ≡ true → is_shown b ≡ true
byte_shown b h = ap (λ (x : Bool). x || (b == 32) || (b == 10)) h

pub word_shown : {w : Word} → IsWord w → IsShown w
word_shown h = all_weaker byte_shown h

words_shown : (l : Line) → are_words l ≡ true → line_shown l ≡ true
words_shown [] h = cc
words_shown (w ∷ ws) h = (all_weaker {p = list_all is_word_byte} {q = list_all is_shown} {xs = w ∷ ws} (λ w j. (word_shown {w = w} (said j)).all) (said h)).all

pub lines_shown : {ls : List Line} → AreLines ls → AreShown ls
lines_shown h = all_weaker words_shown h

-- ---- from words to bytes

rest_bytes : (ws : Line) → LineShown ws → IsShown (rest_of_line ws)
rest_bytes [] h = said refl
rest_bytes (w ∷ ws) h = all_cons refl (all_append {xs = w} (said (first_passes h)) (rest_bytes ws (others_pass h)))

line_bytes : (l : Line) → LineShown l → IsShown (line_of l)
line_bytes [] h = said refl
line_bytes (w ∷ ws) h = all_append {xs = w} (said (first_passes h)) (rest_bytes ws (others_pass h))

pub text_bytes : (ls : List Line) → AreShown ls → IsShown (text_of_lines ls)
text_bytes [] h = said refl
text_bytes (l ∷ ls) h = all_append (line_bytes l (said (first_passes h))) (text_bytes ls (others_pass h))

-- ---- events

numbered : (w : Word) (n : ℕ) → IsShown w → IsShown (w ++ decimal n)
numbered w n h = all_append h (word_shown (decimal_word n))

pub event_shown : (e : Event) → IsShown (event_text e)
event_shown (Take a) = numbered (codes "take ") a (said refl)
event_shown (Go a) = numbered (codes "go ") a (said refl)
event_shown (Collect a) = numbered (codes "collect ") a (said refl)
event_shown (Leave a) = numbered (codes "leave ") a (said refl)
event_shown (Block a) = numbered (codes "block ") a (said refl)
event_shown Hear = said refl
event_shown Scan = said refl
event_shown (Reap token) = numbered (codes "reap ") token (said refl)
