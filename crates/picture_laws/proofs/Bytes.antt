-- Words of letters, digits and the like.
use Rattle.std.proofs.Common.{◌≡◌, ◌<◌, ℕ, zero, suc, ◌/◌, ◌%◌, ◌==◌, ◌&&◌, ◌||◌, Bool, true, false, List, [], ◌∷◌, ◌++◌, map, if◌then◌else◌, refl, ap, ◌∙◌, arith}
use Rattle.std.specs.Prelude.{codes, flat_map}
use Rattle.std.specs.Char.{is_ascii_digit}
use Rattle.std.specs.Fmt.{decimal, digit_glyph, digits, digits_onto}
use Rattle.std.specs.Int.{is_in_range}
use Rattle.std.specs.List.{list_all}
use Rattle.std.proofs.lemmas.List.Folds.{list_all-append}
use Rattle.orca_names.specs.declared.names.Thing.{Thing}
use Rattle.orca_names.specs.declared.names.Thing.TheVariants as things
use Rattle.orca_names.specs.declared.names.Value.{Value}
use Rattle.orca_names.specs.declared.names.Value.TheVariants as values
use Rattle.picture_rules.specs.Words.{Word, amount_words, bit_word, held_words, thing_word, value_word, value_words}
use Rattle.picture_laws.specs.Alphabet.{is_word_byte}

-- each passes the test
pub record Pass {X : Type 0} (p : X → Bool) (xs : List X) : Type 0 where
  pub all : list_all p xs ≡ true

abbrev pub IsWord : Word → Type 0
IsWord w = Pass is_word_byte w

-- a line has a word, and all its words are
abbrev pub are_words : List Word → Bool
are_words [] = false
are_words (w ∷ ws) = list_all (list_all is_word_byte) (w ∷ ws)

abbrev pub AreWords : List Word → Type 0
AreWords ws = Pass (list_all is_word_byte) ws

pub said : {X : Type 0} {p : X → Bool} {xs : List X} → list_all p xs ≡ true → Pass p xs
said h = record { all = h }

both_true : (a b : Bool) → a ≡ true → b ≡ true → (a && b) ≡ true
both_true a b h k = ap (λ (x : Bool). x && b) h ∙ k

pub all_append : {X : Type 0} {p : X → Bool} {xs ys : List X} → Pass p xs → Pass p ys → Pass p (xs ++ ys)
all_append {p = p} {xs = xs} {ys = ys} h k = said (list_all-append p xs ys ∙ both_true (list_all p xs) (list_all p ys) h.all k.all)

pub all_cons : {X : Type 0} {p : X → Bool} {x : X} {xs : List X} → p x ≡ true → Pass p xs → Pass p (x ∷ xs)
all_cons {p = p} {x = x} {xs = xs} h k = said (both_true (p x) (list_all p xs) h k.all)

pub all_map : {X Y : Type 0} {p : Y → Bool} (f : X → Y) (xs : List X) → ((x : X) → p (f x) ≡ true) → Pass p (map f xs)
all_map f [] h = said refl
all_map f (x ∷ xs) h = all_cons (h x) (all_map f xs h)

pub all_flat : {X Y : Type 0} {p : Y → Bool} (f : X → List Y) (xs : List X) → ((x : X) → Pass p (f x)) → Pass p (flat_map f xs)
all_flat f [] h = said refl
all_flat f (x ∷ xs) h = all_append (h x) (all_flat f xs h)

all_weaker_at : {X : Type 0} (p q : X → Bool) (xs : List X) → ((x : X) → p x ≡ true → q x ≡ true) → list_all p xs ≡ true → list_all q xs ≡ true
all_weaker_at p q [] w h = refl
all_weaker_at p q (x ∷ xs) w h = grind (arith, w x, all_weaker_at p q xs w)

pub all_weaker : {X : Type 0} {p q : X → Bool} {xs : List X} → ((x : X) → p x ≡ true → q x ≡ true) → Pass p xs → Pass q xs
all_weaker {p = p} {q = q} {xs = xs} w h = said (all_weaker_at p q xs w h.all)

-- a word before others
pub next_word : {w : Word} {ws : List Word} → IsWord w → AreWords ws → AreWords (w ∷ ws)
next_word h k = all_cons h.all k

pub no_words : AreWords []
no_words = said refl

-- ---- numbers

glyph_digit : (d : ℕ) → d < 10 → is_ascii_digit (digit_glyph false d) ≡ true
glyph_digit zero h = refl
glyph_digit (suc zero) h = refl
glyph_digit (suc (suc zero)) h = refl
glyph_digit (suc (suc (suc zero))) h = refl
glyph_digit (suc (suc (suc (suc zero)))) h = refl
glyph_digit (suc (suc (suc (suc (suc zero))))) h = refl
glyph_digit (suc (suc (suc (suc (suc (suc zero)))))) h = refl
glyph_digit (suc (suc (suc (suc (suc (suc (suc zero))))))) h = refl
glyph_digit (suc (suc (suc (suc (suc (suc (suc (suc zero)))))))) h = refl
glyph_digit (suc (suc (suc (suc (suc (suc (suc (suc (suc zero))))))))) h = refl
glyph_digit (suc (suc (suc (suc (suc (suc (suc (suc (suc (suc n)))))))))) h = absurd (omega (arith, h))

abbrev pub AreDigits : Word → Type 0
AreDigits w = Pass is_ascii_digit w

either_digits : (b : Bool) (x y : Word) → AreDigits x → AreDigits y → AreDigits (if b then x else y)
either_digits true x y h k = h
either_digits false x y h k = k

more_digits : (k n : ℕ) (acc : Word) → AreDigits acc → AreDigits (digits_onto k 10 false n acc)
more_digits zero n acc h = h
more_digits (suc k) n acc h =
    let more = all_cons {x = digit_glyph false (n % 10)} (glyph_digit (n % 10) (omega arith)) h in
    either_digits (n / 10 == 0) (digit_glyph false (n % 10) ∷ acc)
    (digits_onto k 10 false (n / 10) (digit_glyph false (n % 10) ∷ acc)) more (more_digits k (n / 10) (digit_glyph false (n % 10) ∷ acc) more)

pub decimal_digits : (n : ℕ) → AreDigits (decimal n)
unfolding digits
decimal_digits n = more_digits 64 n [] (said refl)

digit_shown : (b : ℕ) → is_ascii_digit b ≡ true → is_word_byte b ≡ true
digit_shown b h =
    ap (λ (x : Bool). (((x || is_in_range 65 90 b) || is_in_range 97 122 b) || (b == 95)) || (b == 46) || (b == 45)) h

pub decimal_word : (n : ℕ) → IsWord (decimal n)
decimal_word n = all_weaker digit_shown (decimal_digits n)

-- ---- names and values

pub bit_is : (b : Bool) → IsWord (bit_word b)
bit_is true = said refl
bit_is false = said refl

pub thing_is : (x : Thing) → IsWord (thing_word x)
thing_is (things.Actor a) = all_append {xs = codes "a"} (said refl) (decimal_word a)
thing_is (things.Obj n) = all_append (all_append {ys = codes "."} (all_append {xs = codes "o"} (said refl) (decimal_word n.owner)) (said refl)) (decimal_word n.serial)

pub value_is : (v : Value) → IsWord (value_word v)
value_is values.Null = said refl
value_is (values.Num n) = decimal_word n
value_is (values.Actor a) = thing_is (things.Actor a)
value_is (values.Obj n) = thing_is (things.Obj n)

pub values_are : (vs : List Value) → AreWords (value_words vs)
values_are vs = all_map value_word vs (λ v. (value_is v).all)

pub amount_is : (e : Thing × ℕ) → AreWords (amount_words e)
amount_is e = next_word (thing_is e.0) (next_word (decimal_word e.1) no_words)

pub held_is : (e : ℕ × ℕ) → AreWords (held_words e)
held_is e = next_word (decimal_word e.0) (next_word (decimal_word e.1) no_words)
