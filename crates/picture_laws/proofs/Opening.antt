-- The lines with which parts begin, or which say that they are no more.
use Rattle.std.proofs.Common.{◌≡◌, ◌⊎◌, ℕ, true, false, not, if◌then◌else◌, inl, inr, refl, ap, sym, ◌∙◌, arith}
use Rattle.std.specs.Prelude.{◌<◌, ◌^◌, bytes_eq, codes, ⊤}
use Rattle.std.specs.Fmt.{decimal}
use Rattle.std.specs.List.{list_any}
use Rattle.std.proofs.lemmas.Slice.Eq.{bytes_eq-Decides}
use Rattle.behaviour_text.specs.Words.{word_at}
use Rattle.picture_rules.specs.Words.{Line, Word}
use Rattle.picture_laws.specs.Applying.{AReport, AToken, AnActor, Part, TheDetector, begins, has_words, is_further, part_words, says_gone}
use Rattle.picture_laws.proofs.Numerals.{told_apart}
use Rattle.picture_laws.proofs.Shown.{first_true, second_true}

-- the number of the part has 64 bits
abbrev pub PartFits : Part → Type 0
PartFits (AnActor a) = a < 2 ^ 64
PartFits TheDetector = ⊤
PartFits (AReport a) = a < 2 ^ 64
PartFits (AToken n) = n < 2 ^ 64

abbrev pub Opens : Part → Line → Type 0
Opens p line = (begins p line ≡ true) ⊎ (says_gone p line ≡ true)

-- which kind of part a word is of
abbrev kind_told : Word → ℕ
kind_told w =
    if bytes_eq w (codes "actor") then 0 else (if bytes_eq w (codes "gone") then 0 else (if bytes_eq w (codes "detector") then 1
    else (if bytes_eq w (codes "report") then 2 else (if bytes_eq w (codes "withdrawn") then 2 else 3))))

abbrev kind_no : Part → ℕ
kind_no (AnActor a) = 0
kind_no TheDetector = 1
kind_no (AReport a) = 2
kind_no (AToken n) = 3

same_word : (w v : Word) → bytes_eq w v ≡ true → w ≡ v
same_word w v h = (bytes_eq-Decides w v).0 h

first_word : (w v : Word) (line : Line) → has_words w v line ≡ true → word_at line 0 ≡ w
first_word w v line h = same_word (word_at line 0) w (first_true (bytes_eq (word_at line 0) w) (bytes_eq (word_at line 1) v) h)

second_word : (w v : Word) (line : Line) → has_words w v line ≡ true → word_at line 1 ≡ v
second_word w v line h = same_word (word_at line 1) v (second_true (bytes_eq (word_at line 0) w) (bytes_eq (word_at line 1) v) h)

kind_is : (p : Part) (line : Line) → Opens p line → kind_told (word_at line 0) ≡ kind_no p
kind_is (AnActor a) line (inl h) = ap kind_told (first_word (codes "actor") (decimal a) line h)
kind_is (AnActor a) line (inr h) = ap kind_told (first_word (codes "gone") (decimal a) line h)
kind_is TheDetector line (inl h) = ap kind_told (same_word (word_at line 0) (codes "detector") h)
kind_is TheDetector line (inr h) = cc
kind_is (AReport a) line (inl h) = ap kind_told (first_word (codes "report") (decimal a) line h)
kind_is (AReport a) line (inr h) = ap kind_told (first_word (codes "withdrawn") (decimal a) line h)
kind_is (AToken n) line (inl h) = ap kind_told (first_word (codes "token") (decimal n) line h)
kind_is (AToken n) line (inr h) = ap kind_told (first_word (codes "closed") (decimal n) line h)

-- such a line is no further one
pub opens_anew : (p : Part) (line : Line) → Opens p line → is_further line ≡ false
opens_anew (AnActor a) line (inl h) = ap (λ w. not (list_any (bytes_eq w) part_words)) (first_word (codes "actor") (decimal a) line h)
opens_anew (AnActor a) line (inr h) = ap (λ w. not (list_any (bytes_eq w) part_words)) (first_word (codes "gone") (decimal a) line h)
opens_anew TheDetector line (inl h) = ap (λ w. not (list_any (bytes_eq w) part_words)) (same_word (word_at line 0) (codes "detector") h)
opens_anew TheDetector line (inr h) = cc
opens_anew (AReport a) line (inl h) = ap (λ w. not (list_any (bytes_eq w) part_words)) (first_word (codes "report") (decimal a) line h)
opens_anew (AReport a) line (inr h) = ap (λ w. not (list_any (bytes_eq w) part_words)) (first_word (codes "withdrawn") (decimal a) line h)
opens_anew (AToken n) line (inl h) = ap (λ w. not (list_any (bytes_eq w) part_words)) (first_word (codes "token") (decimal n) line h)
opens_anew (AToken n) line (inr h) = ap (λ w. not (list_any (bytes_eq w) part_words)) (first_word (codes "closed") (decimal n) line h)

actor_no : (a : ℕ) (line : Line) → Opens (AnActor a) line → word_at line 1 ≡ decimal a
actor_no a line (inl h) = second_word (codes "actor") (decimal a) line h
actor_no a line (inr h) = second_word (codes "gone") (decimal a) line h

report_no : (a : ℕ) (line : Line) → Opens (AReport a) line → word_at line 1 ≡ decimal a
report_no a line (inl h) = second_word (codes "report") (decimal a) line h
report_no a line (inr h) = second_word (codes "withdrawn") (decimal a) line h

token_no : (n : ℕ) (line : Line) → Opens (AToken n) line → word_at line 1 ≡ decimal n
token_no n line (inl h) = second_word (codes "token") (decimal n) line h
token_no n line (inr h) = second_word (codes "closed") (decimal n) line h

same_part : (p q : Part) (line : Line) → kind_no p ≡ kind_no q → Opens p line → Opens q line → PartFits q → p ≡ q
same_part (AnActor a) (AnActor b) line k h j f = ap AnActor (told_apart a b f (sym (actor_no a line h) ∙ actor_no b line j))
same_part TheDetector TheDetector line k h j f = refl
same_part (AReport a) (AReport b) line k h j f = ap AReport (told_apart a b f (sym (report_no a line h) ∙ report_no b line j))
same_part (AToken a) (AToken b) line k h j f = ap AToken (told_apart a b f (sym (token_no a line h) ∙ token_no b line j))
same_part (AnActor a) TheDetector line k h j f = absurd (omega (arith, k))
same_part (AnActor a) (AReport b) line k h j f = absurd (omega (arith, k))
same_part (AnActor a) (AToken b) line k h j f = absurd (omega (arith, k))
same_part TheDetector (AnActor b) line k h j f = absurd (omega (arith, k))
same_part TheDetector (AReport b) line k h j f = absurd (omega (arith, k))
same_part TheDetector (AToken b) line k h j f = absurd (omega (arith, k))
same_part (AReport a) (AnActor b) line k h j f = absurd (omega (arith, k))
same_part (AReport a) TheDetector line k h j f = absurd (omega (arith, k))
same_part (AReport a) (AToken b) line k h j f = absurd (omega (arith, k))
same_part (AToken a) (AnActor b) line k h j f = absurd (omega (arith, k))
same_part (AToken a) TheDetector line k h j f = absurd (omega (arith, k))
same_part (AToken a) (AReport b) line k h j f = absurd (omega (arith, k))

-- it is of one part alone
pub one_part : (p q : Part) (line : Line) → Opens p line → Opens q line → PartFits q → p ≡ q
one_part p q line h j f = same_part p q line (sym (kind_is p line h) ∙ kind_is q line j) h j f
