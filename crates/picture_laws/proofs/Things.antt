-- The word of a thing of 64-bit numbers is that of no other thing.
use Rattle.std.proofs.Common.{◌≡◌, ◌≢◌, ◌<◌, ◌^◌, ℕ, Bool, true, false, List, [], ◌∷◌, drop, get_or, inl, inr, refl, ap, sym, ◌∙◌, arith, append_assoc}
use Rattle.std.specs.Prelude.{bytes_eq}
use Rattle.std.specs.Char.{is_ascii_digit}
use Rattle.std.specs.Fmt.{decimal}
use Rattle.std.proofs.lemmas.Slice.Eq.{bytes_eq-Decides}
use Rattle.orca_names.proofs.ThingOrder.{cases_thing, is_eq_true, is_ne_false}
use Rattle.orca_names.specs.Names.{is_thing}
use Rattle.orca_names.specs.declared.names.ObjName.{ObjName}
use Rattle.orca_names.specs.declared.names.Thing.{Thing}
use Rattle.orca_names.specs.declared.names.Thing.TheVariants.{Actor, Obj}
use Rattle.picture_rules.specs.Words.{Word, object_word, thing_word}
use Rattle.picture_laws.proofs.Apart.{Ends, front_end}
use Rattle.picture_laws.proofs.Bytes.{decimal_digits}
use Rattle.picture_laws.proofs.Numerals.{told_apart}

-- its numbers have 64 bits
abbrev pub ThingFits : Thing → Type 0
ThingFits (Actor a) = a < 2 ^ 64
ThingFits (Obj n) = (n.owner < 2 ^ 64) × (n.serial < 2 ^ 64)

dot_ends : (r : List ℕ) → Ends is_ascii_digit (46 ∷ r)
dot_ends r = record { byte = 46; rest = r; is = refl; fails = refl }

pub one_name : (m n : ObjName) → m.owner ≡ n.owner → m.serial ≡ n.serial → m ≡ n
one_name m n o s = λ i. record { owner = o i; serial = s i }

objects_apart : (m n : ObjName) → n.owner < 2 ^ 64 → n.serial < 2 ^ 64 → object_word m ≡ object_word n → m ≡ n
objects_apart m n f g e =
    let cut = front_end is_ascii_digit (decimal m.owner) (decimal n.owner) (46 ∷ decimal m.serial) (46 ∷ decimal n.serial)
    (decimal_digits m.owner) (decimal_digits n.owner) (dot_ends (decimal m.serial)) (dot_ends (decimal n.serial))
    (sym (append_assoc (decimal m.owner) (46 ∷ []) (decimal m.serial)) ∙ ap (drop 1) e ∙ append_assoc (decimal n.owner) (46 ∷ []) (decimal n.serial)) in
    one_name m n (told_apart m.owner n.owner f cut.0) (told_apart m.serial n.serial g (ap (drop 1) cut.1))

things_apart : (x y : Thing) → ThingFits y → thing_word x ≡ thing_word y → x ≡ y
things_apart (Actor a) (Actor b) f e = ap Actor (told_apart a b f (ap (drop 1) e))
things_apart (Actor a) (Obj n) f e = let z : 97 ≡ 111 = ap (λ l. get_or l 0 0) e in absurd (omega (arith, z))
things_apart (Obj n) (Actor b) f e = let z : 111 ≡ 97 = ap (λ l. get_or l 0 0) e in absurd (omega (arith, z))
things_apart (Obj m) (Obj n) f e = ap Obj (objects_apart m n f.0 f.1 e)

unlike_words : (w v : Word) (b : Bool) → w ≢ v → bytes_eq w v ≡ b → b ≡ false
unlike_words w v true ne e = absurd (ne ((bytes_eq-Decides w v).0 e))
unlike_words w v false ne e = refl

-- so words are the same where the things are
pub same_test : (x y : Thing) → ThingFits y → bytes_eq (thing_word y) (thing_word x) ≡ is_thing x y
same_test x y fits = elim (cases_thing x y) [
  | inl same ↦ (bytes_eq-Decides (thing_word y) (thing_word x)).1 (ap thing_word (sym same)) ∙ sym (is_eq_true x y same)
  | inr other ↦ unlike_words (thing_word y) (thing_word x) (bytes_eq (thing_word y) (thing_word x)) (λ e. other (things_apart x y fits (sym e))) refl
      ∙ sym (is_ne_false x y other)
]
