-- A token whose member acknowledges.
use Rattle.std.proofs.Common.{◌≡◌, ℕ, zero, suc, [], ◌∷◌, ◌-◌, ◌<◌, ◌≤◌, ◌==◌, Bool, true, false, ◌||◌, List, length, length-set, get_or, set, replicate, filter, refl, ap, sym, ◌∙◌, arith, Some, slice_get, eq-eqb}
use Rattle.std.proofs.lemmas.List.{length-replicate}
use Rattle.letter_kinds.specs.Detector.{Token, has, note_ack}
use Rattle.detector_tokens.specs.Marks.{picked, AreMarks}
use Rattle.detector_tokens.proofs.MarksLemmas.{acked-set, acked-again, acked-other, off_count-set, off_count-none, picked-none}
use Rattle.std.specs.List.Sorted.{IsStrictlySortedBy}
use Rattle.std.specs.Ordering.{nat_cmp}
use Rattle.detector_tokens.proofs.RisingLemmas.{place_is}

abbrev token_told : ℕ → List ℕ → List Bool → Token
token_told number members marks = record { number = number; members = members; acked = picked members marks }

-- an acknowledgement of this token
own_ack : (t : Token) (a : ℕ)
    → note_ack t.number a t ≡ record t { acked = filter (λ m. has t.acked m || (m == a)) t.members }
own_ack t a = rw (eq-eqb t.number t.number refl) refl

at_place : (ms : List ℕ) (bs : List Bool) (missing i a : ℕ) → AreMarks ms bs missing
    → slice_get ms i ≡ Some a → (i < length bs) × (i < length ms) × (get_or ms i 0 ≡ a)
at_place ms bs missing i a k e = let (lt, g) = place_is ms i a e in let long = k.long in (omega arith, lt, g)

get_false : (bs : List Bool) (i : ℕ) (b : Bool) → i < length bs → b ≡ get_or bs i b → b ≡ false
    → get_or bs i false ≡ false
get_false bs i b lt at off = sym (at ∙ ap (get_or bs i) off) ∙ off

get_true : (bs : List Bool) (i : ℕ) (b : Bool) → i < length bs → b ≡ get_or bs i b → b ≡ true
    → get_or bs i false ≡ true
get_true bs i b lt at on = get_or_same bs i b lt ∙ (sym at ∙ on)
  where
    get_or_same : (bs : List Bool) (i : ℕ) (b : Bool) → i < length bs → get_or bs i false ≡ get_or bs i b
    get_or_same [] i b lt = absurd (omega arith)
    get_or_same (x ∷ xs) zero b lt = refl
    get_or_same (x ∷ xs) (suc i) b lt = get_or_same xs i b (omega arith)

pub some_missing : (ms : List ℕ) (bs : List Bool) (missing i a : ℕ) (b : Bool)
    → AreMarks ms bs missing → slice_get ms i ≡ Some a → b ≡ get_or bs i b → b ≡ false → 1 ≤ missing
some_missing ms bs missing i a b k e at off =
    let p = at_place ms bs missing i a k e in
    let q = off_count-set bs i p.0 (get_false bs i b p.0 at off) in let count = k.count in omega arith

pub marks_after : (ms : List ℕ) (bs : List Bool) (missing i a : ℕ) (b : Bool)
    → AreMarks ms bs missing → slice_get ms i ≡ Some a → b ≡ get_or bs i b → b ≡ false
    → AreMarks ms (set bs i true) (missing - 1)
marks_after ms bs missing i a b k e at off =
    let p = at_place ms bs missing i a k e in
    let q = off_count-set bs i p.0 (get_false bs i b p.0 at off) in let count = k.count in
    record { rising = k.rising; long = simp length-set k.long; count = omega arith }

pub acks_one : (n : ℕ) (ms : List ℕ) (bs : List Bool) (missing i a : ℕ) → AreMarks ms bs missing
    → slice_get ms i ≡ Some a → token_told n ms (set bs i true) ≡ note_ack n a (token_told n ms bs)
acks_one n ms bs missing i a k e =
    let p = at_place ms bs missing i a k e in
    ap (λ xs. record { number = n; members = ms; acked = xs }) (acked-set ms bs i a k.long k.rising p.1 p.2) ∙ sym (own_ack (token_told n ms bs) a)

pub acks_again : (n : ℕ) (ms : List ℕ) (bs : List Bool) (missing i a : ℕ) (b : Bool)
    → AreMarks ms bs missing → slice_get ms i ≡ Some a → b ≡ get_or bs i b → b ≡ true
    → token_told n ms bs ≡ note_ack n a (token_told n ms bs)
acks_again n ms bs missing i a b k e at on =
    let p = at_place ms bs missing i a k e in
    ap (λ xs. record { number = n; members = ms; acked = xs }) (acked-again ms bs i a k.long k.rising p.1 p.2 (get_true bs i b p.0 at on)) ∙ sym (own_ack (token_told n ms bs) a)

pub acks_other : (n : ℕ) (ms : List ℕ) (bs : List Bool) (missing a : ℕ) → AreMarks ms bs missing
    → has ms a ≡ false → token_told n ms bs ≡ note_ack n a (token_told n ms bs)
acks_other n ms bs missing a k out =
    ap (λ xs. record { number = n; members = ms; acked = xs }) (acked-other ms bs a k.long k.rising out) ∙ sym (own_ack (token_told n ms bs) a)

-- a new token
pub fresh_marks : (ms xs : List ℕ) (bs : List Bool) → xs ≡ ms → bs ≡ replicate (length ms) false
    → IsStrictlySortedBy nat_cmp ms → AreMarks xs bs (length ms)
fresh_marks ms xs bs e f h = rw (e, f) record { rising = h; long = length-replicate (length ms) false; count = sym (off_count-none (length ms)) }

pub fresh_token : (n : ℕ) (ms xs : List ℕ) (bs : List Bool) → xs ≡ ms
    → bs ≡ replicate (length ms) false
    → token_told n xs bs ≡ record { number = n; members = ms; acked = [] }
fresh_token n ms xs bs e f = rw (e, f) (ap (λ ys. record { number = n; members = ms; acked = ys }) (picked-none ms (length ms)))
