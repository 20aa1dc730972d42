-- A set of strings, seen as texts.
use Rattle.std.proofs.Common.{◌≡◌, ℕ, ◌+◌, Bool, true, false, cond, not, ◌||◌, List, [], ◌∷◌, ◌++◌, map, Some, None, ap, ap₂, refl, sym, ◌∙◌, String, string_bytes, string_eq, bytes_eq, Global, if◌then◌else◌, subst}
use Rattle.std.specs.List.{list_any, position, position_or_len}
use Rattle.std.proofs.lemmas.List.Folds.{list_any_at}
use Rattle.std.proofs.lemmas.List.Quantifiers.{position-Some}
use Rattle.std.proofs.lemmas.List.{map-append}
use Rattle.indexmap.specs.IndexSet.{insert_key}
use Rattle.behaviour_code.specs.Names.{intern}

-- the key's bytes are this text
abbrev is_text : List ℕ → String Global → Bool
is_text text k = bytes_eq text (string_bytes k)

any_text : (text : List ℕ) (ks : List (String Global)) → list_any (bytes_eq text) (map string_bytes ks) ≡ list_any (is_text text) ks
any_text text [] = refl
any_text text (k ∷ ks) = ap (λ (b : Bool). is_text text k || b) (any_text text ks)

place_of_text : (text : List ℕ) (ks : List (String Global)) →
    position_or_len (bytes_eq text) (map string_bytes ks) ≡ position_or_len (is_text text) ks
place_of_text text [] = refl
place_of_text text (k ∷ ks) = ap (λ (n : ℕ). cond (not (is_text text k)) (1 + n) 0) (place_of_text text ks)

with_key : (ks : List (String Global)) (s : String Global) (b : Bool) →
    (if b then map string_bytes ks else map string_bytes ks ++ string_bytes s ∷ []) ≡ map string_bytes (if b then ks else ks ++ s ∷ [])
with_key ks s true = refl
with_key ks s false = sym (map-append string_bytes ks (s ∷ []))

pub interned_keys : (ks ks' : List (String Global)) (s : String Global) (n : ℕ) (text : List ℕ) (texts : List (List ℕ)) →
    map string_bytes ks ≡ texts → string_bytes s ≡ text → ks' ≡ insert_key string_eq ks s → n ≡ position_or_len (string_eq s) ks →
    intern texts text ≡ (n, map string_bytes ks')
interned_keys ks ks' s n text texts v t e h =
    subst (λ (x : List (List ℕ)). intern x text ≡ (n, map string_bytes ks')) v
    (subst (λ (x : List ℕ). intern (map string_bytes ks) x ≡ (n, map string_bytes ks')) t
    (ap₂ (λ (a : ℕ) (b : List (List ℕ)). (a, b))
    (place_of_text (string_bytes s) ks ∙ sym h)
    (ap (λ (b : Bool). if b then map string_bytes ks else map string_bytes ks ++ string_bytes s ∷ []) (any_text (string_bytes s) ks)
    ∙ with_key ks s (list_any (string_eq s) ks) ∙ ap (map string_bytes) (sym e))))

-- a text that is there keeps the texts, and its name is the place where it stands
pub interned_found : (ks : List (String Global)) (n : ℕ) (text : List ℕ) (texts : List (List ℕ)) →
    map string_bytes ks ≡ texts → position (is_text text) ks ≡ Some n → intern texts text ≡ (n, texts)
interned_found [] n text texts v found = cc
interned_found (k ∷ ks) n text texts v found =
    let at = position-Some (is_text text) (k ∷ ks) n k found in
    let keys = map string_bytes (k ∷ ks) in
    subst (λ (x : List (List ℕ)). intern x text ≡ (n, x)) v
    (ap₂ (λ (a : ℕ) (b : List (List ℕ)). (a, b)) (place_of_text text (k ∷ ks) ∙ placed _ _ found)
    (ap (λ (b : Bool). if b then keys else keys ++ text ∷ [])
    (any_text text (k ∷ ks) ∙ list_any_at (is_text text) (k ∷ ks) n k at.0 at.1)))
  where
    placed : (b : Bool) (m : ℕ) → cond b (Some m) None ≡ Some n → m ≡ n
    placed true m e = cc
    placed false m e = cc
