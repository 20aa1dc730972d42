-- The names of a well-formed program are words.
use Rattle.std.proofs.Common.{◌≡◌, ℕ, zero, suc, Bool, true, false, ◌&&◌, ◌||◌, ◌==◌, if◌then◌else◌, List, [], ◌∷◌, ◌++◌, length, Option, Some, None, IfSome, refl, ap, subst}
use Rattle.std.specs.Prelude.{bytes_eq, nat_le}
use Rattle.std.specs.List.{AllByRecursion, list_all, list_any}
use Rattle.orca_names.specs.declared.limits.TheConstants.{NAME_LIMIT}
use Rattle.behaviour_code.specs.Names.{is_name, is_name_byte, text_of, with_text}
use Rattle.behaviour_code.specs.WellFormed.{BehaviourIsWellFormed, InstrIsWellFormed, IsWellFormed, KindIsWellFormed, NameFits, behaviours_names, body_names, instr_names, kinds_names, name_in}
use Rattle.behaviour_code.specs.declared.code.Behaviour.{Behaviour}
use Rattle.behaviour_code.specs.declared.code.Kind.{Kind}
use Rattle.behaviour_code.specs.declared.code.Program.{Program}
use Rattle.behaviour_code.specs.declared.instr.Instr.{Instr}
use Rattle.picture_laws.proofs.Bytes.{IsWord, Pass, all_append, all_cons, all_weaker, said}
use Rattle.picture_laws.proofs.Lines.{TextsAre}
use Rattle.picture_laws.proofs.Shown.{first_passes, others_pass, second_true}

name_is : (w : List ℕ) → is_name w ≡ true → IsWord w
name_is w h =
    all_weaker (λ b k. ap (λ (x : Bool). x || (b == 46) || (b == 45)) k)
    (said (second_true (nat_le 1 (length w) && nat_le (length w) NAME_LIMIT) (list_all is_name_byte w) h))

abbrev Good : List (List ℕ) → Type 0
Good texts = Pass is_name texts

texts_are : (names : List (List ℕ)) → Good names → TextsAre names
texts_are [] h n = said refl
texts_are (w ∷ names) h zero = name_is w (first_passes h)
texts_are (w ∷ names) h (suc n) = texts_are names (others_pass h) n

-- ---- the names in the order in which they come

either_good : (b : Bool) (xs ys : List (List ℕ)) → Good xs → Good ys → Good (if b then xs else ys)
either_good true xs ys h k = h
either_good false xs ys h k = k

with_good : (texts : List (List ℕ)) (t : List ℕ) → Good texts → is_name t ≡ true → Good (with_text texts t)
with_good texts t h k =
    either_good (list_any (bytes_eq t) texts) texts (texts ++ t ∷ []) h (all_append h (all_cons k (said refl)))

module _ (names : List (List ℕ)) where
  instr_good : (texts : List (List ℕ)) (o : Option ℕ) → IfSome o (NameFits names) → Good texts → Good (instr_names (text_of names) texts o)
  instr_good texts None f h = h
  instr_good texts (Some n) f h = with_good texts (text_of names n) h f.form

  body_good : (texts : List (List ℕ)) (is : List Instr) → AllByRecursion (InstrIsWellFormed names) is → Good texts → Good (body_names (text_of names) texts is)
  body_good texts [] f h = h
  body_good texts (i ∷ is) f h = body_good (instr_names (text_of names) texts (name_in i)) is f.1 (instr_good texts (name_in i) f.0.named h)

  behaviours_good : (texts : List (List ℕ)) (bs : List Behaviour) → AllByRecursion (BehaviourIsWellFormed names) bs → Good texts → Good (behaviours_names (text_of names) texts bs)
  behaviours_good texts [] f h = h
  behaviours_good texts (b ∷ bs) f h =
      behaviours_good (body_names (text_of names) (with_text texts (text_of names b.name)) b.body) bs f.1 (body_good (with_text texts (text_of names b.name)) b.body f.0.body (with_good texts (text_of names b.name) h f.0.named.form))

  kinds_good : (texts : List (List ℕ)) (ks : List Kind) → AllByRecursion (KindIsWellFormed names) ks → Good texts → Good (kinds_names (text_of names) texts ks)
  kinds_good texts [] f h = h
  kinds_good texts (k ∷ ks) f h =
      kinds_good (behaviours_names (text_of names) (with_text texts (text_of names k.name)) k.behaviours) ks f.1 (behaviours_good (with_text texts (text_of names k.name)) k.behaviours f.0.behaviours (with_good texts (text_of names k.name) h f.0.named.form))

pub names_are : (p : Program) → IsWellFormed p → TextsAre p.names
names_are p w = texts_are p.names (subst Good w.in_order (kinds_good p.names [] p.kinds w.kinds (said refl)))
