-- The program's canonical text has words alone.
use Rattle.std.proofs.Common.{◌≡◌, ℕ, Bool, true, false, ◌==◌, List, [], ◌∷◌, cond, refl}
use Rattle.std.specs.List.{list_all, onto_first, slice_split}
use Rattle.behaviour_code.specs.Names.{text_of}
use Rattle.behaviour_code.specs.Opcodes.{spelling}
use Rattle.behaviour_code.specs.Operands.{opcode_of, operands_in}
use Rattle.behaviour_code.specs.declared.code.Behaviour.{Behaviour}
use Rattle.behaviour_code.specs.declared.code.Kind.{Kind}
use Rattle.behaviour_code.specs.declared.code.Program.{Program}
use Rattle.behaviour_code.specs.declared.instr.Instr.{Instr}
use Rattle.behaviour_code.specs.declared.opcode.Opcode.{Opcode}
use Rattle.behaviour_code.specs.declared.opcode.Opcode.TheVariants as C
use Rattle.behaviour_code.specs.declared.operand.Operand.{Operand}
use Rattle.behaviour_code.specs.declared.operand.Operand.TheVariants as O
use Rattle.text_lines.specs.Lines.{lines_of, without_empty_last}
use Rattle.behaviour_text.specs.Text.{behaviour_lines, canonical, instr_words, kind_lines, operand_word, program_lines}
use Rattle.picture_laws.proofs.Bytes.{AreWords, IsWord, Pass, all_append, all_cons, all_flat, all_map, decimal_word, next_word, no_words, said}
use Rattle.picture_laws.proofs.Lines.{AreLines, TextsAre, next_line}
use Rattle.picture_laws.proofs.Shown.{IsShown, first_passes, lines_shown, others_pass, text_bytes}

spelling_is : (c : Opcode) → IsWord (spelling c)
spelling_is C.Drop = said refl
spelling_is C.Int = said refl
spelling_is C.Own = said refl
spelling_is C.Copy = said refl
spelling_is C.Add = said refl
spelling_is C.Sub = said refl
spelling_is C.Mul = said refl
spelling_is C.Less = said refl
spelling_is C.Same = said refl
spelling_is C.Row = said refl
spelling_is C.Get = said refl
spelling_is C.Load = said refl
spelling_is C.Store = said refl
spelling_is C.Jump = said refl
spelling_is C.JumpZero = said refl
spelling_is C.Label = said refl
spelling_is C.Pin = said refl
spelling_is C.Unpin = said refl
spelling_is C.New = said refl
spelling_is C.Send = said refl
spelling_is C.Print = said refl

module _ (texts : List (List ℕ)) (ok : TextsAre texts) where
  operand_is : (o : Operand) → IsWord (operand_word (text_of texts) o)
  operand_is (O.Register n) = all_cons refl (decimal_word n)
  operand_is (O.Field n) = all_cons refl (decimal_word n)
  operand_is (O.Number n) = decimal_word n
  operand_is (O.Name name) = ok name

  instr_is : (i : Instr) → AreWords (instr_words (text_of texts) i)
  instr_is i = next_word (spelling_is (opcode_of i)) (all_map (operand_word (text_of texts)) (operands_in i) (λ o. (operand_is o).all))

  behaviour_are : (b : Behaviour) → AreLines (behaviour_lines (text_of texts) b)
  behaviour_are b =
      next_line (next_word (said refl) (next_word (ok b.name) (next_word (decimal_word b.parameters) no_words)))
      (all_append (all_map (instr_words (text_of texts)) b.body (λ i. (instr_is i).all)) (said refl))

  kind_are : (k : Kind) → AreLines (kind_lines (text_of texts) k)
  kind_are k =
      next_line (next_word (said refl) (next_word (ok k.name) (next_word (decimal_word k.fields) no_words)))
      (all_flat (behaviour_lines (text_of texts)) k.behaviours behaviour_are)

pub canonical_shown : (p : Program) → TextsAre p.names → IsShown (canonical p)
canonical_shown p ok = text_bytes (program_lines p) (lines_shown (all_flat (kind_lines (text_of p.names)) p.kinds (kind_are p.names ok)))

-- ---- its lines

module _ (q : ℕ → Bool) where
  abbrev All : List (List ℕ) → Type 0
  All ps = Pass (list_all q) ps

  onto_all : (x : ℕ) (ps : List (List ℕ)) → q x ≡ true → All ps → All (onto_first x ps)
  onto_all x [] h k = all_cons (all_cons {p = q} {x = x} {xs = []} h (said refl)).all (said refl)
  onto_all x (p ∷ ps) h k = all_cons (all_cons {p = q} {x = x} {xs = p} h (said (first_passes k))).all (others_pass k)

  either_all : (b : Bool) (xs ys : List (List ℕ)) → All xs → All ys → All (cond b xs ys)
  either_all true xs ys h k = h
  either_all false xs ys h k = k

  split_all : (p : ℕ → Bool) (xs : List ℕ) → Pass q xs → All (slice_split p xs)
  split_all p [] h = said refl
  split_all p (x ∷ xs) h =
      let rest = split_all p xs (others_pass h) in
      either_all (p x) ([] ∷ slice_split p xs) (onto_first x (slice_split p xs)) (all_cons refl rest)
      (onto_all x (slice_split p xs) (first_passes h) rest)

  without_all : (ps : List (List ℕ)) → All ps → All (without_empty_last ps)
  without_all [] h = said refl
  without_all ([] ∷ []) h = said refl
  without_all ((b ∷ bs) ∷ []) h = h
  without_all ([] ∷ next ∷ pieces) h = all_cons refl (without_all (next ∷ pieces) (others_pass h))
  without_all ((b ∷ bs) ∷ next ∷ pieces) h = all_cons (first_passes h) (without_all (next ∷ pieces) (others_pass h))

  pub lines_all : (xs : List ℕ) → Pass q xs → All (lines_of xs)
  lines_all xs h = without_all (slice_split (λ b. b == 10) xs) (split_all (λ b. b == 10) xs h)
