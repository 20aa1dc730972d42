-- The line of an instruction, operand after operand.
use Rattle.std.proofs.Common.{◌≡◌, ℕ, List, ◌∷◌, ◌++◌, map, ap, sym, ◌∙◌, append_assoc}
use Rattle.std.proofs.lemmas.List.{map-append}
use Rattle.std.specs.Option.{option_to_list}
use Rattle.behaviour_code.specs.Operands.{listed}
use Rattle.behaviour_code.specs.declared.operand.Operands.{Operands}
use Rattle.behaviour_text.proofs.Instructions.{words_behind}
use Rattle.behaviour_text.specs.Text.{line_of, operand_word, register, rest_of_line}

-- the words of the operands, as the code gives them
pub listed_words : (text : ℕ → List ℕ) (o : Operands) →
    map (operand_word text) (listed o)
    ≡ map (operand_word text) (option_to_list o.first) ++ (map (operand_word text) (option_to_list o.second)
    ++ (map (operand_word text) (option_to_list o.third) ++ map register o.further.now))
listed_words text o =
    map-append (operand_word text) (option_to_list o.first) _
    ∙ ap (λ (ws : List (List ℕ)). map (operand_word text) (option_to_list o.first) ++ ws)
    (map-append (operand_word text) (option_to_list o.second) _
    ∙ ap (λ (ws : List (List ℕ)). map (operand_word text) (option_to_list o.second) ++ ws)
    (map-append (operand_word text) (option_to_list o.third) _
    ∙ ap (λ (ws : List (List ℕ)). map (operand_word text) (option_to_list o.third) ++ ws) (words_behind text o.further.now)))

-- what an operand put to a line does to all that may follow
abbrev pub Puts : List ℕ → List ℕ → List (List ℕ) → Type 0
Puts old new ws = (others : List (List ℕ)) → new ++ rest_of_line others ≡ old ++ rest_of_line (ws ++ others)

pub line_told : (old spelled one two three : List ℕ) (word : List ℕ) (a b c d all : List (List ℕ)) →
    spelled ≡ old ++ word → Puts spelled one a → Puts one two b → Puts two three c → all ≡ a ++ (b ++ (c ++ d)) →
    three ++ rest_of_line d ≡ old ++ line_of (word ∷ all)
line_told old spelled one two three word a b c d all begun first second third same =
    third d ∙ second (c ++ d) ∙ first (b ++ (c ++ d))
    ∙ ap (λ (t : List ℕ). t ++ rest_of_line (a ++ (b ++ (c ++ d)))) begun
    ∙ append_assoc old word (rest_of_line (a ++ (b ++ (c ++ d))))
    ∙ ap (λ (ws : List (List ℕ)). old ++ (word ++ rest_of_line ws)) (sym same)
