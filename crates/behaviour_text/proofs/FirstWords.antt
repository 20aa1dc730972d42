-- A first word that is none of a line's own is looked for among the operations.
use Rattle.std.proofs.Common.{◌≡◌, ℕ, Bool, true, false, cond, List, refl, sym, ◌∙◌, Option, Some, find, option_map, bytes_eq}
use Rattle.behaviour_code.specs.Opcodes.{all_opcodes, spelling}
use Rattle.behaviour_text.proofs.Choices.{find_mapped}
use Rattle.behaviour_text.specs.Table.{line_word, word_spelling}
use Rattle.behaviour_text.specs.declared.table.LineWord.{LineWord}
use Rattle.behaviour_text.specs.declared.table.LineWord.TheVariants as W

passed_over : (a b c : Bool) (x y z : LineWord) (rest : Option LineWord) → a ≡ false → b ≡ false → c ≡ false →
    rest ≡ cond a (Some x) (cond b (Some y) (cond c (Some z) rest))
passed_over false false false x y z rest e f g = refl
passed_over true b c x y z rest e f g = cc
passed_over false true c x y z rest e f g = cc
passed_over false false true x y z rest e f g = cc

pub among_operations : (text : List ℕ) → bytes_eq (word_spelling W.Kind) text ≡ false → bytes_eq (word_spelling W.On) text ≡ false →
    bytes_eq (word_spelling W.End) text ≡ false →
    option_map W.Instr (find (λ opcode. bytes_eq (spelling opcode) text) all_opcodes) ≡ line_word text
unfolding line_word
among_operations text kind on end =
    sym (find_mapped W.Instr (λ w. bytes_eq (word_spelling w) text) all_opcodes)
    ∙ passed_over (bytes_eq (word_spelling W.Kind) text) (bytes_eq (word_spelling W.On) text) (bytes_eq (word_spelling W.End) text) W.Kind W.On W.End _ kind on end
