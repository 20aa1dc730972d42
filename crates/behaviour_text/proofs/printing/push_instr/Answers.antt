use Rattle.std.proofs.Common.{◌≡◌, ◌++◌, ap, sym, ◌∙◌, subst, map, List, ℕ, OnOk, string_bytes}
use Rattle.std.specs.Option.{option_to_list}
use Rattle.behaviour_code.specs.Names.{text_of}
use Rattle.behaviour_code.specs.Opcodes.{spelling}
use Rattle.behaviour_code.specs.Operands.{opcode_of, operands_in}
use Rattle.behaviour_text.proofs.Printed.{line_told, listed_words}
use Rattle.behaviour_text.specs.Text.{operand_word, register}
use Rattle.behaviour_text.proofs.printing.push_instr.Goals as goal

pub returns : goal.returns
returns c =
    let text = text_of c.args.names.now in
    let o = c.operands-operands.result in
    let i = c.args.instr.now in
    subst (λ (t : List ℕ). OnOk c.push_registers.result (string_bytes c.push_registers.new.out ≡ t))
    (line_told (string_bytes c.args.out.now) (string_bytes c.push_str.new.self) (string_bytes c.push_some.new.out)
    (string_bytes c.push_some-2.new.out) (string_bytes c.push_some-3.new.out) (spelling (opcode_of i))
    (map (operand_word text) (option_to_list o.first)) (map (operand_word text) (option_to_list o.second))
    (map (operand_word text) (option_to_list o.third)) (map register o.further.now) (map (operand_word text) (operands_in i))
    (c.in_ok-push_str.ensures.bytes
    ∙ ap (λ (w : List ℕ). string_bytes c.args.out.now ++ w) (c.spelling.ensures ∙ ap spelling c.opcode.ensures))
    c.in_ok-push_some.ensures c.in_ok-push_some-2.ensures c.in_ok-push_some-3.ensures
    (ap (map (operand_word text)) (sym c.operands-operands.ensures) ∙ listed_words text o))
    c.push_registers.ensures
