-- What the operands of an instruction say.
use Rattle.std.specs.Prelude.{ℕ, List, Option, Some, None, slice_get}
use Rattle.std.specs.List.{filter_map}
use Rattle.behaviour_code.specs.Operands.{operands_in}
use Rattle.behaviour_code.specs.declared.instr.Instr.{Instr}
use Rattle.behaviour_code.specs.declared.instr.Instr.TheVariants as I
use Rattle.behaviour_code.specs.declared.operand.Operand.{Operand}
use Rattle.behaviour_code.specs.declared.operand.Operand.TheVariants as O

-- the number of a register
abbrev pub as_register : Operand → Option ℕ
as_register (O.Register r) = Some r
as_register _ = None

-- the number of a field
abbrev pub as_field : Operand → Option ℕ
as_field (O.Field f) = Some f
as_field _ = None

-- its registers
abbrev pub registers_in : Instr → List ℕ
registers_in i = filter_map as_register (operands_in i)

-- its field
abbrev pub field_in : Instr → Option ℕ
field_in i = slice_get (filter_map as_field (operands_in i)) 0

-- the label that it jumps to
abbrev pub target_of : Instr → Option ℕ
target_of (I.Jump l) = Some l
target_of (I.JumpZero a l) = Some l
target_of _ = None
