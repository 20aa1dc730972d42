-- The operation of an instruction, and its operands.
use Rattle.std.specs.Prelude.{List, [], ◌∷◌, ◌++◌, map}
use Rattle.std.specs.Option.{option_to_list}
use Rattle.behaviour_code.specs.declared.instr.Instr.{Instr}
use Rattle.behaviour_code.specs.declared.instr.Instr.TheVariants as I
use Rattle.behaviour_code.specs.declared.opcode.Opcode.{Opcode}
use Rattle.behaviour_code.specs.declared.opcode.Opcode.TheVariants as C
use Rattle.behaviour_code.specs.declared.operand.Operand.{Operand}
use Rattle.behaviour_code.specs.declared.operand.Operand.TheVariants as O
use Rattle.behaviour_code.specs.declared.operand.Operands.{Operands}

abbrev pub opcode_of : Instr → Opcode
opcode_of (I.Drop d) = C.Drop
opcode_of (I.Int d n) = C.Int
opcode_of (I.Own d) = C.Own
opcode_of (I.Copy d s) = C.Copy
opcode_of (I.Add d a b) = C.Add
opcode_of (I.Sub d a b) = C.Sub
opcode_of (I.Mul d a b) = C.Mul
opcode_of (I.Less d a b) = C.Less
opcode_of (I.Same d a b) = C.Same
opcode_of (I.Row d values) = C.Row
opcode_of (I.Get d s n) = C.Get
opcode_of (I.Load d f) = C.Load
opcode_of (I.Store f s) = C.Store
opcode_of (I.Jump l) = C.Jump
opcode_of (I.JumpZero a l) = C.JumpZero
opcode_of (I.Label l) = C.Label
opcode_of I.Pin = C.Pin
opcode_of I.Unpin = C.Unpin
opcode_of (I.New d kind) = C.New
opcode_of (I.Send to behaviour values) = C.Send
opcode_of (I.Print a) = C.Print

-- the operands of an instruction, in the order of its line
abbrev pub operands_in : Instr → List Operand
operands_in (I.Drop d) = O.Register d ∷ []
operands_in (I.Int d n) = O.Register d ∷ O.Number n ∷ []
operands_in (I.Own d) = O.Register d ∷ []
operands_in (I.Copy d s) = O.Register d ∷ O.Register s ∷ []
operands_in (I.Add d a b) = O.Register d ∷ O.Register a ∷ O.Register b ∷ []
operands_in (I.Sub d a b) = O.Register d ∷ O.Register a ∷ O.Register b ∷ []
operands_in (I.Mul d a b) = O.Register d ∷ O.Register a ∷ O.Register b ∷ []
operands_in (I.Less d a b) = O.Register d ∷ O.Register a ∷ O.Register b ∷ []
operands_in (I.Same d a b) = O.Register d ∷ O.Register a ∷ O.Register b ∷ []
operands_in (I.Row d values) = O.Register d ∷ map O.Register values
operands_in (I.Get d s n) = O.Register d ∷ O.Register s ∷ O.Number n ∷ []
operands_in (I.Load d f) = O.Register d ∷ O.Field f ∷ []
operands_in (I.Store f s) = O.Field f ∷ O.Register s ∷ []
operands_in (I.Jump l) = O.Name l ∷ []
operands_in (I.JumpZero a l) = O.Register a ∷ O.Name l ∷ []
operands_in (I.Label l) = O.Name l ∷ []
operands_in I.Pin = []
operands_in I.Unpin = []
operands_in (I.New d kind) = O.Register d ∷ O.Name kind ∷ []
operands_in (I.Send to behaviour values) = O.Register to ∷ O.Name behaviour ∷ map O.Register values
operands_in (I.Print a) = O.Register a ∷ []

-- the first operands, and the registers behind them
abbrev pub listed : Operands → List Operand
listed o =
    option_to_list o.first ++ (option_to_list o.second
    ++ (option_to_list o.third ++ map O.Register o.further.now))
