-- The table of instructions: their operations, and the operands that each takes.
use Rattle.std.specs.Prelude.{ℕ, List, [], ◌∷◌, codes}
use Rattle.behaviour_code.specs.declared.opcode.Opcode.{Opcode}
use Rattle.behaviour_code.specs.declared.opcode.Opcode.TheVariants as C
use Rattle.behaviour_code.specs.declared.opcode.OperandKind.{OperandKind}
use Rattle.behaviour_code.specs.declared.opcode.OperandKind.TheVariants as K

abbrev pub all_opcodes : List Opcode
all_opcodes =
    C.Drop ∷ C.Int ∷ C.Own ∷ C.Copy ∷ C.Add ∷ C.Sub ∷ C.Mul ∷ C.Less ∷ C.Same ∷ C.Row ∷ C.Get
    ∷ C.Load ∷ C.Store ∷ C.Jump ∷ C.JumpZero ∷ C.Label ∷ C.Pin ∷ C.Unpin ∷ C.New ∷ C.Send ∷ C.Print ∷ []

-- the word of an operation
abbrev pub spelling : Opcode → List ℕ
spelling C.Drop = codes "drop"
spelling C.Int = codes "int"
spelling C.Own = codes "self"
spelling C.Copy = codes "copy"
spelling C.Add = codes "add"
spelling C.Sub = codes "sub"
spelling C.Mul = codes "mul"
spelling C.Less = codes "less"
spelling C.Same = codes "same"
spelling C.Row = codes "row"
spelling C.Get = codes "get"
spelling C.Load = codes "load"
spelling C.Store = codes "store"
spelling C.Jump = codes "jump"
spelling C.JumpZero = codes "jzero"
spelling C.Label = codes "label"
spelling C.Pin = codes "pin"
spelling C.Unpin = codes "unpin"
spelling C.New = codes "new"
spelling C.Send = codes "send"
spelling C.Print = codes "print"

-- what the operands of an operation have to be, in order
abbrev pub operand_kinds : Opcode → List OperandKind
operand_kinds C.Drop = K.Register ∷ []
operand_kinds C.Int = K.Register ∷ K.Number ∷ []
operand_kinds C.Own = K.Register ∷ []
operand_kinds C.Copy = K.Register ∷ K.Register ∷ []
operand_kinds C.Add = K.Register ∷ K.Register ∷ K.Register ∷ []
operand_kinds C.Sub = K.Register ∷ K.Register ∷ K.Register ∷ []
operand_kinds C.Mul = K.Register ∷ K.Register ∷ K.Register ∷ []
operand_kinds C.Less = K.Register ∷ K.Register ∷ K.Register ∷ []
operand_kinds C.Same = K.Register ∷ K.Register ∷ K.Register ∷ []
operand_kinds C.Row = K.Register ∷ K.Register ∷ []
operand_kinds C.Get = K.Register ∷ K.Register ∷ K.Number ∷ []
operand_kinds C.Load = K.Register ∷ K.Field ∷ []
operand_kinds C.Store = K.Field ∷ K.Register ∷ []
operand_kinds C.Jump = K.Name ∷ []
operand_kinds C.JumpZero = K.Register ∷ K.Name ∷ []
operand_kinds C.Label = K.Name ∷ []
operand_kinds C.Pin = []
operand_kinds C.Unpin = []
operand_kinds C.New = K.Register ∷ K.Name ∷ []
operand_kinds C.Send = K.Register ∷ K.Name ∷ []
operand_kinds C.Print = K.Register ∷ []

-- how many registers may follow these: a row has 1 to 8 values, a letter 0 to 8 arguments
abbrev pub most_further : Opcode → ℕ
most_further C.Row = 7
most_further C.Send = 8
most_further _ = 0
