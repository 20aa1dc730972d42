-- The kinds of a fault, and which of them is the lower one.
use Rattle.std.specs.Prelude.{ℕ, Option, Some, None, nat_le, if◌then◌else◌}
use Rattle.text_lines.specs.declared.LineKind.{LineKind}
use Rattle.text_lines.specs.declared.LineKind.TheVariants as L
use Rattle.behaviour_text.specs.declared.errors.FaultKind.{FaultKind}
use Rattle.behaviour_text.specs.declared.errors.FaultKind.TheVariants as K

-- the number of a kind
abbrev pub number : FaultKind → ℕ
number K.NotAscii = 1
number K.LongLine = 2
number K.UnknownWord = 3
number K.WrongOperands = 4
number K.BadNumber = 5
number K.BadName = 6
number K.OutsideBehaviour = 7
number K.MissingEnd = 8
number K.TooMany = 9

-- the kind of a fault that a line has by itself
abbrev pub kind_of : LineKind → FaultKind
kind_of L.NotAscii = K.NotAscii
kind_of L.LongLine = K.LongLine

-- the kind of the lower number
abbrev pub lower : FaultKind → FaultKind → FaultKind
lower a b = if nat_le (number a) (number b) then a else b

-- the lower of two faults
abbrev pub lowest : Option FaultKind → Option FaultKind → Option FaultKind
lowest None b = b
lowest (Some a) None = Some a
lowest (Some a) (Some b) = Some (lower a b)
