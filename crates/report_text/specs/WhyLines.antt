-- Who went, and why the rest is left.
use Rattle.std.specs.Prelude.{ℕ, List, [], ◌++◌, codes}
use Rattle.std.specs.Fmt.{decimal}
use Rattle.std.specs.List.{flat_map}
use Rattle.orca_names.specs.declared.kept_report.KeptReport.{KeptReport}
use Rattle.orca_names.specs.declared.names.Thing.{Thing}
use Rattle.orca_names.specs.declared.parting.Parting.{Parting}
use Rattle.orca_names.specs.declared.parting.Parting.TheVariants.{Left, Reaped}
use Rattle.orca_names.specs.declared.reason.Edge.{Edge}
use Rattle.orca_names.specs.declared.reason.Edge.TheVariants.{Field, Register, Place, Owner}
use Rattle.orca_names.specs.declared.reason.Edge.TheVariants as edge
use Rattle.orca_names.specs.declared.reason.Reason.{Reason}
use Rattle.orca_names.specs.declared.reason.Why.{Why}
use Rattle.orca_names.specs.declared.reason.Why.TheVariants.{Pinned, Frame, Letter, By, Loose}
use Rattle.report_text.specs.Parts.{amount_text, thing_text}

-- by what a thing leads to another
abbrev pub edge_text : Edge → List ℕ
edge_text (Field i) = codes "field " ++ decimal i
edge_text (Register i) = codes "register " ++ decimal i
edge_text (edge.Letter letter argument) =
    codes "letter " ++ decimal letter ++ codes " argument " ++ decimal argument
edge_text (Place i) = codes "place " ++ decimal i
edge_text Owner = codes "owner"

-- what keeps a thing; nothing for a loose one
abbrev pub cause_text : Why → List ℕ
cause_text Pinned = codes "pinned"
cause_text Frame = codes "frame"
cause_text Letter = codes "letter"
cause_text (By parent e) = codes "by " ++ thing_text parent ++ codes " " ++ edge_text e
cause_text Loose = []

-- that a thing of this level is kept, and by what, or that it is loose
abbrev pub reason_text : Thing → ℕ → Why → List ℕ
reason_text x level Loose = codes "loose " ++ thing_text x
reason_text x level why =
    codes "kept " ++ thing_text x ++ amount_text (codes "level") level ++ codes " " ++ cause_text why

-- the line of a thing that is left
abbrev pub reason_line : Reason → List ℕ
reason_line r = reason_text r.thing r.level r.why ++ codes "\n"

-- an actor that a member holds, and the count
abbrev pub held_text : ℕ × ℕ → List ℕ
held_text held = amount_text (codes "holds") held.0 ++ codes " " ++ decimal held.1

-- the line of a member that was reaped, with its count and the counts that it holds
unfoldable pub member_line : KeptReport → List ℕ
member_line m =
    codes "member actor " ++ decimal m.actor ++ amount_text (codes "count") m.count
    ++ flat_map held_text m.held ++ codes "\n"

-- the line of an actor that left, or the lines of a token and its members
abbrev pub parting_lines : Parting → List ℕ
parting_lines (Left a) = codes "gone actor " ++ decimal a ++ codes "\n"
parting_lines (Reaped token members) =
    codes "reaped token " ++ decimal token ++ codes "\n" ++ flat_map member_line members

-- who went, and then why each thing is left
abbrev pub why_lines : List Parting → List Reason → List ℕ
why_lines partings reasons = flat_map parting_lines partings ++ flat_map reason_line reasons
