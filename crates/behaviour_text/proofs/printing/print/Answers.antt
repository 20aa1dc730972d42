use Rattle.std.proofs.Common.{◌≡◌, None, List, ℕ, subst, sym}
use Rattle.behaviour_code.specs.WellFormed.{IsWellFormed}
use Rattle.behaviour_code.specs.declared.code.Program.{Program}
use Rattle.behaviour_text.specs.Faults.{first_fault}
use Rattle.behaviour_text.specs.Text.{canonical, IsText}
use Rattle.behaviour_text.proofs.Again.{no_fault_read}
use Rattle.behaviour_text.proofs.Canonical.{canonical_text, canonical_read, canonical_only}
use Rattle.behaviour_text.proofs.printing.print.Goals as goal

pub returns-clause-text : goal.returns-clause-text
returns-clause-text c good = subst (λ (t : List ℕ). IsText t c.args.program.now) (sym c.in_ok-canonical_bytes.ensures) (canonical_text c.args.program.now good)

pub returns-clause-sound : goal.returns-clause-sound
returns-clause-sound c good =
    subst (λ (t : List ℕ). first_fault t ≡ None) (sym c.in_ok-canonical_bytes.ensures) (no_fault_read (canonical c.args.program.now) c.args.program.now (canonical_read c.args.program.now good))

pub returns-clause-only : goal.returns-clause-only
returns-clause-only c good =
    subst (λ (t : List ℕ). (p : Program) → IsText t p → IsWellFormed p → p ≡ c.args.program.now) (sym c.in_ok-canonical_bytes.ensures)
    (λ p text other. canonical_only c.args.program.now p good text other)
