-- What holds where a run starts.
use Rattle.std.proofs.Common.{◌≡◌, ℕ, false, zero, suc, Option, Some, None, [], ◌∷◌, refl}
use Rattle.std.specs.Option.{option_map_or}
use Rattle.behaviour_code.specs.Find.{start_name}
use Rattle.behaviour_code.specs.declared.code.Program.{Program}
use Rattle.letter_kinds.specs.Letters.{App}
use Rattle.machine_rules.specs.Actors.{Actors, cell_at, mail_at}
use Rattle.machine_rules.specs.Options.{Options}
use Rattle.machine_rules.specs.State.{first_state}
use Rattle.detector_laws.proofs.Starts.{start_facts}
use Rattle.detector_laws.specs.Cells.{is_reporting}
use Rattle.detector_laws.specs.Confirms.{NoConfirms}
use Rattle.detector_laws.specs.World.{FactsHold}
use Rattle.machine_laws.proofs.Seen.{world}

module _ (program : Program) (options : Options) where
  abbrev actors : Actors
  actors = (first_state program options).actors

  unreported : (a : ℕ) → is_reporting (cell_at actors a) ≡ false
  unreported zero = refl
  unreported (suc a) = refl

  unasked : (a : ℕ) → NoConfirms (mail_at actors a)
  unasked zero = by_name (start_name program)
    where
      by_name : (found : Option ℕ) → NoConfirms ((option_map_or (λ name. App name [] [] [] ∷ []) found []))
      by_name None = tt
      by_name (Some name) = (refl, tt)
  unasked (suc a) = tt

  pub start_detects : FactsHold (world (first_state program options))
  start_detects = start_facts (world (first_state program options)) (record { detector = refl; notes = refl; unreported = unreported; unasked = unasked })
