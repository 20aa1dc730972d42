-- What was prepared is no event of an actor whose cell is away.
use Rattle.std.proofs.Common.{◌≡◌, false, refl}
use Rattle.orca_names.specs.declared.options.Options.{Options}
use Rattle.behaviour_code.specs.declared.code.Program.{Program}
use Rattle.event_rule.specs.declared.event.Event.{Event}
use Rattle.event_rule.specs.declared.event.Event.TheVariants.{Take, Go, Collect, Leave, Block}
use Rattle.actor_table.specs.Slots.{away_of}
use Rattle.orca_parts.specs.Away.{is_out_for}
use Rattle.orca_parts.specs.Ready.{FitsEvent}
use Rattle.orca_parts.specs.declared.parts.Parts.{Parts}
use Rattle.orca_parts.proofs.Homes.{home_stays}

module _ (options : Options) (program : Program) (m : Parts) where
  pub fits_home : (e : Event) → FitsEvent options program e m → is_out_for (away_of m.table.slots) e ≡ false
  fits_home (Take a) fits = home_stays m.table.slots a fits.cell fits.home
  fits_home (Go a) fits = home_stays m.table.slots a fits.0.cell fits.0.home
  fits_home (Collect a) fits = home_stays m.table.slots a fits.acts.cell fits.acts.home
  fits_home (Leave a) fits = home_stays m.table.slots a fits.acts.cell fits.acts.home
  fits_home (Block a) fits = home_stays m.table.slots a fits.acts.cell fits.acts.home
  fits_home e fits = refl
