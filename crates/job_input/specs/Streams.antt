-- What a call takes from its source and gives to its sink.
use Rattle.std.specs.Prelude.{◌≡◌, ℕ, ◌<◌, List}
use Rattle.std.specs.declared.option.Option.{Option}
use Rattle.outside_world.specs.Device.{Rose}
use Rattle.report_text.specs.Ends.{code_of}
use Rattle.report_text.specs.declared.status.Status.TheVariants as status

-- one byte more than a text may have
abbrev pub most_bytes : ℕ
most_bytes = 1048577

-- a device before and after a call: the bytes that it tells, and its count of faults
pub record Sides : Type 0 where
  pub before : Option (List ℕ)
  pub after : Option (List ℕ)
  pub faults_before : ℕ
  pub faults_after : ℕ

abbrev pub sides : {D : Type 0} → (D → Option (List ℕ)) → (D → ℕ) → D → D → Sides
sides told faults old new = record {
  before = told old;
  after = told new;
  faults_before = faults old;
  faults_after = faults new;
}

-- the device's count of faults rose in this call, or stands at the end of its 64 bits
abbrev pub HasFailed : Sides → Type 0
HasFailed device = Rose device.faults_before device.faults_after

-- its count of faults is greater than before
abbrev pub CountsFault : Sides → Type 0
CountsFault device = device.faults_before < device.faults_after

-- its count of faults is as before
abbrev pub CountsNoFault : Sides → Type 0
CountsNoFault device = device.faults_after ≡ device.faults_before

-- the device was not touched
abbrev pub IsUntouched : Sides → Type 0
IsUntouched device = (device.after ≡ device.before) × CountsNoFault device

-- memory was refused before any call: nothing was read, and nothing written
pub record ExitsStarved (source sink : Sides) (code : ℕ) : Type 0 where
  pub unread : IsUntouched source
  pub unwritten : IsUntouched sink
  pub exit : code ≡ code_of status.NoMemory
