-- What a step leads to is one state.
use Rattle.std.proofs.Common.{◌≡◌, ◌≢◌}
use Rattle.event_rule.specs.Runs.{NotEnabled, IsFull, Goes}

pub goes_to : {S : Type 0} (s t : S) → Goes s ≡ Goes t → s ≡ t
goes_to s t e = cc

pub not_enabled : {S : Type 0} (t : S) → NotEnabled ≢ Goes t
not_enabled t e = cc

pub not_full : {S : Type 0} (t : S) → IsFull ≢ Goes t
not_full t e = cc
