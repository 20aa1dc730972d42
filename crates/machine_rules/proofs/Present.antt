-- Who is present was made.
use Rattle.std.proofs.Common.{◌≡◌, ℕ, ◌<◌, Some, None, length, ⊎_elim}
use Rattle.std.proofs.lemmas.Bool.{cases_lt}
use Rattle.std.proofs.lemmas.List.{get_or_past}
use Rattle.machine_rules.specs.Actors.{Actors, Seat, seat_at}

pub present_below : (s : Actors) (b : ℕ) (o : Seat) → seat_at s b ≡ Some o → b < length s
present_below s b o e = ⊎_elim (λ h. h) (λ h. let n = get_or_past s b None h in cc) (cases_lt b (length s))
