use Rattle.std.proofs.Common.{◌≡◌, ℕ, true, false, Some, length, take, slice_get}
use Rattle.letter_kinds.specs.Detector.{has}
use Rattle.detector_tokens.proofs.told.Told.tell.Given as goal

abbrev pub invariant-loop-actor : goal.invariant-loop-actor
invariant-loop-actor l = record {
  long : length l.self-inside.numbers.items ≡ length l.fn.self;
  told : (a : ℕ) → has (take l.actor-index l.actors) a ≡ true → slice_get l.self-inside.numbers.items a ≡ Some l.number;
  others : (a : ℕ) → has l.actors a ≡ false → slice_get l.self-inside.numbers.items a ≡ slice_get l.fn.self a;
}
