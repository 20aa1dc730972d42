-- What is taken and given piece by piece.
use Rattle.std.proofs.Common.{◌≡◌, ℕ, ◌+◌, ◌-◌, List, ◌++◌, length, take, drop, take_all, length-drop, arith}
use Rattle.std.specs.declared.option.Option.{Option}
use Rattle.std.specs.Io.KnownBytes.{Appends, Consumes}
use Rattle.std.proofs.KnownBytes.{Appends-trans, Consumes-trans}
use Rattle.std.proofs.Math.Seq.{take-add}
use Rattle.outside_world.specs.Pieces.{TakesPart}

-- a part was taken after the bytes before it
pub takes_after : (a b c : Option (List ℕ)) (bytes : List ℕ) → Consumes a b bytes → TakesPart b c → TakesPart a c
takes_after a b c bytes h part = record { bytes = bytes ++ part.bytes; front = Consumes-trans a b c bytes part.bytes h part.front }

-- n bytes of the rest were written after the first `at`
pub gives_after : (a b c : Option (List ℕ)) (bytes : List ℕ) (at n : ℕ) → Appends a b (take at bytes) → Appends b c (take n (take (length bytes - at) (drop at bytes)))
    → Appends a c (take (at + n) bytes)
gives_after a b c bytes at n h more =
    let rest : take (length bytes - at) (drop at bytes) ≡ drop at bytes = take_all _ _ (omega (arith, length-drop at bytes)) in
    rw (take-add at n bytes, ← rest) (Appends-trans a b c (take at bytes) (take n (take (length bytes - at) (drop at bytes))) h more)
