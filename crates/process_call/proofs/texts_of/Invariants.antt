use Rattle.std.proofs.Common.{◌≡◌, map, string_bytes, take}
use Rattle.process_call.proofs.texts_of.Given as goal

-- the texts so far
abbrev pub invariant-loop-argument : goal.invariant-loop-argument
invariant-loop-argument l = map (λ word. word.now) l.words.items ≡ map string_bytes (take l.argument-index l.arguments)
