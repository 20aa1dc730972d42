use Rattle.std.proofs.Common.{◌≡◌, map, take, string_bytes}
use Rattle.book_picture.specs.Texts.{seat_texts}
use Rattle.book_picture.proofs.texts.seat_texts.Given as goal

abbrev pub invariant-loop-actor : goal.invariant-loop-actor
invariant-loop-actor l = map string_bytes l.texts.items ≡ seat_texts l.names l.orca.state (take l.actor-index l.actors)
