use Rattle.std.proofs.Common.{◌≡◌, map, take, string_bytes}
use Rattle.book_picture.specs.Texts.{report_texts}
use Rattle.book_picture.proofs.texts.report_texts.Given as goal

abbrev pub invariant-loop-actor : goal.invariant-loop-actor
invariant-loop-actor l = map string_bytes l.texts.items ≡ report_texts l.detector.state (take l.actor-index l.actors)
