use Rattle.std.proofs.Common.{◌≡◌, ◌<◌, true, false, arith, length, drop, length-drop, sym, ◌∙◌}
use Rattle.std.proofs.lemmas.List.{get_or-drop, take_rest}
use Rattle.run_book.proofs.Marks.{behind_feed, passed, split_here, starts_with_mark}
use Rattle.run_book.proofs.splitting.book_place.Goals as goal

pub returns-then-starts_with-clause-split : goal.returns-then-starts_with-clause-split
returns-then-starts_with-clause-split c =
    let begins = starts_with_mark c.args.text.now c.loop-from.from c.starts_with.result c.starts_with.ensures.value in
    split_here c.args.text.now c.loop-from.from (c.loop-from.invariant.line (omega arith)) (begins.0 c.if-starts_with.true) c.loop-from.invariant.first (omega arith)

pub loop-from-preserved : goal.loop-from-preserved
loop-from-preserved c =
    let text = c.args.text.now in
    let from = c.loop-from.from in
    let e = c.line_end.ensures in
    let rest = take_rest text from in
    let begins = starts_with_mark text from c.starts_with.result c.starts_with.ensures.value in
    record {
      line = λ within.
          let inside : c.line_end.result < length (drop from text) = omega (arith, length-drop from text, within) in
          behind_feed text from c.line_end.result inside (rw rest at (e.found (rw rest inside)));
      first = λ before here. passed text before from c.line_end.result
          (λ more marked. let starts : c.starts_with.result ≡ true = begins.1 more marked in
          let both : true ≡ false = sym starts ∙ c.if-starts_with.false in cc)
          (λ k below fed. (rw rest at e.before) k below (get_or-drop from text k 0 ∙ fed)) here (c.loop-from.invariant.first before here);
    }
