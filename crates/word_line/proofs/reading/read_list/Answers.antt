use Rattle.std.proofs.Common.{rules, ◌≡◌, ◌∙◌, List, map, ap, sym}
use Rattle.clap.specs.Words.{Text, is_simple, is_simple_and_free, subcommand_rows_of}
use Rattle.word_line.specs.Orders.{order_of}
use Rattle.word_line.proofs.Faults.{is_free_line, is_simple_line, is_empty-words, order_of-taken, order_of-fault, IfOk-ok_or, IfErr-ok_or}
use Rattle.word_line.proofs.reading.read_list.Goals as goal

pub returns-in-Ok-try_get_matches_from : goal.returns-in-Ok-try_get_matches_from
returns-in-Ok-try_get_matches_from c =
    let words : List Text = map (λ word. word.now) c.args.words.now in
    let parse = c.in-Ok-try_get_matches_from in
    let read : order_of words ≡ c.order_in.result =
    order_of-taken words _ (subcommand_rows_of parse.matches) c.in-Ok.ensures
    (is_empty-words c.args.words.now c.is_empty.result c.is_empty.ensures c.if-is_empty.false)
    (parse.ensures.kinds (ap is_simple_and_free c.in-Ok.ensures ∙ is_free_line)) (parse.ensures.matches (ap is_simple c.in-Ok.ensures ∙ is_simple_line)).1
    ∙ sym c.order_in.ensures.order in
    record {
      order = IfOk-ok_or (order_of words) c.order_in.result c.ok_or.result c.ok_or.ensures.value read;
      bad = IfErr-ok_or (order_of words) c.order_in.result c.ok_or.result c.ok_or.ensures.value read;
      range = search rules;
    }

pub returns : goal.returns
returns c =
    record {
      order = tt;
      bad = λ _. order_of-fault (map (λ word. word.now) c.args.words.now) _ c.in-Err.error c.in-Ok.ensures
          (is_empty-words c.args.words.now c.is_empty.result c.is_empty.ensures c.if-is_empty.false)
          (c.in-Err.ensures.kinds (ap is_simple_and_free c.in-Ok.ensures ∙ is_free_line))
          (λ e. c.in_default-kind.not-OutOfMemory (c.kind.ensures ∙ e));
      range = tt;
    }
