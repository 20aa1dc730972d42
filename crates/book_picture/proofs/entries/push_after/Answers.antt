use Rattle.std.proofs.Common.{◌++◌, ℕ, List, drop, map, subst, ◌∙◌, string_bytes}
use Rattle.picture_rules.specs.Blocked.{note_line}
use Rattle.picture_rules.specs.Pictures.{entry_line, posted, print_line, printed}
use Rattle.picture_rules.specs.Words.{text_of_lines}
use Rattle.book_picture.specs.Texts.{AreTexts, touched_changes}
use Rattle.book_picture.proofs.Events.{have_texts}
use Rattle.book_picture.proofs.Lists.{behind, behind_first}
use Rattle.book_picture.proofs.entries.push_after.Goals as goal

pub push_changes-requires-clause-after : goal.push_changes-requires-clause-after
push_changes-requires-clause-after c =
    have_texts c.args.names.now c.args.orca.now.state c.args.before.now.touched.actors.items c.args.before.now.touched.token c.in_ok-after.after
    c.in_ok-after.ensures

pub returns : goal.returns
returns c s texts prints notes names =
    let e = c.args.event.now in
    let t = c.args.orca.now.state in
    let actors = c.args.before.now.touched.actors.items in
    let token = c.args.before.now.touched.token in
    let old = string_bytes c.args.out.now in
    let one = string_bytes c.push_entry.new.out in
    let two = string_bytes c.push_prints.new.out in
    let three = string_bytes c.push_notes.new.out in
    let later = string_bytes c.push_changes.new.out in
    let p = map print_line (printed s t) in
    let n = map note_line (posted e s t) in
    let told = touched_changes actors token s t in
    let first = c.in_ok-push_prints.ensures
    ∙ (λ i. one ++ text_of_lines (map print_line (drop (prints i) (c.prints.ensures i)))) in
    let second = c.in_ok-push_notes.ensures
    ∙ (λ i. two ++ text_of_lines (map note_line (drop (notes i) (c.notes.ensures.state i)))) in
    let third = c.in_ok-push_changes.ensures s t (subst (λ (ns : List (List ℕ)). AreTexts ns s actors token c.args.before.now.texts) names texts)
    (subst (λ (ns : List (List ℕ)). AreTexts ns t actors token c.in_ok-after.after) names c.in_ok-after.ensures) in
    behind_first (entry_line e) (p ++ n ++ told) old one later c.in_ok-push_entry.ensures
    (behind (p ++ n) told one three later (behind p n one two three first second) third)
