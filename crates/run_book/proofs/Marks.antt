-- Where a book begins in a text.
use Rattle.std.proofs.Common.{◌≡◌, ◌≢◌, ℕ, ◌+◌, ◌-◌, ◌<◌, ◌≤◌, Bool, true, eqb, List, [], ◌++◌, length, get_or, take, drop, inl, inr, refl, ap, sym, ◌∙◌, arith, codes, append_assoc, length-append, length-take-le, take-append-drop}
use Rattle.std.proofs.Math.ListN.{get_or-append}
use Rattle.std.proofs.Math.Seq.{drop-append_seam, get_or-append_seam, take-append_seam}
use Rattle.std.proofs.lemmas.Bool.{cases_lt}
use Rattle.std.proofs.lemmas.Bool.Decides.{Decides-eqb}
use Rattle.std.proofs.lemmas.List.{take_rest}
use Rattle.std.proofs.lemmas.Slice.Eq.{starts_is}
use Rattle.std.specs.List.{starts_with}
use Rattle.run_book.specs.Splits.{EndsLine, HasBookBehind, IsSplit, SplitsInOneWay}
use Rattle.run_book.proofs.Steps.{with_feed}

-- ---- one way

upto : (text program book other_program other_book : List ℕ) → IsSplit text program book → IsSplit text other_program other_book → length other_program ≤ length program
upto text program book other_program other_book one other =
    elim one.begins [
      | inl none ↦ let all = ap length one.whole ∙ length-append program book ∙ ap (λ b. length program + length b) none in
          omega (arith, all, ap length other.whole, length-append other_program other_book)
      | inr here ↦ other.first program here
    ]

pub one_way : SplitsInOneWay
one_way text program book other_program other_book one other =
    let long : length program ≡ length other_program = omega (arith, upto text program book other_program other_book one other, upto text other_program other_book program book other one) in (
      sym (take-append_seam program book) ∙ ap (take (length program)) (sym one.whole) ∙ ap (λ n. take n text) long ∙ ap (take (length other_program)) other.whole
          ∙ take-append_seam other_program other_book,
      sym (drop-append_seam program book) ∙ ap (drop (length program)) (sym one.whole) ∙ ap (λ n. drop n text) long ∙ ap (drop (length other_program)) other.whole
          ∙ drop-append_seam other_program other_book,
    )

-- ---- the lines before the book

marked_at : (text before rest : List ℕ) → text ≡ before ++ codes "book " ++ rest → drop (length before) text ≡ codes "book " ++ rest
marked_at text before rest is = ap (drop (length before)) (is ∙ append_assoc before (codes "book ") rest) ∙ drop-append_seam before (codes "book " ++ rest)

fed_at : (text before others rest : List ℕ) → text ≡ before ++ rest → before ≡ others ++ codes "\n" → get_or text (length others) 0 ≡ 10
fed_at text before others rest is fed =
    let long : length before ≡ length others + 1 = ap length fed ∙ length-append others (codes "\n") in
    ap (λ bytes. get_or bytes (length others) 0) is ∙ get_or-append before rest 0 (length others) (omega (arith, long))
    ∙ ap (λ bytes. get_or bytes (length others) 0) fed ∙ get_or-append_seam others 10 [] 0

pub starts_with_mark : (text : List ℕ) (from : ℕ) (starts : Bool) → starts ≡ starts_with eqb (take (length text - from) (drop from text)) (codes "book ")
    → (starts ≡ true → drop from text ≡ codes "book " ++ drop 5 (drop from text)) × ((rest : List ℕ) → drop from text ≡ codes "book " ++ rest → starts ≡ true)
starts_with_mark text from starts is = starts_is Decides-eqb (drop from text) (codes "book ") starts (rw (take_rest text from) at is)

-- a line that doesn't begin so is passed
pub passed : (text before : List ℕ) (from n : ℕ) → ((rest : List ℕ) → drop from text ≢ codes "book " ++ rest)
    → ((k : ℕ) → k < n → get_or text (from + k) 0 ≢ 10) → HasBookBehind text before → from ≤ length before → from + (n + 1) ≤ length before
passed text before from n unmarked unfed here later =
    elim (cases_lt (from + n) (length before)) [
      | inl beyond ↦ omega arith
      | inr within ↦ absurd (elim (cases_lt from (length before)) [
        | inr at ↦ let place : length before ≡ from = omega arith in
            unmarked here.rest (ap (λ i. drop i text) (sym place) ∙ marked_at text before here.rest here.mark)
        | inl behind ↦ elim here.line [
          | inl empty ↦ omega (arith, ap length empty)
          | inr (others, fed) ↦
              let long : length before ≡ length others + 1 = ap length fed ∙ length-append others (codes "\n") in
              let place : from + (length others - from) ≡ length others = omega (arith, long) in
              unfed (length others - from) (omega (arith, long)) (ap (λ i. get_or text i 0) place
              ∙ fed_at text before others (codes "book " ++ here.rest) (here.mark ∙ append_assoc before (codes "book ") here.rest) fed)
        ]
      ])
    ]

-- behind its line feed a line begins
pub behind_feed : (text : List ℕ) (from n : ℕ) → n < length (drop from text) → get_or (drop from text) n 0 ≡ 10 → EndsLine (take (from + (n + 1)) text)
behind_feed text from n inside fed =
    inr (take from text ++ take n (drop from text), with_feed text (take n (drop from text)) from n refl inside fed ∙ sym (append_assoc (take from text) (take n (drop from text)) (codes "\n")))

-- ---- where the book begins

pub split_here : (text : List ℕ) (from : ℕ) → EndsLine (take from text) → drop from text ≡ codes "book " ++ drop 5 (drop from text)
    → ((before : List ℕ) → HasBookBehind text before → from ≤ length before) → from ≤ length text → IsSplit text (take from text) (drop from text)
split_here text from line marked first inside = record {
  whole = sym (take-append-drop from text);
  begins = inr (record {
    line = line;
    rest = drop 5 (drop from text);
    mark = sym (take-append-drop from text) ∙ ap (λ rest. take from text ++ rest) marked ∙ sym (append_assoc (take from text) (codes "book ") (drop 5 (drop from text)));
  });
  first = λ before here. let long = length-take-le from text inside in omega (arith, long, first before here);
}
