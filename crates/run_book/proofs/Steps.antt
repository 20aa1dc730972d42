-- A text is read line by line.
use Rattle.std.proofs.Common.{◌≡◌, ℕ, ◌+◌, ◌<◌, ◌≤◌, List, [], ◌∷◌, ◌++◌, length, get_or, take, drop, ap, ap₂, sym, ◌∙◌, arith, codes, take_all, length-append}
use Rattle.std.proofs.lemmas.List.{flat_map_more, take_more}
use Rattle.std.proofs.lemmas.List.Elements.{All-push}
use Rattle.std.proofs.Math.Seq.{take-add}
use Rattle.orca_names.specs.declared.limits.TheConstants.{BOOK_LIMIT}
use Rattle.event_rule.specs.declared.event.Event.{Event}
use Rattle.run_book.specs.Books.{BookValue, entry_line}
use Rattle.run_book.specs.Reading.{IsBookText, IsEntry, MayFollow}
use Rattle.run_book.specs.Progress.{IsReadTo}
use Rattle.run_book.specs.declared.header.Header.{Header}

-- the bytes of a line and its line feed
pub with_feed : (bytes line : List ℕ) (from n : ℕ) → line ≡ take n (drop from bytes) →
    n < length (drop from bytes) → get_or (drop from bytes) n 0 ≡ 10 →
    take (from + (n + 1)) bytes ≡ take from bytes ++ (line ++ 10 ∷ [])
with_feed bytes line from n is inside found =
    take-add from (n + 1) bytes
    ∙ ap (λ (back : List ℕ). take from bytes ++ back)
    (take_more (drop from bytes) n 0 inside
    ∙ ap₂ (λ (front : List ℕ) (b : ℕ). front ++ b ∷ []) (sym is) found)

-- one more entry is read
pub one_more : (bytes line : List ℕ) (h : Header) (entries more : List Event) (from n next : ℕ)
    (e : Event) → IsReadTo bytes h entries from →
    line ≡ take n (drop from bytes) → n < length (drop from bytes) →
    get_or (drop from bytes) n 0 ≡ 10 → IsEntry h.leaves e line →
    length entries < BOOK_LIMIT → more ≡ entries ++ e ∷ [] → next ≡ from + (n + 1) →
    next ≤ length bytes → IsReadTo bytes h more next
one_more bytes line h entries more from n next e r is inside found entry room pushed place within =
    rw (pushed, place) (record {
      first = r.first;
      says = r.says;
      follow = All-push (MayFollow h.leaves) entries e r.follow entry.0;
      few = omega (arith, length-append entries (e ∷ []));
      within = omega arith;
      whole =
          with_feed bytes line from n is inside found
          ∙ ap₂ (λ (front back : List ℕ). front ++ (back ++ 10 ∷ [])) r.whole entry.1
          ∙ flat_map_more entry_line (r.first ++ codes "\n") entries e;
    })

-- a book's text is read to its end
abbrev pub read_whole : (bytes : List ℕ) (b : BookValue) (t : IsBookText bytes b) →
    IsReadTo bytes t.header b.entries (length bytes)
read_whole bytes b t = record {
  first = t.first;
  says = t.says;
  follow = t.entries;
  few = t.few;
  within = omega arith;
  whole = take_all (length bytes) bytes (omega arith) ∙ t.whole;
}
