-- A pass at its turn, between two of its items.
use Rattle.std.proofs.Common.{◌≡◌, ℕ, ◌<◌, ◌≤◌, List, [], ◌∷◌, Option, None, Some, refl, sym, ap, ◌∙◌, subst, arith, append-nil}
use mathlib.Core.List.{IsPrefix}
use Rattle.atomic_table.specs.Seated.{TableId}
use Rattle.turn_log.specs.Knowing.{having_written}
use Rattle.turn_log.specs.Seats.{Has, IsSame, knows}
use Rattle.seat_hall.specs.declared.item.Item.{Item}
use Rattle.seat_hall.specs.declared.item.PassView.{PassView}
use Rattle.seat_hall.specs.Advances.{IsUnder, Reckons}
use Rattle.seat_hall.specs.Fair.{IsOwn, Knower, after_item, start_of}
use Rattle.seat_hall.specs.Halls.{HallView, says}
use Rattle.seat_hall.specs.Log.{Legal, Logged, MayFollow, after}
use Rattle.seat_hall.specs.Passes.{Holds, IsAtHall, Token, seen}
use Rattle.seat_hall.proofs.Logs.{legal_snoc, made_one}
use Rattle.seat_hall.proofs.Turns.{client_still, client_then, hall_then, reckons, seen_then}

-- what lies in the slot that was taken last
abbrev lies_in : HallView → List (ℕ × Option HallView) → HallView
lies_in d ((i, Some x) ∷ cs) = x
lies_in d _ = d

pub lies_once : (t : Token) (h g : HallView) → Has (Some h) t → Has (Some g) t → h ≡ g
lies_once t h g one other = ap (lies_in h) (sym one ∙ other)

-- what it reckons holds of the token at a turn that has just begun
pub at_again : (n : ℕ) (t : Token) (h : HallView) → Reckons n (knows t) h → IsAtHall n t t h
at_again n t h r = record {
  whole = record {
    between = [];
    saw = sym (append-nil (seen t));
    others = refl;
    heard = subst (λ (xs : List Item). IsPrefix xs (seen t)) (sym r.heard) ([], append-nil (seen t));
    legal = r.legal;
  };
  shows = r.shows;
  heavy = r.heavy;
  given = r.given;
  number = r.number;
  client = refl;
}

-- and at a turn that has just begun it reckons so
pub reckons_at : (n : ℕ) (old mid : Token) (h : HallView) → IsAtHall n old mid h → (knows mid).heard ≡ seen mid
    → Reckons n (knows mid) h
reckons_at n old mid h at heard = record {
  number = at.number;
  heard = heard;
  legal = subst (λ (v : PassView). Legal (start_of v) (seen mid)) (sym at.client) at.whole.legal;
  shows = reckons n old mid mid h at;
  heavy = subst (λ (v : PassView). 0 < v.options.weight) (sym at.client) at.heavy;
  given = at.given;
}

-- and it reckons so again when it wrote an item
pub reckons_then : (n : ℕ) (old mid new : Token) (h : HallView) (at : IsAtHall n old mid h) (i : Item) (own : IsOwn n i)
    → knows new ≡ having_written after_item i (knows mid) → (g : HallView) → MayFollow h.logged i
    → g ≡ says (after h.logged i) i → Reckons n (knows new) g
reckons_then n old mid new h at i own wrote g may is =
    let client = client_then n old mid new h at i own wrote in
    let start : Logged = start_of (knows old).client in record {
      number = ap (λ (v : PassView). v.numbers) (client ∙ sym (client_still n old mid new h at)) ∙ at.number;
      heard = ap (λ k. k.heard) wrote ∙ sym (ap (λ k. k.seen) wrote);
      legal = subst (λ (x : PassView × List Item). Legal (start_of x.0) x.1)
          (λ j. (sym client j, sym (seen_then n old mid new h at i own wrote) j))
          (legal_snoc start (seen mid) i at.whole.legal (subst (λ (l : Logged). MayFollow l i) at.shows may));
      shows = ap (λ (v : HallView). v.logged) is ∙ hall_then n old mid new h at i own wrote;
      heavy = subst (λ (v : PassView). 0 < v.options.weight) (sym client) at.heavy;
      given = subst (λ (v : HallView). n ≤ v.logged.made) (sym is)
          (let made = (made_one h.logged i may).0 in let had = at.given in omega arith);
    }

-- the hall is taken out of the slot again: the pass holds it, and reckons as it did
pub holds_then : (table : TableId) (n : ℕ) (s t : Token) (u : IsUnder table n s) → IsSame s t × (t.me.0 ≡ s.me.0)
    → Has None t → Holds table u.lying t
holds_then table n s t u same empty = record {
  own = same.0.0 ∙ u.own;
  turn = (u.turn.0, ap (λ v. v.stage) same.1 ∙ u.turn.1);
  empty = empty;
}

pub taken_out : (table : TableId) (n : ℕ) (s t : Token) (h : HallView) (u : IsUnder table n s) → Has (Some h) s → t.me.0 ≡ s.me.0
    → Reckons n (knows t) h
taken_out table n s t h u lies same = subst (λ (x : Knower × HallView). Reckons n x.0 x.1)
    (λ i. (ap (λ v. v.known) (sym same) i, lies_once s u.lying h u.lies lies i)) u.reckons
