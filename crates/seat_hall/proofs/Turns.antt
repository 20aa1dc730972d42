-- What a pass learns at its turn.
use Rattle.std.proofs.Common.{◌≡◌, ◌≢◌, ◌<◌, ℕ, List, [], ◌∷◌, ◌++◌, ◌+◌, ◌==◌, true, length, count_by, Some, sym, refl, ap, ◌∙◌, subst, arith, append-nil}
use Rattle.std.specs.Prelude.{if◌then◌else◌, slice_get}
use Rattle.std.proofs.lemmas.Bool.Decides.{nat_tests}
use Rattle.std.proofs.lemmas.List.Elements.{filter-append}
use Rattle.atomic_table.specs.Seated.{TableId}
use Rattle.turn_log.specs.Knowing.{at_turn, having_written}
use Rattle.turn_log.specs.Seats.{knows}
use Rattle.turn_log.specs.Told.{Learns}
use Rattle.orca_names.specs.declared.options.Options.{Options}
use Rattle.event_rule.specs.declared.event.Event.{Event}
use Rattle.actor_cell.specs.declared.cell.Cell.{Cell}
use Rattle.seat_hall.specs.declared.item.Item.{Item}
use Rattle.seat_hall.specs.declared.item.Item.TheVariants.{Entered}
use Rattle.seat_hall.specs.declared.task.SeatTask.{SeatTask}
use Rattle.seat_hall.specs.Fair.{IsOwn, MayLeave, Shown, after_item, hall_of, start_of}
use Rattle.seat_hall.specs.Halls.{HallView, says}
use Rattle.seat_hall.specs.Log.{Legal, Logged, MayFollow, after, by, hall_from, items_by}
use Rattle.seat_hall.specs.Passes.{Calls, GetsTurn, HasItsCell, HasIn, IsAtHall, IsClaimOf, KeepsCells, MayCommit, PassesOn, StandsAt, Stays, StaysWhole, Token, hall, is_of, out, seen}
use Rattle.seat_hall.proofs.Apart.{legal_first, none_between, options_after}
use Rattle.seat_hall.proofs.Keeps.{has_first, one_number, own_client, own_is}
use Rattle.seat_hall.proofs.Counts.{out_all}
use Rattle.seat_hall.proofs.Entries.{get_last}
use Rattle.seat_hall.proofs.Holding.{about, keeps_about, keeps_all}
use Rattle.seat_hall.proofs.Logs.{HasTerms, hall_append, legal_rest, terms_of}
use Rattle.seat_hall.proofs.Runs.{IsRunOf, runs}

pub at_hall : (pass : ℕ) (old new : Token) (h : HallView) → (knows old).client.numbers ≡ pass ∷ []
    → knows new ≡ at_turn (seen new) (knows old) → Learns Shown (knows old) (seen new) h → IsAtHall pass old new h
at_hall pass old new h number now learns =
    let voiced = one_number pass [] (knows old) number in
    let has = has_first pass [] (knows old) number in
    let shown = learns.shown in
    let saw = learns.saw in record {
      whole = record {
        between = saw.0;
        saw = sym saw.1;
        others = none_between pass (seen old) saw.0 (ap (items_by pass) saw.1 ∙ shown.own pass has);
        heard = learns.heard;
        legal = shown.legal voiced;
      };
      shows = shown.shows voiced;
      heavy = shown.heavy voiced;
      given = shown.given pass has;
      number = ap (λ k. k.client.numbers) now ∙ number;
      client = ap (λ k. k.client) now;
    }

-- ---- a call, whose turn was from old to mid, and which left the pass at new

module _ (pass : ℕ) (old mid new : Token) (h : HallView) (at : IsAtHall pass old mid h) where
  -- its own items are those from before
  pub own_still : items_by pass (seen mid) ≡ items_by pass (seen old)
  own_still =
      ap (items_by pass) at.whole.saw
      ∙ (filter-append (λ i. by i == pass) (seen old) at.whole.between
      ∙ (ap (λ xs. items_by pass (seen old) ++ xs) at.whole.others ∙ append-nil (items_by pass (seen old))))

  -- and so are its cells
  still_has : (a : ℕ) (c : Cell) → HasItsCell pass a c old → HasIn pass a c (hall old (seen mid))
  still_has a c has =
      let start : Logged = start_of (knows old).client in
      let here : Logged = hall old (seen old) in
      let rest : List Item = at.whole.between in
      let legal : Legal start (seen old ++ rest) = subst (Legal start) at.whole.saw at.whole.legal in
      let run : IsRunOf here = runs start (seen old) (refl, omega arith) (legal_first start (seen old) rest legal) in
      let heavy : 0 < here.options.weight =
      subst (λ (o : Options). 0 < o.weight) (sym (options_after (knows old).client (seen old))) at.heavy in
      let kept = keeps_all pass a here rest heavy run (legal_rest start (seen old) rest legal) at.whole.others has.claimed has.busy in
      let same : hall_from here rest ≡ hall old (seen mid) =
      sym (hall_append start (seen old) rest) ∙ ap (hall_from start) (sym at.whole.saw) in
      subst (HasIn pass a c) same (record { claimed = kept.claimed; cell = kept.cell ∙ has.cell; busy = kept.busy })

  pub has_now : (a : ℕ) (c : Cell) → HasItsCell pass a c old → HasIn pass a c h.logged
  has_now a c has = subst (HasIn pass a c) (sym at.shows) (still_has a c has)

  pub client_still : (knows mid).client ≡ (knows old).client
  client_still = at.client

  -- as many of its claims are out
  pub out_now : count_by (is_of pass) h.logged.claims ≡ out pass old
  out_now =
      let start : Logged = start_of (knows old).client in
      let rest : List Item = at.whole.between in
      let legal : Legal start (seen old ++ rest) = subst (Legal start) at.whole.saw at.whole.legal in
      ap (λ (l : Logged). count_by (is_of pass) l.claims)
      (at.shows ∙ (ap (hall_from start) at.whole.saw ∙ hall_append start (seen old) rest))
      ∙ out_all pass (hall old (seen old)) rest (legal_rest start (seen old) rest legal) at.whole.others

  -- the hall is that of a run
  run_now : IsRunOf h.logged
  run_now = subst IsRunOf (sym at.shows)
      (runs (start_of (knows old).client) (seen mid) (refl, omega arith) at.whole.legal)

  heavy_now : 0 < h.logged.options.weight
  heavy_now = subst (λ (o : Options). 0 < o.weight)
      (sym (ap (λ (l : Logged). l.options) at.shows ∙ options_after (knows old).client (seen mid))) at.heavy

  -- and of the pass's run
  terms_now : HasTerms (knows old).client.program (knows old).client.options (knows old).client.budget h.logged
  terms_now =
      let v = (knows old).client in
      subst (HasTerms v.program v.options v.budget) (sym at.shows) (terms_of v.program v.options v.budget (seen mid))

  -- so the claims of the pass are of this run
  pub claim_now : (task : SeatTask) → MayCommit pass old task → IsClaimOf pass task.taken h.logged
  claim_now task may =
      let v = (knows old).client in
      let before = terms_of v.program v.options v.budget (seen old) in record {
        has = has_now task.taken.cell.heap.owner task.taken.cell may.has;
        program = may.program ∙ (before.program_is ∙ sym terms_now.program_is);
        options = may.options ∙ (before.options_is ∙ sym terms_now.options_is);
      }

  -- what the pass reckons at its turn is the hall
  pub reckons : h.logged ≡ hall_of (knows mid).client (knows mid).seen
  reckons = at.shows ∙ ap (λ v. hall_of v (seen mid)) (sym client_still)

  -- a call may leave the hall that follows by its item
  pub may_leave : (i : Item) → IsOwn pass i → (g : HallView) → MayFollow h.logged i → g ≡ says (after h.logged i) i
      → MayLeave pass (knows mid) g
  may_leave i own g may is = subst (MayLeave pass (knows mid)) (sym is) (record {
    own = own;
    follows = record {
      number = at.number;
      last = refl;
      may = subst (λ (l : Logged). MayFollow l i) reckons may;
      logged = ap (λ (l : Logged). after l i) reckons;
    };
  })

  -- where the call wrote nothing
  module _ (same : knows new ≡ knows mid) where
    hall_read : h.logged ≡ hall new (seen new)
    hall_read = reckons ∙ (λ i. hall_of ((sym (ap (λ k. k.client) same)) i) ((sym (ap (λ k. k.seen) same)) i))

    pub reads : (Q : Logged → Type 0) → Q h.logged → Calls pass old new [] Q
    reads Q answer = record {
      log = seen mid;
      whole = at.whole;
      now = ap (λ k. k.seen) same ∙ sym (append-nil (seen mid));
      mine = ap (λ k. items_by pass k.seen) same ∙ (own_still ∙ sym (append-nil (items_by pass (seen old))));
      answers = subst Q at.shows answer;
    }

    pub read_cells : KeepsCells pass old new
    read_cells a c has = subst (HasIn pass a c) hall_read (has_now a c has)

    pub read_out : out pass new ≡ out pass old
    read_out = ap (λ (l : Logged). count_by (is_of pass) l.claims) (sym hall_read) ∙ out_now

  -- where the call wrote an item of its own
  module _ (i : Item) (own : IsOwn pass i) (wrote : knows new ≡ having_written after_item i (knows mid)) where
    pub seen_then : seen new ≡ seen mid ++ i ∷ []
    seen_then = ap (λ k. k.seen) wrote

    pub client_then : (knows new).client ≡ (knows old).client
    client_then = ap (λ k. k.client) wrote ∙ (own_client pass i (knows mid).client own ∙ client_still)

    pub turns_then : (knows mid).turns ≡ (knows old).turns + 1 → (knows new).turns ≡ (knows old).turns + 1
    turns_then had = ap (λ k. k.turns) wrote ∙ had

    pub writes : (Q : Logged → Type 0) → Q h.logged → Calls pass old new (i ∷ []) Q
    writes Q answer = record {
      log = seen mid;
      whole = at.whole;
      now = seen_then;
      mine = ap (items_by pass) seen_then ∙ (filter-append (λ j. by j == pass) (seen mid) (i ∷ [])
          ∙ (ap (λ b. items_by pass (seen mid) ++ (if b then i ∷ [] else [])) same ∙ ap (λ xs. xs ++ i ∷ []) own_still));
      answers = subst Q at.shows answer;
    }
      where
        same : (by i == pass) ≡ true
        same = let e = own_is pass i own in grind (arith, nat_tests)

    -- the hall that it leaves
    pub hall_then : after h.logged i ≡ hall new (seen new)
    hall_then =
        ap (λ (l : Logged). after l i) at.shows
        ∙ (sym (hall_append (start_of (knows old).client) (seen mid) (i ∷ []))
        ∙ (λ j. hall_of (sym client_then j) (sym seen_then j)))

    pub has_then : (a : ℕ) (c : Cell) → HasIn pass a c (after h.logged i) → HasItsCell pass a c new
    has_then a c has = subst (HasIn pass a c) hall_then has

    -- what it has of other actors it keeps
    pub wrote_cells : MayFollow h.logged i → (a : ℕ) (c : Cell) → about i ≢ Some a → HasItsCell pass a c old → HasItsCell pass a c new
    wrote_cells may a c others has =
        let now = has_now a c has in
        let kept = keeps_about pass a h.logged i others heavy_now run_now may now.claimed now.busy in
        has_then a c (record { claimed = kept.claimed; cell = kept.cell ∙ now.cell; busy = kept.busy })

    pub wrote_out : (n : ℕ) → count_by (is_of pass) (after h.logged i).claims ≡ n → out pass new ≡ n
    wrote_out n is = ap (λ (l : Logged). count_by (is_of pass) l.claims) (sym hall_then) ∙ is

  -- an entry that the call made stands where it was told
  pub wrote_stands : (e : Event) → knows new ≡ having_written after_item (Entered pass e) (knows mid) → (place : ℕ)
      → place ≡ length h.logged.book → StandsAt new place e
  wrote_stands e wrote place is =
      ap (λ (l : Logged). slice_get l.book place) (sym (hall_then (Entered pass e) refl wrote))
      ∙ (ap (slice_get (h.logged.book ++ e ∷ [])) is ∙ get_last h.logged.book e)

-- ---- the whole call, which passes the turn on

module _ (table : TableId) (pass : ℕ) (old mid new : Token) (h : HallView) (turn : GetsTurn table pass old mid h) where
  -- where it wrote nothing
  pub read_whole : PassesOn pass mid new (knows mid) → StaysWhole pass 1 old new
  read_whole passed = record {
    stays = record {
      same = (passed.same.0 ∙ turn.same.0, passed.same.1 ∙ turn.same.1);
      pass_is = passed.pass_is;
      client = ap (λ k. k.client) passed.knew ∙ turn.at.client;
      turns_had = ap (λ k. k.turns) passed.knew ∙ turn.turns;
    };
    cells = read_cells pass old mid new h turn.at passed.knew;
    out_is = read_out pass old mid new h turn.at passed.knew;
  }

  -- where it left the hall that follows by an item of its own
  module _ (i : Item) (own : IsOwn pass i) (g : HallView) (is : g ≡ says (after h.logged i) i)
      (passed : PassesOn pass mid new (having_written after_item g.last (knows mid))) where
    pub wrote : knows new ≡ having_written after_item i (knows mid)
    wrote = passed.knew ∙ ap (λ (v : HallView). having_written after_item v.last (knows mid)) is

    pub wrote_stays : Stays pass 1 old new
    wrote_stays = record {
      same = (passed.same.0 ∙ turn.same.0, passed.same.1 ∙ turn.same.1);
      pass_is = passed.pass_is;
      client = client_then pass old mid new h turn.at i own wrote;
      turns_had = turns_then pass old mid new h turn.at i own wrote turn.turns;
    }
