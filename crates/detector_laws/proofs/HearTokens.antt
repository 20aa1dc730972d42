-- Hearing a note keeps what holds of tokens.
use Rattle.std.proofs.Common.{◌≡◌, ℕ, ◌≤◌, ◌<◌, ◌≢◌, ◌==◌, not, Bool, true, false, if◌then◌else◌, ◌&&◌, ◌||◌, ◌⊎◌, inl, inr, ⊎_elim, List, [], ◌∷◌, filter, map, Option, Some, None, arith, refl, ap, sym, subst, ◌∙◌, Contains}
use Rattle.std.proofs.lemmas.Bool.{cond_both}
use Rattle.std.proofs.lemmas.Bool.Decides.{nat_tests}
use Rattle.letter_kinds.specs.Detector.{Token, Detector, has, note_ack, hear_note}
use Rattle.letter_kinds.specs.Reports.{report_told, block_note, kept_report, drop_report}
use Rattle.letter_kinds.specs.Letters.{Letter}
use Rattle.letter_kinds.specs.declared.note.Note.{Note}
use Rattle.letter_kinds.specs.declared.note.Note.TheVariants.{Block, Unblock, Ack}
use Rattle.letter_kinds.specs.declared.note.Report.{Report}
use Rattle.machine_rules.specs.Cell.{Cell}
use Rattle.detector_laws.proofs.Hear.{kept_report-keep, kept_report-drop}
use Rattle.detector_laws.proofs.Letters.{other_before_confirm-some}
use Rattle.reach_walk.proofs.Elements.{Contains-from_map}
use Rattle.detector_laws.proofs.Members.{Contains-from_filter}
use Rattle.detector_laws.specs.Confirms.{confirm_count}
use Rattle.detector_laws.specs.Tokens.{ack_count, trace_count, IsSealed, unblocks_before_ack, IsSpoiled, SoundTokens}
use Rattle.detector_laws.specs.World.{World, hear_in_world, TokensAreSound}

pub tail_acks : (t a : ℕ) (n : Note) (ns : List Note) → ack_count t a ns ≤ ack_count t a (n ∷ ns)
tail_acks t a (Block b count held) ns = omega arith
tail_acks t a (Unblock b) ns = omega arith
tail_acks t a (Ack u b) ns = omega arith

-- the notes' head goes, and what it says is noted in the token
has-filter : (p : ℕ → Bool) (ms : List ℕ) (m : ℕ) → has (filter p ms) m ≡ (has ms m && p m)
has-filter p [] m = refl
has-filter p (x ∷ ms) m = grind (arith, nat_tests, has-filter p ms m)

has_acked : (u a : ℕ) (t : Token) (m : ℕ) → has (note_ack u a t).acked m ≡ (if u == t.number then has t.members m && (has t.acked m || (m == a)) else has t.acked m)
has_acked u a t m = grind (arith, nat_tests, has-filter (λ x. has t.acked x || (x == a)) t.members m)

noted_le : (u a : ℕ) (t : Token) (m : ℕ) (mail : List Letter) (ns : List Note) → trace_count (note_ack u a t) m mail ns ≤ trace_count t m mail (Ack u a ∷ ns)
noted_le u a t m mail ns = rw (has_acked u a t m) (grind (arith, nat_tests))

noted_one : (u a : ℕ) (t : Token) (m : ℕ) (mail : List Letter) (ns : List Note) → has t.members m ≡ true → trace_count t m mail (Ack u a ∷ ns) ≡ 1 → trace_count (note_ack u a t) m mail ns ≡ 1
noted_one u a t m mail ns member h = rw (has_acked u a t m) (grind (arith, nat_tests))

unblocks_before_ack-ack : (u a : ℕ) (t : Token) (m : ℕ) (ns : List Note) → unblocks_before_ack t.number m (Ack u a ∷ ns) ≡ true → has t.acked m ≡ false → (unblocks_before_ack t.number m ns ≡ true) × (has (note_ack u a t).acked m ≡ false)
unblocks_before_ack-ack u a t m ns h k = rw (has_acked u a t m) (grind (arith, nat_tests))

-- while the Confirm waits, the Ack is not under way
unnoted_ack : (u a : ℕ) (t : Token) (m : ℕ) (mail : List Letter) (ns : List Note) → 0 < confirm_count t.number mail → trace_count t m mail (Ack u a ∷ ns) ≤ 1 → has t.acked m ≡ false → has (note_ack u a t).acked m ≡ false
unnoted_ack u a t m mail ns h k e = rw (has_acked u a t m) (grind (arith, nat_tests))

block_heard : (cell : ℕ → Option Cell) (mail : ℕ → List Letter) (loaded : ℕ → ℕ) (d : Detector) (r : Report) (ns : List Note) → SoundTokens d cell mail loaded (block_note r ∷ ns) → SoundTokens (hear_note (block_note r) d) cell mail loaded ns
block_heard cell mail loaded d r ns k = record {
  apart = k.apart;
  kept = λ t i m j. let (q, e) = k.kept t i m j in subst (λ o. (s : Report) × (o ≡ Some s)) (sym (kept_report-keep r d.kept m))
      (cond_both (r.actor == m) (Some r) (kept_report d.kept m) (λ o. (s : Report) × (o ≡ Some s)) (λ _. (r, refl)) (λ _. (q, e)));
  unique = k.unique;
  numbers = k.numbers;
  letters = k.letters;
  heard = k.heard;
  once = k.once;
  state = λ t i. ⊎_elim
      (λ s. inl (λ m j. let seal = s m j in record { blocked = seal.blocked; letters = seal.letters; silent = seal.silent.1; held = seal.held; unloaded = seal.unloaded; one = seal.one }))
      (λ s. let (m, j, p) = s in inr (m, j, record { unnoted = p.unnoted; cause = p.cause }))
      (k.state t i);
}

-- a token that is not cancelled
other_member : (t : Token) (a m : ℕ) → not (has t.members a) ≡ true → has t.members m ≡ true → a ≢ m
other_member t a m h k e = grind (arith)

unblocks_before_ack-other : (t : ℕ) (a m : ℕ) (ns : List Note) → a ≢ m → unblocks_before_ack t m (Unblock a ∷ ns) ≡ true → unblocks_before_ack t m ns ≡ true
unblocks_before_ack-other t a m ns ne h = grind (arith, nat_tests)

dropped_other : (a m : ℕ) (o p : Option Report) (r : Report) → a ≢ m → o ≡ (if a == m then None else p) → p ≡ Some r → o ≡ Some r
dropped_other a m o p r ne e f = grind (arith, nat_tests)

unblock_heard : (cell : ℕ → Option Cell) (mail : ℕ → List Letter) (loaded : ℕ → ℕ) (d : Detector) (a : ℕ) (ns : List Note) → SoundTokens d cell mail loaded (Unblock a ∷ ns) → SoundTokens (hear_note (Unblock a) d) cell mail loaded ns
unblock_heard cell mail loaded d a ns k =
    let is = λ (t : Token) (i : Contains (filter (λ u. not (has u.members a)) d.tokens) t). Contains-from_filter (λ u. not (has u.members a)) t d.tokens i in
    record {
      apart = λ t u i j. k.apart t u (is t i).0 (is u j).0;
      kept = λ t i m j. let (r, e) = k.kept t (is t i).0 m j in
          (r, dropped_other a m (kept_report (drop_report a d.kept) m) (kept_report d.kept m) r (other_member t a m (is t i).1 j) (kept_report-drop a d.kept m) e);
      unique = λ t u i j. k.unique t u (is t i).0 (is u j).0;
      numbers = λ t i. k.numbers t (is t i).0;
      letters = k.letters;
      heard = k.heard;
      once = λ t i. k.once t (is t i).0;
      state = λ t i. ⊎_elim
          (λ s. inl (λ m j. let seal = s m j in record { blocked = seal.blocked; letters = seal.letters; silent = seal.silent.1; held = seal.held; unloaded = seal.unloaded; one = seal.one }))
          (λ s. let (m, j, p) = s in inr (
            m,
            j,
            record {
              unnoted = p.unnoted;
              cause = ⊎_elim (λ l. inl (unblocks_before_ack-other t.number a m ns (other_member t a m (is t i).1 j) l)) (λ l. inr l) p.cause;
            },
          ))
          (k.state t (is t i).0);
    }

ack_heard : (cell : ℕ → Option Cell) (mail : ℕ → List Letter) (loaded : ℕ → ℕ) (d : Detector) (u a : ℕ) (ns : List Note) → SoundTokens d cell mail loaded (Ack u a ∷ ns) → SoundTokens (hear_note (Ack u a) d) cell mail loaded ns
ack_heard cell mail loaded d u a ns k =
    let from : (t : Token) → Contains (map (note_ack u a) d.tokens) t → (v : Token) × Contains d.tokens v × (t ≡ note_ack u a v) = λ t i.
    let (v, j, e) = Contains-from_map (note_ack u a) d.tokens t i in (v, j, sym e) in
    record {
      apart = λ t v i j m. let (t', i', e) = from t i in let (v', j', f) = from v j in
          subst (λ x. has x.members m ≡ true → has v.members m ≡ true → x.number ≡ v.number) (sym e)
          (subst (λ x. has t'.members m ≡ true → has x.members m ≡ true → t'.number ≡ x.number) (sym f) (k.apart t' v' i' j' m));
      kept = λ t i m. let (t', i', e) = from t i in subst (λ x. has x.members m ≡ true → (r : Report) × (kept_report d.kept m ≡ Some r)) (sym e) (k.kept t' i' m);
      unique = λ t v i j same. let (t', i', e) = from t i in let (v', j', f) = from v j in
          e ∙ (ap (note_ack u a) (k.unique t' v' i' j' (sym (ap (λ (x : Token). x.number) e) ∙ (same ∙ ap (λ (x : Token). x.number) f))) ∙ sym f);
      numbers = λ t i. let (t', i', e) = from t i in subst (λ x. x.number ≤ d.opened) (sym e) (k.numbers t' i');
      letters = k.letters;
      heard = λ b n lt. omega (arith, k.heard b n lt);
      once = λ t i m. let (t', i', e) = from t i in subst (λ x. has x.members m ≡ true → trace_count x m (mail m) ns ≤ 1) (sym e)
          (λ j. omega (arith, k.once t' i' m j, noted_le u a t' m (mail m) ns));
      state = λ t i. let (t', i', e) = from t i in subst (λ x. IsSealed cell mail loaded ns x ⊎ IsSpoiled cell mail ns x) (sym e)
          (⊎_elim
          (λ s. inl (λ m j. let seal = s m j in record { blocked = seal.blocked; letters = seal.letters; silent = seal.silent; held = seal.held; unloaded = seal.unloaded; one = noted_one u a t' m (mail m) ns j seal.one }))
          (λ s. let (m, j, p) = s in inr (
            m,
            j,
            ⊎_elim
                (λ l. let two = unblocks_before_ack-ack u a t' m ns l p.unnoted in record { unnoted = two.1; cause = inl two.0 })
                (λ l. record { unnoted = unnoted_ack u a t' m (mail m) ns (other_before_confirm-some t'.number (mail m) l.1) (k.once t' i' m j) p.unnoted; cause = inr l })
                p.cause,
          ))
          (k.state t' i'));
    }

heard_tokens : (cell : ℕ → Option Cell) (mail : ℕ → List Letter) (loaded : ℕ → ℕ) (d : Detector) (n : Note) (ns : List Note) → SoundTokens d cell mail loaded (n ∷ ns) → SoundTokens (hear_note n d) cell mail loaded ns
heard_tokens cell mail loaded d (Block b count held) ns k = block_heard cell mail loaded d (report_told b count held) ns k
heard_tokens cell mail loaded d (Unblock a) ns k = unblock_heard cell mail loaded d a ns k
heard_tokens cell mail loaded d (Ack u a) ns k = ack_heard cell mail loaded d u a ns k

pub hear_tokens : (w : World) (n : Note) (ns : List Note) → w.notes ≡ n ∷ ns → TokensAreSound w → TokensAreSound (hear_in_world w n ns)
hear_tokens w n ns e k = heard_tokens w.cell w.mail w.loaded w.detector n ns (subst (SoundTokens w.detector w.cell w.mail w.loaded) e k)
