-- What seats put under their turns.
use Rattle.std.proofs.Common.{◌≡◌, ◌≢◌, ℕ, ◌<◌, List, [], ◌∷◌, ◌++◌, set, refl, sym, subst, ⊎_elim}
use mathlib.Core.Option.{some}
use lib.ListN.{get_elem?}
use Rattle.atomic_table.proofs.Lists.{at_set, at_snoc}
use Rattle.turn_log.specs.declared.rule.Known.{Known}
use Rattle.turn_log.specs.declared.table.SeatView.{SeatView}
use Rattle.turn_log.specs.declared.table.Stage.{Stage}
use Rattle.turn_log.specs.Queue.{IsPutter, user_words}
use Rattle.turn_log.specs.Seats.{idle, view_of}
use Rattle.turn_log.proofs.UserWords.{queue_word}

module _ {T I V : Type 0} where
  abbrev ArePutters : List ℕ → List (SeatView T I V) → Type 0
  ArePutters words views =
      (j : ℕ) (d : SeatView T I V) → get_elem? views j ≡ some d → IsPutter words d

  pub nothing_put_at : (words : List ℕ) (stage : Stage T) (k : Known I V) → IsPutter words (view_of stage k)
  nothing_put_at words stage k = record { stand = λ at w e. cc; turn = λ none. refl }

  pub nothing_put : (words : List ℕ) (k : Known I V) → IsPutter words (idle {T = T} k)
  nothing_put words k = record { stand = λ at w e. cc; turn = λ none. refl }

  -- the view of one seat changes
  pub putters : (words : List ℕ) (views : List (SeatView T I V)) (id : ℕ) (w : SeatView T I V)
      → IsPutter words w → ArePutters words views → ArePutters words (set views id w)
  putters words views id w mine all j d e = ⊎_elim
      (λ (t : (j ≡ id) × (w ≡ d)). subst (IsPutter words) t.1 mine)
      (λ (t : (j ≢ id) × (get_elem? views j ≡ some d)). all j d t.1)
      (at_set views id j w d e)

  -- a seat comes
  pub putters_more : (words : List ℕ) (views : List (SeatView T I V)) (w : SeatView T I V)
      → IsPutter words w → ArePutters words views → ArePutters words (views ++ w ∷ [])
  putters_more words views w mine all j d e = ⊎_elim
      (λ (t : get_elem? views j ≡ some d). all j d t)
      (λ (t : w ≡ d). subst (IsPutter words) t mine)
      (at_snoc views w d j e)

  -- a word of the queue changes
  pub putters_words : (ws : List ℕ) (i v : ℕ) (views : List (SeatView T I V)) → i < 3
      → ArePutters (user_words ws) views → ArePutters (user_words (set ws i v)) views
  putters_words ws i v views l all = subst (λ us. ArePutters us views) (sym (queue_word ws i v l)) all
