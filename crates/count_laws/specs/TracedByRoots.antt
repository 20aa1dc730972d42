-- The facts of root-only tracing, in place of those of deep tracing.
use Rattle.std.specs.Prelude.{ℕ, ◌+◌, ◌<◌, ◌≡◌, ◌⊎◌, drop, take, List, sum_by}
use Rattle.orca_names.specs.Names.{owner_of}
use Rattle.orca_names.specs.declared.names.Thing.{Thing}
use Rattle.letter_kinds.specs.Sums.{inc_of, load_count}
use Rattle.letter_kinds.specs.Letters.{Letter}
use Rattle.machine_rules.specs.Actors.{Actors, Every}
use Rattle.machine_rules.specs.Balance.{held_sum, load_sum}
use Rattle.count_laws.specs.Prefixes.{NeverOverdraws}
use Rattle.count_laws.specs.Clean.{IsCleanByRootsAt}
use Rattle.count_laws.specs.KnownByRoots.{IsBacked, IsKnownWithOwner, IsNamedIn}
use Rattle.orca_names.specs.declared.trace.Trace.TheVariants.{Roots}

-- somebody holds it, or a letter that is none of the first k of its owner's loads it, or an Inc for
-- it stands behind them
abbrev pub CountsFor : Actors → List Letter → ℕ → Thing → Type 0
CountsFor actors mail k x =
    (sum_by (load_count x) (take k mail) < held_sum x actors + load_sum x actors)
    ⊎ (0 < sum_by (inc_of x) (drop k mail))

pub record AreTracedByRoots (actors : Actors) : Type 0 where
  -- no letter takes from a count what is not there
  pub covered : NeverOverdraws Roots actors
  -- an idle actor that did nothing since it collected has just what is marked
  pub marked : Every IsCleanByRootsAt actors
  -- fields, registers and rows of own objects name own or held things, and with an object its owner
  pub named : Every (λ a c mail. (x : Thing) → IsNamedIn a c x
      → IsKnownWithOwner a c.holdings x) actors
  -- after each prefix that counts for a thing, it is counted; or it is an own object, and a counted
  -- one leads to it through own rows
  pub backed : Every (λ a c mail. (x : Thing) (k : ℕ) → owner_of x ≡ a → CountsFor actors mail k x
      → IsBacked a c mail k x) actors
