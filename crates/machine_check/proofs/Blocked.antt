-- A machine that starts with blocks, and their words.
use Rattle.std.proofs.Common.{◌≡◌, ◌*◌, ℕ, List, None, length, ap, ◌∙◌, arith}
use Rattle.std.proofs.lemmas.List.{length-replicate}
use Rattle.block_table.specs.Blocks.{Blocks, free_blocks}
use Rattle.row_store.specs.Vectors.{known_in, places_in}
use Rattle.row_store.specs.Words.{Words}
use Rattle.row_store.proofs.Blocks.{can_put_all}
use Rattle.orca_core.specs.Machine.{Machine, NoneIsAway, Stand}
use Rattle.machine_check.specs.Blocked.{Stands}

-- whatever words there are, as many as these blocks have
pub begins : (m : Machine) (words : List ℕ) (count : ℕ) → NoneIsAway m → ((known : Words) → Stand known m) → m.blocks ≡ free_blocks count → length words ≡ 17 * count
    → Stands m (known_in 0 words) (places_in words)
begins m words count home stand blocks long =
    let size : length m.blocks ≡ count = ap (λ (bs : Blocks). length bs) blocks ∙ length-replicate count None in
    record {
      home = home;
      stand = stand (known_in 0 words);
      put = λ k within. can_put_all k words (omega (arith, within, size, long));
    }
