use Rattle.std.proofs.Common.{◌≤◌, List, refl, rules, subst, sym, ℕ}
use Rattle.event_rule.specs.declared.event.Event.TheVariants.{Collect}
use Rattle.letter_kinds.specs.Counting.{Amount}
use Rattle.actor_table.specs.Slots.{slot_at}
use Rattle.orca_parts.specs.declared.parts.Parts.{Parts}
use Rattle.orca_parts.specs.Fits.{CollectsWith}
use Rattle.orca_parts.specs.Letters.{FitLetters, letters_to}
use Rattle.orca_parts.specs.Touched.{receivers}
use Rattle.orca_parts.proofs.Preparing.{acts_still, collects_with, once_back, only_room, prepared, refused_by, right_fault, still_lies}
use Rattle.orca_parts.proofs.collects.prepare_collect.Goals as goal
use Rattle.actor_table.proofs.Telling.{still_told}

pub returns-in_err-find_collect : goal.returns-in_err-find_collect
returns-in_err-find_collect g c =
    let m = c.args.m.now in
    let parts : Parts = record m.parts { sweep = c.find_collect.new.sweep } in
    record {
      prepares = refused_by (Collect c.args.a) m parts (only_room m.parts parts refl refl refl refl refl refl (still_told m.parts.table.slots) (λ lies. lies) refl) (record { turn = refl; turned = refl })
          _ _ (search rules) (right_fault (Collect c.args.a) m c.args.a refl _ c.in_err-find_collect.ensures.fault);
      words = c.find_collect.ensures.words;
    }

pub reserve_each-requires : goal.reserve_each-requires
reserve_each-requires g c = λ b.
    let its = c.in_ok-find_collect.ensures.ok in
    subst (λ (gs : List (ℕ × List Amount)). letters_to b (receivers gs) ≤ 1) (sym c.as_slice.ensures)
    (once_back c.args.m.now.options.trace c.find_collect.new.sweep its.cell its.so.1 b)

pub returns : goal.returns
returns g c =
    let m = c.args.m.now in
    let parts : Parts = record m.parts { table = c.reserve_each.new.table; sweep = c.find_collect.new.sweep } in
    let does = c.reserve_each.ensures.same in
    let trace = m.options.trace in
    record {
      words = c.find_collect.ensures.words;
      prepares =
          prepared (Collect c.args.a) m parts (only_room m.parts parts refl refl refl does.actors does.away refl does.told (still_lies m.parts.table.slots parts.table.slots does.places) refl) (record { turn = refl; turned = refl })
          (record {
            acts = acts_still (Collect c.args.a) c.args.a m.parts.table.slots parts.table.slots (CollectsWith trace c.args.a c.find_collect.new.sweep) does.places does.letters
                (collects_with trace c.args.a c.find_collect.new.sweep (slot_at m.parts.table.slots c.args.a) c.in_ok-find_collect.ensures.ok);
            fit = subst (λ (gs : List (ℕ × List Amount)). FitLetters (receivers gs) parts.table.slots) c.as_slice.ensures (search rules);
          });
    }
