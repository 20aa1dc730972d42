use Rattle.std.proofs.Common.{◌≡◌, None, Some, sym, subst}
use Rattle.orca_names.specs.declared.options.Options.{Options}
use Rattle.behaviour_code.specs.declared.code.Program.{Program}
use Rattle.orca_parts.specs.Founds.{IsFoundUntold}
use Rattle.seat_hall.specs.Answers.{EntersOr, IsFoundOf}
use Rattle.seat_hall.specs.Halls.{HallView}
use Rattle.seat_hall.specs.Log.{state_in}
use Rattle.seat_hall.proofs.Causes.{own_answers}
use Rattle.seat_hall.proofs.hall.Hall.commit.Goals as goal

pub enter-requires : goal.enter-requires
enter-requires c =
    let taken = c.args.taken in
    let l = c.args.self.now.logged in
    let back = c.put_back.ensures in
    subst (λ (h : HallView). (found : _) → c.args.found.now ≡ Some found
    → IsFoundOf h.logged.options h.logged.program (state_in h.logged).actors taken.event found.value) (sym back)
    (λ found is. record {
      cell = taken.cell;
      its = taken.its;
      there = c.requires.claim.has.cell;
      is = subst (λ (x : Options × Program). IsFoundUntold x.0 x.1 taken.cell found.value)
          (λ i. (c.requires.claim.options i, c.requires.claim.program i))
          (c.requires.found found is);
    })

pub returns : goal.returns
returns c =
    let taken = c.args.taken in let pass = c.args.pass in let l = c.args.self.now.logged in
    own_answers l taken.event pass taken.cell.heap.owner taken.its c.requires.claim.has.claimed c.enter.result c.enter.new.self
    (subst (λ (h : HallView). EntersOr None pass taken.event h.logged h c.enter.result c.enter.new.self) c.put_back.ensures c.enter.ensures)
