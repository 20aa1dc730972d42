-- What a pass keeps through its calls.
use Rattle.std.proofs.Common.{◌≡◌, ℕ, ◌+◌, false, ◌∙◌, ap, arith, subst, sym}
use Rattle.std.specs.Prelude.{Option, Some, None}
use Rattle.std.specs.Option.{is_some}
use Rattle.seat_hall.specs.declared.task.SeatTask.{SeatTask}
use Rattle.turn_log.specs.Seats.{knows}
use Rattle.seat_hall.specs.declared.item.PassView.{PassView}
use Rattle.seat_hall.specs.Boards.{PassValue, StaysPass, out_of}
use Rattle.seat_hall.specs.Passes.{HasIn, MayCommit, hall, seen}
use Rattle.seat_hall.proofs.Logs.{HasTerms, terms_of}
use Rattle.hall_check.specs.Keeping.{KeepsClaim}

-- with one claim less out than before it keeps none
pub gives_up : (p q : PassValue) (kept rest : Option SeatTask) (task : SeatTask) → kept ≡ Some task → rest ≡ None → out_of p ≡ out_of q + 1
    → KeepsClaim p kept → KeepsClaim q rest
gives_up p q kept rest task is none less h =
    let one : out_of p ≡ 1 = (subst (KeepsClaim p) is h).0 in
    let zero : out_of q ≡ 0 = omega arith in
    subst (KeepsClaim q) (sym none) zero

-- with one claim more, where it kept none, it keeps that one
pub takes_on : (p q : PassValue) (kept rest : Option SeatTask) (task : SeatTask) → is_some kept ≡ false → rest ≡ Some task → out_of q ≡ out_of p + 1
    → MayCommit q.number q.token task → KeepsClaim p kept → KeepsClaim q rest
takes_on p q None rest task none is more may h =
    let one : out_of q ≡ 1 = omega (arith, more, h) in
    subst (KeepsClaim q) (sym is) (one, may)
takes_on p q (Some other) rest task none is more may h = absurd (cc)

-- where it keeps its cells, and as many of its claims are out, it keeps the claim that it kept
pub keeps_on : (turns : ℕ) (p q : PassValue) (kept : Option SeatTask) → StaysPass turns p q → out_of q ≡ out_of p
    → KeepsClaim p kept → KeepsClaim q kept
keeps_on turns p q None stays same h = same ∙ h
keeps_on turns p q (Some task) stays same h =
    let v = (knows p.token).client in
    let w = (knows q.token).client in
    let now = hall q.token (seen q.token) in
    let owner = task.taken.cell.heap.owner in
    let before = terms_of v.program v.options v.budget (seen p.token) in
    let after = terms_of w.program w.options w.budget (seen q.token) in
    let client : v ≡ w = sym stays.stays.client in (
      same ∙ h.0,
      record {
        has = subst (λ n. HasIn n owner task.taken.cell now) (sym stays.number) (stays.cells owner task.taken.cell h.1.has);
        program = h.1.program ∙ (before.program_is ∙ (ap (λ (k : PassView). k.program) client ∙ sym after.program_is));
        options = h.1.options ∙ (before.options_is ∙ (ap (λ (k : PassView). k.options) client ∙ sym after.options_is));
      },
    )
