-- A pass, as its board tells it.
use Rattle.std.proofs.Common.{◌≡◌, ℕ, subst}
use Rattle.seat_hall.specs.Boards.{GivesUp, PassValue, StaysPass}
use Rattle.seat_hall.specs.Passes.{KeepsCells, KeepsOthers, Stays}

module _ (p q r : PassValue) (same : p ≡ q) (number : r.number ≡ p.number) where
  pub stays : (turns : ℕ) → Stays p.number turns p.token r.token → KeepsCells p.number p.token r.token → StaysPass turns q r
  stays turns kept cells =
      subst (λ (o : PassValue). StaysPass turns o r) same (record { number = number; stays = kept; cells = cells })

  pub gives_up : (a : ℕ) → Stays p.number 1 p.token r.token → KeepsOthers p.number a p.token r.token → GivesUp a q r
  gives_up a kept cells =
      subst (λ (o : PassValue). GivesUp a o r) same (record { number = number; stays = kept; cells = cells })
