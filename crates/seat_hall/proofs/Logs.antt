-- Logs, cut and put together.
use Rattle.std.proofs.Common.{◌≡◌, ℕ, ◌≤◌, List, [], ◌∷◌, ◌++◌, refl, ◌∙◌, arith}
use Rattle.orca_names.specs.declared.options.Options.{Options}
use Rattle.behaviour_code.specs.declared.code.Program.{Program}
use Rattle.seat_hall.specs.declared.item.Item.{Item}
use Rattle.seat_hall.specs.declared.item.Item.TheVariants.{Claimed, Entered, Ended, Stopped, Made}
use Rattle.seat_hall.specs.Log.{Legal, Logged, MayFollow, after, begins, by, hall_from}

pub hall_append : (l : Logged) (xs ys : List Item) → hall_from l (xs ++ ys) ≡ hall_from (hall_from l xs) ys
hall_append l [] ys = refl
hall_append l (x ∷ xs) ys = hall_append (after l x) xs ys

pub legal_snoc : (l : Logged) (xs : List Item) (i : Item) → Legal l xs → MayFollow (hall_from l xs) i → Legal l (xs ++ i ∷ [])
legal_snoc l [] i legal may = (may, tt)
legal_snoc l (x ∷ xs) i legal may = (legal.0, legal_snoc (after l x) xs i legal.1 may)

pub legal_rest : (l : Logged) (xs ys : List Item) → Legal l (xs ++ ys) → Legal (hall_from l xs) ys
legal_rest l [] ys legal = legal
legal_rest l (x ∷ xs) ys legal = legal_rest (after l x) xs ys legal.1

-- ---- program, options and budget stay

pub record HasTerms (program : Program) (options : Options) (budget : ℕ) (l : Logged) : Type 0 where
  pub program_is : l.program ≡ program
  pub options_is : l.options ≡ options
  pub budget_is : l.budget ≡ budget

module _ (program : Program) (options : Options) (budget : ℕ) where
  abbrev Has : Logged → Type 0
  Has l = HasTerms program options budget l

  stays : (l m : Logged) → m.program ≡ l.program → m.options ≡ l.options → m.budget ≡ l.budget → Has l → Has m
  stays l m p o b has = record {
    program_is = p ∙ has.program_is;
    options_is = o ∙ has.options_is;
    budget_is = b ∙ has.budget_is;
  }

  terms_one : (l : Logged) (i : Item) → Has l → Has (after l i)
  terms_one l (Claimed pass actor) = stays l _ refl refl refl
  terms_one l i = stays l _ refl refl refl

  terms_stay : (l : Logged) (log : List Item) → Has l → Has (hall_from l log)
  terms_stay l [] has = has
  terms_stay l (i ∷ log) has = terms_stay (after l i) log (terms_one l i has)

  -- so the hall of each log has those that it began with
  pub terms_of : (log : List Item) → Has (hall_from (begins program options budget) log)
  terms_of log = terms_stay (begins program options budget) log
      (record { program_is = refl; options_is = refl; budget_is = refl })

-- ---- numbers

pub made_one : (l : Logged) (i : Item) → MayFollow l i → (l.made ≤ (after l i).made) × (by i ≤ (after l i).made)
made_one l (Claimed pass actor) may = let m = may.0 in (omega arith, omega arith)
made_one l (Entered pass event) may = let m = may.0 in (omega arith, omega arith)
made_one l (Ended pass actor) may = let m = may.0 in (omega arith, omega arith)
made_one l (Stopped pass) may = (omega arith, omega arith)
made_one l (Made pass) may = let m = may.0 in (omega arith, omega arith)

pub made_rises : (l : Logged) (log : List Item) → Legal l log → l.made ≤ (hall_from l log).made
made_rises l [] legal = omega arith
made_rises l (i ∷ log) legal =
    let a = (made_one l i legal.0).0 in let b = made_rises (after l i) log legal.1 in omega arith

pub few_made : (l : Logged) (log : List Item) → l.made ≤ 65535 → Legal l log → (hall_from l log).made ≤ 65535
few_made l [] few legal = few
few_made l (i ∷ log) few legal = few_made (after l i) log (one l i few legal.0) legal.1
  where
    one : (l : Logged) (i : Item) → l.made ≤ 65535 → MayFollow l i → (after l i).made ≤ 65535
    one l (Claimed pass actor) few may = few
    one l (Entered pass event) few may = few
    one l (Ended pass actor) few may = few
    one l (Stopped pass) few may = few
    one l (Made pass) few may = let m = may.0 in let n = may.1 in omega arith
