-- What comparing programs says.
use Rattle.std.proofs.Common.{rules, ◌≡◌, ◌==◌, List, ℕ, refl}
use Rattle.std.specs.Bool.{Decides}
use Rattle.std.specs.Cmp.{unsigned_Decides}
use Rattle.std.proofs.lemmas.Slice.Eq.{slice_eq-Decides}
use Rattle.behaviour_code.specs.declared.instr.Instr.{Instr}
use Rattle.behaviour_code.specs.declared.code.Behaviour.{Behaviour}
use Rattle.behaviour_code.specs.declared.code.Kind.{Kind}
use Rattle.behaviour_code.specs.contracts.instr.InstrPartialEq.TheImpl.{eq-value as instr_eq}
use Rattle.behaviour_code.specs.contracts.instr.RegistersPartialEq.TheImpl.{eq-value as registers_eq}
use Rattle.behaviour_code.specs.contracts.instr.RowRegistersPartialEq.TheImpl.{eq-value as row_eq}
use Rattle.behaviour_code.specs.contracts.code.BehaviourPartialEq.TheImpl.{eq-value as behaviour_eq}
use Rattle.behaviour_code.specs.contracts.code.KindPartialEq.TheImpl.{eq-value as kind_eq}

registers_decide : (xs ys : List ℕ) → Decides (registers_eq.it xs ys) (xs ≡ ys)
registers_decide xs ys = slice_eq-Decides {A = ℕ} {E = λ a b. a == b} unsigned_Decides xs ys _ refl

row_decide : (xs ys : List ℕ) → Decides (row_eq.it xs ys) (xs ≡ ys)
row_decide xs ys = registers_decide xs ys

instr_decide : (a b : Instr) → Decides (instr_eq.it a b) (a ≡ b)
instr_decide a b = search (rules, registers_decide, row_decide)

behaviour_decide : (a b : Behaviour) → Decides (behaviour_eq.it a b) (a ≡ b)
behaviour_decide a b = let body = slice_eq-Decides {A = Instr} {E = instr_eq.it} instr_decide a.body b.body _ refl in search rules

pub kind_decide : (a b : Kind) → Decides (kind_eq.it a b) (a ≡ b)
kind_decide a b = let all = slice_eq-Decides {A = Behaviour} {E = behaviour_eq.it} behaviour_decide a.behaviours b.behaviours _ refl in search rules
