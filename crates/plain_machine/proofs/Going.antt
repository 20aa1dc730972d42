-- What a turn leads to, by its parts.
use Rattle.std.proofs.Common.{◌≡◌, ℕ, List, Option, Some, slice_get, sym, ap, ◌∙◌}
use Rattle.std.specs.Option.{option_map_or}
use Rattle.orca_names.specs.declared.names.Value.{Value}
use Rattle.orca_names.specs.declared.row.Fields.{Fields}
use Rattle.turn_rules.specs.declared.act.Act.{Act}
use Rattle.turn_rules.specs.declared.act.Frame.{Frame}
use Rattle.plain_rules.specs.declared.PlainActor.{PlainActor}
use Rattle.event_rule.specs.Runs.{Step, NotEnabled}
use Rattle.plain_rules.specs.Machine.{PlainState, after_act, after_turn, plain_go, turn_of_actor}

pub plain_go-turn : (s : PlainState) (a : ℕ) (x : PlainActor) (old new : Frame) (fields : Fields) (made : List (List Value)) (act : Act) →
    slice_get s.actors a ≡ Some x → x.frame ≡ Some old →
    turn_of_actor s a x old ≡ record { act = act; place = new.place; turn = record { registers = new.registers; fields = fields; made = made } } →
    new.kind ≡ old.kind → new.behaviour ≡ old.behaviour →
    plain_go s a ≡ after_act s a new fields made act
plain_go-turn s a x old new fields made act there frame turn kind behaviour =
    let gone : PlainActor → Frame → Step PlainState = λ y f. after_turn s a f (turn_of_actor s a y f) in
    ap (λ (o : Option PlainActor). option_map_or (λ y. option_map_or (gone y) y.frame NotEnabled) o NotEnabled) there
    ∙ ap (λ (o : Option Frame). option_map_or (gone x) o NotEnabled) frame
    ∙ ap (after_turn s a old) turn
    ∙ (λ j. after_act s a (record { kind = sym kind j; behaviour = sym behaviour j; place = new.place; registers = new.registers }) fields made act)
