use Rattle.std.proofs.Common.{refl, ◌≡◌, ◌+◌, ◌-◌, sym, ap, ◌∙◌, arith}
use Rattle.std.specs.Prelude.{min, vec_len, vec_capacity}
use Rattle.std.specs.List.{filter}
use Rattle.std.specs.FinMap as m
use Rattle.std.proofs.lemmas.List.Elements.{All-filter}
use Rattle.row_store.specs.Memory.{remembered}
use Rattle.object_heap.specs.Entry.{IsRecalled, joined}
use Rattle.object_heap.specs.Free.{freed, is_kept, stays}
use Rattle.object_heap.specs.Heap.{blocks_in, rows_in}
use Rattle.object_heap.proofs.Entries.{len_here, stay_own, stay_rows}
use Rattle.object_heap.proofs.Kept.{kept_joined, keys_long, objects_long, stored}
use Rattle.object_heap.proofs.Placed.{stay_blocks}
use Rattle.object_heap.proofs.heap.ObjectHeap.free.Goals as goal

pub invariant_of-self : goal.invariant_of-self
invariant_of-self c =
    let s = c.self.inside in
    let all = joined (remembered s.memory) s.keys.items s.objects.items in
    let gone = c.args.gone.now in
    let left = filter (is_kept gone) all in
    stored s.owner _ _ left (c.keep_others.ensures.kept s.owner all c.self.invariant.kept) (remembered s.memory) (All-filter (is_kept gone) (IsRecalled (remembered s.memory) s.owner) all c.self.invariant.recalled) s.next (stay_own s.next all gone c.self.invariant.own left refl)

pub returns : goal.returns
returns c =
    let s = c.self.inside in
    let all = joined (remembered s.memory) s.keys.items s.objects.items in
    let gone = c.args.gone.now in
    let left = filter (is_kept gone) all in
    let keys = c.keep_others.new.keys in
    let objects = c.keep_others.new.objects in
    let kept = c.keep_others.ensures.kept s.owner all c.self.invariant.kept in
    let recalled = All-filter (is_kept gone) (IsRecalled (remembered s.memory) s.owner) all c.self.invariant.recalled in
    let stay : rows_in left ≡ m.retain_keys (rows_in all) (stays gone) = stay_rows s.next all gone c.self.invariant.own left refl in
    let rows = ap rows_in (kept_joined s.owner keys.items objects.items left kept (remembered s.memory) recalled) ∙ stay in
    let before = len_here s.next all c.self.invariant.own in
    let after = ap m.len (sym stay) ∙ len_here s.next left (stay_own s.next all gone c.self.invariant.own left refl) in
    let long = keys_long s.owner s.keys.items s.objects.items all c.self.invariant.kept in
    let wide = objects_long s.owner s.keys.items s.objects.items all c.self.invariant.kept in
    let short = keys_long s.owner keys.items objects.items left kept in
    let narrow = objects_long s.owner keys.items objects.items left kept in
    let room : min (vec_capacity keys - vec_len keys) (vec_capacity objects - vec_len objects) ≡ min (vec_capacity s.keys - vec_len s.keys) (vec_capacity s.objects - vec_len s.objects) + (m.len (rows_in all) - m.len (m.retain_keys (rows_in all) (stays gone))) =
    omega (arith, s.keys.ok, s.objects.ok, keys.ok, objects.ok, c.keep_others.ensures.shorter, c.keep_others.ensures.capacity) in
    let blocks = ap blocks_in (kept_joined s.owner keys.items objects.items left kept (remembered s.memory) recalled) ∙ stay_blocks s.next all c.self.invariant.own gone left refl in
    (λ j. record { owner = s.owner; next = s.next; spare = room j; rows = rows j; blocks = blocks j }) ∙ ap (freed gone) c.self.view_is
