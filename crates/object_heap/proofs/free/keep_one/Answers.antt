use Rattle.std.proofs.Common.{◌<◌, length, set, sym, ap, ◌∙◌, arith}
use Rattle.std.proofs.lemmas.List.Filters.{FiltersInPlace-more_no, FiltersInPlace-more_here, FiltersInPlace-more_set}
use Rattle.object_heap.specs.declared.search.Key.{Key}
use Rattle.object_heap.specs.Free.{stays}
use Rattle.object_heap.proofs.Kept.{keys_long, kept_set, object_at}
use Rattle.object_heap.proofs.free.keep_one.Goals as goal

pub returns-then-not-is_kept-clause-filters : goal.returns-then-not-is_kept-clause-filters
returns-then-not-is_kept-clause-filters c = λ owner all f.
    let keys = c.args.keys.now in
    let long = keys_long owner keys.items c.args.objects.now.items f.0 f.1 in
    let inside : c.args.i < length f.0 = omega (arith, c.requires.within.0, keys.ok.0) in
    let its = object_at owner keys.items c.args.objects.now.items f.0 f.1 c.args.i inside in
    let stays = ap (λ (k : Key). stays c.args.gone.now k.serial) (sym (its.2 c.index.result.now c.index.ensures)) ∙ sym c.is_kept.ensures in
    (f.0, f.1, FiltersInPlace-more_no {x = its.0} f.2 inside (stays ∙ c.if-not-is_kept.true) its.1)

pub returns-then-kept-i-clause-filters : goal.returns-then-kept-i-clause-filters
returns-then-kept-i-clause-filters c = λ owner all f.
    let keys = c.args.keys.now in
    let long = keys_long owner keys.items c.args.objects.now.items f.0 f.1 in
    let inside : c.args.i < length f.0 = omega (arith, c.requires.within.0, keys.ok.0) in
    let its = object_at owner keys.items c.args.objects.now.items f.0 f.1 c.args.i inside in
    let stays = ap (λ (k : Key). stays c.args.gone.now k.serial) (sym (its.2 c.index.result.now c.index.ensures)) ∙ sym c.is_kept.ensures in
    (f.0, f.1, FiltersInPlace-more_here {x = its.0} f.2 inside (stays ∙ c.if-not-is_kept.false) its.1 c.if-kept-i.true)

pub returns-clause-filters : goal.returns-clause-filters
returns-clause-filters c = λ owner all f.
    let keys = c.args.keys.now in
    let objects = c.args.objects.now in
    let long = keys_long owner keys.items objects.items f.0 f.1 in
    let inside : c.args.i < length f.0 = omega (arith, c.requires.within.0, keys.ok.0) in
    let its = object_at owner keys.items objects.items f.0 f.1 c.args.i inside in
    let stays = ap (λ (k : Key). stays c.args.gone.now k.serial) (sym (its.2 c.index.result.now c.index.ensures)) ∙ sym c.is_kept.ensures in
    let put = kept_set owner keys.items objects.items f.0 f.1 c.args.kept its.0 in
    let key = ap (set keys.items c.args.kept) (its.2 c.index-key.result.now c.index-key.ensures) ∙ put.0 in
    let object = ap (set objects.items c.args.kept) (its.3 c.index-object.result.now c.index-object.ensures) ∙ put.1 in
    (set f.0 c.args.kept its.0, (key, object), FiltersInPlace-more_set {x = its.0} f.2 inside (stays ∙ c.if-not-is_kept.false) its.1)
