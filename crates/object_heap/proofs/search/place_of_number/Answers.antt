use Rattle.std.proofs.Common.{◌≡◌, ◌<◌, length, map, arith}
use Rattle.std.proofs.lemmas.List.{length-map}
use Rattle.std.specs.Cmp.{nat_cmp_total}
use Rattle.plain_list.proofs.Rising.{at_place, mapped_at}
use Rattle.std.specs.FinMap.{nat_cmp-IsAntisymmetric}
use Rattle.object_heap.specs.Entry.{key_pair}
use Rattle.object_heap.proofs.search.place_of_number.Goals as goal

pub returns-in-Some : goal.returns-in-Some
returns-in-Some c =
    let ks = c.args.keys.now in
    let h : c.in-Some.i < length (map key_pair ks) = omega (arith, c.in-Some.ensures.0, length-map ks key_pair) in
    at_place nat_cmp_total (map key_pair ks) c.requires c.args.serial c.in-Some.i h (λ d.
    mapped_at nat_cmp_total nat_cmp-IsAntisymmetric key_pair (λ x. x.0 ≡ c.args.serial) ks c.in-Some.i d c.in-Some.ensures.0 (λ a. c.in-Some.ensures.1 a))
