use Rattle.std.proofs.Common.{◌≡◌, ◌∙◌, ◌<◌, ℕ, true, false, Some, ap, sym, subst, slice_get}
use Rattle.std.specs.List.{AllByRecursion}
use Rattle.letter_kinds.specs.Detector.{Token, has, in_token}
use Rattle.detector_tokens.specs.Room.{TokensValue}
use Rattle.detector_tokens.proofs.Indexing.{pushed_index}
use Rattle.detector_tokens.proofs.tokens.Tokens.push.Goals as goal

pub invariant_of-self : goal.invariant_of-self
invariant_of-self c =
    let t : Token = c.args.token in
    let listed : c.args.self.now.list ≡ c.self.inside.open.items = ap (λ (v : TokensValue). v.list) (sym c.self.view_is) in
    let members : c.members.result.now ≡ t.members = c.members.ensures.value in
    rw (c.push_reserved.ensures.items, c.first_with-self-inside.ensures)
    (pushed_index c.self.inside.open.items (slice_get c.self.inside.told) (slice_get c.tell.new.self) c.self.inside.ready t c.self.invariant
    (subst (AllByRecursion (λ (u : Token). u.number < t.number)) listed c.requires.above)
    (subst (λ ts. (m : ℕ) → has t.members m ≡ true → in_token ts m ≡ false) listed c.requires.apart)
    (λ m h. c.tell.ensures.told m (ap (λ ms. has ms m) members ∙ h) ∙ ap (λ n. Some n) c.number.ensures)
    (λ m h. c.tell.ensures.others m (ap (λ ms. has ms m) members ∙ h)))
