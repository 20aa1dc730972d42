-- What each change of the open tokens does to their index.
use Rattle.std.proofs.Common.{◌≡◌, ◌≢◌, ℕ, zero, suc, ◌<◌, ◌==◌, not, Bool, true, false, List, [], ◌∷◌, ◌++◌, filter, map, length, get_or, set, refl, ap, sym, subst, ◌∙◌, Option, Some, None, slice_get, arith, eqb, eq-eqb}
use Rattle.std.specs.Option.{option_eq}
use Rattle.std.proofs.lemmas.Bool.{false≢true}
use Rattle.std.specs.List.{AllByRecursion, find, remove}
use Rattle.letter_kinds.specs.Detector.{Token, has, in_token, note_ack, all_acked}
use Rattle.detector_tokens.specs.Open.{first_acked, AreIndexed, HasMemberAt, IsNumberedAt, IsTokenOf, IsTold, first_with, lower_with, numbers, token_of}
use Rattle.std.specs.List.Sorted.{IsStrictlySortedBy}
use Rattle.std.specs.Ordering.{nat_cmp}
use Rattle.detector_tokens.proofs.OpenLemmas.{acks_at, cancel-one, find_at, first-filter, first-member, first-pending, first-push, first-ready, numbered-filter, numbered-push, numbers-acks, remove-numbered, told-acks, told-push, each-filter, none_first}

-- the token at the place, after the acknowledgement
noted : (ts : List Token) (n a i : ℕ) (t u : Token) → IsNumberedAt ts n i → t ≡ get_or ts i t
    → u ≡ note_ack t.number a t → u ≡ note_ack n a (get_or ts i t)
noted ts n a i t u at is e =
    e ∙ (ap (λ k. note_ack k a t) (ap (λ (x : Token). x.number) is ∙ at.same t) ∙ ap (note_ack n a) is)

pub acks_all : (ts : List Token) (told : ℕ → Option ℕ) (ready : Option ℕ) (n a i : ℕ) (t u : Token)
    → AreIndexed ts told ready → IsNumberedAt ts n i → t ≡ get_or ts i t → u ≡ note_ack t.number a t
    → set ts i u ≡ map (note_ack n a) ts
acks_all ts told ready n a i t u k at is e =
    ap (set ts i) (noted ts n a i t u at is e) ∙ sym (acks_at n a ts i t k.numbered at.within (at.same t))

pub acked_index : (ts : List Token) (told : ℕ → Option ℕ) (ready : Option ℕ) (n a i : ℕ) (t u : Token)
    → AreIndexed ts told ready → IsNumberedAt ts n i → t ≡ get_or ts i t → u ≡ note_ack t.number a t
    → all_acked u ≡ true → AreIndexed (set ts i u) told (Some (lower_with ready n))
acked_index ts told ready n a i t u k at is e on =
    let all = acks_all ts told ready n a i t u k at is e in
    let same : u.number ≡ n = ap (λ (x : Token). x.number) e ∙ (ap (λ (x : Token). x.number) is ∙ at.same t) in
    record {
      numbered = subst (λ us. IsStrictlySortedBy nat_cmp (numbers us)) (sym all) (subst (IsStrictlySortedBy nat_cmp) (sym (numbers-acks n a ts)) k.numbered);
      members = subst (AllByRecursion (IsTold told)) (sym all) (told-acks told n a ts k.members);
      first = ap (λ o. Some (lower_with o n)) k.first ∙ sym (first-ready n u ts i t k.numbered at.within (at.same t) same on);
    }

pub pending_index : (ts : List Token) (told : ℕ → Option ℕ) (ready : Option ℕ) (n a i : ℕ) (t u : Token)
    → AreIndexed ts told ready → IsNumberedAt ts n i → t ≡ get_or ts i t → u ≡ note_ack t.number a t
    → all_acked u ≡ false → AreIndexed (set ts i u) told ready
pending_index ts told ready n a i t u k at is e off =
    let all = acks_all ts told ready n a i t u k at is e in
    let now = noted ts n a i t u at is e in
    record {
      numbered = subst (λ us. IsStrictlySortedBy nat_cmp (numbers us)) (sym all) (subst (IsStrictlySortedBy nat_cmp) (sym (numbers-acks n a ts)) k.numbered);
      members = subst (AllByRecursion (IsTold told)) (sym all) (told-acks told n a ts k.members);
      first = k.first ∙ sym (ap (λ x. first_acked (set ts i x)) now ∙ first-pending n a ts i t at.within (sym (ap all_acked now) ∙ off));
    }

-- ---- one goes

pub taken : (ts us : List Token) (told : ℕ → Option ℕ) (ready : Option ℕ) (i : ℕ) (t : Token)
    → AreIndexed ts told ready → i < length ts → t ≡ get_or ts i t → us ≡ remove ts i
    → us ≡ filter (λ u. not (u.number == t.number)) ts
taken ts us told ready i t k lt is e = e ∙ remove-numbered ts t.number i t k.numbered lt (sym (ap (λ (x : Token). x.number) is))

pub taken_index : (ts us : List Token) (told : ℕ → Option ℕ) (ready first : Option ℕ) (i : ℕ) (t : Token)
    → AreIndexed ts told ready → i < length ts → t ≡ get_or ts i t → us ≡ remove ts i
    → first ≡ first_acked us → AreIndexed us told first
taken_index ts us told ready first i t k lt is e f =
    let all = taken ts us told ready i t k lt is e in
    let other : Token → Bool = λ u. not (u.number == t.number) in
    record {
      numbered = subst (λ us. IsStrictlySortedBy nat_cmp (numbers us)) (sym all) (numbered-filter other ts k.numbered);
      members = subst (AllByRecursion (IsTold told)) (sym all) (each-filter (IsTold told) other ts k.members);
      first = f;
    }

pub first_stays : (ts us : List Token) (told : ℕ → Option ℕ) (ready : Option ℕ) (i : ℕ) (t : Token)
    → AreIndexed ts told ready → i < length ts → t ≡ get_or ts i t → us ≡ remove ts i
    → ready ≢ Some t.number → ready ≡ first_acked us
first_stays ts us told ready i t k lt is e other =
    k.first ∙ sym (ap first_acked (taken ts us told ready i t k lt is e) ∙ first-filter t.number ts (λ f. other (k.first ∙ f)))

pub place_gives : (ts : List Token) (i : ℕ) (t : Token) → i < length ts → t ≡ get_or ts i t
    → slice_get ts i ≡ Some t
place_gives [] i t lt e = absurd (omega arith)
place_gives (x ∷ xs) zero t lt e = ap (λ (y : Token). Some y) (sym e)
place_gives (x ∷ xs) (suc i) t lt e = place_gives xs i t (omega arith) e

at_place : (ts : List Token) (i : ℕ) (t d : Token) → slice_get ts i ≡ Some t → get_or ts i d ≡ t
at_place [] i t d e = absurd (cc)
at_place (x ∷ xs) zero t d e = cc
at_place (x ∷ xs) (suc i) t d e = at_place xs i t d e

pub cancels : (ts : List Token) (told : ℕ → Option ℕ) (ready : Option ℕ) (a i : ℕ) (t : Token)
    → AreIndexed ts told ready → HasMemberAt ts a i → slice_get ts i ≡ Some t
    → filter (λ u. not (u.number == t.number)) ts ≡ filter (λ u. not (has u.members a)) ts
cancels ts told ready a i t k at got =
    let is : get_or ts i t ≡ t = at_place ts i t t got in
    ap (λ (x : Token). filter (λ (u : Token). not (u.number == x.number)) ts) (sym is) ∙ cancel-one told a ts i t k.numbered k.members at.within (at.member t)

-- ---- one has a member

pub is_token_of : (ts : List Token) (told : ℕ → Option ℕ) (ready : Option ℕ) (a i : ℕ) (t : Token)
    → AreIndexed ts told ready → HasMemberAt ts a i → t ≡ get_or ts i t → IsTokenOf ts a t
is_token_of ts told ready a i t k at is =
    let got = place_gives ts i t at.within is in
    record {
      member = ap (λ (x : Token). has x.members a) is ∙ at.member t;
      found = sym (find_at ts t.number i t k.numbered at.within (ap (λ (x : Token). x.number) (sym is))) ∙ got;
      alone = sym (cancels ts told ready a i t k at got);
    }

pub token_of_member : (ts : List Token) (told : ℕ → Option ℕ) (ready : Option ℕ) (a i : ℕ) (t : Token)
    → AreIndexed ts told ready → HasMemberAt ts a i → t ≡ get_or ts i t → Some t ≡ token_of a ts
token_of_member ts told ready a i t k at is =
    ap (λ (x : Token). Some x) is ∙ sym (first-member told a ts i t k.numbered k.members at.within (at.member t))

-- ---- one comes

pub pushed_index : (ts : List Token) (told later : ℕ → Option ℕ) (ready : Option ℕ) (t : Token)
    → AreIndexed ts told ready → AllByRecursion (λ (u : Token). u.number < t.number) ts
    → ((m : ℕ) → has t.members m ≡ true → in_token ts m ≡ false)
    → ((m : ℕ) → has t.members m ≡ true → later m ≡ Some t.number)
    → ((m : ℕ) → has t.members m ≡ false → later m ≡ told m)
    → AreIndexed (ts ++ t ∷ []) later (first_with ready t)
pushed_index ts told later ready t k below apart new same =
    let out : (m : ℕ) → in_token ts m ≡ true → has t.members m ≡ false = λ m h. grind (arith, apart m) in
    record {
      numbered = numbered-push ts t below k.numbered;
      members = told-push told later t ts (λ m h. same m (out m h)) new k.members;
      first = ap (λ o. first_with o t) k.first ∙ sym (first-push ts t);
    }

pub other_ready : (ready : Option ℕ) (n : ℕ) → option_eq eqb ready (Some n) ≡ false → ready ≢ Some n
other_ready ready n off e = false≢true (sym off ∙ (ap (λ o. option_eq eqb o (Some n)) e ∙ eq-eqb n n refl))

pub none_numbered : (ts : List Token) (n : ℕ) → find (λ t. t.number == n) ts ≡ None
    → filter (λ t. not (t.number == n)) ts ≡ ts
none_numbered [] n h = refl
none_numbered (t ∷ ts) n h =
    let (off, none) = none_first t ts n h in
    rw off (ap (λ us. t ∷ us) (none_numbered ts n none))
