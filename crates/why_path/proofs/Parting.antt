-- One entry of a book more.
use Rattle.std.proofs.Common.{◌≡◌, ℕ, suc, ◌+◌, List, ◌∷◌, ◌++◌, drop, Option, Some, None, refl, sym, ap, subst, ◌∙◌, append_assoc, arith}
use Rattle.std.specs.Prelude.{slice_get}
use Rattle.std.specs.List.{cons_option}
use Rattle.std.specs.Option.{option_to_list}
use Rattle.std.proofs.Math.Seq.{drop-cons}
use Rattle.std.proofs.lemmas.Option.{get_or_from_slice_get, slice_get_within}
use Rattle.orca_names.specs.declared.parting.Parting.{Parting}
use Rattle.event_rule.specs.declared.event.Event.{Event}
use Rattle.event_rule.specs.Runs.{Goes, Leads, Step}
use Rattle.machine_rules.specs.Next.{next}
use Rattle.machine_rules.specs.State.{State}
use Rattle.why_path.specs.Partings.{parting_at, partings_after, partings_of}

-- the entry at a place, and those behind it
pub entry_first : (book : List Event) (i : ℕ) (e : Event) → slice_get book i ≡ Some e → drop i book ≡ e ∷ drop (i + 1) book
entry_first book i e at =
    let up : suc i ≡ i + 1 = omega arith in
    drop-cons book i e (slice_get_within book i e at)
    ∙ (λ t. get_or_from_slice_get book i e e at t ∷ drop (up t) book)

same_step : (s t : State) → Goes s ≡ Goes t → s ≡ t
same_step s t e = cc

told : (o : Option Parting) (xs : List Parting) → cons_option o xs ≡ option_to_list o ++ xs
told None xs = refl
told (Some p) xs = refl

module _ (book : List Event) (i : ℕ) (e : Event) (s : State) (at : slice_get book i ≡ Some e)
    (rest : (t : State) × Leads next s (drop i book) t) where
  -- it leads somewhere
  pub entry_leads : (u : State) × (next s e ≡ Goes u)
  entry_leads =
      let leads = subst (λ es. Leads next s es rest.0) (entry_first book i e at) rest.1 in (leads.0, leads.1)

  -- and the others lead on from there
  pub others_lead : (u : State) → next s e ≡ Goes u → (t : State) × Leads next u (drop (i + 1) book) t
  others_lead u goes =
      let leads = subst (λ es. Leads next s es rest.0) (entry_first book i e at) rest.1 in
      (rest.0, subst (λ v. Leads next v (drop (i + 1) book) rest.0) (same_step leads.0 u (sym leads.1 ∙ goes)) leads.2)

  -- who goes by it is told first
  pub entry_told : (u : State) → next s e ≡ Goes u → (found more whole : List Parting)
      → found ++ partings_of (drop i book) s ≡ whole → more ≡ found ++ option_to_list (parting_at s e)
      → more ++ partings_of (drop (i + 1) book) u ≡ whole
  entry_told u goes found more whole so_far told_more =
      let later = partings_of (drop (i + 1) book) u in
      ap (λ xs. xs ++ later) told_more ∙ append_assoc found (option_to_list (parting_at s e)) later
      ∙ ap (λ xs. found ++ xs) (sym (told (parting_at s e) later)
      ) ∙ ap (λ (step : Step State). found ++ cons_option (parting_at s e) (partings_after (partings_of (drop (i + 1) book)) step)) (sym goes)
      ∙ ap (λ es. found ++ partings_of es s) (sym (entry_first book i e at)) ∙ so_far
