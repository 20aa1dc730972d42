use Rattle.std.proofs.Common.{◌≡◌, ◌++◌, ◌∙◌, ℕ, List, Ok, Err, OnOk, string_bytes, if◌then◌else◌, ap, subst, append_assoc}
use Rattle.std.specs.Result.{is_ok}
use Rattle.std.specs.List.{flat_map}
use Rattle.std.specs.declared.result.Result.{Result}
use Rattle.orca_names.specs.declared.kept_report.KeptReport.{KeptReport}
use Rattle.report_text.specs.WhyLines.{held_text, member_line}
use Rattle.report_text.proofs.reasons.push_member.Goals as goal

-- four texts that were appended one by one, the last one where there was memory for it
four_appended : {T E : Type 0} (r : Result T E) (out o₁ o₂ o₃ o₄ a b c d : List ℕ) → o₁ ≡ out ++ a → o₂ ≡ o₁ ++ b → o₃ ≡ o₂ ++ c
    → o₄ ≡ (if is_ok r then o₃ ++ d else o₃) → OnOk r (o₄ ≡ out ++ (a ++ b ++ c ++ d))
four_appended (Ok x) out o₁ o₂ o₃ o₄ a b c d e₁ e₂ e₃ e₄ = e₄ ∙ rw (e₃, e₂, e₁) (simp append_assoc)
four_appended (Err x) out o₁ o₂ o₃ o₄ a b c d e₁ e₂ e₃ e₄ = tt

pub returns : goal.returns
unfolding member_line lib.Utf8.encode
returns c =
    let held = c.in_ok-push_held.ensures ∙ ap (λ h. string_bytes c.push_amount.new.out ++ flat_map held_text h) c.as_slice.ensures in
    subst (λ (m : KeptReport). OnOk c.push.result (string_bytes c.push.new.self ≡ string_bytes c.args.out.now ++ member_line m)) c.member.view_is
    (four_appended c.push.result _ _ _ _ _ _ _ _ _ c.in_ok-write.ensures.bytes c.in_ok-push_amount.ensures held c.push.ensures.bytes)
