-- Bodies that have no mark at their ends.
use Rattle.std.proofs.Common.{◌≡◌, ℕ, ◌+◌, ◌-◌, ◌≤◌, false, length, drop, get_or, List, [], ◌∷◌, refl, sym, ◌∙◌, ap, arith}
use Rattle.std.proofs.Common.{inl, inr}
use Rattle.std.proofs.lemmas.Bool.{cases_Bool, ne_eqb}
use Rattle.std.proofs.lemmas.List.{get_or-drop, length-drop}
use Rattle.std.specs.Cmp.Lexicographic.{same_text}
use Rattle.std.specs.List.{ends_with}
use Rattle.std.specs.Prelude.{codes, nat_eq, ◌≢◌}
use Rattle.model_strace.specs.Body.{Whole, body_of}

-- a text with another last byte doesn't end with the mark of a call that isn't finished
ends_otherwise : (text : List ℕ) → get_or text (length text - 1) 0 ≢ 62
    → ends_with nat_eq text (codes "<unfinished ...>") ≡ false
ends_otherwise text other =
    elim (cases_Bool (ends_with nat_eq text (codes "<unfinished ...>"))) [
      | inl ends ↦
          let from : ℕ = length text - 16 in
          let same : codes "<unfinished ...>" ≡ drop from text = same_text (codes "<unfinished ...>") (drop from text) (sym ends) in
          let many : 16 ≡ length text - from = ap length same ∙ length-drop from text in
          let last : 62 ≡ get_or text (from + 15) 0 = ap (λ (l : List ℕ). get_or l 15 0) same ∙ get_or-drop from text 15 0 in
          let place : from + 15 ≡ length text - 1 = omega arith in
          absurd (other (sym (last ∙ ap (λ k. get_or text k 0) place)))
      | inr differs ↦ differs
    ]

-- a body with other bytes at its ends than those of the marks is a call
pub unmarked : (text : List ℕ) → 2 ≤ length text → get_or text 0 0 ≢ 45 → get_or text 0 0 ≢ 43 → get_or text 0 0 ≢ 60
    → get_or text (length text - 1) 0 ≢ 62 → Whole text ≡ body_of text
unmarked [] some dash plus angle last = absurd (omega (arith, some))
unmarked (byte ∷ text) some dash plus angle last =
    let no_dash : nat_eq 45 byte ≡ false = ne_eqb 45 byte (λ same. dash (sym same)) in
    let no_plus : nat_eq 43 byte ≡ false = ne_eqb 43 byte (λ same. plus (sym same)) in
    let no_angle : nat_eq 60 byte ≡ false = ne_eqb 60 byte (λ same. angle (sym same)) in
    let no_end : ends_with nat_eq (byte ∷ text) (codes "<unfinished ...>") ≡ false = ends_otherwise (byte ∷ text) last in
    rw (no_dash, no_plus, no_end, no_angle) refl
