-- The ambient set stays within another set where a capability of that set comes in, where one leaves, and where it is cut
-- to two sets.
use Rattle.std.proofs.Common.{◌≡◌, ℕ, true, sym, subst, inl, inr, ◌∙◌, eqb, eqb-true}
use Rattle.std.proofs.lemmas.Bool.{or_cases}
use Rattle.cm_base.specs.CapSet.{holds, is_within, meet, with, without, single}
use Rattle.cm_base.proofs.CapSets.{holds_with, member_of_wider, within_from_members, minus_within, within_transitive, meet_within_first, meet_within_second}

pub with_within : (ambient wide cap : ℕ) → is_within ambient wide ≡ true → holds wide cap ≡ true → is_within (with ambient cap) wide ≡ true
with_within ambient wide cap within held =
    within_from_members (with ambient cap) wide
    (λ k member. elim (or_cases (holds ambient k) (eqb k cap) (sym (holds_with ambient cap k) ∙ member)) [
      | inl old ↦ member_of_wider ambient wide within k old
      | inr new ↦ subst (λ x. holds wide x ≡ true) (sym (eqb-true k cap new)) held
    ])

pub without_within : (ambient wide cap : ℕ) → is_within ambient wide ≡ true → is_within (without ambient cap) wide ≡ true
without_within ambient wide cap within = within_transitive (without ambient cap) ambient wide (minus_within ambient (single cap)) within

pub cut_within_first : (ambient permitted inheritable : ℕ) → is_within (meet (meet ambient permitted) inheritable) permitted ≡ true
cut_within_first ambient permitted inheritable =
    within_transitive (meet (meet ambient permitted) inheritable) (meet ambient permitted) permitted
    (meet_within_first (meet ambient permitted) inheritable) (meet_within_second ambient permitted)
