-- Each rule as a whole: where a call of it is permitted it adds what its test looks at.
use Rattle.std.proofs.Common.{◌≡◌, ℕ, Bool, refl}
use Rattle.std.specs.Prelude.{◌↔◌, IsTrue}
use Rattle.cm_filter.specs.declared.kind.CallKind.{CallKind}
use Rattle.model_cred.specs.Files.{FileTable}
use Rattle.model_cred.specs.Space.{Spaces}
use Rattle.model_box.specs.Closed.{ClosedAt}
use Rattle.model_box.specs.Row.{Part, Row, Standing, Fresh, HasMembers}
use Rattle.model_box.specs.Rule.{Rule, SetGroups, Create, Join, Maps}
use Rattle.cm_box.specs.Closing.{Gains, CreateHeld, JoinHeld}
use Rattle.cm_box_rows.specs.Rows.{HoldsAll}
use Rattle.cm_box.specs.Rules.{is_permitted, rule_of}
use Rattle.cm_box.specs.declared.rules.Rule.{Rule as CodeRule}
use Rattle.cm_box.specs.declared.rules.Rule.TheVariants as code
use Rattle.cm_box_rows.proofs.Joining.{joining_held}

-- the rule looks at the members of its row
abbrev pub IsOfMembers : Rule → Type 0
IsOfMembers Create = ⊥
IsOfMembers Join = ⊥
IsOfMembers Maps = ⊥
IsOfMembers _ = Unit {0}

-- the code's rules but the last three look at members
pub of_members : (x : CodeRule) → (x ≡ code.Create → ⊥) → (x ≡ code.Join → ⊥) → (x ≡ code.Maps → ⊥)
    → IsOfMembers (rule_of x)
of_members code.Create other _ _ = absurd (other refl)
of_members code.Join _ other _ = absurd (other refl)
of_members code.Maps _ _ other = absurd (other refl)
of_members _ _ _ _ = tt

module _ (permitted : CallKind → Bool) (files : FileTable) (spaces : Spaces) (bounds : Row → Part → ℕ → Type 0) where
  -- a rule on members is closed where the row holds what its members can gain, if it has any
  pub gains_closed : (rule : Rule) → IsOfMembers rule → IsTrue (is_permitted permitted rule) → (row : Row)
      → (HasMembers (bounds row) → HoldsAll (bounds row) (Gains files spaces bounds rule row)) ↔ ClosedAt permitted files spaces bounds rule row
  gains_closed SetGroups _ can row =
      (λ held part x added. held added.1 part x (added.2, added.3), λ closed some part x gain. closed part x (can, some, gain.0, gain.1))
  gains_closed Create wrong can row = absurd wrong
  gains_closed Join wrong can row = absurd wrong
  gains_closed Maps wrong can row = absurd wrong
  gains_closed _ _ can row = (λ held part x added. held added.1 part x added.2, λ closed some part x gain. closed part x (can, some, gain))

  -- the rules on creation and on joins
  pub create_closed : IsTrue (is_permitted permitted Create) → (row : Row)
      → CreateHeld spaces bounds row ↔ ClosedAt permitted files spaces bounds Create row
  create_closed can (Standing n) = (λ _ part x none. absurd none, λ _. tt)
  create_closed can (Fresh n) = (λ held part x added. held added.1 part x added.2, λ closed make part x brings. closed part x (can, make, brings))

  pub join_closed : IsTrue (is_permitted permitted Join) → (row : Row)
      → JoinHeld spaces bounds row ↔ ClosedAt permitted files spaces bounds Join row
  join_closed can (Standing n) =
      let held = joining_held spaces bounds (bounds (Standing n)) n in
      (λ joins part x added. held.0 joins part x added.1, λ closed. held.1 (λ part x by. closed part x (can, by)))
  join_closed can (Fresh n) = (λ _ part x none. absurd none, λ _. tt)
