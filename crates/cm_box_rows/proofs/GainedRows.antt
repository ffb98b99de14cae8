-- Rows that hold what calls add, and nothing besides.
use Rattle.std.proofs.Common.{◌≡◌, ℕ, Bool, Ok, Err, sym, subst, inl, inr}
use Rattle.std.specs.Prelude.{◌↔◌, IsTrue, List, Result}
use Rattle.cm_base.specs.Outcome.{OrNoMemory}
use Rattle.cm_sets.specs.Sets.{AreSame, InEither}
use Rattle.cm_base.specs.CapSet.{holds}
use Rattle.cm_idset.specs.Held.{Held}
use Rattle.model_cred.specs.Intervals.{Interval}
use Rattle.model_box.specs.Bounds.{BoxRow, no_row}
use Rattle.model_box.specs.Row.{Part, Groups}
use Rattle.model_box.specs.Row.{MappedGids, PermittedCaps, InheritableCaps, BoundingCaps, RootCounts, LockClear}
use Rattle.model_box.specs.Gains.{Settable, GainsGroups, GainsInheritable, GainsRoot}
use Rattle.model_rules.specs.Caps.{cap_setgid, cap_setpcap}
use Rattle.cm_box_rows.specs.Rows.{RowHolds, AreSameRows}
use Rattle.cm_box_rows.proofs.RowParts.{nothing, raised_is}

-- what can be set is the same where the capability is told by a test
pub settable_told : (Old Mapped : ℕ → Type 0) (P Q : Type 0) → P ↔ Q
    → AreSame (Settable Old Mapped P) (Settable Old Mapped Q)
settable_told Old Mapped P Q same x = (
  λ can. elim can [ inl own ↦ inl own | inr all ↦ inr (same.0 all.0, all.1) ],
  λ can. elim can [ inl own ↦ inl own | inr all ↦ inr (same.1 all.0, all.1) ],
)

-- sets that hold the same, one after the other
pub same_on : {One Two Three : ℕ → Type 0} → AreSame One Two → AreSame Two Three → AreSame One Three
same_on a b x = (λ held. (b x).0 ((a x).0 held), λ held. (a x).1 ((b x).1 held))

-- so too in either of two sets
pub either_same : (One Other More : ℕ → Type 0) → AreSame One Other → AreSame (InEither One More) (InEither Other More)
either_same One Other More same x = (
  λ held. elim held [ inl one ↦ inl ((same x).0 one) | inr more ↦ inr more ],
  λ held. elim held [ inl one ↦ inl ((same x).1 one) | inr more ↦ inr more ],
)

-- so too what is set, of a set that holds it
pub settable_is : (Set Old Mapped : ℕ → Type 0) (P Q : Type 0) → P ↔ Q → AreSame Set (Settable Old Mapped P)
    → AreSame Set (Settable Old Mapped Q)
settable_is Set Old Mapped P Q told same = same_on same (settable_told Old Mapped P Q told)

module _ (row : Part → ℕ → Type 0) where
  -- rows of one set
  pub groups_row : (groups : List Interval) → row PermittedCaps cap_setgid
      → AreSame (Held groups) (InEither (row MappedGids) (row MappedGids))
      → AreSameRows (RowHolds (record no_row { groups = groups })) (GainsGroups row)
  groups_row groups can same Groups x = (
    λ held. (can, elim ((same x).0 held) [ inl a ↦ a | inr b ↦ b ]),
    λ has. (same x).1 (inl has.1),
  )
  groups_row groups can same part x = nothing part x

  pub inheritable_row : (word : ℕ)
      → ((x : ℕ) → IsTrue (holds word x)
      ↔ Settable (row PermittedCaps) (row BoundingCaps) (row PermittedCaps cap_setpcap) x)
      → AreSameRows (RowHolds (record no_row { inheritable = word })) (GainsInheritable row)
  inheritable_row word same InheritableCaps x = same x
  inheritable_row word same part x = nothing part x

  pub root_row : (flag : Bool) → row PermittedCaps cap_setpcap → IsTrue flag ↔ row LockClear 0
      → AreSameRows (RowHolds (record no_row { root_counts = flag })) (GainsRoot row)
  root_row flag can told RootCounts x = (
    λ held. let two = (raised_is flag x).0 held in (two.0, can, told.0 two.1),
    λ has. (raised_is flag x).1 (has.0, told.1 has.2),
  )
  root_row flag can told part x = nothing part x

-- what holds of a row that is made over the least one
pub over : (base : BoxRow) (with : BoxRow → BoxRow) (Q : Part → ℕ → Type 0) → base ≡ no_row
    → AreSameRows (RowHolds (with no_row)) Q
    → AreSameRows (RowHolds (with base)) Q
over base with Q is same = subst (λ (b : BoxRow). AreSameRows (RowHolds (with b)) Q) (sym is) same

-- what a call gives or not, and what follows of what it gives
pub or_more : {T E : Type 0} (r : Result T E) (P Q : T → Type 0) → OrNoMemory r P → ((x : T) → P x → Q x)
    → OrNoMemory r Q
or_more (Ok x) P Q is more = more x is
or_more (Err e) P Q is more = is
