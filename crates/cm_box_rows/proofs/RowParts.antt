-- Rows part by part: what the least row holds, two rows as one, and flags as sets.
use Rattle.std.proofs.Common.{◌≡◌, ℕ, ◌==◌, ◌&&◌, Bool, true, false, not, refl, sym, ◌∙◌, inl, inr}
use Rattle.std.specs.Prelude.{◌↔◌, ◌⊎◌, IsTrue}
use Rattle.std.proofs.lemmas.Bool.{false≢true, and_parts, and_from, eqb-true, eq-eqb}
use Rattle.cm_base.proofs.CapSets.{holds_none}
use Rattle.cm_base.specs.CapSet.{holds}
use Rattle.cm_sets.specs.Sets.{AreSame, InEither}
use Rattle.cm_idset.specs.Held.{Held}
use Rattle.model_box.specs.Bounds.{BoxRow, no_row}
use Rattle.model_box.specs.Row.{Part, Uids, EffectiveUids, FsUids, Gids, EffectiveGids, FsGids, Groups, MappedUids}
use Rattle.model_box.specs.Row.{MappedGids, PermittedCaps, InheritableCaps, BoundingCaps, NewPrivs, RootCounts}
use Rattle.model_box.specs.Row.{LockClear}
use Rattle.cm_box_rows.specs.Rows.{RowHolds, AreSameRows, InEitherRow}

-- a flag as a set of at most the unit
abbrev pub Raised : Bool → ℕ → Type 0
Raised flag x = (x ≡ 0) × (flag ≡ true)

abbrev pub Lowered : Bool → ℕ → Type 0
Lowered flag x = (x ≡ 0) × (flag ≡ false)

not_true : (b : Bool) → IsTrue (not b) → b ≡ false
not_true false is = refl
not_true true wrong = absurd (false≢true wrong)

true_not : (b : Bool) → b ≡ false → IsTrue (not b)
true_not false is = refl
true_not true wrong = absurd (false≢true (sym wrong))

pub raised_is : (flag : Bool) (x : ℕ) → IsTrue (x == 0 && flag) ↔ Raised flag x
raised_is flag x = (
  λ held. let two = and_parts (x == 0) flag held in (eqb-true x 0 two.0, two.1),
  λ both. and_from (x == 0) flag (eq-eqb x 0 both.0) both.1,
)

pub lowered_is : (flag : Bool) (x : ℕ) → IsTrue (x == 0 && not flag) ↔ Lowered flag x
lowered_is flag x = (
  λ held. let two = and_parts (x == 0) (not flag) held in (eqb-true x 0 two.0, not_true flag two.1),
  λ both. and_from (x == 0) (not flag) (eq-eqb x 0 both.0) (true_not flag both.1),
)

-- the least row holds nothing
pub none_in : (part : Part) (x : ℕ) → RowHolds no_row part x → ⊥
none_in PermittedCaps x held = false≢true (sym (holds_none x) ∙ held)
none_in InheritableCaps x held = false≢true (sym (holds_none x) ∙ held)
none_in BoundingCaps x held = false≢true (sym (holds_none x) ∙ held)
none_in NewPrivs x held = false≢true (and_parts (x == 0) false held).1
none_in RootCounts x held = false≢true (and_parts (x == 0) false held).1
none_in LockClear x held = false≢true (and_parts (x == 0) false held).1
none_in _ x held = false≢true held

pub nothing : (part : Part) (x : ℕ) → RowHolds no_row part x ↔ ⊥
nothing part x = (λ held. none_in part x held, λ wrong. absurd wrong)

-- a flag of a joined row: what the join of flags says, as the row's tests say it
raised_either : (flag one other : Bool) (x : ℕ) → Raised flag x ↔ (Raised one x ⊎ Raised other x)
    → IsTrue (x == 0 && flag) ↔ (IsTrue (x == 0 && one) ⊎ IsTrue (x == 0 && other))
raised_either flag one other x same = (
  λ held. elim (same.0 ((raised_is flag x).0 held)) [
    | inl a ↦ inl ((raised_is one x).1 a)
    | inr b ↦ inr
        ((raised_is other x).1 b)
  ],
  λ held. elim held [
    | inl a ↦ (raised_is flag x).1 (same.1 (inl ((raised_is one x).0 a)))
    | inr b ↦ (raised_is flag x).1 (same.1 (inr ((raised_is other x).0 b)))
  ],
)

lowered_either : (flag one other : Bool) (x : ℕ) → Lowered flag x ↔ (Lowered one x ⊎ Lowered other x)
    → IsTrue (x == 0 && not flag) ↔ (IsTrue (x == 0 && not one) ⊎ IsTrue (x == 0 && not other))
lowered_either flag one other x same = (
  λ held. elim (same.0 ((lowered_is flag x).0 held)) [
    | inl a ↦ inl ((lowered_is one x).1 a)
    | inr b ↦ inr
        ((lowered_is other x).1 b)
  ],
  λ held. elim held [
    | inl a ↦ (lowered_is flag x).1 (same.1 (inl ((lowered_is one x).0 a)))
    | inr b ↦ (lowered_is flag x).1 (same.1 (inr ((lowered_is other x).0 b)))
  ],
)

module _ (row one other : BoxRow) where
  -- each part of the row is the join of theirs
  pub record AreJoined : Type 0 where
    pub uids : AreSame (Held row.uids) (InEither (Held one.uids) (Held other.uids))
    pub effective_uids :
        AreSame (Held row.effective_uids) (InEither (Held one.effective_uids) (Held other.effective_uids))
    pub fs_uids : AreSame (Held row.fs_uids) (InEither (Held one.fs_uids) (Held other.fs_uids))
    pub gids : AreSame (Held row.gids) (InEither (Held one.gids) (Held other.gids))
    pub effective_gids :
        AreSame (Held row.effective_gids) (InEither (Held one.effective_gids) (Held other.effective_gids))
    pub fs_gids : AreSame (Held row.fs_gids) (InEither (Held one.fs_gids) (Held other.fs_gids))
    pub groups : AreSame (Held row.groups) (InEither (Held one.groups) (Held other.groups))
    pub mapped_uids : AreSame (Held row.mapped_uids) (InEither (Held one.mapped_uids) (Held other.mapped_uids))
    pub mapped_gids : AreSame (Held row.mapped_gids) (InEither (Held one.mapped_gids) (Held other.mapped_gids))
    pub permitted : (x : ℕ)
        → IsTrue (holds row.permitted x) ↔ (IsTrue (holds one.permitted x) ⊎ IsTrue (holds other.permitted x))
    pub inheritable : (x : ℕ)
        → IsTrue (holds row.inheritable x) ↔ (IsTrue (holds one.inheritable x) ⊎ IsTrue (holds other.inheritable x))
    pub bounding : (x : ℕ)
        → IsTrue (holds row.bounding x) ↔ (IsTrue (holds one.bounding x) ⊎ IsTrue (holds other.bounding x))
    pub no_new_privs :
        AreSame (Lowered row.no_new_privs) (InEither (Lowered one.no_new_privs) (Lowered other.no_new_privs))
    pub root_counts : AreSame (Raised row.root_counts) (InEither (Raised one.root_counts) (Raised other.root_counts))
    pub lock_clear : AreSame (Raised row.lock_clear) (InEither (Raised one.lock_clear) (Raised other.lock_clear))

  pub all_joined : AreJoined → AreSameRows (RowHolds row) (InEitherRow (RowHolds one) (RowHolds other))
  all_joined parts Uids x = parts.uids x
  all_joined parts EffectiveUids x = parts.effective_uids x
  all_joined parts FsUids x = parts.fs_uids x
  all_joined parts Gids x = parts.gids x
  all_joined parts EffectiveGids x = parts.effective_gids x
  all_joined parts FsGids x = parts.fs_gids x
  all_joined parts Groups x = parts.groups x
  all_joined parts MappedUids x = parts.mapped_uids x
  all_joined parts MappedGids x = parts.mapped_gids x
  all_joined parts PermittedCaps x = parts.permitted x
  all_joined parts InheritableCaps x = parts.inheritable x
  all_joined parts BoundingCaps x = parts.bounding x
  all_joined parts NewPrivs x = lowered_either row.no_new_privs one.no_new_privs other.no_new_privs x
      (parts.no_new_privs x)
  all_joined parts RootCounts x = raised_either row.root_counts one.root_counts other.root_counts x
      (parts.root_counts x)
  all_joined parts LockClear x = raised_either row.lock_clear one.lock_clear other.lock_clear x (parts.lock_clear x)

-- a row joined with itself holds what it holds
pub joined_itself : (copy row : Part → ℕ → Type 0) → AreSameRows copy (InEitherRow row row) → AreSameRows copy row
joined_itself copy row same part x = (
  λ held. elim ((same part x).0 held) [ inl a ↦ a | inr b ↦ b ],
  λ held. (same part x).1 (inl held),
)
