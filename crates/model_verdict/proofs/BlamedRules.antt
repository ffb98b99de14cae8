-- Which rules can be blamed: the others add nothing by which a right is met, or what another row had already.
use Rattle.std.proofs.Common.{◌≡◌, ◌⊎◌, ℕ, Bool, true, false, refl, sym, inl, inr, subst, arith}
use Rattle.std.specs.Prelude.{IsTrue}
use Rattle.std.proofs.lemmas.Bool.{false≢true}
use Rattle.cm_filter.specs.declared.kind.CallKind.{CallKind}
use Rattle.model_cred.specs.Files.{FileTable}
use Rattle.model_cred.specs.Right.{Right, Cap, Uid, Gid}
use Rattle.model_cred.specs.Space.{Spaces, stands}
use Rattle.model_box.specs.Row.{Part, EffectiveUids, EffectiveGids, Groups, PermittedCaps, Row, Standing, Fresh, space_under}
use Rattle.model_box.specs.Rule.{Rule, SetFsUid, SetFsGid, CapSet, SecureBits, Create, Maps}
use Rattle.model_box.specs.Closed.{Adds}
use Rattle.model_box.specs.Meets.{MeetsAt, Meets}
use Rattle.model_verdict.specs.Sweep.{Turn, widened, turn_at, swept}
use Rattle.model_verdict.specs.Blame.{can_be_blamed, BlamedRules}

module _ (permitted : CallKind → Bool) (files : FileTable) (spaces : Spaces) (bounds : Row → Part → ℕ → Type 0) where
  -- what is added to the parts by which rights are met: nothing, or what the standing row of a later one has
  record Quiet (rule : Rule) (row : Row) : Type 0 where
    uid : (x : ℕ) → Adds permitted files spaces bounds rule row EffectiveUids x → bounds (Standing (space_under row)) EffectiveUids x
    gid : (x : ℕ) → Adds permitted files spaces bounds rule row EffectiveGids x → bounds (Standing (space_under row)) EffectiveGids x
    group : (x : ℕ) → Adds permitted files spaces bounds rule row Groups x → bounds (Standing (space_under row)) Groups x
    here : (n : ℕ) → row ≡ Standing n → (part : Part) (x : ℕ) → (part ≡ EffectiveUids) ⊎ (part ≡ PermittedCaps)
        → Adds permitted files spaces bounds rule row part x → ⊥

  -- no effective id and no permitted capability is added
  abbrev AddsNone : Rule → Row → Type 0
  AddsNone rule row = (x : ℕ) → (Adds permitted files spaces bounds rule row EffectiveUids x → ⊥)
      × (Adds permitted files spaces bounds rule row EffectiveGids x → ⊥) × (Adds permitted files spaces bounds rule row Groups x → ⊥)
      × (Adds permitted files spaces bounds rule row PermittedCaps x → ⊥)

  by_none : (rule : Rule) (row : Row) → AddsNone rule row → Quiet rule row
  by_none rule row none = record {
    uid = λ x added. absurd ((none x).0 added);
    gid = λ x added. absurd ((none x).1 added);
    group = λ x added. absurd ((none x).2 added);
    here = λ n is part x which added. by part x which added;
  } where
    by : (part : Part) (x : ℕ) → (part ≡ EffectiveUids) ⊎ (part ≡ PermittedCaps) → Adds permitted files spaces bounds rule row part x → ⊥
    by part x (inl same) added = (none x).0 (subst (λ (p : Part). Adds permitted files spaces bounds rule row p x) same added)
    by part x (inr same) added = (none x).3 (subst (λ (p : Part). Adds permitted files spaces bounds rule row p x) same added)

  not_fresh : (m n : ℕ) → Fresh m ≡ Standing n → ⊥
  not_fresh m n same = cc

  quiet : (rule : Rule) (row : Row) → can_be_blamed rule ≡ false → Quiet rule row
  quiet SetFsUid row is = by_none SetFsUid row (λ x. (λ t. t.2, λ t. t.2, λ t. t.2, λ t. t.2))
  quiet SetFsGid row is = by_none SetFsGid row (λ x. (λ t. t.2, λ t. t.2, λ t. t.2, λ t. t.2))
  quiet CapSet row is = by_none CapSet row (λ x. (λ t. t.2, λ t. t.2, λ t. t.2, λ t. t.2))
  quiet SecureBits row is = by_none SecureBits row (λ x. (λ t. t.2, λ t. t.2, λ t. t.2, λ t. t.2))
  quiet Create (Standing n) is = by_none Create (Standing n) (λ x. (λ t. t, λ t. t, λ t. t, λ t. t))
  quiet Create (Fresh n) is = record {
    uid = λ x t. t.2;
    gid = λ x t. t.2;
    group = λ x t. t.2;
    here = λ m same. absurd (not_fresh n m same);
  }
  quiet Maps (Standing n) is = by_none Maps (Standing n) (λ x. (λ t. t, λ t. t, λ t. t, λ t. t))
  quiet Maps (Fresh n) is = by_none Maps (Fresh n) (λ x. (λ t. t, λ t. t, λ t. t, λ t. t))
  quiet _ row wrong = absurd (false≢true (sym wrong))

  module _ (turn : Turn) (is : Quiet turn.rule turn.row) where
    abbrev After : Row → Part → ℕ → Type 0
    After = widened permitted files spaces bounds turn

    -- in a standing row the parts that count for capabilities are as they were
    as_before : (n : ℕ) (part : Part) (x : ℕ) → (part ≡ EffectiveUids) ⊎ (part ≡ PermittedCaps) → After (Standing n) part x → bounds (Standing n) part x
    as_before n part x which (inl held) = held
    as_before n part x which (inr (same, added)) = absurd (is.here n (sym same) part x which added)

    -- an id of a row is in it, or in its standing row
    part_before : (part : Part)
        → ((x : ℕ) → Adds permitted files spaces bounds turn.rule turn.row part x
        → bounds (Standing (space_under turn.row)) part x)
        → (row : Row) (x : ℕ) → After row part x → bounds row part x ⊎ bounds (Standing (space_under row)) part x
    part_before part quiet row x (inl held) = inl held
    part_before part quiet row x (inr (same, added)) =
        inr (subst (λ (r : Row). bounds (Standing (space_under r)) part x) (sym same) (quiet x added))

    -- what they meet after the turn they met before
    met_before : (right : Right) (row : Row) → IsTrue (stands spaces (space_under row)) → MeetsAt spaces After right row → Meets spaces bounds right
    met_before (Cap c n) (Standing a) standing (inl (above, (x, member), held)) =
        (Standing a, standing, inl (above, (x, as_before a EffectiveUids x (inl refl) member), as_before a PermittedCaps c (inr refl) held))
    met_before (Cap c n) (Standing a) standing (inr (m, next, owner)) =
        (Standing a, standing, inr (m, next, as_before a EffectiveUids _ (inl refl) owner))
    met_before (Cap c n) (Fresh a) standing wrong = absurd wrong
    met_before (Uid id) row standing held = elim (part_before EffectiveUids is.uid row id held) [
      | inl here ↦ (row, standing, here)
      | inr there ↦ (Standing (space_under row), standing, there)
    ]
    met_before (Gid id) row standing (inl held) = elim (part_before EffectiveGids is.gid row id held) [
      | inl here ↦ (row, standing, inl here)
      | inr there ↦ (Standing (space_under row), standing, inl there)
    ]
    met_before (Gid id) row standing (inr held) = elim (part_before Groups is.group row id held) [
      | inl here ↦ (row, standing, inr here)
      | inr there ↦ (Standing (space_under row), standing, inr there)
    ]

pub blamed_rules : BlamedRules
unfolding BlamedRules
blamed_rules permitted files s members right turn below (k, is, first, says) =
    subst (λ (t : Turn). can_be_blamed t.rule ≡ true) (sym is) (by (can_be_blamed (turn_at s.spaces k).rule) refl) where
      by : (b : Bool) → can_be_blamed (turn_at s.spaces k).rule ≡ b → can_be_blamed (turn_at s.spaces k).rule ≡ true
      by true so = so
      by false not_so =
          let (row, standing, met) = first.meets in
          absurd (first.before k (omega arith)
          (met_before permitted files s.spaces (swept permitted files s members k) (turn_at s.spaces k)
          (quiet permitted files s.spaces (swept permitted files s members k) (turn_at s.spaces k).rule (turn_at s.spaces k).row not_so)
          right row standing met))
