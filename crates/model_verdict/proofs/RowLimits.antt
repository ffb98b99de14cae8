-- What rows hold is below a limit, whatever they are; and whether they hold all that is to be held is decided.
use Rattle.std.proofs.Common.{◌≡◌, ℕ, zero, suc, ◌+◌, ◌<◌, ◌≤◌, ◌==◌, List, [], ◌∷◌, sym, ◌∙◌, inl, inr, subst, arith}
use Rattle.std.specs.Prelude.{IsTrue, not}
use Rattle.std.specs.Int.{bit_at}
use Rattle.std.proofs.lemmas.Bool.{or_cases, cases_lt, eqb-true, false≢true, and_parts}
use Rattle.std.proofs.lemmas.Nat.Bits.{bit_at_above}
use Rattle.cm_base.proofs.Words.{below_power}
use Rattle.cm_base.specs.CapSet.{holds, cap_count}
use Rattle.model_box.specs.Bounds.{BoxRow, row_has, row_in, no_row, bounds_hold}
use Rattle.model_box.specs.Laws.{tested}
use Rattle.model_box.specs.Row.{Part, Uids, EffectiveUids, FsUids, Gids, EffectiveGids, FsGids, Groups, MappedUids, MappedGids}
use Rattle.model_box.specs.Row.{PermittedCaps, InheritableCaps, BoundingCaps, NewPrivs, RootCounts, LockClear, Row, row_number}
use Rattle.model_cred.proofs.Intervals.{between_parts}
use Rattle.model_cred.specs.Intervals.{Interval, ids_hold, is_between}
use Rattle.model_verdict.proofs.Deciding.{Decided, tested_so, both, some_below, some_low}
use Rattle.model_verdict.proofs.DecidedRules.{Fine}
use Rattle.model_verdict.proofs.Parts.{part_at, Numbered, numbered}

-- ---- limits
ids_top : List Interval → ℕ
ids_top [] = 0
ids_top (i ∷ list) = suc i.last + ids_top list

ids_low : (list : List Interval) (x : ℕ) → IsTrue (ids_hold list x) → x < ids_top list
unfolding ids_top
ids_low [] x held = absurd (false≢true held)
ids_low (i ∷ list) x held = elim (or_cases (is_between i x) (ids_hold list x) held) [
  | inl here ↦ (let ends : (i.first ≤ x) × (x ≤ i.last) = between_parts i x here in omega (arith, ends.1))
  | inr later ↦ (let low : x < ids_top list = ids_low list x later in omega (arith, low))
]

caps_low : (set x : ℕ) → IsTrue (holds set x) → x < suc set
caps_low set x held = elim (cases_lt x (suc set)) [
  | inl low ↦ low
  | inr high ↦
      let out : bit_at set x ≡ 0 = bit_at_above set set x (below_power set) (omega (arith, high)) in
      let one : bit_at set x ≡ 1 = eqb-true (bit_at set x) 1 held in
      let wrong : 0 ≡ 1 = sym out ∙ one in
      absurd (omega (arith, wrong))
]

row_top : BoxRow → ℕ
row_top row =
    ids_top row.uids + ids_top row.effective_uids + ids_top row.fs_uids + ids_top row.gids + ids_top row.effective_gids + ids_top row.fs_gids
    + ids_top row.groups + ids_top row.mapped_uids + ids_top row.mapped_gids + suc row.permitted + suc row.inheritable + suc row.bounding

row_low : (row : BoxRow) (part : Part) (x : ℕ) → IsTrue (row_has row part x) → x < row_top row
unfolding row_top
row_low row Uids x held = omega (arith, ids_low row.uids x held)
row_low row EffectiveUids x held = omega (arith, ids_low row.effective_uids x held)
row_low row FsUids x held = omega (arith, ids_low row.fs_uids x held)
row_low row Gids x held = omega (arith, ids_low row.gids x held)
row_low row EffectiveGids x held = omega (arith, ids_low row.effective_gids x held)
row_low row FsGids x held = omega (arith, ids_low row.fs_gids x held)
row_low row Groups x held = omega (arith, ids_low row.groups x held)
row_low row MappedUids x held = omega (arith, ids_low row.mapped_uids x held)
row_low row MappedGids x held = omega (arith, ids_low row.mapped_gids x held)
row_low row PermittedCaps x held = omega (arith, caps_low row.permitted x held)
row_low row InheritableCaps x held = omega (arith, caps_low row.inheritable x held)
row_low row BoundingCaps x held = omega (arith, caps_low row.bounding x held)
row_low row NewPrivs x held = let is : x ≡ 0 = eqb-true x 0 (and_parts (x == 0) (not row.no_new_privs) held).0 in omega (arith, is)
row_low row RootCounts x held = let is : x ≡ 0 = eqb-true x 0 (and_parts (x == 0) row.root_counts held).0 in omega (arith, is)
row_low row LockClear x held = let is : x ≡ 0 = eqb-true x 0 (and_parts (x == 0) row.lock_clear held).0 in omega (arith, is)

rows_top : List BoxRow → ℕ
rows_top [] = row_top no_row
rows_top (row ∷ rows) = row_top row + rows_top rows

rows_low : (rows : List BoxRow) (y : ℕ) (part : Part) (x : ℕ) → IsTrue (row_has (row_in rows y) part x) → x < rows_top rows
unfolding rows_top
rows_low [] y part x held = row_low no_row part x held
rows_low (row ∷ rows) zero part x held = let low : x < row_top row = row_low row part x held in omega (arith, low)
rows_low (row ∷ rows) (suc y) part x held = let low : x < rows_top rows = rows_low rows y part x held in omega (arith, low)

-- what rows hold is decided, and below a limit, which is no less than the number of capabilities
pub rows_limit : List BoxRow → ℕ
rows_limit rows = cap_count + rows_top rows

pub limit_high : (rows : List BoxRow) → cap_count ≤ rows_limit rows
unfolding rows_limit
limit_high rows = omega arith

pub rows_fine : (rows : List BoxRow) → Fine (rows_limit rows) (tested (bounds_hold rows))
unfolding rows_limit
rows_fine rows = record {
  each = λ row part x. tested_so (bounds_hold rows (row_number row) part x);
  low = λ row part x held. omega (arith, rows_low rows (row_number row) part x held);
}

-- ---- all that is to be held
-- whether one row holds what another does
pub holds_all_decided : (Added Row : Part → ℕ → Type 0) (limit : ℕ) → ((part : Part) (x : ℕ) → Decided (Added part x))
    → ((part : Part) (x : ℕ) → Decided (Row part x)) → ((part : Part) (x : ℕ) → Added part x → x < limit)
    → Decided ((part : Part) (x : ℕ) → Added part x → Row part x)
holds_all_decided Added Row limit added row low = by lacking where
  lacking : Decided ((p : ℕ) × (p < 15) × ((x : ℕ) × (Added (part_at p) x × (Row (part_at p) x → ⊥))))
  lacking = some_below (λ p. (x : ℕ) × (Added (part_at p) x × (Row (part_at p) x → ⊥)))
      (λ p. some_low (λ x. Added (part_at p) x × (Row (part_at p) x → ⊥)) (λ x. both (added (part_at p) x) (not_so (row (part_at p) x))) limit
      (λ x t. low (part_at p) x t.0)) 15
    where
      not_so : {A : Type 0} → Decided A → Decided (A → ⊥)
      not_so (inl is) = inr (λ never. never is)
      not_so (inr never) = inl never

  by : Decided ((p : ℕ) × (p < 15) × ((x : ℕ) × (Added (part_at p) x × (Row (part_at p) x → ⊥))))
      → Decided ((part : Part) (x : ℕ) → Added part x → Row part x)
  by (inl t) = inr (λ all. t.2.1.1 (all (part_at t.0) t.2.0 t.2.1.0))
  by (inr none) = inl (λ part x there. held part x there (row part x)) where
    held : (part : Part) (x : ℕ) → Added part x → Decided (Row part x) → Row part x
    held part x there (inl is) = is
    held part x there (inr never) =
        let of : Numbered part = numbered part in
        absurd (none (of.number, of.low, (x, (subst (λ (q : Part). Added q x) (sym of.back) there, λ is. never (subst (λ (q : Part). Row q x) of.back is)))))
