-- Making a space keeps the spaces and the members covered.
use Rattle.std.proofs.Common.{◌≡◌, ℕ, suc, ◌<◌, ◌≤◌, ◌-◌, true, Some, List, ◌∷◌, length, refl, sym, ap, ◌∙◌, inl, inr, arith}
use Rattle.std.specs.Prelude.{◌⊎◌, IsTrue, nat_lt}
use Rattle.std.proofs.lemmas.Bool.{false≢true, cases_eq, and_parts}
use Rattle.model_cred.specs.Credential.{Credential}
use Rattle.model_cred.specs.IdMap.{extents_of, is_outside}
use Rattle.model_cred.specs.Space.{Space, Spaces, space_of, level}
use Rattle.model_rules.specs.Namespaces.{as_newcomer, created_by, deepest, is_mapped_in}
use Rattle.model_box.specs.Row.{Part, EffectiveUids, EffectiveGids, Row, Standing, Fresh}
use Rattle.model_box.specs.Spread.{CanMake}
use Rattle.model_box.specs.Covers.{RowOf, own, child, deeper, MapsIn, MapsAreIn, ParentsEarlier, OwnersIn}
use Rattle.model_box.proofs.Trees.{Earlier, space_of_newest, space_of_older, has_parent_stands, row_standing, row_older}
use Rattle.model_box.proofs.Fits.{TreeFits, AtAnchors, FilledAt, Settles, MemberFits, InRow, chain_stays}
use Rattle.model_box.proofs.Joins.{brought, filled_again, newcomer_included}

pub row_here : {k : ℕ} {spaces : Spaces} → k ≤ length spaces → {n : ℕ} {row : Row} → RowOf k spaces n row → n < length spaces
row_here grown (own n low) = omega arith
row_here {spaces = spaces} grown (child n p a late parent up) = has_parent_stands spaces n p parent
row_here {spaces = spaces} grown (deeper n p a late parent up) = has_parent_stands spaces n p parent

-- ---- the spaces alone
module _ (old new : Spaces) (fit : TreeFits old new) (at : ℕ) (c : Credential) (here : at < length new) where
  newest_is : space_of (created_by new at c ∷ new) (length new) ≡ created_by new at c
  newest_is = space_of_newest (created_by new at c) new

  older_is : (n : ℕ) → n < length new → space_of (created_by new at c ∷ new) n ≡ space_of new n
  older_is n low = space_of_older (created_by new at c) new n (λ same. omega arith)

  the_parent : (p : ℕ) → (space_of (created_by new at c ∷ new) (length new)).parent ≡ Some p → p ≡ at
  the_parent p parent =
      let both : Some at ≡ Some p = sym (ap (λ (s : Space). s.parent) newest_is) ∙ parent in cc

  made_earlier : Earlier (created_by new at c ∷ new)
  made_earlier n p parent =
      elim (cases_eq n (length new)) [
        | inl same ↦ let p_is : p ≡ at = the_parent p (rw same at parent) in omega arith
        | inr other ↦ fit.earlier n p (sym (ap (λ (s : Space). s.parent) (space_of_older (created_by new at c) new n other)) ∙ parent)
      ]

  older_row : (n : ℕ) (row : Row) → n < length new → RowOf (length old) (created_by new at c ∷ new) n row → RowOf (length old) new n row
  older_row n row low row_n = row_older (created_by new at c) new made_earlier row_n low

  -- the row of the new space belongs to the standing space of the maker's row
  made_row : (a : ℕ) → RowOf (length old) (created_by new at c ∷ new) (length new) (Fresh a)
      → RowOf (length old) new at (Standing a) ⊎ RowOf (length old) new at (Fresh a)
  made_row a row = go row refl where
    go : {n : ℕ} → RowOf (length old) (created_by new at c ∷ new) n (Fresh a) → n ≡ length new
        → RowOf (length old) new at (Standing a) ⊎ RowOf (length old) new at (Fresh a)
    go (child n p a' late parent up) same =
        let p_is : p ≡ at = the_parent p (rw same at parent) in
        inl (older_row at (Standing a') here (rw p_is at up))
    go (deeper n p a' late parent up) same =
        let p_is : p ≡ at = the_parent p (rw same at parent) in
        inr (older_row at (Fresh a') here (rw p_is at up))

  -- the new space has its word from the maker's
  denied_made : (a : ℕ) → RowOf (length old) new at (Standing a) ⊎ RowOf (length old) new at (Fresh a)
      → (space_of old a).deny ≡ true → (space_of new at).deny ≡ true
  denied_made a (inl row) word = let two = row_standing row in (fit.stay at two.1).deny (rw two.0 word)
  denied_made a (inr row) word = fit.deny at a row word

  -- a space is the new one or an older one
  new_or_older : (n : ℕ) → n < suc (length new) → (n ≡ length new) ⊎ (n < length new)
  new_or_older n low = elim (cases_eq n (length new)) [ inl same ↦ inl same | inr other ↦ inr (omega arith) ]

  made_parents : ParentsEarlier old (created_by new at c ∷ new)
  made_parents n late low =
      elim (new_or_older n low) [
        | inl same ↦ rw same (at, ap (λ (s : Space). s.parent) newest_is, here)
        | inr older ↦ let up = fit.parents n late older in (up.0, ap (λ (s : Space). s.parent) (older_is n older) ∙ up.1, up.2)
      ]

  -- a later space with a row stands
  fresh_here : (n a : ℕ) → RowOf (length old) (created_by new at c ∷ new) n (Fresh a) → n < suc (length new)
  fresh_here n a row = let grown : length old ≤ length new = fit.grown in row_here (omega arith) row

  made_deny : (n a : ℕ) → RowOf (length old) (created_by new at c ∷ new) n (Fresh a) → (space_of old a).deny ≡ true
      → (space_of (created_by new at c ∷ new) n).deny ≡ true
  made_deny n a row word =
      elim (new_or_older n (fresh_here n a row)) [
        | inl same ↦ rw same (ap (λ (s : Space). s.deny) newest_is ∙ denied_made a (made_row a (rw same at row)) word)
        | inr low ↦ ap (λ (s : Space). s.deny) (older_is n low) ∙ fit.deny n a (older_row n (Fresh a) low row) word
      ]

  -- Making a space keeps what is said of the spaces alone.
  pub made_tree : TreeFits old (created_by new at c ∷ new)
  made_tree = record {
    before = fit.before;
    earlier = made_earlier;
    grown = let grown : length old ≤ length new = fit.grown in omega arith;
    stay = λ n low. let grown : length old ≤ length new = fit.grown in rw (older_is n (omega arith)) (fit.stay n low);
    deny = made_deny;
    parents = made_parents;
  }

  -- What holds of the standing spaces above later ones, and of the one above the maker, holds of them after it.
  pub made_anchors : (P : ℕ → Type 0) → AtAnchors old new P → ((a : ℕ) → RowOf (length old) new at (Standing a) → P a)
      → AtAnchors old (created_by new at c ∷ new) P
  made_anchors P before from n a row =
      elim (new_or_older n (fresh_here n a row)) [
        | inl same ↦ by (made_row a (rw same at row))
        | inr low ↦ before n a (older_row n (Fresh a) low row)
      ] where
        by : RowOf (length old) new at (Standing a) ⊎ RowOf (length old) new at (Fresh a) → P a
        by (inl row_at) = from a row_at
        by (inr row_at) = before at a row_at

  -- ---- by bounds
  module _ (bounds : Row → Part → ℕ → Type 0) where
    no_maps : (row : Row) → MapsIn (created_by new at c) (bounds row)
    no_maps row = record { uids = λ x wrong. absurd (false≢true wrong); gids = λ x wrong. absurd (false≢true wrong) }

    pub made_mapped : MapsAreIn old new bounds → MapsAreIn old (created_by new at c ∷ new) bounds
    made_mapped mapped n row row_n =
        let grown : length old ≤ length new = fit.grown in
        let low : n < suc (length new) = row_here (omega arith) row_n in
        elim (cases_eq n (length new)) [
          | inl same ↦ rw (same, newest_is) (no_maps row)
          | inr other ↦ rw (older_is n (omega arith)) (mapped n row (older_row n row (omega arith) row_n))
        ]

    pub made_owners : ((row : Row) → RowOf (length old) new at row → bounds row EffectiveUids c.uid.effective)
        → OwnersIn old new bounds → OwnersIn old (created_by new at c ∷ new) bounds
    made_owners maker owners n p row late parent row_p =
        elim (new_or_older n (has_parent_stands (created_by new at c ∷ new) n p parent)) [
          | inl same ↦
              let up : p ≡ at = the_parent p (rw same at parent) in
              rw (same, newest_is) (maker row (older_row at row here (rw up at row_p)))
          | inr low ↦
              let up : (space_of new n).parent ≡ Some p = sym (ap (λ (s : Space). s.parent) (older_is n low)) ∙ parent in
              let p_low : p < n = fit.earlier n p up in
              rw (older_is n low) (owners n p row late up (older_row p row (omega arith) row_p))
        ]

    -- Who is covered stays so.
    pub others_fit : (place : ℕ) (d : Credential) → MemberFits old new bounds place d → MemberFits old (created_by new at c ∷ new) bounds place d
    others_fit place d other = record {
      here = let low : place < length new = other.here in omega arith;
      held = λ row row_n. other.held row (older_row place row other.here row_n);
      settled = λ a row_n. other.settled a (older_row place (Fresh a) other.here row_n);
      included = other.included;
    }

    -- ---- the maker, or its child
    module _ (member : MemberFits old new bounds at c) (from : (a : ℕ) → RowOf (length old) new at (Standing a) → FilledAt bounds a) where
      made_in : (row : Row) → RowOf (length old) (created_by new at c ∷ new) (length new) row → InRow (bounds row) (as_newcomer c)
      made_in (Standing n) row part x has =
          absurd (let two = row_standing row in
          let grown : length old ≤ length new = fit.grown in
          let low : length new < length old = two.1 in omega arith)
      made_in (Fresh a) row part x has = by (made_row a row) where
        by : RowOf (length old) new at (Standing a) ⊎ RowOf (length old) new at (Fresh a) → bounds (Fresh a) part x
        by (inl row_at) = from a row_at part x (brought (bounds (Standing a)) c (member.held (Standing a) row_at) part x has)
        by (inr row_at) = member.settled a row_at part x (brought (bounds (Fresh a)) c (member.held (Fresh a) row_at) part x has)

      made_settled : (a : ℕ) → RowOf (length old) (created_by new at c ∷ new) (length new) (Fresh a) → Settles (bounds (Fresh a))
      made_settled a row = by (made_row a row) where
        by : RowOf (length old) new at (Standing a) ⊎ RowOf (length old) new at (Fresh a) → Settles (bounds (Fresh a))
        by (inl row_at) = filled_again (bounds (Standing a)) (bounds (Fresh a)) (from a row_at)
        by (inr row_at) = member.settled a row_at

      -- Who stands in the new space is covered.
      pub maker_fits : MemberFits old (created_by new at c ∷ new) bounds (length new) (as_newcomer c)
      maker_fits = record { here = omega arith; held = made_in; settled = made_settled; included = newcomer_included c }

-- A maker in a standing space shows that its row can make one.
pub maker_can : (old new : Spaces) → TreeFits old new → (bounds : Row → Part → ℕ → Type 0) → MapsAreIn old new bounds
    → (at : ℕ) (c : Credential) → MemberFits old new bounds at c
    → IsTrue (nat_lt (level new at) deepest) → IsTrue (is_mapped_in (space_of new at) c)
    → (a : ℕ) → RowOf (length old) new at (Standing a) → CanMake old bounds a
maker_can old new fit bounds maps at c member shallow mapped a row = (
  rw (same ∙ ap (λ k. level old k) (row_standing row).0) at shallow,
  (
    c.uid.effective,
    member.held (Standing a) row EffectiveUids c.uid.effective refl,
    (maps at (Standing a) row).uids c.uid.effective both.0,
  ),
  (
    c.gid.effective,
    member.held (Standing a) row EffectiveGids c.gid.effective refl,
    (maps at (Standing a) row).gids c.gid.effective both.1,
  ),
) where
  both : IsTrue (is_outside (extents_of (space_of new at).uids) c.uid.effective) × IsTrue (is_outside (extents_of (space_of new at).gids) c.gid.effective)
  both =
      and_parts (is_outside (extents_of (space_of new at).uids) c.uid.effective)
      (is_outside (extents_of (space_of new at).gids) c.gid.effective) mapped

  same : level new at ≡ level old at
  same = ap (λ (chain : List ℕ). length chain - 1) (chain_stays old new fit at (row_standing row).1)

-- the standing space of a row stands
pub row_low : {k : ℕ} {spaces : Spaces} {n a : ℕ} → RowOf k spaces n (Standing a) → a < k
row_low row = rw (← (row_standing row).0) (row_standing row).1
