-- Joining a space keeps a member covered.
use Rattle.std.proofs.Common.{◌≡◌, ℕ, ◌<◌, ◌≤◌, Bool, Some, length, refl, sym, ◌∙◌, inl, inr, arith}
use Rattle.std.specs.Prelude.{◌⊎◌, IsTrue}
use Rattle.std.proofs.lemmas.Bool.{false≢true, cases_eq}
use Rattle.cm_base.specs.CapSet.{holds}
use Rattle.cm_base.proofs.CapSets.{holds_none, member_of_wider}
use Rattle.cm_filter.specs.declared.kind.CallKind.{CallKind}
use Rattle.cm_filter.specs.declared.kind.CallKind.TheVariants as kind
use Rattle.model_cred.specs.Credential.{Credential, Included}
use Rattle.model_cred.specs.Files.{FileTable}
use Rattle.model_cred.specs.Space.{Spaces, space_of, is_at_or_above}
use Rattle.model_rules.specs.Caps.{cap_sys_admin}
use Rattle.model_rules.specs.Namespaces.{as_newcomer}
use Rattle.model_rules.specs.Power.{has_over}
use Rattle.model_box.specs.Row.{Part, EffectiveUids, MappedUids, MappedGids, PermittedCaps, InheritableCaps}
use Rattle.model_box.specs.Row.{BoundingCaps, RootCounts, LockClear, Row, Standing, Fresh, HasMembers, CredHas}
use Rattle.model_box.specs.Rule.{Join}
use Rattle.model_box.specs.Spread.{Brings, CanJoin, IsNext}
use Rattle.model_box.specs.Closed.{Closed}
use Rattle.model_box.specs.Covers.{RowOf, own, child, deeper}
use Rattle.model_box.proofs.Trees.{at_or_above_low, next_exists, power_cases, split_chain, row_standing, row_stands}
use Rattle.model_box.proofs.Fits.{TreeFits, AtAnchors, FilledIfPeopled, Settles, MemberFits, InRow, next_stays, it_stands}

-- ---- what a newcomer brings
pub newcomer_included : (c : Credential) → Included (as_newcomer c)
newcomer_included c = record { effective = refl; ambient_permitted = refl; ambient_inheritable = refl }

pub brought : (row : Part → ℕ → Type 0) (c : Credential) → InRow row c → (part : Part) (x : ℕ) → CredHas (as_newcomer c) part x → Brings row part x
brought row c held MappedUids x has = has
brought row c held MappedGids x has = has
brought row c held PermittedCaps x has = has
brought row c held InheritableCaps x has = absurd (false≢true (sym (holds_none x) ∙ has))
brought row c held BoundingCaps x has = has
brought row c held RootCounts x has = has.0
brought row c held LockClear x has = has.0
brought row c held part x has = held part x has

-- a row that holds what the members of another bring holds what its own members bring
pub filled_again : (row fresh : Part → ℕ → Type 0) → ((part : Part) (x : ℕ) → Brings row part x → fresh part x)
    → (part : Part) (x : ℕ) → Brings fresh part x → fresh part x
filled_again row fresh filled MappedUids x has = filled MappedUids x has
filled_again row fresh filled MappedGids x has = filled MappedGids x has
filled_again row fresh filled PermittedCaps x has = filled PermittedCaps x has
filled_again row fresh filled InheritableCaps x has = filled InheritableCaps x has
filled_again row fresh filled BoundingCaps x has = filled BoundingCaps x has
filled_again row fresh filled RootCounts x has = filled RootCounts x has
filled_again row fresh filled LockClear x has = filled LockClear x has
filled_again row fresh filled _ x has = has

-- the parent of a later space has its row, or is the standing space of that row
row_parent : {k : ℕ} {spaces : Spaces} {m a : ℕ} → RowOf k spaces m (Fresh a) → (at : ℕ) → (space_of spaces m).parent ≡ Some at
    → RowOf k spaces at (Fresh a) ⊎ (at ≡ a)
row_parent (child m p a late parent up) at owned =
    let both : Some at ≡ Some p = sym owned ∙ parent in
    let one : at ≡ p = cc in
    inr (one ∙ (row_standing up).0)
row_parent (deeper m p a late parent up) at owned =
    let both : Some at ≡ Some p = sym owned ∙ parent in
    let one : at ≡ p = cc in
    inl (rw one up)

-- A member of the row comes as a newcomer with that credential.
record BringsAs (row : Part → ℕ → Type 0) (c : Credential) : Type 0 where
  peopled : HasMembers row
  brings : (part : Part) (x : ℕ) → CredHas (as_newcomer c) part x → Brings row part x

module _ (permitted : CallKind → Bool) (files : FileTable) (old new : Spaces) (bounds : Row → Part → ℕ → Type 0)
    (closed : Closed permitted files old bounds) (fit : TreeFits old new) (allowed : IsTrue (permitted kind.SetNs))
    (filled : AtAnchors old new (FilledIfPeopled bounds))
    (at : ℕ) (c : Credential) (member : MemberFits old new bounds at c) where
  -- a member above a standing space with power over it can join it
  can_join : (n m : ℕ) → n < length old → IsNext old at n m → at < length old
      → (IsTrue (holds c.effective cap_sys_admin) ⊎ ((space_of new m).owner ≡ c.uid.effective)) → m < length old → CanJoin old bounds at n
  can_join n m low next stands cause m_low =
      let held : InRow (bounds (Standing at)) c = member.held (Standing at) (own at stands) in
      (m, next, (c.uid.effective, held EffectiveUids c.uid.effective refl), by cause) where
        by : (IsTrue (holds c.effective cap_sys_admin) ⊎ ((space_of new m).owner ≡ c.uid.effective))
            → (bounds (Standing at) PermittedCaps cap_sys_admin ⊎ bounds (Standing at) EffectiveUids (space_of old m).owner)
        by (inl cap) =
            inl (member.held (Standing at) (own at stands) PermittedCaps cap_sys_admin
            (member_of_wider c.effective c.permitted member.included.effective cap_sys_admin cap))
        by (inr owner) = inr (member.held (Standing at) (own at stands) EffectiveUids (space_of old m).owner (sym (fit.stay m m_low).owner ∙ owner))

  -- so what it then has is in that space's row
  joined_standing : (n : ℕ) → n < length old → at < length old → CanJoin old bounds at n → InRow (bounds (Standing n)) (as_newcomer c)
  joined_standing n low stands joins part x has =
      closed Join (Standing n) (it_stands old new fit n low) part x
      (allowed, (at, joins, brought (bounds (Standing at)) c (member.held (Standing at) (own at stands)) part x has))

  -- power over a standing space from a space above it
  joins_from_above : (n m : ℕ) → n < length old → IsTrue (is_at_or_above new m n) → (space_of new m).parent ≡ Some at
      → (IsTrue (holds c.effective cap_sys_admin) ⊎ ((space_of new m).owner ≡ c.uid.effective)) → InRow (bounds (Standing n)) (as_newcomer c)
  joins_from_above n m low above parent cause =
      let next : IsNext old at n m = next_stays old new fit at n m low above parent in
      let m_below : m ≤ n = at_or_above_low new fit.earlier m n above in
      let at_below : at < m = fit.earlier m at parent in
      joined_standing n low (omega arith) (can_join n m low next (omega arith) cause (omega arith))

  joins_by_set : (n : ℕ) → n < length old → (at ≡ n → ⊥) → IsTrue (is_at_or_above new at n) → IsTrue (holds c.effective cap_sys_admin)
      → InRow (bounds (Standing n)) (as_newcomer c)
  joins_by_set n low other above cap =
      let found = next_exists new fit.earlier at n above other in
      joins_from_above n found.0 low found.1 found.2 (inl cap)

  -- a standing target
  join_standing : (n : ℕ) → n < length old → (n ≡ at → ⊥) → IsTrue (has_over new at c cap_sys_admin n) → InRow (bounds (Standing n)) (as_newcomer c)
  join_standing n low other power =
      let found = power_cases new at c.effective c.uid.effective cap_sys_admin n power in
      elim found.2 [
        | inl here ↦ joins_by_set n low (λ same. other (sym same)) (rw here.0 at found.1) here.1
        | inr owned ↦ joins_from_above n found.0 low found.1 owned.0 (inr owned.1)
      ]

  -- Who joins a later space stands in its row already, or brings what members of the standing row above it bring: it
  -- stands there, or from above that space it has the same power over that one, so that joining puts it there.
  comes_from : (t a : ℕ) → RowOf (length old) new t (Fresh a) → IsTrue (has_over new at c cap_sys_admin t)
      → RowOf (length old) new at (Fresh a) ⊎ BringsAs (bounds (Standing a)) c
  comes_from t a row power = by found.2 (split_chain fit.earlier found.0 row found.1) where
    found : (m : ℕ) × IsTrue (is_at_or_above new m t)
        × (((m ≡ at) × IsTrue (holds c.effective cap_sys_admin)) ⊎ (((space_of new m).parent ≡ Some at) × ((space_of new m).owner ≡ c.uid.effective)))
    found = power_cases new at c.effective c.uid.effective cap_sys_admin t power

    a_low : a < length old
    a_low = (row_stands row).0

    anchor : at ≡ a → BringsAs (bounds (Standing a)) c
    anchor same =
        let held : InRow (bounds (Standing a)) c = member.held (Standing a) (rw same (own a a_low)) in
        record { peopled = (c.uid.effective, held EffectiveUids c.uid.effective refl); brings = brought (bounds (Standing a)) c held }

    above : InRow (bounds (Standing a)) (as_newcomer c) → BringsAs (bounds (Standing a)) c
    above joined = record { peopled = (c.uid.effective, joined EffectiveUids c.uid.effective refl); brings = brought (bounds (Standing a)) (as_newcomer c) joined }

    parent : RowOf (length old) new at (Fresh a) ⊎ (at ≡ a) → RowOf (length old) new at (Fresh a) ⊎ BringsAs (bounds (Standing a)) c
    parent (inl row_at) = inl row_at
    parent (inr same) = inr (anchor same)

    by : (((found.0 ≡ at) × IsTrue (holds c.effective cap_sys_admin))
        ⊎ (((space_of new found.0).parent ≡ Some at) × ((space_of new found.0).owner ≡ c.uid.effective)))
        → RowOf (length old) new found.0 (Fresh a) ⊎ IsTrue (is_at_or_above new found.0 a)
        → RowOf (length old) new at (Fresh a) ⊎ BringsAs (bounds (Standing a)) c
    by (inl here) (inl row_at) = inl (rw here.0 at row_at)
    by (inl here) (inr up) =
        elim (cases_eq at a) [
          | inl same ↦ inr (anchor same)
          | inr other ↦ inr (above (joins_by_set a a_low other (rw here.0 at up) here.1))
        ]
    by (inr owned) (inl row_m) = parent (row_parent row_m at owned.0)
    by (inr owned) (inr up) = inr (above (joins_from_above a found.0 a_low up owned.0 (inr owned.1)))

  -- a later target
  join_later : (t a : ℕ) → RowOf (length old) new t (Fresh a) → RowOf (length old) new at (Fresh a) ⊎ BringsAs (bounds (Standing a)) c
      → InRow (bounds (Fresh a)) (as_newcomer c)
  join_later t a row (inl row_at) part x has =
      member.settled a row_at part x (brought (bounds (Fresh a)) c (member.held (Fresh a) row_at) part x has)
  join_later t a row (inr from) part x has = filled t a row from.peopled part x (from.brings part x has)

  join_settled : (t a : ℕ) → RowOf (length old) new t (Fresh a) → RowOf (length old) new at (Fresh a) ⊎ BringsAs (bounds (Standing a)) c
      → Settles (bounds (Fresh a))
  join_settled t a row (inl row_at) = member.settled a row_at
  join_settled t a row (inr from) = filled_again (bounds (Standing a)) (bounds (Fresh a)) (filled t a row from.peopled)

  in_row : (t : ℕ) → (t ≡ at → ⊥) → IsTrue (has_over new at c cap_sys_admin t)
      → (row : Row) → RowOf (length old) new t row → InRow (bounds row) (as_newcomer c)
  in_row t other power (Standing n) row_t =
      let two = row_standing row_t in
      join_standing n (rw two.0 at two.1) (λ same. other (two.0 ∙ same)) (rw two.0 at power)
  in_row t other power (Fresh a) row_t = join_later t a row_t (comes_from t a row_t power)

  -- Joining a space keeps a member covered.
  pub join_fits : (t : ℕ) → t < length new → (t ≡ at → ⊥) → IsTrue (has_over new at c cap_sys_admin t) → MemberFits old new bounds t (as_newcomer c)
  join_fits t low other power = record {
    here = low;
    held = in_row t other power;
    settled = λ a row. join_settled t a row (comes_from t a row power);
    included = newcomer_included c;
  }
