-- The worked case: its bounds are closed, cover it, and meet neither right.
use Rattle.std.proofs.Common.{◌≡◌, ℕ, zero, suc, ◌<◌, Bool, true, false, ◌||◌, Some, None, [], ◌∷◌, refl, sym}
use Rattle.std.proofs.Common.{ap, ◌∙◌, inl, inr, arith, eqb, ltb, leb, lit<}
use Rattle.std.specs.Prelude.{◌⊎◌, IsTrue, All, is_none, if◌then◌else◌}
use Rattle.std.proofs.lemmas.Bool.{false≢true, or_cases, and_parts, eqb-true, ltb-true, cases_eq}
use Rattle.cm_base.proofs.CapSets.{holds_none}
use Rattle.cm_base.specs.Limits.{id_count}
use Rattle.model_cred.specs.Credential.{Included, all_four, is_one_of_three}
use Rattle.model_cred.specs.Files.{FileTable}
use Rattle.model_cred.specs.IdMap.{extents_of, is_outside, lies_in}
use Rattle.model_cred.specs.Process.{Process, process_at}
use Rattle.model_cred.specs.Right.{Right, Cap, Uid}
use Rattle.model_cred.specs.Space.{initial_space, first_spaces, space_of, stands}
use Rattle.model_run.specs.Holds.{process_holds}
use Rattle.model_box.specs.Row.{Part, Uids, Gids, Groups, MappedUids, MappedGids, PermittedCaps, InheritableCaps}
use Rattle.model_box.specs.Row.{BoundingCaps, NewPrivs, RootCounts, LockClear, Row, Standing, Fresh, space_under}
use Rattle.model_box.specs.Row.{CredHas}
use Rattle.model_box.specs.Rule.{SetUid, SetFsUid, SetGid, SetFsGid, SetGroups, CapSet, SecureBits, ExecUid, ExecGid, ExecCaps, ExecRoot, Create, Join, Maps}
use Rattle.model_box.specs.Gains.{SettableUid, SettableGid, SpreadsUid, SpreadsGid, GainsFsUid, GainsFsGid, GainsGroups, GainsInheritable, GainsRoot}
use Rattle.model_box.specs.Spread.{Brings, IsNext}
use Rattle.model_box.specs.Closed.{Closed, OwnerByFile, GroupByFile, CapByFile, CapByRoot, OnlyCaps, ByMaps}
use Rattle.model_box.specs.Meets.{Meets, IsOverStanding}
use Rattle.model_box.specs.Covers.{StateFits}
use Rattle.model_box.specs.Start.{HoldsStart, SpaceMaps}
use Rattle.model_box.specs.Example.{plain_cred, plain_process, plain_state, all_permitted, plain_bounds, PlainStaysPlain}
use Rattle.model_box.proofs.Excludes.{exclusion, fits_starts}
use Rattle.model_box.proofs.Starts.{covers_start}
use Rattle.model_box.proofs.Trees.{space_of_older}

-- ---- closed
-- one space stands
only_one : (n : ℕ) → IsTrue (stands first_spaces n) → n ≡ 0
only_one n here = let low : n < 1 = ltb-true n 1 here in omega arith

uid_1000 : (row : Row) (x : ℕ) → SettableUid (plain_bounds row) x → x ≡ 1000
uid_1000 (Standing n) x (inl both) = both.0
uid_1000 (Standing n) x (inr both) = absurd both.0
uid_1000 (Fresh n) x (inl both) = both.0
uid_1000 (Fresh n) x (inr both) = both.1

gid_1000 : (row : Row) (x : ℕ) → SettableGid (plain_bounds row) x → x ≡ 1000
gid_1000 (Standing n) x (inl both) = both.0
gid_1000 (Standing n) x (inr both) = absurd both.0
gid_1000 (Fresh n) x (inl both) = both.0
gid_1000 (Fresh n) x (inr both) = both.1

spread_uid : (row : Row) (New : ℕ → Type 0) → ((x : ℕ) → New x → x ≡ 1000) → (part : Part) (x : ℕ)
    → SpreadsUid (plain_bounds row) New part x → plain_bounds row part x
spread_uid row New only part x added = grind (arith, only)

spread_gid : (row : Row) (New : ℕ → Type 0) → ((x : ℕ) → New x → x ≡ 1000) → (part : Part) (x : ℕ)
    → SpreadsGid (plain_bounds row) New part x → plain_bounds row part x
spread_gid row New only part x added = grind (arith, only)

fs_uid : (row : Row) (part : Part) (x : ℕ) → GainsFsUid (plain_bounds row) part x → plain_bounds row part x
fs_uid row part x added = grind (arith, uid_1000)

fs_gid : (row : Row) (part : Part) (x : ℕ) → GainsFsGid (plain_bounds row) part x → plain_bounds row part x
fs_gid row part x added = grind (arith, gid_1000)

one_group : (row : Row) (part : Part) (x : ℕ) → GainsGroups (plain_bounds row) part x → plain_bounds row part x
one_group (Standing n) Groups x added = absurd added.0
one_group (Fresh n) Groups x added = added.1
one_group row _ x added = absurd added

inheritable_gain : (row : Row) (part : Part) (x : ℕ) → GainsInheritable (plain_bounds row) part x → plain_bounds row part x
inheritable_gain (Standing n) InheritableCaps x (inl both) = absurd both.0
inheritable_gain (Standing n) InheritableCaps x (inr both) = absurd both.0
inheritable_gain (Fresh n) InheritableCaps x (inl both) = both.0
inheritable_gain (Fresh n) InheritableCaps x (inr both) = both.1
inheritable_gain row _ x added = absurd added

root_gain : (row : Row) (part : Part) (x : ℕ) → GainsRoot (plain_bounds row) part x → plain_bounds row part x
root_gain (Standing n) RootCounts x added = added.0
root_gain (Fresh n) RootCounts x added = added.0
root_gain row _ x added = absurd added

brings_in : (n m : ℕ) (part : Part) (x : ℕ) → Brings (plain_bounds (Standing n)) part x → plain_bounds (Fresh m) part x
brings_in n m part x added = grind arith

-- no space is above the initial one
nothing_above : (a m : ℕ) → IsNext first_spaces a 0 m → ⊥
nothing_above a m next =
    elim (or_cases (eqb 0 m) false next.0) [
      | inl same ↦ let is : 0 ≡ m = eqb-true 0 m same in let parent : (space_of first_spaces 0).parent ≡ Some a = rw (← is) at next.1 in cc
      | inr wrong ↦ absurd (false≢true wrong)
    ]

-- no program's set-id bits or attribute count
module _ (files : FileTable) where
  no_owner : (row : Row) (x : ℕ) → OwnerByFile files first_spaces (space_under row) (plain_bounds row) x → x ≡ 1000
  no_owner (Standing n) x held = absurd held.3.0
  no_owner (Fresh n) x held = absurd held.3.0

  no_group : (row : Row) (x : ℕ) → GroupByFile files first_spaces (space_under row) (plain_bounds row) x → x ≡ 1000
  no_group (Standing n) x held = absurd held.3.0
  no_group (Fresh n) x held = absurd held.3.0

  maps_in : (row : Row) → IsTrue (stands first_spaces (space_under row)) → (part : Part) (x : ℕ)
      → ByMaps all_permitted first_spaces plain_bounds row part x → plain_bounds row part x
  maps_in (Standing n) here MappedUids x added = absurd (written (only_one n here) added.1) where
    written : n ≡ 0 → IsTrue (is_none (space_of first_spaces n).uids) → ⊥
    written same free = false≢true (rw same at free)
  maps_in (Standing n) here MappedGids x added = absurd (written (only_one n here) added.1) where
    written : n ≡ 0 → IsTrue (is_none (space_of first_spaces n).gids) → ⊥
    written same free = false≢true (rw same at free)
  maps_in (Fresh n) here MappedUids x (allowed, members, (mapped, inl id)) = id
  maps_in (Fresh n) here MappedUids x (allowed, members, (mapped, inr held)) = absurd held
  maps_in (Fresh n) here MappedGids x (allowed, members, (mapped, inl id)) = id
  maps_in (Fresh n) here MappedGids x (allowed, members, (mapped, inr (inl id))) = id
  maps_in (Fresh n) here MappedGids x (allowed, members, (mapped, inr (inr held))) = absurd held
  maps_in _ here _ x added = absurd added

  caps_in : (row : Row) (Set : ℕ → Type 0) → ((x : ℕ) → Set x → ⊥) → (part : Part) (x : ℕ) → OnlyCaps Set part x → plain_bounds row part x
  caps_in row Set none_ PermittedCaps x added = absurd (none_ x added)
  caps_in row Set none_ _ x added = absurd added

  -- The bounds are closed.
  pub plain_closed : Closed all_permitted files first_spaces plain_bounds
  plain_closed SetUid row here part x (allowed, members, added) = spread_uid row (SettableUid (plain_bounds row)) (uid_1000 row) part x added
  plain_closed SetFsUid row here part x (allowed, members, added) = fs_uid row part x added
  plain_closed SetGid row here part x (allowed, members, added) = spread_gid row (SettableGid (plain_bounds row)) (gid_1000 row) part x added
  plain_closed SetFsGid row here part x (allowed, members, added) = fs_gid row part x added
  plain_closed SetGroups row here part x (allowed, members, word, added) = one_group row part x added
  plain_closed CapSet row here part x (allowed, members, added) = inheritable_gain row part x added
  plain_closed SecureBits row here part x (allowed, members, added) = root_gain row part x added
  plain_closed ExecUid row here part x (allowed, members, added) =
      spread_uid row (OwnerByFile files first_spaces (space_under row) (plain_bounds row)) (no_owner row) part x added
  plain_closed ExecGid row here part x (allowed, members, added) =
      spread_gid row (GroupByFile files first_spaces (space_under row) (plain_bounds row)) (no_group row) part x added
  plain_closed ExecCaps (Standing n) here part x (allowed, members, added) =
      caps_in (Standing n) (CapByFile files first_spaces plain_bounds (Standing n)) (λ y held. held.3.0) part x added
  plain_closed ExecCaps (Fresh n) here part x (allowed, members, added) =
      caps_in (Fresh n) (CapByFile files first_spaces plain_bounds (Fresh n)) (λ y held. held.3.0) part x added
  plain_closed ExecRoot (Standing n) here part x (allowed, members, added) =
      caps_in (Standing n) (CapByRoot first_spaces plain_bounds (Standing n)) (λ y held. held.1) part x added
  plain_closed ExecRoot (Fresh n) here part x (allowed, members, added) =
      caps_in (Fresh n) (CapByRoot first_spaces plain_bounds (Fresh n)) (λ y held. held.1) part x added
  plain_closed Create (Fresh n) here part x (allowed, makes, brings) = brings_in n n part x brings
  plain_closed Join (Standing n) here part x (allowed, (a, joins, brings)) = absurd (nothing_above a joins.0 (rw (only_one n here) at joins.1))
  plain_closed Maps row here part x added = maps_in row here part x added
  plain_closed _ _ here part x added = absurd added

-- ---- covering
-- an id that is one of four times 1000
only_1000 : (x : ℕ) → IsTrue (is_one_of_three (all_four 1000) x) → x ≡ 1000
only_1000 x one = go (or_cases (eqb x 1000 || eqb x 1000) (eqb x 1000) one) where
  two : (eqb x 1000 ≡ true) ⊎ (eqb x 1000 ≡ true) → x ≡ 1000
  two (inl same) = eqb-true x 1000 same
  two (inr same) = eqb-true x 1000 same

  go : ((eqb x 1000 || eqb x 1000) ≡ true) ⊎ (eqb x 1000 ≡ true) → x ≡ 1000
  go (inl first) = two (or_cases (eqb x 1000) (eqb x 1000) first)
  go (inr same) = eqb-true x 1000 same

member_in : (n : ℕ) (part : Part) (x : ℕ) → CredHas plain_cred part x → plain_bounds (Standing n) part x
member_in n Uids x has = only_1000 x has
member_in n Gids x has = only_1000 x has
member_in n Groups x has = false≢true has
member_in n MappedUids x has = absurd has
member_in n MappedGids x has = absurd has
member_in n PermittedCaps x has = false≢true (sym (holds_none x) ∙ has)
member_in n InheritableCaps x has = false≢true (sym (holds_none x) ∙ has)
member_in n BoundingCaps x has = false≢true (sym (holds_none x) ∙ has)
member_in n NewPrivs x has = false≢true (sym has.1)
member_in n RootCounts x has = has.0
member_in n LockClear x has = has.0
member_in n _ x has = has

-- the outside ids of the initial space's maps are the ids
id_below : (x : ℕ) → IsTrue (is_outside (extents_of (Some (record { inside = 0; outside = 0; length = id_count } ∷ []))) x) → x < id_count
id_below x out = go (lies_in 0 id_count x) refl out where
  go : (b : Bool) → lies_in 0 id_count x ≡ b → IsTrue (if b then true else false) → x < id_count
  go true inside _ = ltb-true x id_count (and_parts (leb 0 x) (ltb x id_count) inside).1
  go false outside wrong = absurd (false≢true wrong)

maps_of : (n : ℕ) (part : Part) (x : ℕ) → SpaceMaps (space_of first_spaces n) part x → plain_bounds (Standing n) part x
maps_of n MappedUids x out =
    elim (cases_eq n 0) [
      | inl same ↦ id_below x (rw same at out)
      | inr other ↦ absurd (false≢true (rw (space_of_older initial_space [] n other) at out))
    ]
maps_of n MappedGids x out =
    elim (cases_eq n 0) [
      | inl same ↦ id_below x (rw same at out)
      | inr other ↦ absurd (false≢true (rw (space_of_older initial_space [] n other) at out))
    ]
maps_of n _ x out = absurd out

start_within : HoldsStart plain_state (100 ∷ []) plain_bounds
start_within (Standing n) here part x (inl (pid, p, member, at, space, has)) =
    member_in n part x (rw (ap (λ (q : Process). q.cred) (sym (is_it pid p at))) at has) where
      is_it : (pid : ℕ) (p : Process) → process_at (plain_process ∷ []) pid ≡ Some p → plain_process ≡ p
      is_it pid p at = go (eqb 100 pid) at where
        go : (b : Bool) → (if b then Some plain_process else None) ≡ Some p → plain_process ≡ p
        go true same = cc
        go false same = absurd (cc)
start_within (Standing n) here part x (inr maps) = maps_of n part x maps
start_within (Fresh n) here part x wrong = absurd wrong

-- ---- what the state keeps
one_process : (P : Process → Type 0) → P plain_process → All P (plain_process ∷ [])
one_process P held zero d low = held
one_process P held (suc k) d low = absurd (omega arith)

plain_fits : StateFits plain_state
plain_fits = record {
  tree = refl;
  stands = one_process (λ p. p.space < 1) (lit< tt);
  included = one_process (λ p. Included p.cred) (record { effective = refl; ambient_permitted = refl; ambient_inheritable = refl });
}

-- ---- the case
pub plain_stays_plain : PlainStaysPlain
plain_stays_plain w files events later members run pid member =
    (λ id other. never (Uid id) tt (no_uid id other), λ capability. never (Cap capability 0) refl (no_cap capability)) where
      never : (right : Right) → IsOverStanding first_spaces right → (Meets first_spaces plain_bounds right → ⊥) → process_holds later pid right ≡ false
      never right standing apart =
          exclusion all_permitted all_permitted w plain_state (100 ∷ []) plain_bounds (fits_starts plain_state plain_fits) files
          (covers_start plain_state (100 ∷ []) plain_bounds plain_fits start_within) (plain_closed w.files) (λ pid member kind may. refl)
          right standing apart events later members run pid member

      no_uid : (id : ℕ) → (id ≡ 1000 → ⊥) → Meets first_spaces plain_bounds (Uid id) → ⊥
      no_uid id other (Standing n, here, same) = other same
      no_uid id other (Fresh n, here, same) = other same

      no_cap : (capability : ℕ) → Meets first_spaces plain_bounds (Cap capability 0) → ⊥
      no_cap capability (Standing a, here, inl (above, members', held)) = held
      no_cap capability (Standing a, here, inr (m, next, owner)) = nothing_above a m next
      no_cap capability (Fresh a, here, wrong) = wrong
