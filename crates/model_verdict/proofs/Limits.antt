-- What the sweep ever gives is below the limit of its part.
use Rattle.std.proofs.Common.{refl, ◌≡◌, ℕ, suc, ◌+◌, ◌<◌, ◌≤◌, ◌==◌, ◌||◌, Bool, true, List, [], ◌∷◌, Option, Some, sym, ◌∙◌, inl, inr, subst, arith}
use Rattle.std.specs.Prelude.{IsTrue, nat_le, nat_lt}
use Rattle.std.specs.List.{list_any}
use Rattle.std.proofs.lemmas.Bool.{cases_Bool, cond-false, and_parts, or_cases, eqb-true, ltb-true}
use Rattle.cm_base.specs.CapSet.{holds, full, cap_count, IsCapSet}
use Rattle.cm_base.proofs.CapSets.{holds_full, within_full, member_of_wider}
use Rattle.cm_base.specs.Limits.{id_count}
use Rattle.cm_filter.specs.declared.kind.CallKind.{CallKind}
use Rattle.model_cred.specs.Credential.{Credential, FourIds, AreIds, AscendFrom, Keeps, is_one_of_three}
use Rattle.model_cred.specs.Files.{FileTable}
use Rattle.model_cred.specs.IdMap.{Extent, HasIds, extents_of, is_outside, lies_in}
use Rattle.model_cred.specs.Process.{Process, State, KeepsState}
use Rattle.model_cred.specs.Space.{Space, Spaces, KeepsSpace, space_of}
use Rattle.model_rules.proofs.Spaces.{keeps_space_of}
use Rattle.model_rules.specs.FileView.{view}
use Rattle.model_box.specs.Row.{Part, Uids, EffectiveUids, FsUids, Gids, EffectiveGids, FsGids, Groups, MappedUids, MappedGids}
use Rattle.model_box.specs.Row.{PermittedCaps, InheritableCaps, BoundingCaps, NewPrivs, RootCounts, LockClear, Row, Standing, Fresh}
use Rattle.model_box.specs.Row.{space_under, CredHas}
use Rattle.model_box.specs.Rule.{Rule, SetUid, SetFsUid, SetGid, SetFsGid, SetGroups, CapSet, SecureBits, ExecUid}
use Rattle.model_box.specs.Rule.{ExecGid, ExecCaps, ExecRoot, Create, Join, Maps}
use Rattle.model_box.specs.Closed.{Adds, OwnerByFile, GroupByFile, ByMaps}
use Rattle.model_box.specs.Files.{IdIn}
use Rattle.model_box.specs.Gains.{SettableUid, SettableGid, SpreadsUid, SpreadsGid, GainsFsUid, GainsFsGid, GainsGroups, GainsInheritable, GainsRoot}
use Rattle.model_box.specs.Spread.{Brings}
use Rattle.model_box.specs.Start.{StartHas, SpaceMaps}
use Rattle.model_box.proofs.Excludes.{all_named}
use Rattle.model_verdict.specs.Rows.{part_limit}

-- ---- what rules add
-- a limit of ids, one of capabilities, and one of flags
abbrev pub part_bar : (ids caps flag : ℕ) → Part → ℕ
part_bar ids caps flag PermittedCaps = caps
part_bar ids caps flag InheritableCaps = caps
part_bar ids caps flag BoundingCaps = caps
part_bar ids caps flag NewPrivs = flag
part_bar ids caps flag RootCounts = flag
part_bar ids caps flag LockClear = flag
part_bar ids caps flag _ = ids

module _ (ids caps flag : ℕ) (row : Part → ℕ → Type 0) (low : (part : Part) (x : ℕ) → row part x → x < part_bar ids caps flag part)
    (all_caps : cap_count ≤ caps) (zero_flag : 0 < flag) where
  settable_uid_low : (x : ℕ) → SettableUid row x → x < ids
  settable_uid_low x (inl (own, mapped)) = low MappedUids x mapped
  settable_uid_low x (inr (cap, mapped)) = low MappedUids x mapped

  settable_gid_low : (x : ℕ) → SettableGid row x → x < ids
  settable_gid_low x (inl (own, mapped)) = low MappedGids x mapped
  settable_gid_low x (inr (cap, mapped)) = low MappedGids x mapped

  spreads_uid_low : (New : ℕ → Type 0) → ((x : ℕ) → New x → x < ids) → (part : Part) (x : ℕ) → SpreadsUid row New part x → x < part_bar ids caps flag part
  spreads_uid_low New new EffectiveUids x is = new x is
  spreads_uid_low New new Uids x (inl is) = low EffectiveUids x is
  spreads_uid_low New new Uids x (inr is) = new x is
  spreads_uid_low New new FsUids x (inl is) = low EffectiveUids x is
  spreads_uid_low New new FsUids x (inr is) = new x is
  spreads_uid_low New new _ x wrong = absurd wrong

  spreads_gid_low : (New : ℕ → Type 0) → ((x : ℕ) → New x → x < ids) → (part : Part) (x : ℕ) → SpreadsGid row New part x → x < part_bar ids caps flag part
  spreads_gid_low New new EffectiveGids x is = new x is
  spreads_gid_low New new Gids x (inl is) = low EffectiveGids x is
  spreads_gid_low New new Gids x (inr is) = new x is
  spreads_gid_low New new FsGids x (inl is) = low EffectiveGids x is
  spreads_gid_low New new FsGids x (inr is) = new x is
  spreads_gid_low New new _ x wrong = absurd wrong

  fs_uid_low : (part : Part) (x : ℕ) → GainsFsUid row part x → x < part_bar ids caps flag part
  fs_uid_low FsUids x is = settable_uid_low x is
  fs_uid_low _ x wrong = absurd wrong

  fs_gid_low : (part : Part) (x : ℕ) → GainsFsGid row part x → x < part_bar ids caps flag part
  fs_gid_low FsGids x is = settable_gid_low x is
  fs_gid_low _ x wrong = absurd wrong

  groups_low : (part : Part) (x : ℕ) → GainsGroups row part x → x < part_bar ids caps flag part
  groups_low Groups x (cap, mapped) = low MappedGids x mapped
  groups_low _ x wrong = absurd wrong

  inheritable_low : (part : Part) (x : ℕ) → GainsInheritable row part x → x < part_bar ids caps flag part
  inheritable_low InheritableCaps x (inl (permitted, bounding)) = low BoundingCaps x bounding
  inheritable_low InheritableCaps x (inr (cap, bounding)) = low BoundingCaps x bounding
  inheritable_low _ x wrong = absurd wrong

  zero_low : (x : ℕ) → x ≡ 0 → x < flag
  zero_low x is = omega (arith, is, zero_flag)

  root_low : (part : Part) (x : ℕ) → GainsRoot row part x → x < part_bar ids caps flag part
  root_low RootCounts x (is, cap, lock) = zero_low x is
  root_low _ x wrong = absurd wrong

  full_low : (x : ℕ) → IsTrue (holds full x) → x < caps
  full_low x held = let low : x < cap_count = ltb-true x cap_count (sym (holds_full x) ∙ held) in omega (arith, low, all_caps)

  brings_low : (part : Part) (x : ℕ) → Brings row part x → x < part_bar ids caps flag part
  brings_low Uids x is = low Uids x is
  brings_low EffectiveUids x is = low EffectiveUids x is
  brings_low FsUids x is = low FsUids x is
  brings_low Gids x is = low Gids x is
  brings_low EffectiveGids x is = low EffectiveGids x is
  brings_low FsGids x is = low FsGids x is
  brings_low Groups x is = low Groups x is
  brings_low PermittedCaps x held = full_low x held
  brings_low BoundingCaps x held = full_low x held
  brings_low NewPrivs x is = low NewPrivs x is
  brings_low RootCounts x is = zero_low x is
  brings_low LockClear x is = zero_low x is
  brings_low _ x wrong = absurd wrong

  in_part : (id : Option ℕ) (part : Part) (x : ℕ) → id ≡ Some x → IdIn id (row part) → x < part_bar ids caps flag part
  in_part id part x is held = low part x (subst (λ (o : Option ℕ). IdIn o (row part)) is held)

module _ (ids caps flag : ℕ) (permitted : CallKind → Bool) (files : FileTable) (spaces : Spaces) (bounds : Row → Part → ℕ → Type 0)
    (low : (row : Row) (part : Part) (x : ℕ) → bounds row part x → x < part_bar ids caps flag part)
    (all_caps : cap_count ≤ caps) (zero_flag : 0 < flag) where
  owner_file_low : (n : ℕ) (row : Row) (x : ℕ) → OwnerByFile files spaces n (bounds row) x → x < ids
  owner_file_low n row x (k, program, runs, (free, raises, owner, group), bit, is) =
      in_part ids caps flag (bounds row) (low row) all_caps zero_flag (view files k).owner MappedUids x is owner

  group_file_low : (n : ℕ) (row : Row) (x : ℕ) → GroupByFile files spaces n (bounds row) x → x < ids
  group_file_low n row x (k, program, runs, (free, raises, owner, group), bit, both, is) =
      in_part ids caps flag (bounds row) (low row) all_caps zero_flag (view files k).group MappedGids x is group

  maps_low : (row : Row) (part : Part) (x : ℕ) → ByMaps permitted spaces bounds row part x → x < part_bar ids caps flag part
  maps_low (Standing n) MappedUids x (may, none, (q, parent, (mapped, cause))) = low (Standing q) MappedUids x mapped
  maps_low (Standing n) MappedGids x (may, none, (q, parent, (mapped, cause))) = low (Standing q) MappedGids x mapped
  maps_low (Fresh n) MappedUids x (may, has, (mapped, cause)) = low (Standing n) MappedUids x mapped
  maps_low (Fresh n) MappedGids x (may, has, (mapped, cause)) = low (Standing n) MappedGids x mapped
  maps_low _ _ x wrong = absurd wrong

  pub adds_low : (rule : Rule) (row : Row) (part : Part) (x : ℕ) → Adds permitted files spaces bounds rule row part x → x < part_bar ids caps flag part
  adds_low SetUid row part x (may, has, is) =
      spreads_uid_low ids caps flag (bounds row) (low row) all_caps zero_flag (SettableUid (bounds row)) (settable_uid_low ids caps flag (bounds row) (low row) all_caps zero_flag) part x is
  adds_low SetFsUid row part x (may, has, is) = fs_uid_low ids caps flag (bounds row) (low row) all_caps zero_flag part x is
  adds_low SetGid row part x (may, has, is) =
      spreads_gid_low ids caps flag (bounds row) (low row) all_caps zero_flag (SettableGid (bounds row)) (settable_gid_low ids caps flag (bounds row) (low row) all_caps zero_flag) part x is
  adds_low SetFsGid row part x (may, has, is) = fs_gid_low ids caps flag (bounds row) (low row) all_caps zero_flag part x is
  adds_low SetGroups row part x (may, has, word, is) = groups_low ids caps flag (bounds row) (low row) all_caps zero_flag part x is
  adds_low CapSet row part x (may, has, is) = inheritable_low ids caps flag (bounds row) (low row) all_caps zero_flag part x is
  adds_low SecureBits row part x (may, has, is) = root_low ids caps flag (bounds row) (low row) all_caps zero_flag part x is
  adds_low ExecUid row part x (may, has, is) =
      spreads_uid_low ids caps flag (bounds row) (low row) all_caps zero_flag (OwnerByFile files spaces (space_under row) (bounds row))
      (owner_file_low (space_under row) row) part x is
  adds_low ExecGid row part x (may, has, is) =
      spreads_gid_low ids caps flag (bounds row) (low row) all_caps zero_flag (GroupByFile files spaces (space_under row) (bounds row))
      (group_file_low (space_under row) row) part x is
  adds_low ExecCaps row PermittedCaps x (may, has, (k, program, runs, takes, inl (inheritable, held))) = low row InheritableCaps x inheritable
  adds_low ExecCaps row PermittedCaps x (may, has, (k, program, runs, takes, inr (held, bounding))) = low row BoundingCaps x bounding
  adds_low ExecCaps row _ x (may, has, wrong) = absurd wrong
  adds_low ExecRoot row PermittedCaps x (may, has, (counts, free, zero_in, inl inheritable)) = low row InheritableCaps x inheritable
  adds_low ExecRoot row PermittedCaps x (may, has, (counts, free, zero_in, inr bounding)) = low row BoundingCaps x bounding
  adds_low ExecRoot row _ x (may, has, wrong) = absurd wrong
  adds_low Create (Standing n) part x wrong = absurd wrong
  adds_low Create (Fresh n) part x (may, makes, is) = brings_low ids caps flag (bounds (Standing n)) (low (Standing n)) all_caps zero_flag part x is
  adds_low Join (Standing n) part x (may, (a, joins, is)) = brings_low ids caps flag (bounds (Standing a)) (low (Standing a)) all_caps zero_flag part x is
  adds_low Join (Fresh n) part x wrong = absurd wrong
  adds_low Maps row part x is = maps_low row part x is

-- ---- the start
three_low : (ids : FourIds) (x : ℕ) → AreIds ids → is_one_of_three ids x ≡ true → x < id_count
three_low ids x are one = elim (or_cases (x == ids.real || x == ids.effective) (x == ids.saved) one) [
  | inl first ↦ elim (or_cases (x == ids.real) (x == ids.effective) first) [
    | inl real ↦ subst (λ (k : ℕ). k < id_count) (sym (eqb-true x ids.real real)) are.real
    | inr effective ↦ subst (λ (k : ℕ). k < id_count) (sym (eqb-true x ids.effective effective)) are.effective
  ]
  | inr saved ↦ subst (λ (k : ℕ). k < id_count) (sym (eqb-true x ids.saved saved)) are.saved
]

group_low : (from : ℕ) (groups : List ℕ) (x : ℕ) → AscendFrom from groups → list_any (λ group. group == x) groups ≡ true → x < id_count
group_low from [] x ascend wrong = absurd (cc)
group_low from (group ∷ groups) x (low, is, rest) held = elim (or_cases (group == x) (list_any (λ g. g == x) groups) held) [
  | inl same ↦ subst (λ (k : ℕ). k < id_count) (eqb-true group x same) is
  | inr later ↦ group_low (group + 1) groups x rest later
]

cap_low : (set x : ℕ) → IsCapSet set → holds set x ≡ true → x < cap_count
cap_low set x is held = ltb-true x cap_count (sym (holds_full x) ∙ member_of_wider set full (within_full set is) x held)

flag_low : (x : ℕ) → x ≡ 0 → x < 1
flag_low x is = omega (arith, is)

cred_low : (c : Credential) → Keeps c → (part : Part) (x : ℕ) → CredHas c part x → x < part_limit part
cred_low c keeps Uids x has = three_low c.uid x keeps.uid has
cred_low c keeps EffectiveUids x has = subst (λ (k : ℕ). k < id_count) (sym has) keeps.uid.effective
cred_low c keeps FsUids x has = subst (λ (k : ℕ). k < id_count) (sym has) keeps.uid.fs
cred_low c keeps Gids x has = three_low c.gid x keeps.gid has
cred_low c keeps EffectiveGids x has = subst (λ (k : ℕ). k < id_count) (sym has) keeps.gid.effective
cred_low c keeps FsGids x has = subst (λ (k : ℕ). k < id_count) (sym has) keeps.gid.fs
cred_low c keeps Groups x has = group_low 0 c.groups x keeps.groups has
cred_low c keeps MappedUids x wrong = absurd wrong
cred_low c keeps MappedGids x wrong = absurd wrong
cred_low c keeps PermittedCaps x has = cap_low c.permitted x keeps.permitted has
cred_low c keeps InheritableCaps x has = cap_low c.inheritable x keeps.inheritable has
cred_low c keeps BoundingCaps x has = cap_low c.bounding x keeps.bounding has
cred_low c keeps NewPrivs x (is, clear) = flag_low x is
cred_low c keeps RootCounts x (is, clear) = flag_low x is
cred_low c keeps LockClear x (is, clear) = flag_low x is

outside_low : (map : List Extent) (x : ℕ) → HasIds map → is_outside map x ≡ true → x < id_count
outside_low [] x ids wrong = absurd (cc)
outside_low (e ∷ map) x ids held = elim (cases_Bool (lies_in e.outside e.length x)) [
  | inl here ↦
      let low : x < e.outside + e.length = ltb-true x (e.outside + e.length) (and_parts (nat_le e.outside x) (nat_lt x (e.outside + e.length)) here).1 in
      let fits : e.outside + e.length ≤ id_count = ids 0 e (omega arith) in
      omega (arith, low, fits)
  | inr later ↦
      outside_low map x (λ k d low. ids (suc k) d (omega (arith, low)))
      (sym (cond-false (lies_in e.outside e.length x) true (is_outside map x) later) ∙ held)
]

space_low : (space : Space) → KeepsSpace space → (part : Part) (x : ℕ) → SpaceMaps space part x → x < part_limit part
space_low space keeps MappedUids x held = outside_low (extents_of space.uids) x keeps.uids held
space_low space keeps MappedGids x held = outside_low (extents_of space.gids) x keeps.gids held
space_low space keeps _ x wrong = absurd wrong

pub start_low : (s : State) (members : List ℕ) → KeepsState s → (row : Row) (part : Part) (x : ℕ) → StartHas s members row part x → x < part_limit part
start_low s members keeps (Standing n) part x (inl (pid, p, member, at, space, has)) =
    cred_low p.cred (all_named (λ (q : Process). Keeps q.cred) s.processes keeps.credentials pid p at) part x has
start_low s members keeps (Standing n) part x (inr maps) =
    space_low (space_of s.spaces n) (keeps_space_of s.spaces n keeps.spaces) part x maps
start_low s members keeps (Fresh n) part x wrong = absurd wrong

-- the limits of the parts are such
pub limit_is : (part : Part) → part_limit part ≡ part_bar id_count cap_count 1 part
limit_is Uids = refl
limit_is _ = refl

-- and so is one limit for all
pub one_bar : (limit : ℕ) (part : Part) → part_bar limit limit limit part ≡ limit
one_bar limit Uids = refl
one_bar limit _ = refl

-- each limit of a part is at most that of ids
pub limit_low : (part : Part) → part_limit part ≤ id_count
limit_low Uids = omega arith
limit_low _ = omega arith
