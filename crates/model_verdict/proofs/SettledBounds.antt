-- The bounds of a settled family, written out: they are closed and cover the members.
use Rattle.std.proofs.Common.{◌≡◌, ℕ, ◌==◌, ◌&&◌, ◌||◌, not, Bool, true, false, List, Option, None, Some}
use Rattle.std.proofs.Common.{refl, sym, ap, ◌∙◌, inl, inr, subst, length}
use Rattle.std.specs.Prelude.{IsTrue, is_some, is_none}
use Rattle.std.specs.List.{list_any}
use Rattle.std.proofs.lemmas.Bool.{and_parts, and_from, or_cases, or_left, or_right, eqb-true, eq-eqb, false≢true, not_from_false, or_from, ltb-true}
use Rattle.cm_base.specs.CapSet.{holds, none}
use Rattle.cm_base.proofs.CapSets.{holds_none}
use Rattle.cm_filter.specs.declared.kind.CallKind.{CallKind}
use Rattle.cm_filter.specs.declared.kind.CallKind.TheVariants as kind
use Rattle.model_cred.specs.Credential.{FourIds, is_one_of_three}
use Rattle.model_cred.specs.Files.{FileTable}
use Rattle.model_cred.specs.IdMap.{Extent, extents_of, is_outside, is_the, down}
use Rattle.model_cred.specs.Process.{Process, State, process_at}
use Rattle.model_cred.specs.Space.{Space, Spaces, IsTree, space_of, stands, is_at_or_above, chain}
use Rattle.model_rules.specs.FileView.{view, has_bit, may_raise_in, is_mapped_id, allows_set_id, takes_attribute, is_same_id}
use Rattle.model_rules.specs.Securebits.{has_flag, noroot}
use Rattle.model_rules.specs.Zero.{zero_of, is_zero, has_zero}
use Rattle.model_run.specs.Later.{is_member}
use Rattle.model_box.specs.Row.{Part, Uids, EffectiveUids, FsUids, Gids, EffectiveGids, FsGids, Groups, MappedUids, MappedGids}
use Rattle.model_box.specs.Row.{PermittedCaps, InheritableCaps, BoundingCaps, NewPrivs, RootCounts, LockClear, Row, Standing, Fresh}
use Rattle.model_box.specs.Row.{row_at, CredHas, HasMembers, IsWithin}
use Rattle.model_box.specs.Rule.{Rule, SetUid, SetFsUid, SetGid, SetFsGid, SetGroups, CapSet, SecureBits, ExecUid}
use Rattle.model_box.specs.Rule.{ExecGid, ExecCaps, ExecRoot, Create, Join, Maps}
use Rattle.model_box.specs.Closed.{ClosedAt, Closed, OwnerByFile, GroupByFile, CapByFile, CapByRoot}
use Rattle.model_box.specs.Files.{IdIn, MayBeZero, SetIdCan, is_program}
use Rattle.model_box.specs.Covers.{StateFits}
use Rattle.model_box.specs.Encloses.{Encloses}
use Rattle.model_box.specs.Laws.{tested}
use Rattle.model_box.specs.Start.{SpaceMaps, HoldsStart}
use Rattle.model_box.proofs.Monotone.{adds_more}
use Rattle.model_box.proofs.Starts.{row_back, covers_start}
use Rattle.model_box.proofs.Trees.{at_or_above_self}
use Rattle.model_box.proofs.Excludes.{tree_earlier}
use Rattle.model_verdict.specs.Least.{Test}
use Rattle.model_verdict.specs.Settled.{Settled, serves, NoneServes, RootGainsNone, ProgramsGiveNone, AreWritten}
use Rattle.model_verdict.proofs.Members.{any_at, some_in, MemberIn, some_from, some_which}

-- ---- the bounds
-- the id is one that the map may hold: an outside id of a written map
abbrev pub may_map : Option (List Extent) → ℕ → Bool
may_map None x = true
may_map (Some map) x = is_outside map x

-- one of the three calls that make an id the effective one is permitted
abbrev pub uid_calls_permitted : (CallKind → Bool) → Bool
uid_calls_permitted permitted = permitted kind.SetUid || permitted kind.SetReUid || permitted kind.SetResUid

abbrev pub gid_calls_permitted : (CallKind → Bool) → Bool
gid_calls_permitted permitted = permitted kind.SetGid || permitted kind.SetReGid || permitted kind.SetResGid

-- What a settled family can have: user and group ids, groups and bounding sets are those of the start; where the calls
-- are permitted, each mapped one of three ids can be the effective one. There are no capabilities.
abbrev pub reached : (CallKind → Bool) → State → List ℕ → Row → Part → ℕ → Bool
reached permitted s members (Fresh n) part x = false
reached permitted s members (Standing n) Uids x = some_in s members n (λ c. is_one_of_three c.uid x)
reached permitted s members (Standing n) EffectiveUids x =
    some_in s members n (λ c. x == c.uid.effective)
    || (uid_calls_permitted permitted && may_map (space_of s.spaces n).uids x && some_in s members n (λ c. is_one_of_three c.uid x))
reached permitted s members (Standing n) FsUids x = true
reached permitted s members (Standing n) Gids x = some_in s members n (λ c. is_one_of_three c.gid x)
reached permitted s members (Standing n) EffectiveGids x =
    some_in s members n (λ c. x == c.gid.effective)
    || (gid_calls_permitted permitted && may_map (space_of s.spaces n).gids x && some_in s members n (λ c. is_one_of_three c.gid x))
reached permitted s members (Standing n) FsGids x = true
reached permitted s members (Standing n) Groups x = some_in s members n (λ c. list_any (λ group. group == x) c.groups)
reached permitted s members (Standing n) MappedUids x = may_map (space_of s.spaces n).uids x
reached permitted s members (Standing n) MappedGids x = may_map (space_of s.spaces n).gids x
reached permitted s members (Standing n) PermittedCaps x = false
reached permitted s members (Standing n) InheritableCaps x = false
reached permitted s members (Standing n) BoundingCaps x = some_in s members n (λ c. holds c.bounding x)
reached permitted s members (Standing n) NewPrivs x = x == 0 && some_in s members n (λ c. not c.no_new_privs)
reached permitted s members (Standing n) RootCounts x = x == 0 && some_in s members n (λ c. not (has_flag c noroot))
reached permitted s members (Standing n) LockClear x = true

-- as a test by the numbers of rows
abbrev pub reached_test : (CallKind → Bool) → State → List ℕ → Test
reached_test permitted s members y part x = reached permitted s members (row_at y) part x

-- ---- ids
mapped_id : (map : Option (List Extent)) (id : Option ℕ) → is_some map ≡ true → IdIn id (λ x. IsTrue (may_map map x)) → is_mapped_id (extents_of map) id ≡ true
mapped_id None id wrong held = absurd (cc)
mapped_id (Some map) None written held = absurd held
mapped_id (Some map) (Some x) written held = held

mapped_start : (map : Option (List Extent)) (x : ℕ) → is_outside (extents_of map) x ≡ true → may_map map x ≡ true
mapped_start None x held = refl
mapped_start (Some map) x held = held

-- an id that may be inside 0 of a space whose map is written is
zero_written : (space : Space) (Mapped : ℕ → Type 0) (x : ℕ) → is_some space.uids ≡ true → MayBeZero space.uids Mapped x → is_zero space x ≡ true
zero_written space Mapped x written held = by space.uids written held
  where
    by : (map : Option (List Extent)) → is_some map ≡ true → MayBeZero map Mapped x → is_the (down (extents_of map) 0) x ≡ true
    by None wrong zero = absurd (cc)
    by (Some map) is zero = zero

same_id : (space : Space) (Mapped : ℕ → Type 0) (id : Option ℕ) → is_some space.uids ≡ true → IdIn id (MayBeZero space.uids Mapped)
    → is_same_id id (zero_of space) ≡ true
same_id space Mapped None written held = absurd held
same_id space Mapped (Some x) written held = by (zero_of space) (zero_written space Mapped x written held)
  where
    by : (o : Option ℕ) → is_the o x ≡ true → is_same_id (Some x) o ≡ true
    by None wrong = absurd (cc)
    by (Some k) same = same

-- one of three ids that is inside 0
three_zero : (space : Space) (ids : FourIds) (x : ℕ) → is_one_of_three ids x ≡ true → is_zero space x ≡ true → has_zero space ids ≡ true
three_zero space ids x one zero = elim (or_cases (x == ids.real || x == ids.effective) (x == ids.saved) one) [
  | inl first ↦ or_left _ (is_zero space ids.saved) (elim (or_cases (x == ids.real) (x == ids.effective) first) [
    | inl real ↦ or_left (is_zero space ids.real) (is_zero space ids.effective) (is ids.real real)
    | inr effective ↦ or_right (is_zero space ids.real) (is_zero space ids.effective) (is ids.effective effective)
  ])
  | inr saved ↦ or_right _ (is_zero space ids.saved) (is ids.saved saved)
] where
  is : (id : ℕ) → (x == id) ≡ true → is_zero space id ≡ true
  is id same = subst (λ (k : ℕ). is_zero space k ≡ true) (eqb-true x id same) zero

effective_of_three : (ids : FourIds) (x : ℕ) → (x == ids.effective) ≡ true → is_one_of_three ids x ≡ true
effective_of_three ids x same = or_left _ (x == ids.saved) (or_right (x == ids.real) (x == ids.effective) same)

-- a row serves by its attribute, its set-user-ID bit, or its set-group-ID bit
by_attribute : (files : FileTable) (spaces : Spaces) (n row : ℕ) → takes_attribute spaces n (view files row) ≡ true → serves files spaces n row ≡ true
by_attribute files spaces n row takes =
    or_left _ (allows_set_id spaces n (view files row) && has_bit (view files row) 0o2000 && has_bit (view files row) 0o010)
    (or_left _ (allows_set_id spaces n (view files row) && has_bit (view files row) 0o4000) takes)

by_user_bit : (files : FileTable) (spaces : Spaces) (n row : ℕ) → allows_set_id spaces n (view files row) ≡ true
    → has_bit (view files row) 0o4000 ≡ true → serves files spaces n row ≡ true
by_user_bit files spaces n row allows bit =
    or_left _ (allows_set_id spaces n (view files row) && has_bit (view files row) 0o2000 && has_bit (view files row) 0o010)
    (or_right (takes_attribute spaces n (view files row)) _ (and_from _ _ allows bit))

by_group_bit : (files : FileTable) (spaces : Spaces) (n row : ℕ) → allows_set_id spaces n (view files row) ≡ true
    → has_bit (view files row) 0o2000 ≡ true → has_bit (view files row) 0o010 ≡ true → serves files spaces n row ≡ true
by_group_bit files spaces n row allows bit runs =
    or_right (takes_attribute spaces n (view files row) || (allows_set_id spaces n (view files row) && has_bit (view files row) 0o4000)) _
    (and_from _ _ (and_from _ _ allows bit) runs)

no_more : (b : Bool) → b ≡ true → not b ≡ true → ⊥
no_more true is other = false≢true other
no_more false is other = false≢true is

module _ (permitted : CallKind → Bool) (files : FileTable) (s : State) (members : List ℕ) (settled : Settled permitted files s members)
    (tree : IsTree s.spaces) where
  abbrev Reached : Row → Part → ℕ → Type 0
  Reached row part x = IsTrue (reached permitted s members row part x)

  -- a row with members has one of the family
  member_of : (n : ℕ) → HasMembers (Reached (Standing n)) → (x : ℕ) × MemberIn s members n (λ c. is_one_of_three c.uid x)
  member_of n (x, held) = elim (or_cases _ _ held) [
    | inl now ↦
        let it : MemberIn s members n (λ c. x == c.uid.effective) = some_which s members n (λ c. x == c.uid.effective) now in (
          x,
          record {
            pid = it.pid;
            p = it.p;
            member = it.member;
            at = it.at;
            space = it.space;
            passes = effective_of_three it.p.cred.uid x it.passes;
          },
        )
    | inr later ↦ (x, some_which s members n (λ c. is_one_of_three c.uid x) (and_parts _ _ later).1)
  ]

  -- the maps of its space and of those above are written
  written_of : (n : ℕ) → HasMembers (Reached (Standing n)) → (a : ℕ) → IsTrue (is_at_or_above s.spaces a n) → AreWritten (space_of s.spaces a)
  written_of n has a above =
      let (x, it) = member_of n has in
      (settled.plain it.pid it.p it.member it.at).written a (subst (λ (m : ℕ). IsTrue (is_at_or_above s.spaces a m)) (sym it.space) above)

  here_written : (n : ℕ) → HasMembers (Reached (Standing n)) → IsTrue (stands s.spaces n) → AreWritten (space_of s.spaces n)
  here_written n has standing =
      written_of n has n (at_or_above_self s.spaces (tree_earlier s.spaces tree) n (ltb-true n (length s.spaces) standing))

  -- ---- programs
  -- who may lack no_new_privs in the row
  may_gain : (n : ℕ) → Reached (Standing n) NewPrivs 0 → MemberIn s members n (λ c. not c.no_new_privs)
  may_gain n held = some_which s members n (λ c. not c.no_new_privs) (and_parts (0 == 0) _ held).1

  -- then programs serve nobody
  else_none : (n : ℕ) → Reached (Standing n) NewPrivs 0 → NoneServes files s members × RootGainsNone s members
  else_none n held = by settled.programs where
    by : ProgramsGiveNone files s members → NoneServes files s members × RootGainsNone s members
    by (inl all) =
        let it : MemberIn s members n (λ c. not c.no_new_privs) = may_gain n held in
        absurd (no_more it.p.cred.no_new_privs (all it.pid it.p it.member it.at) it.passes)
    by (inr given) = given

  none_serves : (n k : ℕ) → Reached (Standing n) NewPrivs 0 → IsTrue (is_program files k) → serves files s.spaces n k ≡ true → ⊥
  none_serves n k held program serving =
      let it : MemberIn s members n (λ c. not c.no_new_privs) = may_gain n held in
      false≢true
      (sym (subst (λ (m : ℕ). serves files s.spaces m k ≡ false) it.space ((else_none n held).0 it.pid it.p it.member it.at k program)) ∙ serving)

  -- set-id bits that can count do count
  bits_count : (n k : ℕ) → AreWritten (space_of s.spaces n) → SetIdCan s.spaces n (Reached (Standing n)) (view files k)
      → allows_set_id s.spaces n (view files k) ≡ true
  bits_count n k written (free, raises, owner, group) =
      and_from (may_raise_in s.spaces n (view files k)) _ raises
      (and_from _ _
      (mapped_id (space_of s.spaces n).uids (view files k).owner written.uids owner)
      (mapped_id (space_of s.spaces n).gids (view files k).group written.gids group))

  no_owner : (n x : ℕ) → AreWritten (space_of s.spaces n) → OwnerByFile files s.spaces n (Reached (Standing n)) x → ⊥
  no_owner n x written (k, program, runs, can, bit, owner) =
      none_serves n k can.0 program
      (by_user_bit files s.spaces n k (bits_count n k written can) bit)

  no_group : (n x : ℕ) → AreWritten (space_of s.spaces n) → GroupByFile files s.spaces n (Reached (Standing n)) x → ⊥
  no_group n x written (k, program, runs, can, bit, both, group) =
      none_serves n k can.0 program
      (by_group_bit files s.spaces n k (bits_count n k written can) bit both)

  no_attribute : (n x : ℕ) → ((a : ℕ) → IsTrue (is_at_or_above s.spaces a n) → AreWritten (space_of s.spaces a))
      → CapByFile files s.spaces Reached (Standing n) x → ⊥
  no_attribute n x written (k, program, runs, (free, has, raises, (a, above, root)), gives) =
      none_serves n k free program
      (by_attribute files s.spaces n k
      (and_from _ _ (and_from (is_some (view files k).caps) (may_raise_in s.spaces n (view files k)) has raises)
      (any_at (λ m. is_same_id (view files k).root (zero_of (space_of s.spaces m))) (chain s.spaces n) a above
      (same_id (space_of s.spaces a) (Reached (Standing a) MappedUids) (view files k).root (written a above).uids root))))

  no_root : (n x : ℕ) → AreWritten (space_of s.spaces n) → CapByRoot s.spaces Reached (Standing n) x → ⊥
  no_root n x written (counts, free, (id, has, zero), inl held) = false≢true held
  no_root n x written (counts, free, (id, has, zero), inr held) = by (else_none n free).1 where
    by : RootGainsNone s members → ⊥
    by (inl none_zero) =
        let it : MemberIn s members n (λ c. is_one_of_three c.uid id) = some_which s members n (λ c. is_one_of_three c.uid id) has in
        let inside : is_zero (space_of s.spaces n) id ≡ true
        = zero_written (space_of s.spaces n) (Reached (Standing n) MappedUids) id written.uids zero in
        false≢true
        (sym (subst (λ (m : ℕ). has_zero (space_of s.spaces m) it.p.cred.uid ≡ false) it.space (none_zero it.pid it.p it.member it.at))
        ∙ three_zero (space_of s.spaces n) it.p.cred.uid id it.passes inside)
    by (inr (inl all_noroot)) =
        let it : MemberIn s members n (λ c. not (has_flag c noroot))
        = some_which s members n (λ c. not (has_flag c noroot)) (and_parts (0 == 0) _ counts).1 in
        no_more (has_flag it.p.cred noroot) (all_noroot it.pid it.p it.member it.at) it.passes
    by (inr (inr all_empty)) =
        let it : MemberIn s members n (λ c. holds c.bounding x) = some_which s members n (λ c. holds c.bounding x) held in
        false≢true (sym (holds_none x) ∙ ap (λ (set : ℕ). holds set x) (sym (all_empty it.pid it.p it.member it.at)) ∙ it.passes)

  -- ---- closed
  -- an effective id is one of three
  among_uids : (n x : ℕ) → Reached (Standing n) EffectiveUids x → Reached (Standing n) Uids x
  among_uids n x held = elim (or_cases _ _ held) [
    | inl now ↦
        let it : MemberIn s members n (λ c. x == c.uid.effective) = some_which s members n (λ c. x == c.uid.effective) now in
        some_from s members n (λ c. is_one_of_three c.uid x) it.pid it.p it.member it.at it.space (effective_of_three it.p.cred.uid x it.passes)
    | inr later ↦ (and_parts _ _ later).1
  ]

  among_gids : (n x : ℕ) → Reached (Standing n) EffectiveGids x → Reached (Standing n) Gids x
  among_gids n x held = elim (or_cases _ _ held) [
    | inl now ↦
        let it : MemberIn s members n (λ c. x == c.gid.effective) = some_which s members n (λ c. x == c.gid.effective) now in
        some_from s members n (λ c. is_one_of_three c.gid x) it.pid it.p it.member it.at it.space (effective_of_three it.p.cred.gid x it.passes)
    | inr later ↦ (and_parts _ _ later).1
  ]

  closed_uid : (n : ℕ) → ClosedAt permitted files s.spaces Reached SetUid (Standing n)
  closed_uid n EffectiveUids x (may, has, inl (own, mapped)) = or_right _ _ (and_from _ _ (and_from _ _ may mapped) own)
  closed_uid n EffectiveUids x (may, has, inr (cap, mapped)) = absurd (false≢true cap)
  closed_uid n Uids x (may, has, inl effective) = among_uids n x effective
  closed_uid n Uids x (may, has, inr (inl (own, mapped))) = own
  closed_uid n Uids x (may, has, inr (inr (cap, mapped))) = absurd (false≢true cap)
  closed_uid n FsUids x added = refl
  closed_uid n _ x (may, has, wrong) = absurd wrong

  closed_gid : (n : ℕ) → ClosedAt permitted files s.spaces Reached SetGid (Standing n)
  closed_gid n EffectiveGids x (may, has, inl (own, mapped)) = or_right _ _ (and_from _ _ (and_from _ _ may mapped) own)
  closed_gid n EffectiveGids x (may, has, inr (cap, mapped)) = absurd (false≢true cap)
  closed_gid n Gids x (may, has, inl effective) = among_gids n x effective
  closed_gid n Gids x (may, has, inr (inl (own, mapped))) = own
  closed_gid n Gids x (may, has, inr (inr (cap, mapped))) = absurd (false≢true cap)
  closed_gid n FsGids x added = refl
  closed_gid n _ x (may, has, wrong) = absurd wrong

  closed_exec_uid : (n : ℕ) → IsTrue (stands s.spaces n) → ClosedAt permitted files s.spaces Reached ExecUid (Standing n)
  closed_exec_uid n standing EffectiveUids x (may, has, owner) = absurd (no_owner n x (here_written n has standing) owner)
  closed_exec_uid n standing Uids x (may, has, inl effective) = among_uids n x effective
  closed_exec_uid n standing Uids x (may, has, inr owner) = absurd (no_owner n x (here_written n has standing) owner)
  closed_exec_uid n standing FsUids x added = refl
  closed_exec_uid n standing _ x (may, has, wrong) = absurd wrong

  closed_exec_gid : (n : ℕ) → IsTrue (stands s.spaces n) → ClosedAt permitted files s.spaces Reached ExecGid (Standing n)
  closed_exec_gid n standing EffectiveGids x (may, has, group) = absurd (no_group n x (here_written n has standing) group)
  closed_exec_gid n standing Gids x (may, has, inl effective) = among_gids n x effective
  closed_exec_gid n standing Gids x (may, has, inr group) = absurd (no_group n x (here_written n has standing) group)
  closed_exec_gid n standing FsGids x added = refl
  closed_exec_gid n standing _ x (may, has, wrong) = absurd wrong

  closed_exec_caps : (n : ℕ) → IsTrue (stands s.spaces n) → ClosedAt permitted files s.spaces Reached ExecCaps (Standing n)
  closed_exec_caps n standing PermittedCaps x (may, has, gains) = absurd (no_attribute n x (written_of n has) gains)
  closed_exec_caps n standing _ x (may, has, wrong) = absurd wrong

  closed_exec_root : (n : ℕ) → IsTrue (stands s.spaces n) → ClosedAt permitted files s.spaces Reached ExecRoot (Standing n)
  closed_exec_root n standing PermittedCaps x (may, has, gains) = absurd (no_root n x (here_written n has standing) gains)
  closed_exec_root n standing _ x (may, has, wrong) = absurd wrong

  unwritten : (map : Option (List Extent)) (x : ℕ) → is_none map ≡ true → may_map map x ≡ true
  unwritten None x none = refl
  unwritten (Some map) x wrong = absurd (cc)

  closed_maps : (n : ℕ) → ClosedAt permitted files s.spaces Reached Maps (Standing n)
  closed_maps n MappedUids x (may, none, added) = unwritten (space_of s.spaces n).uids x none
  closed_maps n MappedGids x (may, none, added) = unwritten (space_of s.spaces n).gids x none
  closed_maps n _ x wrong = absurd wrong

  -- a later space has no members
  closed_fresh : (rule : Rule) (n : ℕ) → ClosedAt permitted files s.spaces Reached rule (Fresh n)
  closed_fresh SetUid n part x (may, (id, has), added) = absurd (false≢true has)
  closed_fresh SetFsUid n part x (may, (id, has), added) = absurd (false≢true has)
  closed_fresh SetGid n part x (may, (id, has), added) = absurd (false≢true has)
  closed_fresh SetFsGid n part x (may, (id, has), added) = absurd (false≢true has)
  closed_fresh SetGroups n part x (may, (id, has), word, added) = absurd (false≢true has)
  closed_fresh CapSet n part x (may, (id, has), added) = absurd (false≢true has)
  closed_fresh SecureBits n part x (may, (id, has), added) = absurd (false≢true has)
  closed_fresh ExecUid n part x (may, (id, has), added) = absurd (false≢true has)
  closed_fresh ExecGid n part x (may, (id, has), added) = absurd (false≢true has)
  closed_fresh ExecCaps n part x (may, (id, has), added) = absurd (false≢true has)
  closed_fresh ExecRoot n part x (may, (id, has), added) = absurd (false≢true has)
  closed_fresh Create n part x (may, makes, brings) =
      absurd (false≢true (sym (or_from (permitted kind.Unshare) (permitted kind.CloneUser) settled.excluded.unshare settled.excluded.clone_user) ∙ may))
  closed_fresh Maps n MappedUids x (may, (id, has), added) = absurd (false≢true has)
  closed_fresh Maps n MappedGids x (may, (id, has), added) = absurd (false≢true has)
  closed_fresh _ n _ x wrong = absurd wrong

  closed_standing : (rule : Rule) (n : ℕ) → IsTrue (stands s.spaces n) → ClosedAt permitted files s.spaces Reached rule (Standing n)
  closed_standing SetUid n standing part x added = closed_uid n part x added
  closed_standing SetFsUid n standing FsUids x added = refl
  closed_standing SetFsUid n standing _ x (may, has, wrong) = absurd wrong
  closed_standing SetGid n standing part x added = closed_gid n part x added
  closed_standing SetFsGid n standing FsGids x added = refl
  closed_standing SetFsGid n standing _ x (may, has, wrong) = absurd wrong
  closed_standing SetGroups n standing Groups x (may, has, word, (cap, mapped)) = absurd (false≢true cap)
  closed_standing SetGroups n standing _ x (may, has, word, wrong) = absurd wrong
  closed_standing CapSet n standing InheritableCaps x (may, has, inl (cap, bounding)) = absurd (false≢true cap)
  closed_standing CapSet n standing InheritableCaps x (may, has, inr (cap, bounding)) = absurd (false≢true cap)
  closed_standing CapSet n standing _ x (may, has, wrong) = absurd wrong
  closed_standing SecureBits n standing RootCounts x (may, has, (is, cap, lock)) = absurd (false≢true cap)
  closed_standing SecureBits n standing _ x (may, has, wrong) = absurd wrong
  closed_standing ExecUid n standing part x added = closed_exec_uid n standing part x added
  closed_standing ExecGid n standing part x added = closed_exec_gid n standing part x added
  closed_standing ExecCaps n standing part x added = closed_exec_caps n standing part x added
  closed_standing ExecRoot n standing part x added = closed_exec_root n standing part x added
  closed_standing Create n standing part x wrong = absurd wrong
  closed_standing Join n standing part x (may, added) = absurd (false≢true (sym settled.excluded.join ∙ may))
  closed_standing Maps n standing part x added = closed_maps n part x added

  pub reached_closed : Closed permitted files s.spaces Reached
  reached_closed rule (Standing n) standing = closed_standing rule n standing
  reached_closed rule (Fresh n) standing = closed_fresh rule n

  -- ---- the start
  flag_held : (b : Bool) → b ≡ false → not b ≡ true
  flag_held b is = not_from_false b is

  -- what a member has
  member_has : (n : ℕ) (pid : ℕ) (p : Process) → IsTrue (is_member members pid) → process_at s.processes pid ≡ Some p → p.space ≡ n
      → (part : Part) (x : ℕ) → CredHas p.cred part x → Reached (Standing n) part x
  member_has n pid p member at same Uids x has = some_from s members n (λ c. is_one_of_three c.uid x) pid p member at same has
  member_has n pid p member at same EffectiveUids x has =
      or_left _ _ (some_from s members n (λ c. x == c.uid.effective) pid p member at same (eq-eqb x p.cred.uid.effective has))
  member_has n pid p member at same Gids x has = some_from s members n (λ c. is_one_of_three c.gid x) pid p member at same has
  member_has n pid p member at same EffectiveGids x has =
      or_left _ _ (some_from s members n (λ c. x == c.gid.effective) pid p member at same (eq-eqb x p.cred.gid.effective has))
  member_has n pid p member at same Groups x has = some_from s members n (λ c. list_any (λ group. group == x) c.groups) pid p member at same has
  member_has n pid p member at same MappedUids x wrong = absurd wrong
  member_has n pid p member at same MappedGids x wrong = absurd wrong
  member_has n pid p member at same PermittedCaps x has =
      absurd (false≢true (sym (holds_none x) ∙ ap (λ (set : ℕ). holds set x) (sym (settled.plain pid p member at).has_none.permitted) ∙ has))
  member_has n pid p member at same InheritableCaps x has =
      absurd (false≢true (sym (holds_none x) ∙ ap (λ (set : ℕ). holds set x) (sym (settled.plain pid p member at).has_none.inheritable) ∙ has))
  member_has n pid p member at same BoundingCaps x has = some_from s members n (λ c. holds c.bounding x) pid p member at same has
  member_has n pid p member at same NewPrivs x (is, clear) =
      and_from _ _ (eq-eqb x 0 is) (some_from s members n (λ c. not c.no_new_privs) pid p member at same (flag_held p.cred.no_new_privs clear))
  member_has n pid p member at same RootCounts x (is, clear) =
      and_from _ _ (eq-eqb x 0 is)
      (some_from s members n (λ c. not (has_flag c noroot)) pid p member at same (flag_held (has_flag p.cred noroot) clear))
  member_has n pid p member at same _ x has = refl

  maps_has : (n : ℕ) (part : Part) (x : ℕ) → SpaceMaps (space_of s.spaces n) part x → Reached (Standing n) part x
  maps_has n MappedUids x has = mapped_start (space_of s.spaces n).uids x has
  maps_has n MappedGids x has = mapped_start (space_of s.spaces n).gids x has
  maps_has n _ x wrong = absurd wrong

  pub reached_starts : HoldsStart s members Reached
  reached_starts (Standing n) standing part x (inl (pid, p, member, at, same, has)) = member_has n pid p member at same part x has
  reached_starts (Standing n) standing part x (inr maps) = maps_has n part x maps
  reached_starts (Fresh n) standing part x wrong = absurd wrong

  -- ---- as a test
  pub test_reached : IsWithin (tested (reached_test permitted s members)) Reached
  test_reached row part x held = subst (λ (r : Row). IsTrue (reached permitted s members r part x)) (row_back row) held

  pub reached_test_has : IsWithin Reached (tested (reached_test permitted s members))
  reached_test_has row part x held = subst (λ (r : Row). IsTrue (reached permitted s members r part x)) (sym (row_back row)) held

  pub reached_encloses : StateFits s → Encloses permitted files s members (tested (reached_test permitted s members))
  reached_encloses fits = record {
    closed = λ rule row standing part x added.
        reached_test_has row part x
        (reached_closed rule row standing part x
        (adds_more permitted files s.spaces (tested (reached_test permitted s members)) Reached test_reached rule row part x added));
    covers = covers_start s members (tested (reached_test permitted s members)) fits
        (λ row standing part x has. reached_test_has row part x (reached_starts row standing part x has));
  }
