-- Each step keeps the members of a family covered.
use Rattle.std.proofs.Common.{◌≡◌, ℕ, zero, suc, ◌<◌, ◌≤◌, Bool, true, false, ◌||◌, not, Some, List, ◌∷◌, length, refl, inl, inr, arith}
use Rattle.std.specs.Prelude.{◌==◌, IsTrue, nat_lt, if◌then◌else◌}
use Rattle.std.proofs.lemmas.Bool.{or_left, or_right, cases_lt, eqb-false, not-false, ltb-true}
use Rattle.cm_base.specs.declared.errno.Errno.TheVariants.{EPERM, EINVAL, ENOSPC}
use Rattle.model_cred.specs.Call.{Call, CloneUser, Unshare, SetNs, WriteUidMap, WriteGidMap, WriteSetgroups, Exec}
use Rattle.model_cred.specs.Call.{kind_of}
use Rattle.cm_filter.specs.declared.kind.CallKind.{CallKind}
use Rattle.cm_filter.specs.declared.kind.CallKind.TheVariants as kind
use Rattle.model_cred.specs.Credential.{Credential}
use Rattle.model_cred.specs.Files.{FileTable}
use Rattle.model_cred.specs.IdMap.{Extent}
use Rattle.model_cred.specs.Space.{Space, Spaces, space_of, put_space, stands, level}
use Rattle.model_rules.specs.Answer.{Answer, done, refused}
use Rattle.model_rules.specs.Caps.{cap_sys_admin}
use Rattle.model_rules.specs.Maps.{MapFile, UidMap, GidMap, with_map, write_map, write_setgroups}
use Rattle.model_rules.specs.Namespaces.{unshare, clone_user, created_by, join, as_newcomer, is_mapped_in, deepest}
use Rattle.model_rules.specs.Power.{has_over}
use Rattle.model_rules.specs.Reply.{reply, place_after, spaces_with, spaces_after}
use Rattle.model_run.specs.Step.{names_no_space}
use Rattle.model_box.specs.Row.{Part, EffectiveUids, MappedUids, MappedGids, Row, Standing, Fresh, HasMembers, space_under}
use Rattle.model_box.specs.Files.{FilesFit}
use Rattle.model_box.specs.Closed.{Closed}
use Rattle.model_box.specs.Covers.{RowOf, Stays, MapsIn, MapsAreIn, child, deeper}
use Rattle.model_box.specs.Covers as rows
use Rattle.model_box.proofs.Trees.{row_standing, row_stands}
use Rattle.model_box.proofs.Fits.{TreeFits, AtAnchors, FilledAt, FilledIfPeopled, ClosedTogether, SpacesFit, InRow, MemberFits, it_stands}
use Rattle.model_box.proofs.Rows.{Fine, held_in, in_row}
use Rattle.model_box.proofs.Writing.{choose, put_tree, put_mapped, put_owners, put_anchors, put_members}
use Rattle.model_box.proofs.MapWrites.{cause, in_map, write_by, writer_of, with_map_in, free_of, map_stays, word_written, word_by}
use Rattle.model_box.proofs.Making.{made_tree, made_mapped, made_owners, made_anchors, others_fit, maker_fits, maker_can, row_low}
use Rattle.model_box.proofs.Joins.{join_fits}
use Rattle.model_box.proofs.Calls.{three_allowed, call_fine}
use Rattle.model_box.proofs.Execs.{execve_fine}

-- a row of a standing space
pub record RowFor (old new : Spaces) (n : ℕ) : Type 0 where
  pub row : Row
  pub is : RowOf (length old) new n row
  pub stands : space_under row < length old

-- Every space has a row.
pub row_for : (old new : Spaces) → TreeFits old new → (fuel n : ℕ) → n < fuel → n < length new → RowFor old new n
row_for old new fit zero n low here = absurd (omega arith)
row_for old new fit (suc fuel) n low here =
    elim (cases_lt n (length old)) [
      | inl standing ↦ record { row = Standing n; is = rows.own n standing; stands = standing }
      | inr late ↦
          let above = fit.parents n late here in
          let p_low : above.0 < n = above.2 in
          below late above.0 above.1 (row_for old new fit fuel above.0 (omega arith) (omega arith))
    ] where
      below : length old ≤ n → (p : ℕ) → (space_of new n).parent ≡ Some p → RowFor old new p → RowFor old new n
      below late p parent for_p = go for_p.row for_p.is for_p.stands where
        go : (row : Row) → RowOf (length old) new p row → space_under row < length old → RowFor old new n
        go (Standing a) is stands = record { row = Fresh a; is = child n p a late parent is; stands = stands }
        go (Fresh a) is stands = record { row = Fresh a; is = deeper n p a late parent is; stands = stands }

row_under : (old new : Spaces) (n : ℕ) (row : Row) → RowOf (length old) new n row → space_under row < length old
row_under old new n (Standing a) is = let two = row_standing is in rw (← two.0) two.1
row_under old new n (Fresh a) is = (row_stands is).0

-- the call makes no space
abbrev pub MakesNoSpace : Call → Type 0
MakesNoSpace CloneUser = ⊥
MakesNoSpace Unshare = ⊥
MakesNoSpace _ = Unit {0}

-- ---- the caller, by its own cell
module _ (permitted : CallKind → Bool) (files : FileTable) (old new : Spaces) (bounds : Row → Part → ℕ → Type 0)
    (closed : Closed permitted files old bounds) (files_fit : FilesFit files old) (fit : TreeFits old new)
    (mapped : MapsAreIn old new bounds)
    (filled : IsTrue (permitted kind.SetNs) → AtAnchors old new (FilledIfPeopled bounds))
    (at : ℕ) (c : Credential) (member : MemberFits old new bounds at c) where
  fine_at : (row : Row) → RowOf (length old) new at row → Fine (bounds row) c
  fine_at row is = record { held = held_in (bounds row) c (member.held row is); included = member.included }

  -- a call that changes the caller's credential alone
  own_call : (d : Credential)
      → ((row : Row) → RowOf (length old) new at row → IsTrue (stands old (space_under row)) → Fine (bounds row) c
      → Fine (bounds row) d)
      → MemberFits old new bounds at d
  own_call d keeps =
      let some = row_for old new fit (suc at) at (omega arith) member.here in
      record {
        here = member.here;
        held =
            λ row is.
            in_row (bounds row) d (keeps row is
            (it_stands old new fit (space_under row) (row_under old new at row is)) (fine_at row is)).held;
        settled = member.settled;
        included = (keeps some.row some.is (it_stands old new fit (space_under some.row) some.stands) (fine_at some.row some.is)).included;
      }

  -- the setgroups word of the query
  word_stays : (row : Row) → RowOf (length old) new at row → (space_of old (space_under row)).deny ≡ true → (space_of new at).deny ≡ true
  word_stays (Standing n) is word = let two = row_standing is in (fit.stay at two.1).deny (rw two.0 word)
  word_stays (Fresh a) is word = fit.deny at a is word

  -- setns(2)
  setns_call : IsTrue (permitted kind.SetNs) → (target : ℕ) → target < length new
      → MemberFits old new bounds (place_after (join new at c target).res at target) (join new at c target).cred
  setns_call allowed target here =
      choose (λ (a : Answer). MemberFits old new bounds (place_after a.res at target) a.cred) (target == at) (refused EINVAL c)
      (if not (has_over new at c cap_sys_admin target) then refused EPERM c else done (as_newcomer c)) (λ _. member)
      (λ other.
      choose (λ (a : Answer). MemberFits old new bounds (place_after a.res at target) a.cred)
      (not (has_over new at c cap_sys_admin target)) (refused EPERM c) (done (as_newcomer c))
      (λ _. member)
      (λ power.
      join_fits permitted files old new bounds closed fit allowed (filled allowed) at c member target here
      (eqb-false target at other) (not-false (has_over new at c cap_sys_admin target) power)))

  -- Each call but those that make spaces keeps its caller covered.
  pub caller_fits : (call : Call) → MakesNoSpace call → IsTrue (permitted (kind_of call)) → names_no_space new call ≡ false
      → MemberFits old new bounds (reply files new at c call).space (reply files new at c call).cred
  caller_fits CloneUser wrong allowed named = absurd wrong
  caller_fits Unshare wrong allowed named = absurd wrong
  caller_fits (SetNs target) stays allowed named = setns_call allowed target (ltb-true target (length new) (not-false (stands new target) named))
  caller_fits (Exec f) stays allowed named =
      own_call (reply files new at c (Exec f)).cred
      (λ row is standing fine. execve_fine permitted files old new bounds closed fit mapped row standing at is c fine allowed files_fit f)
  caller_fits call stays allowed named =
      own_call (reply files new at c call).cred
      (λ row is standing fine.
      call_fine permitted files old bounds closed row standing new at (mapped at row is) c fine
      (word_stays row is) call tt allowed)

-- ---- the spaces, and all who are covered
-- After a change of the spaces they are covered, and so is each member of each cell that was.
pub record StillFits (old new after : Spaces) (Cell : ℕ → Type 0) (bounds : ℕ → Row → Part → ℕ → Type 0)
    (all : Row → Part → ℕ → Type 0) (Made : ℕ → Type 0) : Type 0 where
  pub spaces : SpacesFit old after Cell bounds all Made
  pub members : (j : ℕ) → Cell j → (at : ℕ) (c : Credential) → MemberFits old new (bounds j) at c → MemberFits old after (bounds j) at c

-- after a call that is neither a birth nor an exit, of a member of that cell
pub record AfterCall (old new after : Spaces) (Cell : ℕ → Type 0) (bounds : ℕ → Row → Part → ℕ → Type 0)
    (all : Row → Part → ℕ → Type 0) (Made : ℕ → Type 0) (j at : ℕ) (c : Credential) : Type 0 where
  pub still : StillFits old new after Cell bounds all Made
  pub caller : MemberFits old after (bounds j) at c

module _ (files : FileTable) (old : Spaces) (Cell : ℕ → Type 0) (permits : ℕ → CallKind → Bool) (common : CallKind → Bool)
    (bounds : ℕ → Row → Part → ℕ → Type 0) (all : Row → Part → ℕ → Type 0) (Made : ℕ → Type 0)
    (closed : ClosedTogether files old Cell permits common bounds all Made) (files_fit : FilesFit files old)
    (new : Spaces) (fit : SpacesFit old new Cell bounds all Made) where
  pub nothing_changes : StillFits old new new Cell bounds all Made
  nothing_changes = record { spaces = fit; members = λ i cell at c member. member }

  module _ (j : ℕ) (cell : Cell j) (at : ℕ) (c : Credential) (member : MemberFits old new (bounds j) at c) where
    -- what a cell's own row holds, all together hold
    held_all : (row : Row) → RowOf (length old) new at row → InRow (all row) c
    held_all row is part x has = closed.within j cell row part x (member.held row is part x has)

    mapped_all : MapsAreIn old new all
    mapped_all n row is = record {
      uids = λ x out. closed.within j cell row MappedUids x ((fit.mapped j cell n row is).uids x out);
      gids = λ x out. closed.within j cell row MappedGids x ((fit.mapped j cell n row is).gids x out);
    }

    peopled_all : AtAnchors old new (λ a. HasMembers (all (Fresh a)))
    peopled_all n a row = closed.peopled a (it_stands old new fit.tree a (row_stands row).0) (fit.made n a row)

    filled_own : IsTrue (permits j kind.Unshare || permits j kind.CloneUser || permits j kind.SetNs)
        → AtAnchors old new (FilledIfPeopled (bounds j))
    filled_own allowed n a row = closed.filled a (it_stands old new fit.tree a (row_stands row).0) (fit.made n a row) j cell allowed

    -- the caller's space and credential, where the spaces stay
    own_part : (call : Call) → MakesNoSpace call → IsTrue (permits j (kind_of call)) → names_no_space new call ≡ false
        → MemberFits old new (bounds j) (reply files new at c call).space (reply files new at c call).cred
    own_part =
        caller_fits (permits j) files old new (bounds j) (closed.closed j cell) files_fit fit.tree (fit.mapped j cell)
        (λ allowed. filled_own (three_allowed (permits j kind.Unshare) (permits j kind.CloneUser) (permits j kind.SetNs) allowed)) at c member

    stay_call : (call : Call) → MakesNoSpace call → IsTrue (permits j (kind_of call)) → names_no_space new call ≡ false
        → AfterCall old new new Cell bounds all Made j (reply files new at c call).space (reply files new at c call).cred
    stay_call call stays allowed named = record { still = nothing_changes; caller = own_part call stays allowed named }

    -- ---- writes
    one_changes : (t : ℕ) (s : Space) → Stays (space_of new t) s
        → ((i : ℕ) → Cell i → (row : Row) → RowOf (length old) new t row → MapsIn s (bounds i row))
        → StillFits old new (put_space t s new) Cell bounds all Made
    one_changes t s stays inside = record {
      spaces = record {
        tree = put_tree old new fit.tree t s stays;
        mapped = λ i cell_i. put_mapped old new fit.tree t s stays (bounds i) (inside i cell_i) (fit.mapped i cell_i);
        owners = put_owners old new fit.tree t s stays all fit.owners;
        made = put_anchors old new fit.tree t s stays Made fit.made;
      };
      members = λ i cell_i place d other. put_members old new fit.tree t s stays (bounds i) place d other;
    }

    write_call : (after : Spaces) → StillFits old new after Cell bounds all Made → AfterCall old new after Cell bounds all Made j at c
    write_call after still = record { still = still; caller = still.members j cell at c member }

    map_fits : (file : MapFile) → IsTrue (permits j (writer_of file)) → (t : ℕ) (list : List Extent)
        → StillFits old new (write_map file new at c t list).spaces Cell bounds all Made
    map_fits file allowed t list =
        write_by (λ (after : Spaces). StillFits old new after Cell bounds all Made) file new at c t list nothing_changes
        (λ may mapped down maps. one_changes t (with_map file (space_of new t) mapped)
        (map_stays new at c t file may mapped)
        (λ i cell_i row row_t. with_map_in file (space_of new t) (bounds i row) mapped (fit.mapped i cell_i t row row_t)
        (λ x out.
        let why_ = cause file new fit.tree.earlier at c t list mapped may down maps x out in
        in_map common old new all (bounds i) fit.tree mapped_all fit.owners peopled_all (fit.mapped i cell_i)
        (closed.maps i cell_i)
        at c held_all member.included t file (closed.less j cell (writer_of file) allowed) x why_.0 why_.1
        (free_of new at c t file may) row row_t)))

    word_fits : (t : ℕ) (deny : Bool) → StillFits old new (write_setgroups new at c t deny).spaces Cell bounds all Made
    word_fits t deny =
        word_by new at c t (λ (after : Spaces). StillFits old new after Cell bounds all Made) deny nothing_changes
        (λ may. one_changes t (record (space_of new t) { deny = deny }) (word_written new at c t deny may)
        (λ i cell_i row row_t. record { uids = (fit.mapped i cell_i t row row_t).uids; gids = (fit.mapped i cell_i t row row_t).gids }))

    -- ---- making a space
    module _ (allowed : IsTrue (permits j kind.Unshare || permits j kind.CloneUser))
        (shallow : IsTrue (nat_lt (level new at) deepest)) (mapped : IsTrue (is_mapped_in (space_of new at) c)) where
      made_here : (a : ℕ) → RowOf (length old) new at (Standing a) → Made a
      made_here a row =
          closed.makes j cell allowed a (it_stands old new fit.tree a (row_low row))
          (maker_can old new fit.tree (bounds j) (fit.mapped j cell) at c member shallow mapped a row)

      pub made_still : StillFits old new (created_by new at c ∷ new) Cell bounds all Made
      made_still = record {
        spaces = record {
          tree = made_tree old new fit.tree at c member.here;
          mapped = λ i cell_i. made_mapped old new fit.tree at c member.here (bounds i) (fit.mapped i cell_i);
          owners = made_owners old new fit.tree at c member.here all (λ row is. held_all row is EffectiveUids c.uid.effective refl) fit.owners;
          made = made_anchors old new fit.tree at c member.here Made fit.made made_here;
        };
        members = λ i cell_i place d other. others_fit old new fit.tree at c member.here (bounds i) place d other;
      }

      -- the maker's standing row has members
      from_standing : (a : ℕ) → RowOf (length old) new at (Standing a) → FilledAt (bounds j) a
      from_standing a row =
          closed.filled a (it_stands old new fit.tree a (row_low row)) (made_here a row) j cell
          (or_left (permits j kind.Unshare || permits j kind.CloneUser) (permits j kind.SetNs) allowed)
          (c.uid.effective, member.held (Standing a) row EffectiveUids c.uid.effective refl)

      pub maker_still : MemberFits old (created_by new at c ∷ new) (bounds j) (length new) (as_newcomer c)
      maker_still = maker_fits old new fit.tree at c member.here (bounds j) member from_standing

    same_call : AfterCall old new new Cell bounds all Made j at c
    same_call = record { still = nothing_changes; caller = member }

    -- unshare(2)
    unshare_call : IsTrue (permits j kind.Unshare || permits j kind.CloneUser)
        → AfterCall old new (spaces_with (unshare new at c).res new at c) Cell bounds all Made j
        (place_after (unshare new at c).res at (length new)) (unshare new at c).cred
    unshare_call allowed =
        choose (λ (a : Answer). AfterCall old new (spaces_with a.res new at c) Cell bounds all Made j (place_after a.res at (length new)) a.cred)
        (not (nat_lt (level new at) deepest)) (refused ENOSPC c) (if not (is_mapped_in (space_of new at) c) then refused EPERM c else done (as_newcomer c))
        (λ _. same_call)
        (λ shallow. choose (λ (a : Answer). AfterCall old new (spaces_with a.res new at c) Cell bounds all Made j (place_after a.res at (length new)) a.cred)
        (not (is_mapped_in (space_of new at) c)) (refused EPERM c) (done (as_newcomer c))
        (λ _. same_call)
        (λ mapped. made (not-false (nat_lt (level new at) deepest) shallow) (not-false (is_mapped_in (space_of new at) c) mapped))) where
          made : IsTrue (nat_lt (level new at) deepest) → IsTrue (is_mapped_in (space_of new at) c)
              → AfterCall old new (created_by new at c ∷ new) Cell bounds all Made j (length new) (as_newcomer c)
          made shallow mapped = record { still = made_still allowed shallow mapped; caller = maker_still allowed shallow mapped }

    -- clone(2) with CLONE_NEWUSER, as far as the spaces go
    clone_call : IsTrue (permits j kind.Unshare || permits j kind.CloneUser)
        → AfterCall old new (spaces_with (clone_user new at c) new at c) Cell bounds all Made j at c
    clone_call allowed = let after = unshare_call allowed in record { still = after.still; caller = after.still.members j cell at c member }

    -- Each call but births and exits, by its rule.
    pub after_call : (call : Call) → IsTrue (permits j (kind_of call)) → names_no_space new call ≡ false
        → AfterCall old new (spaces_after new at c call) Cell bounds all Made j (reply files new at c call).space (reply files new at c call).cred
    after_call CloneUser allowed named = clone_call (or_right (permits j kind.Unshare) (permits j kind.CloneUser) allowed)
    after_call Unshare allowed named = unshare_call (or_left (permits j kind.Unshare) (permits j kind.CloneUser) allowed)
    after_call (WriteUidMap target list) allowed named =
        write_call (spaces_after new at c (WriteUidMap target list)) (map_fits UidMap allowed target list)
    after_call (WriteGidMap target list) allowed named =
        write_call (spaces_after new at c (WriteGidMap target list)) (map_fits GidMap allowed target list)
    after_call (WriteSetgroups target deny) allowed named =
        write_call (spaces_after new at c (WriteSetgroups target deny)) (word_fits target deny)
    after_call call allowed named = stay_call call tt allowed named
