-- Rows that hold the same.
use Rattle.std.proofs.Common.{◌≡◌, ◌∙◌, ◌<◌, ℕ, Bool, true, false, List, length, get_or, refl, sym, subst, arith}
use Rattle.std.specs.Prelude.{◌↔◌, IsTrue, not}
use Rattle.std.proofs.lemmas.Bool.{false≢true}
use Rattle.std.proofs.lemmas.List.{same_lists, get_or_default}
use Rattle.cm_base.specs.CapSet.{holds}
use Rattle.cm_base.proofs.CapSets.{same_members, same_tests}
use Rattle.model_cred.specs.Intervals.{Interval, ids_hold, IsCanonical}
use Rattle.model_cred.proofs.Intervals.{one_list}
use Rattle.model_box.specs.Bounds.{BoxRow, row_has, row_in, no_row, bounds_hold}
use Rattle.model_box.specs.Row.{Part, Uids, EffectiveUids, FsUids, Gids, EffectiveGids, FsGids, Groups, MappedUids, MappedGids}
use Rattle.model_box.specs.Row.{PermittedCaps, InheritableCaps, BoundingCaps, NewPrivs, RootCounts, LockClear, row_at}
use Rattle.model_box.proofs.Starts.{number_back}
use Rattle.model_verdict.specs.Rows.{IsRow, OneMeaningOneList, LeastRowsAreOne}

-- sets that hold the same are one
same_ids : (one other : List Interval) → IsCanonical one → IsCanonical other
    → ((x : ℕ) → IsTrue (ids_hold one x) ↔ IsTrue (ids_hold other x)) → one ≡ other
same_ids one other is are same =
    one_list 0 0 one other is are (λ x. same_tests (ids_hold one x) (ids_hold other x) (same x).0 (same x).1)

same_caps : (one other : ℕ) → ((x : ℕ) → IsTrue (holds one x) ↔ IsTrue (holds other x)) → one ≡ other
same_caps one other same = same_members one other (λ x. same_tests (holds one x) (holds other x) (same x).0 (same x).1)

same_flags : (one other : Bool) → (IsTrue one ↔ IsTrue other) → one ≡ other
same_flags one other same = same_tests one other same.0 same.1

not_back : (one other : Bool) → not one ≡ not other → one ≡ other
not_back true false is = absurd (false≢true is)
not_back false true is = absurd (false≢true (sym is))
not_back _ _ is = refl

-- the row of these parts
written : List Interval → List Interval → List Interval → List Interval → List Interval → List Interval → List Interval → List Interval
    → List Interval → ℕ → ℕ → ℕ → Bool → Bool → Bool → BoxRow
written u eu fu g eg fg s mu mg p i b n r k = record {
  uids = u;
  effective_uids = eu;
  fs_uids = fu;
  gids = g;
  effective_gids = eg;
  fs_gids = fg;
  groups = s;
  mapped_uids = mu;
  mapped_gids = mg;
  permitted = p;
  inheritable = i;
  bounding = b;
  no_new_privs = n;
  root_counts = r;
  lock_clear = k;
}

same_written : (u u' eu eu' fu fu' g g' eg eg' fg fg' s s' mu mu' mg mg' : List Interval) (p p' i i' b b' : ℕ) (n n' r r' k k' : Bool)
    → u ≡ u' → eu ≡ eu' → fu ≡ fu' → g ≡ g' → eg ≡ eg' → fg ≡ fg' → s ≡ s' → mu ≡ mu' → mg ≡ mg' → p ≡ p' → i ≡ i' → b ≡ b'
    → n ≡ n' → r ≡ r' → k ≡ k' → written u eu fu g eg fg s mu mg p i b n r k ≡ written u' eu' fu' g' eg' fg' s' mu' mg' p' i' b' n' r' k'
same_written _ _ _ _ _ _ _ _ _ _ _ _ _ _ _ _ _ _ _ _ _ _ _ _ _ _ _ _ _ _ eq_u eq_eu eq_fu eq_g eq_eg eq_fg eq_s eq_mu eq_mg eq_p eq_i eq_b eq_n eq_r eq_k = cc

same_parts : (one other : BoxRow) → one.uids ≡ other.uids → one.effective_uids ≡ other.effective_uids → one.fs_uids ≡ other.fs_uids
    → one.gids ≡ other.gids → one.effective_gids ≡ other.effective_gids → one.fs_gids ≡ other.fs_gids → one.groups ≡ other.groups
    → one.mapped_uids ≡ other.mapped_uids → one.mapped_gids ≡ other.mapped_gids → one.permitted ≡ other.permitted
    → one.inheritable ≡ other.inheritable → one.bounding ≡ other.bounding → one.no_new_privs ≡ other.no_new_privs
    → one.root_counts ≡ other.root_counts → one.lock_clear ≡ other.lock_clear → one ≡ other
unfolding written
same_parts one other u eu fu g eg fg s mu mg p i b n r k = same_written _ _ _ _ _ _ _ _ _ _ _ _ _ _ _ _ _ _ _ _ _ _ _ _ _ _ _ _ _ _ u eu fu g eg fg s mu mg p i b n r k

-- rows that hold the same are one
one_row : (one other : BoxRow) → IsRow one → IsRow other
    → ((part : Part) (x : ℕ) → IsTrue (row_has one part x) ↔ IsTrue (row_has other part x)) → one ≡ other
one_row one other is are same = same_parts one other
    (same_ids one.uids other.uids is.uids are.uids (same Uids))
    (same_ids one.effective_uids other.effective_uids is.effective_uids are.effective_uids (same EffectiveUids))
    (same_ids one.fs_uids other.fs_uids is.fs_uids are.fs_uids (same FsUids))
    (same_ids one.gids other.gids is.gids are.gids (same Gids))
    (same_ids one.effective_gids other.effective_gids is.effective_gids are.effective_gids (same EffectiveGids))
    (same_ids one.fs_gids other.fs_gids is.fs_gids are.fs_gids (same FsGids))
    (same_ids one.groups other.groups is.groups are.groups (same Groups))
    (same_ids one.mapped_uids other.mapped_uids is.mapped_uids are.mapped_uids (same MappedUids))
    (same_ids one.mapped_gids other.mapped_gids is.mapped_gids are.mapped_gids (same MappedGids))
    (same_caps one.permitted other.permitted (same PermittedCaps))
    (same_caps one.inheritable other.inheritable (same InheritableCaps))
    (same_caps one.bounding other.bounding (same BoundingCaps))
    (not_back one.no_new_privs other.no_new_privs (same_flags (not one.no_new_privs) (not other.no_new_privs) (same NewPrivs 0)))
    (same_flags one.root_counts other.root_counts (same RootCounts 0))
    (same_flags one.lock_clear other.lock_clear (same LockClear 0))

pub one_meaning_one_list : OneMeaningOneList
unfolding OneMeaningOneList
one_meaning_one_list one other are others count same = same_lists one other count (λ k d low. at k d low (omega (arith, count, low))) where
  at_no_row : (k : ℕ) → k < length one → k < length other → row_in one k ≡ row_in other k
  at_no_row k low low_too =
      one_row (row_in one k) (row_in other k) (are k no_row low) (others k no_row low_too) (λ part x.
      let Same : ℕ → Type 0 = λ n. IsTrue (bounds_hold one n part x) ↔ IsTrue (bounds_hold other n part x) in
      subst Same (number_back k) (same (row_at k) part x))

  at : (k : ℕ) (d : BoxRow) → k < length one → k < length other → get_or one k d ≡ get_or other k d
  at k d low low_too = get_or_default one k d no_row low ∙ at_no_row k low low_too ∙ get_or_default other k no_row d low_too

pub least_rows_are_one : LeastRowsAreOne
unfolding LeastRowsAreOne OneMeaningOneList
least_rows_are_one permitted files s members one other is are bounds others =
    one_meaning_one_list one other bounds.written others.written (bounds.count ∙ sym others.count)
    (λ row part x. (is.within (bounds_hold other) are.encloses row part x, are.within (bounds_hold one) is.encloses row part x))
