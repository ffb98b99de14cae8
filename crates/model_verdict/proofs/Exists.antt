-- The least bounds of each state, and blame where they meet a right: found by the sweep, which comes to rest.
use Rattle.std.proofs.Common.{◌≡◌, ℕ, zero, suc, ◌<◌, ◌≤◌, ◌==◌, Bool, true, List, refl, sym, ap, subst, arith}
use Rattle.std.specs.Prelude.{IsTrue}
use Rattle.std.specs.List.{list_any}
use Rattle.cm_base.specs.CapSet.{holds}
use Rattle.cm_base.specs.Limits.{id_count}
use Rattle.cm_filter.specs.declared.kind.CallKind.{CallKind}
use Rattle.model_cred.specs.Credential.{Credential, is_one_of_three}
use Rattle.model_cred.specs.Files.{FileTable}
use Rattle.model_cred.specs.IdMap.{extents_of, is_outside}
use Rattle.model_cred.specs.Process.{State, KeepsState}
use Rattle.model_cred.specs.Right.{Right}
use Rattle.model_cred.specs.Space.{Space, Spaces, space_of, stands}
use Rattle.model_rules.specs.Securebits.{has_flag, lock_of, noroot}
use Rattle.model_box.specs.Row.{Part, Uids, EffectiveUids, FsUids, Gids, EffectiveGids, FsGids, Groups, MappedUids, MappedGids}
use Rattle.model_box.specs.Row.{PermittedCaps, InheritableCaps, BoundingCaps, NewPrivs, RootCounts, LockClear, Row, Standing, Fresh}
use Rattle.model_box.specs.Row.{row_number, row_at, space_under, CredHas, IsWithin}
use Rattle.model_box.specs.Encloses.{Encloses}
use Rattle.model_box.specs.Laws.{tested}
use Rattle.model_box.specs.Meets.{MeetsAt, Meets}
use Rattle.model_box.specs.Start.{MemberHas, SpaceMaps, StartHas}
use Rattle.model_box.proofs.Monotone.{meets_more}
use Rattle.model_box.proofs.Starts.{row_back, number_back}
use Rattle.model_box.proofs.Worlds.{state_fits}
use Rattle.model_verdict.specs.Least.{Test, Says, IsLeast, LeastExist}
use Rattle.model_verdict.specs.Sweep.{row_count, turn_at, swept, turns_before, AddsNothing, SweepComesToLeast}
use Rattle.model_verdict.specs.Blame.{AtStart, ByTurn, IsBlamed, BlamedIfMet}
use Rattle.model_verdict.proofs.Members.{some_in, MemberIn, some_from, some_which}
use Rattle.model_verdict.proofs.Sweeps.{row_stands, stays_within}
use Rattle.model_verdict.proofs.Blames.{same_row, met_if_blamed}
use Rattle.model_verdict.proofs.Deciding.{Decided, yes, yes_is, is_yes, never, tested_so, tested_not, same_number, as_much}
use Rattle.model_verdict.proofs.Deciding.{either, both, some_low, FirstOf, first_of_which}
use Rattle.model_verdict.proofs.DecidedRules.{Fine, adds_decided, meets_at_decided}
use Rattle.model_verdict.proofs.Sums.{some_rest}
use Rattle.model_verdict.proofs.Rounds.{standing_low, swept_low, says_least}
use Rattle.model_verdict.proofs.Lacking.{lacking}
use Rattle.model_verdict.proofs.Ends.{same_idle, idle_said}

one_row : (one two : Row) → Decided (one ≡ two)
one_row one two = as_much (same_row one two) (ap row_number) (same_number (row_number one) (row_number two))

row_of_low : (spaces : Spaces) (row : Row) → row_number row < row_count spaces → IsTrue (stands spaces (space_under row))
row_of_low spaces row low = subst (λ (r : Row). IsTrue (stands spaces (space_under r))) (row_back row) (row_stands spaces (row_number row) low)

-- ---- the start
cred_decided : (c : Credential) (part : Part) (x : ℕ) → Decided (CredHas c part x)
cred_decided c Uids x = tested_so (is_one_of_three c.uid x)
cred_decided c EffectiveUids x = same_number x c.uid.effective
cred_decided c FsUids x = same_number x c.uid.fs
cred_decided c Gids x = tested_so (is_one_of_three c.gid x)
cred_decided c EffectiveGids x = same_number x c.gid.effective
cred_decided c FsGids x = same_number x c.gid.fs
cred_decided c Groups x = tested_so (list_any (λ group. group == x) c.groups)
cred_decided c PermittedCaps x = tested_so (holds c.permitted x)
cred_decided c InheritableCaps x = tested_so (holds c.inheritable x)
cred_decided c BoundingCaps x = tested_so (holds c.bounding x)
cred_decided c NewPrivs x = both (same_number x 0) (tested_not c.no_new_privs)
cred_decided c RootCounts x = both (same_number x 0) (tested_not (has_flag c noroot))
cred_decided c LockClear x = both (same_number x 0) (tested_not (has_flag c (lock_of noroot)))
cred_decided c _ x = never

member_decided : (s : State) (members : List ℕ) (n : ℕ) (part : Part) (x : ℕ) → Decided (MemberHas s members n part x)
member_decided s members n part x = as_much to from (tested_so (some_in s members n test)) where
  test : Credential → Bool
  test c = yes (cred_decided c part x)

  to : some_in s members n test ≡ true → MemberHas s members n part x
  to some =
      let it : MemberIn s members n test = some_which s members n test some in
      (it.pid, it.p, it.member, it.at, it.space, yes_is (cred_decided it.p.cred part x) it.passes)

  from : MemberHas s members n part x → some_in s members n test ≡ true
  from (pid, p, member, at, space, has) = some_from s members n test pid p member at space (is_yes (cred_decided p.cred part x) has)

space_decided : (space : Space) (part : Part) (x : ℕ) → Decided (SpaceMaps space part x)
space_decided space MappedUids x = tested_so (is_outside (extents_of space.uids) x)
space_decided space MappedGids x = tested_so (is_outside (extents_of space.gids) x)
space_decided space _ x = never

pub start_decided : (s : State) (members : List ℕ) (row : Row) (part : Part) (x : ℕ) → Decided (StartHas s members row part x)
start_decided s members (Standing n) part x = either (member_decided s members n part x) (space_decided (space_of s.spaces n) part x)
start_decided s members (Fresh n) part x = never

-- ---- the sweep, as tests
module _ (permitted : CallKind → Bool) (files : FileTable) (s : State) (members : List ℕ) (keeps : KeepsState s) where
  abbrev bounds_at : ℕ → Row → Part → ℕ → Type 0
  bounds_at k = swept permitted files s members k

  fine_at : (k : ℕ) → Fine id_count (bounds_at k)
  fine_at zero = record { each = start_decided s members; low = swept_low permitted files s members keeps 0 }
  fine_at (suc k) = record {
    each = λ row part x. either ((fine_at k).each row part x)
        (both (one_row row (turn_at s.spaces k).row)
        (adds_decided permitted files s.spaces keeps.tree id_count (bounds_at k) (fine_at k) (turn_at s.spaces k).rule (turn_at s.spaces k).row part x));
    low = swept_low permitted files s members keeps (suc k);
  }

  stage : ℕ → Test
  stage k y part x = yes ((fine_at k).each (row_at y) part x)

  stage_has : (k : ℕ) → IsWithin (bounds_at k) (tested (stage k))
  unfolding stage
  stage_has k row part x held =
      is_yes ((fine_at k).each (row_at (row_number row)) part x) (subst (λ (r : Row). bounds_at k r part x) (sym (row_back row)) held)

  has_stage : (k : ℕ) → IsWithin (tested (stage k)) (bounds_at k)
  unfolding stage
  has_stage k row part x held =
      subst (λ (r : Row). bounds_at k r part x) (row_back row) (yes_is ((fine_at k).each (row_at (row_number row)) part x) held)

  stage_says : (k : ℕ) → Says (stage k) (bounds_at k)
  stage_says k row part x = (has_stage k row part x, stage_has k row part x)

  -- ---- it comes to rest
  lacks : ℕ → ℕ
  lacks round = lacking (row_count s.spaces) (stage (turns_before s.spaces round))

  -- a round that adds nothing
  record Rest : Type 0 where
    round : ℕ
    idle : AddsNothing permitted files s members round

  rest : Rest
  unfolding lacks
  rest =
      let it : (round : ℕ) × (lacks round ≤ lacks (suc round)) = some_rest lacks in
      record {
        round = it.0;
        idle = same_idle permitted files s members keeps it.0 (stage (turns_before s.spaces it.0)) (stage (turns_before s.spaces (suc it.0)))
            (stage_says (turns_before s.spaces it.0)) (stage_says (turns_before s.spaces (suc it.0))) it.1;
      }

  last : ℕ
  last = turns_before s.spaces rest.round

  is_least : IsLeast permitted files s members (stage last)
  unfolding last
  is_least =
      says_least permitted files s members (state_fits s keeps) (stage last) last (stage_says last)
      (idle_said permitted files s members keeps rest.round (stage last) (stage (turns_before s.spaces (suc rest.round)))
      (stage_says last) (stage_says (turns_before s.spaces (suc rest.round))) rest.idle)

  encloses_last : Encloses permitted files s members (tested (stage last))
  encloses_last = is_least.encloses

  -- ---- blame
  module _ (right : Right) where
    abbrev MetBy : ℕ → ℕ → Type 0
    MetBy k y = IsTrue (stands s.spaces (space_under (row_at y))) × MeetsAt s.spaces (bounds_at k) right (row_at y)

    met_by : (k y : ℕ) → Decided (MetBy k y)
    met_by k y =
        both (tested_so (stands s.spaces (space_under (row_at y))))
        (meets_at_decided permitted files s.spaces keeps.tree id_count (bounds_at k) (fine_at k) right (row_at y))

    met_low : (k y : ℕ) → MetBy k y → y < row_count s.spaces
    met_low k y met = subst (λ (n : ℕ). n < row_count s.spaces) (number_back y) (standing_low s.spaces (row_at y) met.0)

    by_row : (k : ℕ) → Meets s.spaces (bounds_at k) right → (y : ℕ) × MetBy k y
    by_row k (row, standing, met) = (
      row_number row,
      subst (λ (r : Row). IsTrue (stands s.spaces (space_under r)) × MeetsAt s.spaces (bounds_at k) right r)
          (sym (row_back row)) (standing, met),
    )

    meets_decided : (k : ℕ) → Decided (Meets s.spaces (bounds_at k) right)
    meets_decided k =
        as_much (λ t. (row_at t.0, t.1.0, t.1.1)) (by_row k) (some_low (MetBy k) (met_by k) (row_count s.spaces) (met_low k))

    blamed_start : Meets s.spaces (bounds_at 0) right → IsBlamed permitted files s members right
    blamed_start met =
        let found = by_row 0 met in
        let first : FirstOf (MetBy 0) = first_of_which (MetBy 0) (met_by 0) found.0 found.1 in
        record {
          blame = AtStart (row_at first.at);
          below = stage 0;
          is = (
            record {
              standing = first.is.0;
              meets = first.is.1;
              first = λ earlier less meets.
                  let before : row_number earlier < first.at = subst (λ (n : ℕ). row_number earlier < n) (number_back first.at) less in
                  let low : first.at < row_count s.spaces = met_low 0 first.at first.is in
                  first.earlier (row_number earlier) before
                  (subst (λ (r : Row). IsTrue (stands s.spaces (space_under r)) × MeetsAt s.spaces (bounds_at 0) right r) (sym (row_back earlier))
                  (row_of_low s.spaces earlier (omega (arith, before, low)), meets));
            },
            stage_says 0,
          );
        }

    blamed_at : (k : ℕ) → Meets s.spaces (bounds_at k) right → ((j : ℕ) → j < k → Meets s.spaces (bounds_at j) right → ⊥)
        → IsBlamed permitted files s members right
    blamed_at zero met before = blamed_start met
    blamed_at (suc k) met before = record {
      blame = ByTurn (turn_at s.spaces k);
      below = stage k;
      is = (k, refl, record { before = λ j low. before j (omega (arith, low)); meets = met }, stage_says k);
    }

    blamed : Meets s.spaces (bounds_at last) right → IsBlamed permitted files s members right
    blamed met =
        let first : FirstOf (λ k. Meets s.spaces (bounds_at k) right)
        = first_of_which (λ k. Meets s.spaces (bounds_at k) right) meets_decided last met in
        blamed_at first.at first.is first.earlier

pub blamed_if_met : BlamedIfMet
unfolding BlamedIfMet
blamed_if_met permitted files s members right least keeps is = (
  λ met. blamed permitted files s members keeps right
      (meets_more s.spaces (tested least) (bounds_at permitted files s members keeps (last permitted files s members keeps))
      (λ row part x held. has_stage permitted files s members keeps (last permitted files s members keeps) row part x
      (is.within (stage permitted files s members keeps (last permitted files s members keeps)) (encloses_last permitted files s members keeps)
      row part x held)) right met),
  met_if_blamed permitted files s members right least (state_fits s keeps) is.encloses,
)

-- Whether the least bounds meet a right is decided.
pub least_meets_decided : (permitted : CallKind → Bool) (files : FileTable) (s : State) (members : List ℕ) (right : Right) (least : Test) → KeepsState s
    → IsLeast permitted files s members least → Decided (Meets s.spaces (tested least) right)
least_meets_decided permitted files s members right least keeps is =
    as_much (meets_more s.spaces (bounds_at permitted files s members keeps end) (tested least) back right)
    (meets_more s.spaces (tested least) (bounds_at permitted files s members keeps end) forth right)
    (meets_decided permitted files s members keeps right end) where
      end : ℕ
      end = last permitted files s members keeps

      forth : IsWithin (tested least) (bounds_at permitted files s members keeps end)
      forth row part x held =
          has_stage permitted files s members keeps end row part x
          (is.within (stage permitted files s members keeps end) (encloses_last permitted files s members keeps) row part x held)

      back : IsWithin (bounds_at permitted files s members keeps end) (tested least)
      back row part x held =
          stays_within permitted files s members (tested least) (state_fits s keeps) is.encloses.closed is.encloses.covers end row part x held

-- The least bounds hold what the sweep ever gives, and nothing else.
pub sweep_comes_to_least : SweepComesToLeast
unfolding SweepComesToLeast
sweep_comes_to_least permitted files s members least keeps is row part x = (
  λ held. (
    last permitted files s members keeps,
    has_stage permitted files s members keeps (last permitted files s members keeps) row part x
        (is.within (stage permitted files s members keeps (last permitted files s members keeps)) (encloses_last permitted files s members keeps)
        row part x held),
  ),
  λ given. stays_within permitted files s members (tested least) (state_fits s keeps) is.encloses.closed is.encloses.covers given.0 row part x given.1,
)

pub least_exist : LeastExist
unfolding LeastExist
least_exist permitted files s members keeps =
    (stage permitted files s members keeps (last permitted files s members keeps), is_least permitted files s members keeps)
