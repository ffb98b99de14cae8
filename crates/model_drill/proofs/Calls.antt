-- The calls of the table, in a state of the drill: each names a space that stands, leaves the processes and spaces as few
-- as they are, and can be written as a line.
use Rattle.std.proofs.Common.{◌≡◌, ℕ, ◌+◌, ◌%◌, ◌<◌, ◌≤◌, false, List, [], ◌∷◌, length, map, IsTrue, All}
use Rattle.std.proofs.Common.{nat_lt, refl, sym, ap, ◌∙◌, subst, arith, lit<}
use Rattle.std.proofs.Math.Nat.{mod-lt}
use Rattle.std.proofs.lemmas.Bool.{cond_both, cond-false, lt-ltb, ltb-true, ltb-false, not_from_true}
use Rattle.std.proofs.lemmas.List.Elements.{All-from_recursion, All-get_or}
use Rattle.cm_base.specs.Limits.{minus_one}
use Rattle.cm_base.specs.declared.res.FileRef.{FileRef}
use Rattle.cm_base.specs.declared.res.FileRef.TheVariants.{Row as TheRow, Plain}
use Rattle.model_cred.specs.Call.{AmbRaise, BsetDrop, Call, CapSet, Exec, Exit, Fork, KeepCaps, NoNewPrivs, SecureBits}
use Rattle.model_cred.specs.Call.{SetFsUid, SetGroups, SetReUid, SetResGid, SetResUid, SetUid, Unshare, WriteUidMap, kind_of}
use Rattle.cm_base.proofs.CapSets.{holds_none}
use Rattle.cm_filter.specs.Filters.{Filter, excludes}
use Rattle.cm_filter.specs.Kinds.{kind_number}
use Rattle.model_laws.proofs.Effects.{installs}
use Rattle.model_cred.specs.Files.{IsDeclared}
use Rattle.model_cred.specs.Process.{KeepsState, Process, State}
use Rattle.model_cred.specs.Space.{space_of, stands}
use Rattle.model_drill.proofs.Answers.{Fits, birth_may, plain_bar, plain_capset, plain_drop, plain_exec, plain_gids, plain_groups}
use Rattle.model_drill.proofs.Answers.{plain_keep, plain_raise, plain_secure, plain_uids, plain_unshare, plain_write, seen_fits}
use Rattle.model_drill.proofs.Callers.{HasPid, IsUnfiltered, IsCaller}
use Rattle.model_drill.proofs.Sizes.{births, exits, makes}
use Rattle.model_drill.specs.DrillWorld.{drill_world}
use Rattle.model_drill.specs.Rows.{DrillRow, exit_or_run, fork_or_exit, groups_drawn, id_drawn, most, row_drawn, table, unshare_or_bar}
use Rattle.model_rules.proofs.Spaces.{keeps_space_of}
use Rattle.model_run.specs.Ruling.{Ruling, fork_child, free_pid, own, permitted_ruling, excluded_ruling}
use Rattle.model_run.specs.Step.{names_no_space}
use Rattle.model_text.specs.Arguments.{Argument, Cap, File, Id, Number, Set, Space, arguments_of}
use Rattle.model_text.specs.Line.{groups_fit}
use Rattle.model_text.specs.Written.{IsInRange, MayAnswer}

-- What is known of a state of the drill.
pub record IsReady (s : State) : Type 0 where
  pub keeps : KeepsState s
  pub pids : All HasPid s.processes
  pub unfiltered : All IsUnfiltered s.processes
  pub some_live : 1 ≤ length s.processes
  pub few_live : length s.processes ≤ most
  pub few_spaces : length s.spaces ≤ most

-- What is known of a call of a caller there.
pub record IsFine (s : State) (p : Process) (call : Call) : Type 0 where
  pub named : names_no_space s.spaces call ≡ false
  pub plain : installs call ≡ false
  pub fits : All (IsInRange drill_world) (arguments_of call)
  pub few : length (arguments_of call) ≤ 4
  pub groups : IsTrue (groups_fit call)
  pub may : MayAnswer (kind_of call) (own drill_world s p call).res
  pub more : length s.processes + births call ≤ most
  pub fewer : 1 + exits call ≤ length s.processes
  pub spaces : length s.spaces + makes call ≤ most

-- ---- items
pub id_fits : (draw : ℕ) → Fits (id_drawn draw)
id_fits draw =
    let ids : List ℕ = minus_one ∷ 0 ∷ 1000 ∷ 1001 ∷ [] in
    All-get_or Fits ids (draw % 4) 0 (mod-lt draw (lit< tt))
    (All-from_recursion Fits ids (omega arith, (omega arith, (omega arith, (omega arith, tt)))))

-- what a list of groups is owed
record IsGroups (ids : List ℕ) : Type 0 where
  fits : All (IsInRange drill_world) (map Id ids)
  few : length (map Id ids) ≤ 4
  groups : IsTrue (groups_fit (SetGroups ids))

groups_are : (draw : ℕ) → IsGroups (groups_drawn draw)
groups_are draw =
    let lists : List (List ℕ) = [] ∷ (10 ∷ []) ∷ (10 ∷ 11 ∷ []) ∷ [] in
    let Fit : Argument → Type 0 = IsInRange drill_world in
    All-get_or IsGroups lists (draw % 3) [] (mod-lt draw (lit< tt))
    (All-from_recursion IsGroups lists (
      record { fits = All-from_recursion Fit [] tt; few = omega arith; groups = refl },
      (
        record { fits = All-from_recursion Fit (Id 10 ∷ []) (omega arith, tt); few = omega arith; groups = refl },
        (
          record { fits = All-from_recursion Fit (Id 10 ∷ Id 11 ∷ []) (omega arith, (omega arith, tt)); few = omega arith; groups = refl },
          tt,
        ),
      ),
    ))

module _ (s : State) (p : Process) (ready : IsReady s) (is : IsCaller s p) where
  -- nothing is excluded
  own_may : (call : Call) → MayAnswer (kind_of call) (permitted_ruling drill_world s p call (free_pid s)).res
      → MayAnswer (kind_of call) (own drill_world s p call).res
  own_may call =
      let free : excludes p.filter (kind_of call) ≡ false
      = ap (λ (f : Filter). excludes f (kind_of call)) is.unfiltered ∙ holds_none (kind_number (kind_of call)) in
      subst (λ (r : Ruling). MayAnswer (kind_of call) r.res)
      (sym (cond-false (excludes p.filter (kind_of call)) (excluded_ruling s) (permitted_ruling drill_world s p call (free_pid s)) free))

  -- ---- calls that neither bear, end nor make
  plain_fine : (call : Call) → births call ≡ 0 → exits call ≡ 0 → makes call ≡ 0 → installs call ≡ false → names_no_space s.spaces call ≡ false
      → All (IsInRange drill_world) (arguments_of call) → length (arguments_of call) ≤ 4 → IsTrue (groups_fit call)
      → MayAnswer (kind_of call) (permitted_ruling drill_world s p call (free_pid s)).res → IsFine s p call
  plain_fine call unborn stays unmade plain named fits few groups may =
      let some = ready.some_live in
      let live = ready.few_live in
      let spaces = ready.few_spaces in
      record {
        named = named;
        plain = plain;
        fits = fits;
        few = few;
        groups = groups;
        may = own_may call may;
        more = omega (arith, unborn, live);
        fewer = omega (arith, stays, some);
        spaces = omega (arith, unmade, spaces);
      }

  setresuid_fine : (a b c : ℕ) → Fits a → Fits b → Fits c → IsFine s p (SetResUid a b c)
  setresuid_fine a b c first second third =
      plain_fine (SetResUid a b c) refl refl refl refl refl
      (All-from_recursion (IsInRange drill_world) (Id a ∷ Id b ∷ Id c ∷ []) (first, (second, (third, tt))))
      (omega arith) refl (plain_uids (space_of s.spaces p.space) p.cred _).outcome

  setreuid_fine : (a b : ℕ) → Fits a → Fits b → IsFine s p (SetReUid a b)
  setreuid_fine a b first second =
      plain_fine (SetReUid a b) refl refl refl refl refl
      (All-from_recursion (IsInRange drill_world) (Id a ∷ Id b ∷ []) (first, (second, tt)))
      (omega arith) refl (plain_uids (space_of s.spaces p.space) p.cred _).outcome

  setuid_fine : (a : ℕ) → Fits a → IsFine s p (SetUid a)
  setuid_fine a fits =
      plain_fine (SetUid a) refl refl refl refl refl (All-from_recursion (IsInRange drill_world) (Id a ∷ []) (fits, tt))
      (omega arith) refl (plain_uids (space_of s.spaces p.space) p.cred _).outcome

  setfsuid_fine : (a : ℕ) → Fits a → IsFine s p (SetFsUid a)
  setfsuid_fine a fits =
      plain_fine (SetFsUid a) refl refl refl refl refl (All-from_recursion (IsInRange drill_world) (Id a ∷ []) (fits, tt))
      (omega arith) refl
      (seen_fits (space_of s.spaces p.space).uids p.cred.uid.fs (keeps_space_of s.spaces p.space ready.keeps.spaces).uid_map)

  setresgid_fine : (a b c : ℕ) → Fits a → Fits b → Fits c → IsFine s p (SetResGid a b c)
  setresgid_fine a b c first second third =
      plain_fine (SetResGid a b c) refl refl refl refl refl
      (All-from_recursion (IsInRange drill_world) (Id a ∷ Id b ∷ Id c ∷ []) (first, (second, (third, tt))))
      (omega arith) refl (plain_gids p.cred _).outcome

  setgroups_fine : (ids : List ℕ) → IsGroups ids → IsFine s p (SetGroups ids)
  setgroups_fine ids fine =
      plain_fine (SetGroups ids) refl refl refl refl refl fine.fits fine.few fine.groups
      (plain_groups (space_of s.spaces p.space) p.cred ids).outcome

  capset_fine : IsFine s p (CapSet p.cred.permitted p.cred.permitted p.cred.inheritable)
  capset_fine =
      let permitted : ℕ = p.cred.permitted in
      plain_fine (CapSet permitted permitted p.cred.inheritable) refl refl refl refl refl
      (All-from_recursion (IsInRange drill_world) (Set permitted ∷ Set permitted ∷ Set p.cred.inheritable ∷ [])
      (is.keeps.permitted, (is.keeps.permitted, (is.keeps.inheritable, tt))))
      (omega arith) refl (plain_capset p.cred permitted permitted p.cred.inheritable).outcome

  drop_fine : (draw : ℕ) → IsFine s p (BsetDrop (draw % 42))
  drop_fine draw =
      let low : draw % 42 < 42 = mod-lt draw (lit< tt) in
      plain_fine (BsetDrop (draw % 42)) refl refl refl refl refl
      (All-from_recursion (IsInRange drill_world) (Cap (draw % 42) ∷ []) (omega arith, tt))
      (omega arith) refl (plain_drop p.cred (draw % 42)).outcome

  raise_fine : (draw : ℕ) → IsFine s p (AmbRaise (draw % 42))
  raise_fine draw =
      let low : draw % 42 < 42 = mod-lt draw (lit< tt) in
      plain_fine (AmbRaise (draw % 42)) refl refl refl refl refl
      (All-from_recursion (IsInRange drill_world) (Cap (draw % 42) ∷ []) (omega arith, tt))
      (omega arith) refl (plain_raise p.cred (draw % 42)).outcome

  keep_fine : (draw : ℕ) → IsFine s p (KeepCaps (draw % 2))
  keep_fine draw =
      let low : draw % 2 < 2 = mod-lt draw (lit< tt) in
      plain_fine (KeepCaps (draw % 2)) refl refl refl refl refl
      (All-from_recursion (IsInRange drill_world) (Number (draw % 2) ∷ []) (omega arith, tt))
      (omega arith) refl (plain_keep p.cred (draw % 2)).outcome

  secure_fine : (draw : ℕ) → IsFine s p (SecureBits (draw % 256))
  secure_fine draw =
      let low : draw % 256 < 256 = mod-lt draw (lit< tt) in
      plain_fine (SecureBits (draw % 256)) refl refl refl refl refl
      (All-from_recursion (IsInRange drill_world) (Number (draw % 256) ∷ []) (omega arith, tt))
      (omega arith) refl (plain_secure p.cred (draw % 256)).outcome

  bar_fine : IsFine s p (NoNewPrivs 1)
  bar_fine =
      plain_fine (NoNewPrivs 1) refl refl refl refl refl
      (All-from_recursion (IsInRange drill_world) (Number 1 ∷ []) (omega arith, tt))
      (omega arith) refl (plain_bar p.cred 1).outcome

  write_fine : IsFine s p (WriteUidMap p.space (record { inside = 0; outside = 1000; length = 1 } ∷ []))
  write_fine =
      let low : p.space < length s.spaces = is.space in
      let few : length s.spaces ≤ most = ready.few_spaces in
      plain_fine (WriteUidMap p.space (record { inside = 0; outside = 1000; length = 1 } ∷ [])) refl refl refl refl
      (not_from_true (stands s.spaces p.space) (lt-ltb p.space (length s.spaces) low))
      (All-from_recursion (IsInRange drill_world) (Space p.space ∷ Number 0 ∷ Number 1000 ∷ Number 1 ∷ [])
      (omega (arith, low, few), (omega arith, (omega arith, (omega arith, tt)))))
      (omega arith) refl (plain_write s.spaces p.space p.cred p.space (record { inside = 0; outside = 1000; length = 1 } ∷ [])).outcome

  exec_fine : (file : FileRef) → IsDeclared drill_world.files file → IsFine s p (Exec file)
  exec_fine file declared =
      plain_fine (Exec file) refl refl refl refl refl (All-from_recursion (IsInRange drill_world) (File file ∷ []) (declared, tt))
      (omega arith) refl (plain_exec drill_world.files s.spaces p.space p.cred file).outcome

  su_fine : IsFine s p (Exec (TheRow 0))
  unfolding drill_world
  su_fine = exec_fine (TheRow 0) (lit< tt)

  -- ---- calls that bear, end or make
  fork_fine : length s.processes < most → IsFine s p Fork
  fork_fine room =
      let some = ready.some_live in
      let spaces = ready.few_spaces in
      record {
        named = refl;
        plain = refl;
        fits = All-from_recursion (IsInRange drill_world) [] tt;
        few = omega arith;
        groups = refl;
        may = own_may Fork (birth_may s (fork_child p (free_pid s)) s.spaces);
        more = omega (arith, room);
        fewer = omega (arith, some);
        spaces = omega (arith, spaces);
      }

  exit_fine : 1 < length s.processes → IsFine s p Exit
  exit_fine another =
      let live = ready.few_live in
      let spaces = ready.few_spaces in
      record {
        named = refl;
        plain = refl;
        fits = All-from_recursion (IsInRange drill_world) [] tt;
        few = omega arith;
        groups = refl;
        may = own_may Exit refl;
        more = omega (arith, live);
        fewer = omega (arith, another);
        spaces = omega (arith, spaces);
      }

  unshare_fine : length s.spaces < most → IsFine s p Unshare
  unshare_fine room =
      let some = ready.some_live in
      let live = ready.few_live in
      record {
        named = refl;
        plain = refl;
        fits = All-from_recursion (IsInRange drill_world) [] tt;
        few = omega arith;
        groups = refl;
        may = own_may Unshare (plain_unshare s.spaces p.space p.cred).outcome;
        more = omega (arith, live);
        fewer = omega (arith, some);
        spaces = omega (arith, room);
      }

  -- ---- by how many live and how many spaces stand
  fork_or_exit_fine : IsFine s p (fork_or_exit s)
  fork_or_exit_fine =
      cond_both (nat_lt (length s.processes) most) Fork Exit (IsFine s p)
      (λ room. fork_fine (ltb-true (length s.processes) most room))
      (λ full. let all = ltb-false (length s.processes) most full in exit_fine (omega (arith, all)))

  unshare_or_bar_fine : IsFine s p (unshare_or_bar s)
  unshare_or_bar_fine =
      cond_both (nat_lt (length s.spaces) most) Unshare (NoNewPrivs 1) (IsFine s p)
      (λ room. unshare_fine (ltb-true (length s.spaces) most room)) (λ _. bar_fine)

  exit_or_run_fine : IsFine s p (exit_or_run s)
  exit_or_run_fine =
      cond_both (nat_lt 1 (length s.processes)) Exit (Exec Plain) (IsFine s p)
      (λ another. exit_fine (ltb-true 1 (length s.processes) another)) (λ _. exec_fine Plain tt)

  -- ---- the table
  -- the calls of a row are fine, whatever is drawn
  abbrev IsFineRow : DrillRow → Type 0
  IsFineRow row = (d : ℕ → ℕ) → IsFine s p (row.call s p d)

  rows_fine : All IsFineRow table
  unfolding table
  rows_fine =
      All-from_recursion IsFineRow table (
        (λ d. setresuid_fine _ _ _ (id_fits (d 0)) (id_fits (d 1)) (id_fits (d 2))),
        (
          (λ d. setreuid_fine _ _ (id_fits (d 0)) (id_fits (d 1))),
          (
            (λ d. setuid_fine _ (id_fits (d 0))),
            (
              (λ d. setfsuid_fine _ (id_fits (d 0))),
              (
                (λ d. setresgid_fine _ _ _ (id_fits (d 0)) (id_fits (d 1)) (id_fits (d 2))),
                (
                  (λ d. setgroups_fine _ (groups_are (d 0))),
                  (
                    (λ d. capset_fine),
                    (
                      (λ d. drop_fine (d 0)),
                      (
                        (λ d. raise_fine (d 0)),
                        (
                          (λ d. keep_fine (d 0)),
                          (
                            (λ d. secure_fine (d 0)),
                            (
                              (λ d. fork_or_exit_fine),
                              (
                                (λ d. unshare_or_bar_fine),
                                (
                                  (λ d. write_fine),
                                  (
                                    (λ d. su_fine),
                                    ((λ d. exit_or_run_fine), tt),
                                  ),
                                ),
                              ),
                            ),
                          ),
                        ),
                      ),
                    ),
                  ),
                ),
              ),
            ),
          ),
        ),
      )

  pub row_fine : (draw : ℕ) → IsFineRow (row_drawn draw)
  unfolding table
  row_fine draw = All-get_or IsFineRow table (draw % 16) _ (mod-lt draw (lit< tt)) rows_fine
