-- Worked cases: turns of the sweep, a settled family, and for each sentence of "settled" a small family that fails it
-- alone and on whose right the verdict is open.
use Rattle.std.proofs.Common.{◌≡◌, ℕ, zero, suc, ◌<◌, ◌==◌, Bool, true, false, List, [], ◌∷◌, get_or, None, Some, refl, sym, inl, inr}
use Rattle.std.proofs.Common.{subst, arith, codes}
use Rattle.std.specs.Prelude.{IsTrue, All, if◌then◌else◌}
use Rattle.std.proofs.lemmas.Bool.{eqb-true, false≢true, or_cases}
use Rattle.cm_filter.specs.declared.kind.CallKind.{CallKind}
use Rattle.cm_filter.specs.declared.kind.CallKind.TheVariants as kind
use Rattle.cm_filter.specs.Filters.{Filter, no_filter, permits}
use Rattle.model_cred.specs.Call.{SetReUid, SetResUid}
use Rattle.model_cred.specs.Credential.{Included, all_four}
use Rattle.model_cred.specs.Files.{FileTable, plain_mount}
use Rattle.model_cred.specs.Process.{Process, State}
use Rattle.model_cred.specs.Right.{Cap, Uid, Gid}
use Rattle.model_cred.specs.Space.{Spaces, first_spaces, initial_space, is_at_or_above, space_of, stands}
use Rattle.model_cred.specs.World.{World}
use Rattle.model_rules.specs.SetId.{minus_one}
use Rattle.model_rules.specs.Zero.{has_zero}
use Rattle.model_run.proofs.Worlds.{user, in_space, process, with_processes, one, space, ids, file, world, world_of, world_with, done}
use Rattle.model_box.specs.Row.{Part, Uids, EffectiveUids, FsUids, EffectiveGids, FsGids, Groups, MappedUids, MappedGids}
use Rattle.model_box.specs.Row.{PermittedCaps, BoundingCaps, NewPrivs, RootCounts, Row, Standing, Fresh, space_under}
use Rattle.model_box.specs.Rule.{SetUid, SetFsUid, ExecUid, ExecGid, ExecRoot, Join, Maps}
use Rattle.model_box.specs.Covers.{StateFits}
use Rattle.model_box.specs.Encloses.{Encloses}
use Rattle.model_box.specs.Files.{is_program}
use Rattle.model_box.specs.Laws.{tested}
use Rattle.model_box.specs.Spread.{Brings}
use Rattle.model_box.specs.Start.{StartHas}
use Rattle.model_box.proofs.Starts.{holds_start}
use Rattle.model_run.specs.Own.{common_filter}
use Rattle.model_plans.specs.PlanRun.{first_found}
use Rattle.model_verdict.specs.Least.{Test}
use Rattle.model_verdict.specs.Sweep.{turn_at}
use Rattle.model_verdict.specs.Settled.{EachMember, HasNone, AreWritten, IsPlain, ExcludesSpaces, serves, NoneServes, RootGainsNone}
use Rattle.model_verdict.specs.Settled.{ProgramsGiveNone, Settled, SettledIn}
use Rattle.model_verdict.specs.Back.{TakeBack, MapsTakeBack}
use Rattle.model_verdict.specs.Decides.{AllMeetIn, OpenIn, SettledIsNeverOpen}
use Rattle.model_verdict.proofs.Decided.{settled_is_never_open}
use Rattle.model_verdict.proofs.MapsBack.{maps_take_back}

-- ---- turns, with one space: two rows
pub the_first_turn_is_setuid_at_the_initial_space : turn_at first_spaces 0 ≡ record { rule = SetUid; row = Standing 0 }
the_first_turn_is_setuid_at_the_initial_space = refl

pub then_it_is_at_the_later_spaces : turn_at first_spaces 1 ≡ record { rule = SetUid; row = Fresh 0 }
then_it_is_at_the_later_spaces = refl

pub then_comes_the_next_rule : turn_at first_spaces 2 ≡ record { rule = SetFsUid; row = Standing 0 }
then_comes_the_next_rule = refl

pub the_last_turn_of_a_round : turn_at first_spaces 27 ≡ record { rule = Maps; row = Fresh 0 }
the_last_turn_of_a_round = refl

pub then_the_first_rule_again : turn_at first_spaces 28 ≡ record { rule = SetUid; row = Standing 0 }
then_the_first_rule_again = refl

-- ---- families of one process, and what closed covering bounds hold
-- what is so of the one process is so of each member
each_alone : (p : Process) (spaces : Spaces) (members : List ℕ) (P : Process → Type 0) → P p
    → EachMember (record { processes = p ∷ []; spaces = spaces }) members P
each_alone p spaces members P is pid q member at = by (p.pid == pid) at where
  by : (b : Bool) → (if b then Some p else None) ≡ Some q → P q
  by true same = let one_process : p ≡ q = cc in subst P one_process is
  by false wrong = absurd (cc)

-- of each of two
pub each_of_two : (p q : Process) (spaces : Spaces) (members : List ℕ) (P : Process → Type 0) → P p → P q
    → EachMember (record { processes = p ∷ q ∷ []; spaces = spaces }) members P
each_of_two p q spaces members P first second pid r member at = by (p.pid == pid) (q.pid == pid) at where
  by : (b c : Bool) → (if b then Some p else if c then Some q else None) ≡ Some r → P r
  by true c same = let one_process : p ≡ r = cc in subst P one_process first
  by false true same = let one_process : q ≡ r = cc in subst P one_process second
  by false false wrong = absurd (cc)

-- above the initial space there is none but itself
initial_alone : (n : ℕ) → IsTrue (is_at_or_above first_spaces n 0) → n ≡ 0
initial_alone n above = elim (or_cases (0 == n) false above) [
  | inl same ↦ sym (eqb-true 0 n same)
  | inr wrong ↦ absurd (false≢true wrong)
]

initial_written : (n : ℕ) → IsTrue (is_at_or_above first_spaces n 0) → AreWritten (space_of first_spaces n)
initial_written n above =
    subst (λ (m : ℕ). AreWritten (space_of first_spaces m)) (sym (initial_alone n above)) (record { uids = refl; gids = refl })

-- closed covering bounds hold what the start has
held : (permitted : CallKind → Bool) (w : World) (s : State) (members : List ℕ) (bounds : Test) → Encloses permitted w.files s members (tested bounds)
    → (row : Row) (part : Part) (x : ℕ) → StartHas s members row part x → IsTrue (stands s.spaces (space_under row)) → tested bounds row part x
held permitted w s members bounds encloses row part x has standing = holds_start s members (tested bounds) encloses.covers row standing part x has

-- the three calls are excluded
no_spaces : (permitted : CallKind → Bool) → permitted kind.Unshare ≡ false → permitted kind.CloneUser ≡ false → permitted kind.SetNs ≡ false
    → ExcludesSpaces permitted
no_spaces permitted unshare clone_user join = record { unshare = unshare; clone_user = clone_user; join = join }

-- ---- a settled family: a daemon with no_new_privs, whose saved user id owns a space
abbrev keeper : Process
keeper = process 100 (record (user 1000) { uid = record (all_four 1000) { saved = 500 }; no_new_privs = true })

abbrev with_child : Spaces
with_child = space 0 500 (ids 0 500 1 ∷ []) ∷ initial_space ∷ []

-- the same where it has installed a filter
abbrev keeper_under : Filter → Process
keeper_under filter = record keeper { filter = filter }

abbrev kept_under : Filter → State
kept_under filter = record { processes = keeper_under filter ∷ []; spaces = with_child }

abbrev kept : State
kept = kept_under no_filter

abbrev no_new_spaces : World
no_new_spaces = record world { filter = 0x1c0000 }

above_initial : (n : ℕ) → IsTrue (is_at_or_above with_child n 0) → AreWritten (space_of with_child n)
above_initial n above = elim (or_cases (0 == n) false above) [
  | inl same ↦ subst (λ (m : ℕ). AreWritten (space_of with_child m)) (eqb-true 0 n same) (record { uids = refl; gids = refl })
  | inr wrong ↦ absurd (false≢true wrong)
]

settled_with : (filter : Filter) (permitted : CallKind → Bool) → ExcludesSpaces permitted
    → Settled permitted no_new_spaces.files (kept_under filter) (100 ∷ [])
settled_with filter permitted excluded = record {
  plain = each_alone (keeper_under filter) with_child (100 ∷ []) (IsPlain with_child) (record {
    has_none = record { permitted = refl; effective = refl; inheritable = refl; ambient = refl };
    written = above_initial;
  });
  excluded = excluded;
  programs = inl (each_alone (keeper_under filter) with_child (100 ∷ []) (λ p. p.cred.no_new_privs ≡ true) refl);
  same = each_alone (keeper_under filter) with_child (100 ∷ [])
      (λ p. EachMember (kept_under filter) (100 ∷ []) (λ q. p.filter ≡ q.filter))
      (each_alone (keeper_under filter) with_child (100 ∷ []) (λ q. filter ≡ q.filter) refl);
}

pub a_daemon_that_gains_nothing_is_settled : SettledIn no_new_spaces kept (100 ∷ [])
a_daemon_that_gains_nothing_is_settled = settled_with no_filter _ (no_spaces _ refl refl refl)

-- it still gets what a saved user id brings
pub it_gets_what_its_saved_id_brings : first_found (permits no_new_spaces.filter) no_new_spaces kept (100 ∷ []) (Cap 5 1)
    ≡ Some (record { run = done 100 (SetResUid minus_one 500 minus_one) ∷ []; holder = 100 })
unfolding first_found
it_gets_what_its_saved_id_brings = refl

-- where the three calls are excluded too, some closed covering bounds don't meet the right
abbrev no_uid_calls : World
no_uid_calls = record world { filter = 0x1c0007 }

kept_fits : (filter : Filter) → StateFits (kept_under filter)
kept_fits filter = record {
  tree = (omega arith, refl);
  stands = λ k d low. by k d low;
  included = λ k d low. in_it k d low;
} where
  by : (k : ℕ) (d : Process) → k < 1 → (get_or (kept_under filter).processes k d).space < 2
  by zero d low = omega arith
  by (suc k) d low = absurd (omega (arith, low))

  in_it : (k : ℕ) (d : Process) → k < 1 → Included (get_or (kept_under filter).processes k d).cred
  in_it zero d low = record { effective = refl; ambient_permitted = refl; ambient_inheritable = refl }
  in_it (suc k) d low = absurd (omega (arith, low))

kept_maps : All TakeBack with_child
unfolding MapsTakeBack
kept_maps zero d low = record { uids = maps_take_back _ refl; gids = maps_take_back _ refl }
kept_maps (suc zero) d low = record { uids = maps_take_back _ refl; gids = maps_take_back _ refl }
kept_maps (suc (suc k)) d low = absurd (omega (arith, low))

pub without_these_calls_it_never_does : AllMeetIn no_uid_calls kept (100 ∷ []) (Cap 5 1) → ⊥
unfolding SettledIsNeverOpen first_found
without_these_calls_it_never_does all =
    settled_is_never_open no_uid_calls kept (100 ∷ []) (Cap 5 1) (kept_fits no_filter) kept_maps
    (settled_with no_filter _ (no_spaces _ refl refl refl)) (record { met = all; unfound = refl })

-- the same by a filter that the process has installed itself, in a world that excludes nothing
pub what_it_installed_leaves_setreuid : first_found (permits world.filter) world (kept_under 0x1c0004) (100 ∷ []) (Cap 5 1)
    ≡ Some (record { run = done 100 (SetReUid minus_one 500) ∷ []; holder = 100 })
unfolding first_found
what_it_installed_leaves_setreuid = refl

pub with_these_calls_installed_it_never_does : AllMeetIn world (kept_under 0x1c0007) (100 ∷ []) (Cap 5 1) → ⊥
unfolding SettledIsNeverOpen first_found
with_these_calls_installed_it_never_does all =
    settled_is_never_open world (kept_under 0x1c0007) (100 ∷ []) (Cap 5 1) (kept_fits 0x1c0007) kept_maps
    (settled_with 0x1c0007 _ (no_spaces _ refl refl refl)) (record { met = all; unfound = refl })

-- ---- members with other filters: who has the saved user id may not make it the effective one, and the other may
abbrev filtered : Process
filtered = keeper_under 0x7

abbrev neighbour : Process
neighbour = process 101 (record (user 1000) { no_new_privs = true })

abbrev keeper_and_neighbour : State
keeper_and_neighbour = record { processes = filtered ∷ neighbour ∷ []; spaces = with_child }

pub what_one_may_not_call_leaves_it_open : OpenIn no_new_spaces keeper_and_neighbour (100 ∷ 101 ∷ []) (Cap 5 1)
unfolding first_found
what_one_may_not_call_leaves_it_open = record {
  met = λ bounds encloses.
      let start = held _ no_new_spaces keeper_and_neighbour (100 ∷ 101 ∷ []) bounds encloses in (
        Standing 0,
        refl,
        inr (
          1,
          (refl, refl),
          encloses.closed SetUid (Standing 0) refl EffectiveUids 500 (
            refl,
            (1000, start (Standing 0) EffectiveUids 1000 (inl (100, _, refl, refl, refl, refl)) refl),
            inl (
              start (Standing 0) Uids 500 (inl (100, _, refl, refl, refl, refl)) refl,
              start (Standing 0) MappedUids 500 (inr refl) refl,
            ),
          ),
        ),
      );
  unfound = refl;
}

pub keeper_and_neighbour_are_plain : EachMember keeper_and_neighbour (100 ∷ 101 ∷ []) (IsPlain with_child)
keeper_and_neighbour_are_plain =
    each_of_two filtered neighbour with_child (100 ∷ 101 ∷ []) (IsPlain with_child)
    (record { has_none = record { permitted = refl; effective = refl; inheritable = refl; ambient = refl }; written = above_initial })
    (record { has_none = record { permitted = refl; effective = refl; inheritable = refl; ambient = refl }; written = above_initial })

pub neither_makes_a_space : ExcludesSpaces (permits (common_filter no_new_spaces keeper_and_neighbour (100 ∷ 101 ∷ [])))
neither_makes_a_space = no_spaces _ refl refl refl

pub programs_give_neither_anything : ProgramsGiveNone no_new_spaces.files keeper_and_neighbour (100 ∷ 101 ∷ [])
programs_give_neither_anything =
    inl (each_of_two filtered neighbour with_child (100 ∷ 101 ∷ []) (λ p. p.cred.no_new_privs ≡ true) refl refl)

-- ---- a capability that is permitted, where capset is excluded: it can't be raised, and the bounds don't tell
abbrev unraised : State
unraised = one (record (user 1000) { permitted = 0x80; no_new_privs = true })

abbrev no_capset : World
no_capset = record world { filter = 0x1c0200 }

pub a_capability_leaves_it_open : OpenIn no_capset unraised (100 ∷ []) (Uid 7)
unfolding first_found
a_capability_leaves_it_open = record {
  met = λ bounds encloses.
      let start = held _ no_capset unraised (100 ∷ []) bounds encloses in (
        Standing 0,
        refl,
        encloses.closed SetUid (Standing 0) refl EffectiveUids 7 (
          refl,
          (1000, start (Standing 0) EffectiveUids 1000 (inl (100, _, refl, refl, refl, refl)) refl),
          inr (
            start (Standing 0) PermittedCaps 7 (inl (100, _, refl, refl, refl, refl)) refl,
            start (Standing 0) MappedUids 7 (inr refl) refl,
          ),
        ),
      );
  unfound = refl;
}

pub its_maps_are_written : EachMember unraised (100 ∷ []) (λ p. (n : ℕ) → IsTrue (is_at_or_above first_spaces n p.space) → AreWritten (space_of first_spaces n))
its_maps_are_written =
    each_alone _ first_spaces (100 ∷ []) (λ p. (n : ℕ) → IsTrue (is_at_or_above first_spaces n p.space) → AreWritten (space_of first_spaces n)) initial_written

pub it_makes_no_space : ExcludesSpaces (permits (common_filter no_capset unraised (100 ∷ [])))
it_makes_no_space = no_spaces _ refl refl refl

pub programs_give_it_nothing : ProgramsGiveNone no_capset.files unraised (100 ∷ [])
programs_give_it_nothing = inl (each_alone _ first_spaces (100 ∷ []) (λ p. p.cred.no_new_privs ≡ true) refl)

-- ---- a map that isn't written: one member writes it, and a program then serves the other
abbrev unmapped : Spaces
unmapped = record (space 0 500 []) { uids = None; gids = Some (ids 0 34 1 ∷ []) } ∷ initial_space ∷ []

abbrev writer : Process
writer = process 100 (user 500)

abbrev runner : Process
runner = in_space 1 101 (user 1000)

abbrev writer_and_runner : State
writer_and_runner = record { processes = writer ∷ runner ∷ []; spaces = unmapped }

abbrev box_program : World
box_program = record (world_with (record (plain_mount (codes "box")) { space = 1 } ∷ [])
    (record file { mount = 1; uid = 500; gid = 34; mode = 0o2755 } ∷ [])) { filter = 0x1c0000 }

pub an_unwritten_map_leaves_it_open : OpenIn box_program writer_and_runner (100 ∷ 101 ∷ []) (Gid 34)
unfolding first_found
an_unwritten_map_leaves_it_open = record {
  met = λ bounds encloses.
      let start = held _ box_program writer_and_runner (100 ∷ 101 ∷ []) bounds encloses in
      let mapped : tested bounds (Standing 1) MappedUids 500
      = encloses.closed Maps (Standing 1) refl MappedUids 500 (
        refl,
        refl,
        (
          0,
          refl,
          (
            start (Standing 0) MappedUids 500 (inr refl) refl,
            inr (refl, inl (start (Standing 0) EffectiveUids 500 (inl (100, _, refl, refl, refl, refl)) refl)),
          ),
        ),
      ) in (
        Standing 1,
        refl,
        inl (encloses.closed ExecGid (Standing 1) refl EffectiveGids 34 (
          refl,
          (1000, start (Standing 1) EffectiveUids 1000 (inl (101, _, refl, refl, refl, refl)) refl),
          (
            0,
            refl,
            (
              refl,
              inr (inr (inl (
                (1000, start (Standing 1) FsUids 1000 (inl (101, _, refl, refl, refl, refl)) refl, refl),
                (0, start (Standing 1) FsGids 0 (inl (101, _, refl, refl, refl, refl)) refl, refl),
                refl,
              ))),
            ),
            (
              start (Standing 1) NewPrivs 0 (inl (101, _, refl, refl, refl, (refl, refl))) refl,
              refl,
              mapped,
              start (Standing 1) MappedGids 34 (inr refl) refl,
            ),
            refl,
            refl,
            refl,
          ),
        )),
      );
  unfound = refl;
}

pub they_have_no_capability : EachMember writer_and_runner (100 ∷ 101 ∷ []) (λ p. HasNone p.cred)
they_have_no_capability =
    each_of_two writer runner unmapped (100 ∷ 101 ∷ []) (λ p. HasNone p.cred)
    (record { permitted = refl; effective = refl; inheritable = refl; ambient = refl })
    (record { permitted = refl; effective = refl; inheritable = refl; ambient = refl })

pub they_make_no_space : ExcludesSpaces (permits (common_filter box_program writer_and_runner (100 ∷ 101 ∷ [])))
they_make_no_space = no_spaces _ refl refl refl

one_row : (files : FileTable) (spaces : Spaces) (n : ℕ) → serves files spaces n 0 ≡ false → ((row : ℕ) → serves files spaces n (suc row) ≡ false)
    → (row : ℕ) → IsTrue (is_program files row) → serves files spaces n row ≡ false
one_row files spaces n first rest zero program = first
one_row files spaces n first rest (suc row) program = rest row

pub programs_give_them_nothing : ProgramsGiveNone box_program.files writer_and_runner (100 ∷ 101 ∷ [])
programs_give_them_nothing = inr (
  each_of_two writer runner unmapped (100 ∷ 101 ∷ [])
      (λ p. (row : ℕ) → IsTrue (is_program box_program.files row) → serves box_program.files unmapped p.space row ≡ false)
      (one_row box_program.files unmapped 0 refl (λ row. refl)) (one_row box_program.files unmapped 1 refl (λ row. refl)),
  inl (each_of_two writer runner unmapped (100 ∷ 101 ∷ []) (λ p. has_zero (space_of unmapped p.space) p.cred.uid ≡ false) refl refl),
)

-- ---- setns: a space is joined in which a program serves, and no plan joins and then runs
abbrev owned : Spaces
owned = space 0 1000 (ids 0 100000 65536 ∷ []) ∷ initial_space ∷ []

abbrev joiner : Process
joiner = process 100 (user 1000)

abbrev outside_it : State
outside_it = record { processes = joiner ∷ []; spaces = owned }

abbrev joinable : World
joinable = record (world_with (record (plain_mount (codes "box")) { space = 1 } ∷ [])
    (record file { mount = 1; uid = 100005; gid = 100005; mode = 0o4755 } ∷ [])) { filter = 0xc0007 }

pub a_join_leaves_it_open : OpenIn joinable outside_it (100 ∷ []) (Uid 100005)
unfolding first_found
a_join_leaves_it_open = record {
  met = λ bounds encloses.
      let start = held _ joinable outside_it (100 ∷ []) bounds encloses in
      let effective : tested bounds (Standing 0) EffectiveUids 1000
      = start (Standing 0) EffectiveUids 1000 (inl (100, _, refl, refl, refl, refl)) refl in
      let joined : (part : Part) (x : ℕ) → Brings (tested bounds (Standing 0)) part x → tested bounds (Standing 1) part x
      = λ part x brings.
      encloses.closed Join (Standing 1) refl part x (refl, (0, (1, (refl, refl), (1000, effective), inr effective), brings)) in (
        Standing 1,
        refl,
        encloses.closed ExecUid (Standing 1) refl EffectiveUids 100005 (
          refl,
          (1000, joined EffectiveUids 1000 effective),
          (
            0,
            refl,
            (
              refl,
              inr (inr (inl (
                (1000, joined FsUids 1000 (start (Standing 0) FsUids 1000 (inl (100, _, refl, refl, refl, refl)) refl), refl),
                (0, joined FsGids 0 (start (Standing 0) FsGids 0 (inl (100, _, refl, refl, refl, refl)) refl), refl),
                refl,
              ))),
            ),
            (
              joined NewPrivs 0 (start (Standing 0) NewPrivs 0 (inl (100, _, refl, refl, refl, (refl, refl))) refl),
              refl,
              start (Standing 1) MappedUids 100005 (inr refl) refl,
              start (Standing 1) MappedGids 100005 (inr refl) refl,
            ),
            refl,
            refl,
          ),
        ),
      );
  unfound = refl;
}

above_initial_owned : (n : ℕ) → IsTrue (is_at_or_above owned n 0) → AreWritten (space_of owned n)
above_initial_owned n above = elim (or_cases (0 == n) false above) [
  | inl same ↦ subst (λ (m : ℕ). AreWritten (space_of owned m)) (eqb-true 0 n same) (record { uids = refl; gids = refl })
  | inr wrong ↦ absurd (false≢true wrong)
]

pub the_joiner_is_plain : EachMember outside_it (100 ∷ []) (IsPlain owned)
the_joiner_is_plain =
    each_alone joiner owned (100 ∷ []) (IsPlain owned) (record {
      has_none = record { permitted = refl; effective = refl; inheritable = refl; ambient = refl };
      written = above_initial_owned;
    })

pub programs_give_the_joiner_nothing : ProgramsGiveNone joinable.files outside_it (100 ∷ [])
programs_give_the_joiner_nothing = inr (
  each_alone joiner owned (100 ∷ [])
      (λ p. (row : ℕ) → IsTrue (is_program joinable.files row) → serves joinable.files owned p.space row ≡ false)
      (one_row joinable.files owned 0 refl (λ row. refl)),
  inl (each_alone joiner owned (100 ∷ []) (λ p. has_zero (space_of owned p.space) p.cred.uid ≡ false) refl),
)

-- ---- a program that serves: one member may run it, and the other would gain by it
abbrev pub with_group : Process
with_group = process 31 (record (user 1000) { gid = all_four 1000; groups = 34 ∷ []; no_new_privs = true })

abbrev pub without_group : Process
without_group = process 32 (record (user 1000) { gid = all_four 1000 })

abbrev pub two : State
two = with_processes (with_group ∷ without_group ∷ [])

abbrev pub opt_x : World
opt_x = record (world_of (record file { path = codes "/opt/x"; gid = 34; mode = 0o4010 })) { filter = 0x1c0000 }

pub a_program_leaves_it_open : OpenIn opt_x two (31 ∷ 32 ∷ []) (Uid 0)
unfolding first_found
a_program_leaves_it_open = record {
  met = λ bounds encloses.
      let start = held _ opt_x two (31 ∷ 32 ∷ []) bounds encloses in (
        Standing 0,
        refl,
        encloses.closed ExecUid (Standing 0) refl EffectiveUids 0 (
          refl,
          (1000, start (Standing 0) EffectiveUids 1000 (inl (31, _, refl, refl, refl, refl)) refl),
          (
            0,
            refl,
            (
              refl,
              inr (inl (
                inr (start (Standing 0) Groups 34 (inl (31, _, refl, refl, refl, refl)) refl),
                (1000, start (Standing 0) FsUids 1000 (inl (31, _, refl, refl, refl, refl)) refl, refl),
                refl,
              )),
            ),
            (
              start (Standing 0) NewPrivs 0 (inl (32, _, refl, refl, refl, (refl, refl))) refl,
              refl,
              start (Standing 0) MappedUids 0 (inr refl) refl,
              start (Standing 0) MappedGids 34 (inr refl) refl,
            ),
            refl,
            refl,
          ),
        ),
      );
  unfound = refl;
}

pub both_are_plain : EachMember two (31 ∷ 32 ∷ []) (IsPlain first_spaces)
both_are_plain =
    each_of_two with_group without_group first_spaces (31 ∷ 32 ∷ []) (IsPlain first_spaces)
    (record { has_none = record { permitted = refl; effective = refl; inheritable = refl; ambient = refl }; written = initial_written })
    (record { has_none = record { permitted = refl; effective = refl; inheritable = refl; ambient = refl }; written = initial_written })

pub both_make_no_space : ExcludesSpaces (permits (common_filter opt_x two (31 ∷ 32 ∷ [])))
both_make_no_space = no_spaces _ refl refl refl

pub root_gains_nothing_by_them : RootGainsNone two (31 ∷ 32 ∷ [])
root_gains_nothing_by_them =
    inl (each_of_two with_group without_group first_spaces (31 ∷ 32 ∷ []) (λ p. has_zero (space_of first_spaces p.space) p.cred.uid ≡ false) refl refl)

-- ---- a saved user id 0 that can't become the effective one: bounds don't tell saved ids from real ones
abbrev saved_root : Process
saved_root = process 100 (record (user 1000) { uid = record (all_four 1000) { saved = 0 } })

abbrev alone : State
alone = with_processes (saved_root ∷ [])

pub a_root_id_leaves_it_open : OpenIn no_uid_calls alone (100 ∷ []) (Cap 7 0)
unfolding first_found
a_root_id_leaves_it_open = record {
  met = λ bounds encloses.
      let start = held _ no_uid_calls alone (100 ∷ []) bounds encloses in
      let effective : tested bounds (Standing 0) EffectiveUids 1000
      = start (Standing 0) EffectiveUids 1000 (inl (100, _, refl, refl, refl, refl)) refl in (
        Standing 0,
        refl,
        inl (
          refl,
          (1000, effective),
          encloses.closed ExecRoot (Standing 0) refl PermittedCaps 7 (
            refl,
            (1000, effective),
            (
              start (Standing 0) RootCounts 0 (inl (100, _, refl, refl, refl, (refl, refl))) refl,
              start (Standing 0) NewPrivs 0 (inl (100, _, refl, refl, refl, (refl, refl))) refl,
              (0, start (Standing 0) Uids 0 (inl (100, _, refl, refl, refl, refl)) refl, refl),
              inr (start (Standing 0) BoundingCaps 7 (inl (100, _, refl, refl, refl, refl)) refl),
            ),
          ),
        ),
      );
  unfound = refl;
}

pub saved_root_is_plain : EachMember alone (100 ∷ []) (IsPlain first_spaces)
saved_root_is_plain =
    each_alone saved_root first_spaces (100 ∷ []) (IsPlain first_spaces)
    (record { has_none = record { permitted = refl; effective = refl; inheritable = refl; ambient = refl }; written = initial_written })

pub saved_root_makes_no_space : ExcludesSpaces (permits (common_filter no_uid_calls alone (100 ∷ [])))
saved_root_makes_no_space = no_spaces _ refl refl refl

pub no_program_serves_it : NoneServes no_uid_calls.files alone (100 ∷ [])
no_program_serves_it =
    each_alone saved_root first_spaces (100 ∷ [])
    (λ p. (row : ℕ) → IsTrue (is_program no_uid_calls.files row) → serves no_uid_calls.files first_spaces p.space row ≡ false) (λ row program. refl)
