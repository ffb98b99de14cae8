-- Worked cases: which plans are in the list, in which order, and what single moves make.
use Rattle.std.proofs.Common.{◌≡◌, ℕ, ◌+◌, ◌*◌, false, List, [], ◌∷◌, length, map, take, None, Some, refl}
use Rattle.std.specs.List.{range_with_len}
use Rattle.cm_base.specs.CapSet.{none}
use Rattle.cm_base.specs.declared.errno.Errno.TheVariants.{EPERM, EACCES}
use Rattle.cm_base.specs.declared.res.FileRef.TheVariants.{Row, Plain}
use Rattle.cm_filter.specs.Filters.{permits}
use Rattle.model_cred.specs.Call.{SetResUid, SetResGid, SetGroups, Exec}
use Rattle.model_cred.specs.Credential.{Credential}
use Rattle.model_cred.specs.Files.{FileRow, FileTable}
use Rattle.model_cred.specs.Right.{Right, Cap, Uid, Gid}
use Rattle.model_cred.specs.Space.{Spaces, initial_space}
use Rattle.model_cred.specs.World.{World}
use Rattle.model_rules.specs.SetId.{minus_one}
use Rattle.model_run.proofs.Worlds.{user, process, one, in_space, space, file, world, world_of, world_with, done, refused}
use Rattle.model_plans.specs.Move.{Move, Raise, BecomeZero, BecomeSought, BecomeGroup, TakeGroup, RunFile, JoinSpace, sought_uid}
use Rattle.model_plans.specs.Plan.{special_rows, middle_choices, last_choices, moves_of, plans}
use Rattle.model_plans.specs.PlanRun.{PlanRun, moves_made}

-- ---- the middle choices
abbrev with_mode : ℕ → FileRow
with_mode mode = record file { mode = mode }

-- a plain row, a set-user-ID and a set-group-ID one
abbrev three_files : FileTable
three_files = (world_with [] (file ∷ with_mode 0o4755 ∷ with_mode 0o2755 ∷ [])).files

-- the initial space, and two in it
abbrev three_spaces : Spaces
three_spaces = space 0 7 [] ∷ space 0 5 [] ∷ initial_space ∷ []

-- nothing, each row, the plain file, each other space, and the pairs of rows with a set-id bit, a row with itself too
pub the_middle_choices_in_their_order : middle_choices three_files three_spaces 1
    ≡ []
    ∷ (RunFile (Row 0) ∷ [])
    ∷ (RunFile (Row 1) ∷ [])
    ∷ (RunFile (Row 2) ∷ [])
    ∷ (RunFile Plain ∷ [])
    ∷ (JoinSpace 0 ∷ [])
    ∷ (JoinSpace 2 ∷ [])
    ∷ (RunFile (Row 1) ∷ RunFile (Row 1) ∷ [])
    ∷ (RunFile (Row 1) ∷ RunFile (Row 2) ∷ [])
    ∷ (RunFile (Row 2) ∷ RunFile (Row 1) ∷ [])
    ∷ (RunFile (Row 2) ∷ RunFile (Row 2) ∷ [])
    ∷ []
the_middle_choices_in_their_order = refl

pub special : record {
  -- a row with an attribute counts as well, and so does a script with a set-id bit
  rows_with_an_attribute_are_special : special_rows
      (file ∷ record file { caps = Some (record { permitted = none; inheritable = none; effective = false; root = 0 }) }
      ∷ record (with_mode 0o4755) { interpreter = Some 0 } ∷ with_mode 0o1777 ∷ [])
      ≡ 1 ∷ 2 ∷ [];
  -- no more than 64 of them
  the_first_64_are_tried_in_pairs : special_rows (file ∷ map (λ n. with_mode 0o4755) (range_with_len 0 66))
      ≡ range_with_len 1 64;
}
special = search

-- ---- the last choices
pub for_a_group_there_are_two_more : last_choices (Gid 34)
    ≡ [] ∷ (BecomeZero ∷ []) ∷ (BecomeSought ∷ []) ∷ (BecomeGroup ∷ []) ∷ (TakeGroup ∷ []) ∷ []
for_a_group_there_are_two_more = refl

-- ---- the moves of a plan
pub the_moves_in_their_order : moves_of (BecomeZero ∷ []) (RunFile (Row 1) ∷ RunFile (Row 2) ∷ []) (BecomeGroup ∷ [])
    ≡ Raise ∷ BecomeZero ∷ RunFile (Row 1) ∷ RunFile (Row 2) ∷ Raise ∷ BecomeGroup ∷ Raise ∷ []
the_moves_in_their_order = refl

-- ---- the list
-- the first is the empty one, and the last choice turns fastest
pub the_first_plans : take 6 (plans world (one (user 1000)) (100 ∷ []) (Uid 0))
    ≡ record { pid = 0; moves = [] }
    ∷ record { pid = 100; moves = Raise ∷ Raise ∷ Raise ∷ [] }
    ∷ record { pid = 100; moves = Raise ∷ Raise ∷ BecomeZero ∷ Raise ∷ [] }
    ∷ record { pid = 100; moves = Raise ∷ Raise ∷ BecomeSought ∷ Raise ∷ [] }
    ∷ record { pid = 100; moves = Raise ∷ RunFile Plain ∷ Raise ∷ Raise ∷ [] }
    ∷ record { pid = 100; moves = Raise ∷ RunFile Plain ∷ Raise ∷ BecomeZero ∷ Raise ∷ [] }
    ∷ []
the_first_plans = refl

pub counts_of_plans : record {
  -- three first choices, of three files and the plain one, two spaces, four pairs and nothing, three last choices or
  -- five; one
  -- empty plan
  how_many_there_are : length
      (plans (record world { files = three_files }) (record { processes = process 100 (user 1000) ∷ []; spaces = three_spaces }) (100 ∷ []) (Uid 0))
      ≡ 1 + 3 * (1 + 3 + 1 + 2 + 4) * 3;
  how_many_there_are_for_a_group_and_two_members : length
      (plans (record world { files = three_files }) (record { processes = process 100 (user 1000) ∷ in_space 2 101 (user 1000) ∷ []; spaces = three_spaces }) (100 ∷ 101 ∷ []) (Gid 0))
      ≡ 1 + 2 * (3 * (1 + 3 + 1 + 2 + 4) * 5);
  -- a pid that isn't alive has no plans
  who_is_not_alive_has_no_plans : plans world (one (user 1000)) (99 ∷ []) (Uid 0) ≡ record { pid = 0; moves = [] } ∷ [];
}
counts_of_plans = search

-- ---- what moves make
-- by process 100, alone in the initial space
abbrev made : World → Credential → Right → List Move → PlanRun
made w c right moves = moves_made (permits w.filter) w (one c) right 100 moves

pub made_moves : record {
  -- a refused move stays in the run, with its refusal
  a_refused_move_stays : made world (user 1000) (Uid 7) (BecomeZero ∷ BecomeSought ∷ [])
      ≡ record {
        events = refused 100 (SetResUid minus_one 0 minus_one) EPERM ∷ refused 100 (SetResUid minus_one 7 minus_one) EPERM ∷ [];
        state = one (user 1000);
      };
  a_refused_program_stays : made (world_of (with_mode 0o600)) (user 1000) (Uid 7) (RunFile (Row 0) ∷ [])
      ≡ record { events = refused 100 (Exec (Row 0)) EACCES ∷ []; state = one (user 1000) };
  -- what is so already, what has no meaning, and what is excluded makes no call
  what_is_so_already_makes_no_call : made world (user 0) (Uid 0) (Raise ∷ BecomeZero ∷ BecomeSought ∷ [])
      ≡ record { events = []; state = one (user 0) };
  what_has_no_meaning_makes_no_call : made world (user 1000) (Cap 21 0) (BecomeSought ∷ BecomeGroup ∷ TakeGroup ∷ [])
      ≡ record { events = []; state = one (user 1000) };
  what_is_excluded_makes_no_call : made (record world { filter = 0x207 }) (record (user 0) { effective = none }) (Uid 7)
      (Raise ∷ BecomeSought ∷ [])
      ≡ record { events = []; state = one (record (user 0) { effective = none }) };
  -- a call is found where the member then stands: once 7 is the effective id, it isn't made so again
  a_call_is_found_at_its_moment : made world (record (user 0) { securebits = 0x04 }) (Uid 7) (BecomeSought ∷ BecomeSought ∷ BecomeZero ∷ [])
      ≡ record {
        events = done 100 (SetResUid minus_one 7 minus_one) ∷ done 100 (SetResUid minus_one 0 minus_one) ∷ [];
        state = one (record (user 0) { securebits = 0x04 });
      };
  -- for a group: the effective one, or the only supplementary one, also where it is held already
  a_group_becomes_the_effective_one : made world (user 0) (Gid 34) (BecomeGroup ∷ BecomeGroup ∷ [])
      ≡ record {
        events = done 100 (SetResGid minus_one 34 minus_one) ∷ [];
        state = one (record (user 0) { gid = record { real = 0; effective = 34; saved = 0; fs = 34 } });
      };
  a_group_becomes_the_only_one : made world (record (user 0) { groups = 5 ∷ 34 ∷ [] }) (Gid 34) (TakeGroup ∷ [])
      ≡ record { events = done 100 (SetGroups (34 ∷ [])) ∷ []; state = one (record (user 0) { groups = 34 ∷ [] }) };
}
made_moves = search

-- ---- the user id that is sought
pub sought : record {
  for_a_user_id_it_is_that_one : sought_uid three_spaces 1 (Uid 7) ≡ Some 7;
  for_a_group_id_there_is_none : sought_uid three_spaces 1 (Gid 7) ≡ None;
}
sought = search

-- for a capability over a space it is the owner of the next space on the way down
-- space 3 is in 2, 2 in 1, 1 in the initial one; their owners are 30, 20, 10
abbrev chain_of_spaces : Spaces
chain_of_spaces = space 2 30 [] ∷ space 1 20 [] ∷ space 0 10 [] ∷ initial_space ∷ []

pub sought_for_capabilities : record {
  from_above_it_is_the_owner_of_the_next_space : sought_uid chain_of_spaces 1 (Cap 21 3) ≡ Some 20;
  from_its_parent_it_is_its_owner : sought_uid chain_of_spaces 2 (Cap 21 3) ≡ Some 30;
  from_the_space_itself_there_is_none : sought_uid chain_of_spaces 3 (Cap 21 3) ≡ None;
  from_below_there_is_none : sought_uid chain_of_spaces 2 (Cap 21 1) ≡ None;
}
sought_for_capabilities = search
