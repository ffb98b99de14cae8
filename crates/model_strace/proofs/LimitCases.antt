-- Worked cases, by computation, of the limits of a log of strace(1).
use Rattle.std.proofs.Common.{◌≡◌, ℕ, false, true, Bool, List, [], ◌∷◌, ◌++◌, map, replicate, flat_map, None}
use Rattle.std.specs.Prelude.{codes}
use Rattle.cm_base.specs.declared.faults.LineFault.TheVariants as fault
use Rattle.cm_base.specs.declared.limited.Limited.TheVariants as limit
use Rattle.cm_base.specs.declared.res.Res.TheVariants.{Done, Child}
use Rattle.cm_lines.specs.Cut.{Cut, cut_of}
use Rattle.model_cred.specs.Call.{SetUid, SetGroups, Fork}
use Rattle.model_strace.proofs.CaseWorld.{the_world, at_line, to_the_end, up_to_fault, up_to_limit}
use Rattle.model_strace.specs.Files.{UidMap}
use Rattle.model_strace.specs.Lines.{reading, strace_of_cut}
use Rattle.model_strace.specs.Parts.{Descriptor, Parts, first_parts}
use Rattle.model_strace.specs.Rest.{Session, Going, rest}
use Rattle.model_strace.specs.Turn.{Turn, Refused, Exceeds, turn}
use Rattle.model_text.specs.Reading.{Reading}

-- ---- groups
-- a line with so many groups 7, after its length as it is written
abbrev groups_line : List ℕ → ℕ → List ℕ → List ℕ
groups_line length n result =
    codes "200 setgroups(" ++ length ++ codes ", [8" ++ flat_map (λ group. codes ", " ++ group) (replicate n (codes "7"))
    ++ codes "]) = " ++ result

pub group_limits : record {
  most_groups_are_read : reading the_world (groups_line (codes "1024") 1023 (codes "0") ∷ [])
      ≡ to_the_end (at_line 1 200 (SetGroups (8 ∷ replicate 1023 7)) Done ∷ []);
  one_group_more_is_over_the_limit : reading the_world
      (codes "200 setuid(1) = 0" ∷ groups_line (codes "1025") 1024 (codes "0") ∷ codes "x" ∷ [])
      ≡ up_to_limit (at_line 1 200 (SetUid 1) Done ∷ []) limit.Groups;
  -- the limit comes after each fault of its line
  a_fault_comes_before_the_limit : map (λ line. reading the_world (line ∷ []))
      (groups_line (codes "1025") 1024 (codes "x") ∷ groups_line (codes "x") 1024 (codes "0")
      ∷ groups_line (codes "1024") 1024 (codes "0") ∷ [])
      ≡ up_to_fault [] 1 fault.Outcome ∷ up_to_fault [] 1 (fault.Argument 1) ∷ up_to_fault [] 1 (fault.Argument 2) ∷ [];
}
group_limits = search

-- ---- held lines
-- a session that holds so many lines of process 201
abbrev holding : ℕ → Session
holding n = Going (record {
  parts = first_parts the_world;
  held = replicate n (record { number = 1; pid = 201; body = codes "getpid() = 201" });
  count = 9;
})

-- these lines, and the log's end
abbrev all_of : List (List ℕ) → Cut
all_of lines = record { lines = lines; stop = None }

pub held_lines : record {
  most_held_lines_are_held : rest the_world (holding 4095)
      (all_of (codes "201 setuid(1) = 0" ∷ codes "200 getpid() = 200" ∷ []))
      ≡ to_the_end (at_line 10 201 (SetUid 1) Done ∷ []);
  one_held_line_more_is_over_the_limit : rest the_world (holding 4096)
      (all_of (codes "201" ∷ codes "200 setuid(1) = 0" ∷ []))
      ≡ up_to_limit [] limit.Held;
  -- a line that isn't held doesn't count
  other_lines_come_all_the_same : rest the_world (holding 4096)
      (all_of (codes "" ∷ codes "200 setuid(1) = 0" ∷ codes "x" ∷ []))
      ≡ up_to_fault (at_line 11 200 (SetUid 1) Done ∷ []) 12 fault.Pid;
  -- a birth makes room
  held_lines_that_are_read_count_no_more : rest the_world (holding 4096)
      (all_of (codes "200 fork() = 201" ∷ codes "202 setuid(1) = 0" ∷ []))
      ≡ to_the_end (at_line 10 200 Fork (Child 201) ∷ at_line 11 202 (SetUid 1) Done ∷ []);
}
held_lines = search

-- ---- descriptors
-- so many descriptors of another process
abbrev others : ℕ → List Descriptor
others n = replicate n (record { pid = 300; number = 9; file = UidMap; space = 0; until_exec = false })

-- what is known with so many descriptors of another process, and descriptor 3 of process 200
abbrev following : ℕ → Parts
following n = let first = first_parts the_world in record first {
  descriptors = record { pid = 200; number = 3; file = UidMap; space = 0; until_exec = false } ∷ others n;
}

-- the limit of descriptors is exceeded
abbrev is_over : Turn → Bool
is_over (Exceeds limit.Descriptors) = true
is_over _ = false

pub followed_descriptors : record {
  most_descriptors_are_followed : is_over
      (turn the_world 200 (codes "open(\"/proc/self/uid_map\", O_WRONLY) = 4") (following 65534))
      ≡ false;
  one_descriptor_more_is_over_the_limit : is_over
      (turn the_world 200 (codes "open(\"/proc/self/uid_map\", O_WRONLY) = 4") (following 65535))
      ≡ true;
  -- one in the place of another is no more
  one_in_the_place_of_another_is_followed : is_over
      (turn the_world 200 (codes "open(\"/proc/self/uid_map\", O_WRONLY) = 3") (following 65535))
      ≡ false;
  copies_of_a_birth_count : map (λ n. is_over (turn the_world 200 (codes "fork() = 201") (following n)))
      (65534 ∷ 65535 ∷ [])
      ≡ false ∷ true ∷ [];
  faults_come_before_that_limit : turn the_world 200 (codes "open(\"/proc/201/uid_map\", O_WRONLY) = 4")
      (following 65535)
      ≡ Refused fault.Descriptor;
}
followed_descriptors = search

-- ---- bytes
-- small limits in their place: 18 bytes a line
abbrev read_of : ℕ → List ℕ → Reading
read_of whole text = strace_of_cut the_world (cut_of 18 whole text)

pub small_limits : record {
  lines_within_the_limits_are_read : read_of 36 (codes "200 setuid(1) = 0\n200 setuid(2) = 0\n")
      ≡ to_the_end (at_line 1 200 (SetUid 1) Done ∷ at_line 2 200 (SetUid 2) Done ∷ []);
  -- a line that is too long ends the reading, whatever it is
  a_long_line_ends_the_reading : read_of 99 (codes "200 setuid(1) = 0\n200 setuid(2)    = 0\ny\n")
      ≡ up_to_limit (at_line 1 200 (SetUid 1) Done ∷ []) limit.Line;
  -- so does the line that has a byte more than the log may have, be it its LF
  a_byte_too_many_ends_it : read_of 35 (codes "200 setuid(1) = 0\n200 setuid(2) = 0\n")
      ≡ up_to_limit (at_line 1 200 (SetUid 1) Done ∷ []) limit.Log;
  -- a fault or a limit of an earlier line comes first
  earlier_lines_come_first : read_of 8 (codes "x\n200 setuid(1) = 0\n") ≡ up_to_fault [] 1 fault.Pid;
  -- the held lines tell nothing more there, where at the log's end they would
  held_lines_tell_nothing_there : read_of 35 (codes "201 setuid(1) = 0\n200 setuid(2) = 0\n")
      ∷ read_of 36 (codes "201 setuid(1) = 0\n200 setuid(2) = 0\n") ∷ []
      ≡ up_to_limit [] limit.Log ∷ to_the_end (at_line 2 200 (SetUid 2) Done ∷ at_line 1 201 (SetUid 1) Done ∷ []) ∷ [];
}
small_limits = search
