-- Worked cases, by computation, of the lines that tell a fault of a world's text or of a line of a log: their words, and
-- which of several faults is told (choice).
use Rattle.std.proofs.Common.{ℕ, zero, suc, ◌+◌, List, [], ◌∷◌, ◌++◌, map, refl}
use Rattle.std.specs.Prelude.{codes, decimal}
use Rattle.cm_base.specs.declared.status.Status.TheVariants as status
use Rattle.model_report_laws.proofs.CaseReports.{AllSay, TextReplays, Replays, files, none_judged, replay_in, replay_words, root_line, world_of_100}
use Rattle.model_report.specs.Report.{report}
use Rattle.model_text.proofs.PrintCases.{print_on_literals}
use Rattle.model_text.proofs.WorldCases.{world_on_literals}

-- ---- faults of worlds
-- each of these texts of a world, with an empty log, is told by these words
abbrev AreBadWorlds : List (List ℕ) → List (List ℕ) → Type 0
AreBadWorlds worlds words =
    AllSay (map (λ world. report replay_words (files world []) none_judged) worlds) status.BadWorld
    (map (λ word. (codes "bad world " ++ word) ∷ []) words)

-- a world with these tables
abbrev with : List ℕ → List ℕ
with tables = codes "log = \"script\"\n" ++ tables

pub faults_of_the_whole : AreBadWorlds
    (codes "log = \n" ∷ with (codes "x = 1\n") ∷ codes "[[process]]\npid = 100\n" ∷ codes "log = \"text\"\n" ∷ with (codes "[process]\npid = 1\n")
    ∷ with (codes "filter = []\n") ∷ [])
    (codes "whole 0: Toml" ∷ codes "whole 0: UnknownKey" ∷ codes "whole 0: MissingKey" ∷ codes "whole 0: WrongType"
    ∷ codes "whole 0: WrongType" ∷ codes "whole 0: WrongType" ∷ [])
unfolding print_on_literals world_on_literals
faults_of_the_whole = record { statuses = refl; texts = refl }

-- a space of that name below that one, and with these keys beside
abbrev space : List ℕ → List ℕ → List ℕ → List ℕ
space name parent rest =
    codes "[[space]]\nname = \"" ++ name ++ codes "\"\nparent = \"" ++ parent ++ codes "\"\nowner = 0\n" ++ rest

abbrev one_space : List ℕ
one_space = space (codes "a") (codes "init") []

pub faults_of_spaces : AreBadWorlds
    (with (codes "[[space]]\n") ∷ with (codes "space = [1]\n") ∷ with (space (codes "init") (codes "init") [])
    ∷ with (one_space ++ space (codes "a") (codes "init") []) ∷ with (one_space ++ space (codes "b") (codes "c") [])
    ∷ with (space (codes "b") (codes "b") [])
    ∷ with (space (codes "b") (codes "init") (codes "uid_map = [[0, 0, 0]]\n"))
    ∷ with (space (codes "b") (codes "init") (codes "gid_map = [[0, 0, 4294967296]]\n"))
    ∷ with (one_space ++ space (codes "b") (codes "a") (codes "uid_map = [[0, 0, 1]]\n")) ∷ [])
    (codes "space 1: MissingKey" ∷ codes "space 1: WrongType" ∷ codes "space 1: BadName" ∷ codes "space 2: TwiceNamed"
    ∷ codes "space 2: NoSuchParent"
    ∷ codes "space 1: NoSuchParent" ∷ codes "space 1: BadMap" ∷ codes "space 1: BadNumber" ∷ codes "space 2: NotMapped" ∷ [])
unfolding print_on_literals world_on_literals
faults_of_spaces = record { statuses = refl; texts = refl }

-- so many spaces, each below the one before, the first of them below the initial one
abbrev name_of : ℕ → List ℕ
name_of zero = codes "init"
name_of (suc n) = codes "s" ++ decimal (suc n)

abbrev nested : ℕ → List ℕ
nested zero = []
nested (suc n) = nested n ++ space (name_of (suc n)) (name_of n) []

pub deepest_spaces : record {
  a_space_too_deep : TextReplays (with (nested 33)) [] status.BadWorld (codes "bad world space 33: TooDeep" ∷ []);
  the_deepest_space : TextReplays (with (nested 32)) [] status.Accepted (codes "end 0" ∷ []);
}
unfolding print_on_literals world_on_literals
deepest_spaces = search

-- a space with this map of user ids
abbrev mapped : List ℕ → List ℕ
mapped extents = with (space (codes "b") (codes "init") (codes "uid_map = [" ++ extents ++ codes "]\n"))

-- so many extents from a number on, each of one id, which stands for itself
abbrev singles : ℕ → ℕ → List ℕ
singles from zero = []
singles from (suc n) = codes "[" ++ decimal from ++ codes ", " ++ decimal from ++ codes ", 1], " ++ singles (from + 1) n

-- no extent, none of length 0, not past the last id, no two that meet inside or outside, and at most 340
pub lists_that_are_no_map : AreBadWorlds
    (mapped [] ∷ mapped (codes "[0, 0, 1], [1, 1, 0]") ∷ mapped (codes "[1, 1, 4294967295]")
    ∷ mapped (codes "[0, 0, 2], [5, 1, 1]") ∷ mapped (codes "[0, 0, 2], [1, 5, 1]") ∷ mapped (singles 0 341) ∷ [])
    (codes "space 1: BadMap" ∷ codes "space 1: BadMap" ∷ codes "space 1: BadMap" ∷ codes "space 1: BadMap"
    ∷ codes "space 1: BadMap" ∷ codes "space 1: BadMap" ∷ [])
unfolding print_on_literals world_on_literals
lists_that_are_no_map = record { statuses = refl; texts = refl }

pub lists_that_are_maps : AllSay
    (map (λ extents. report replay_words (files (mapped extents) []) none_judged)
    (codes "[0, 0, 2], [5, 2, 1]" ∷ codes "[1, 1, 4294967294]" ∷ codes "[0, 0, 4294967295]" ∷ singles 0 340 ∷ []))
    status.Accepted ((codes "end 0" ∷ []) ∷ (codes "end 0" ∷ []) ∷ (codes "end 0" ∷ []) ∷ (codes "end 0" ∷ []) ∷ [])
unfolding print_on_literals world_on_literals
lists_that_are_maps = record { statuses = refl; texts = refl }

pub faults_of_mounts : AreBadWorlds
    (with (codes "[[mount]]\nname = \"root\"\n") ∷ with (codes "[[mount]]\nname = \"m\"\n[[mount]]\nname = \"n\"\nspace = \"a\"\n")
    ∷ with (codes "[[mount]]\nname = \"m\"\nuid_map = [[0, 0, 1]]\n") ∷ with (codes "[[mount]]\nname = \"m\"\nfs_gid_map = []\n") ∷ [])
    (codes "mount 1: TwiceNamed" ∷ codes "mount 2: NoSuchSpace" ∷ codes "mount 1: MissingKey" ∷ codes "mount 1: BadMap" ∷ [])
unfolding print_on_literals world_on_literals
faults_of_mounts = record { statuses = refl; texts = refl }

-- a file of root with that path and mode, and with these keys beside
abbrev file : List ℕ → List ℕ → List ℕ → List ℕ
file path mode rest =
    codes "[[file]]\npath = \"" ++ path ++ codes "\"\nuid = 0\ngid = 0\nmode = \"" ++ mode ++ codes "\"\n" ++ rest

pub faults_of_files : AreBadWorlds
    (with (file (codes "-") (codes "755") [])
    ∷ with (file (codes "/a") (codes "755") [] ++ file (codes "/a") (codes "755") [])
    ∷ with (file (codes "/a") (codes "755") (codes "mount = \"m\"\n")) ∷ with (file (codes "/a") (codes "755") (codes "interpreter = \"/a\"\n"))
    ∷ with (file (codes "/a") (codes "788") []) ∷ with (file (codes "/a") (codes "755") (codes "caps = \"00\"\n")) ∷ [])
    (codes "file 1: BadName" ∷ codes "file 2: TwiceNamed" ∷ codes "file 1: NoSuchMount" ∷ codes "file 1: NoInterpreter"
    ∷ codes "file 1: BadMode" ∷ codes "file 1: BadCaps" ∷ [])
unfolding print_on_literals world_on_literals
faults_of_files = record { statuses = refl; texts = refl }

-- process 100 with these keys
abbrev process : List ℕ → List ℕ
process rest = codes "[[process]]\npid = 100\n" ++ rest

pub later_faults : record {
  faults_of_processes : AreBadWorlds (with (codes "process = [{pid = 1}, 1]\n") ∷ with (codes "[[process]]\npid = 0\n")
      ∷ with (process (codes "uid = [0, 0, 0]\n")) ∷ with (process [] ++ process [])
      ∷ with (process (codes "parent = 7\n")) ∷ with (process (codes "space = \"a\"\n"))
      ∷ with (process (codes "permitted = \"CAP_X\"\n"))
      ∷ with (process (codes "uid = 1000\neffective = \"CAP_KILL\"\n"))
      ∷ with (process (codes "ambient = \"CAP_KILL\"\n")) ∷ [])
      (codes "process 2: WrongType" ∷ codes "process 1: BadNumber" ∷ codes "process 1: WrongType"
      ∷ codes "process 2: TwiceNamed" ∷ codes "process 1: NoSuchParent" ∷ codes "process 1: NoSuchSpace"
      ∷ codes "process 1: BadCaps" ∷ codes "process 1: NotIncluded" ∷ codes "process 1: NotIncluded" ∷ []);
  faults_of_the_filter : AreBadWorlds
      (with (codes "[filter]\nexclude = [\"setuid\", \"getuid\"]\n") ∷ with (codes "[filter]\nexclude = [1]\n")
      ∷ with (codes "[filter]\nonly = []\n") ∷ [])
      (codes "filter 0: NoSuchCall" ∷ codes "filter 0: WrongType" ∷ codes "filter 0: UnknownKey" ∷ []);
  -- each of these rows has two faults: the one that comes first in the order of faults is told
  two_faults_of_one_row : AreBadWorlds (with (codes "[[process]]\nx = 1\n") ∷ with (codes "[[process]]\nuid = true\n")
      ∷ with (process (codes "securebits = 256\ngid = \"0\"\n"))
      ∷ with (process (codes "securebits = 256\npermitted = \"CAP_X\"\n"))
      ∷ with (process [] ++ process (codes "parent = 7\n")) ∷ with (process (codes "parent = 7\nspace = \"a\"\n"))
      ∷ with (process (codes "space = \"a\"\nbounding = \"\"\n")) ∷ with (one_space ++ space (codes "a") (codes "c") [])
      ∷ with (one_space ++ space (codes "b") (codes "a") (codes "uid_map = [[0, 0, 1]]\ngid_map = []\n"))
      ∷ with (file (codes "/a") (codes "x") (codes "mount = \"m\"\n"))
      ∷ with (file (codes "/a") (codes "x") (codes "caps = \"x\"\n")) ∷ [])
      (codes "process 1: UnknownKey" ∷ codes "process 1: MissingKey" ∷ codes "process 1: WrongType"
      ∷ codes "process 1: BadNumber" ∷ codes "process 2: TwiceNamed" ∷ codes "process 1: NoSuchParent"
      ∷ codes "process 1: NoSuchSpace" ∷ codes "space 2: TwiceNamed" ∷ codes "space 2: BadMap"
      ∷ codes "file 1: NoSuchMount" ∷ codes "file 1: BadMode" ∷ []);
  -- an earlier row comes before a later one, and a table before those after it, whatever their faults and their places
  two_faults_of_two_rows : AreBadWorlds
      (with (process (codes "ambient = \"CAP_KILL\"\n") ++ codes "[[process]]\nx = 1\n")
      ∷ with (codes "[filter]\nx = 1\n" ++ process (codes "ambient = \"CAP_KILL\"\n"))
      ∷ with (process (codes "x = 1\n") ++ file (codes "/a") (codes "x") [])
      ∷ with (file (codes "/a") (codes "x") [] ++ codes "[[mount]]\nname = \"m\"\n[[mount]]\nname = \"m\"\n")
      ∷ with (codes "[[mount]]\n" ++ one_space ++ one_space) ∷ codes "log = 1\n[[space]]\n" ∷ [])
      (codes "process 1: NotIncluded" ∷ codes "process 1: NotIncluded" ∷ codes "file 1: BadMode"
      ∷ codes "mount 2: TwiceNamed" ∷ codes "space 2: TwiceNamed" ∷ codes "whole 0: WrongType" ∷ []);
  a_world_is_told_before_its_log : TextReplays (with (process (codes "parent = 7\n"))) (codes "x\n") status.BadWorld
      (codes "bad world process 1: NoSuchParent" ∷ []);
}
unfolding print_on_literals world_on_literals
later_faults = search

-- ---- faults of lines
-- each of these logs in the world of root is told by these words
abbrev AreBadLogs : List (List ℕ) → List (List ℕ) → Type 0
AreBadLogs logs words =
    AllSay (map (replay_in (world_of_100 0)) logs) status.BadLog
    (map (λ word. root_line ∷ (codes "bad log line " ++ word) ∷ []) words)

pub faults_in_lines : record {
  faults_of_lines : AreBadLogs (codes "0 exit = 0\n" ∷ codes "100 getuid = 0\n" ∷ codes "100 setuid 1\n"
      ∷ codes "100 setresuid 1 2 = 0\n" ∷ codes "100 setuid 1 = 5\n" ∷ [])
      (codes "1: pid" ∷ codes "1: call" ∷ codes "1: shape" ∷ codes "1: count" ∷ codes "1: result" ∷ []);
  -- the first that isn't of its kind, by its number
  faults_of_arguments : AreBadLogs (codes "100 setuid x = 0\n" ∷ codes "100 setresuid 1 2 4294967296 = 0\n"
      ∷ codes "100 setgroups 1 2 3 x = 0\n" ∷ codes "100 setns pod = 0\n" ∷ codes "100 write_uid_map init 0 0 -1 = 0\n"
      ∷ codes "100 write_setgroups init no = 0\n" ∷ codes "100 capset all CAP_X x = 0\n" ∷ [])
      (codes "1: argument 1" ∷ codes "1: argument 3" ∷ codes "1: argument 4" ∷ codes "1: argument 1"
      ∷ codes "1: argument 4" ∷ codes "1: argument 2" ∷ codes "1: argument 2" ∷ []);
  -- blank lines and comments count as lines
  results_by_their_calls : AreBadLogs (codes "100 setfsuid 1 = EINVAL\n" ∷ codes "100 fork = 0\n"
      ∷ codes "\n; x\n \t\n100 exit = EPERM\n" ∷ codes ";\n100 execve - = ENOSYS" ∷ [])
      (codes "1: result" ∷ codes "1: result" ∷ codes "4: result" ∷ codes "2: result" ∷ []);
  -- each of these lines has all the faults that come after the one that is told
  faults_of_one_line : AreBadLogs (codes "x getuid x\n" ∷ codes "100 getuid x\n" ∷ codes "100 setreuid x\n"
      ∷ codes "100 setreuid x = x\n" ∷ codes "100 setreuid x x = x\n" ∷ codes "100 setreuid 1 x = x\n"
      ∷ codes "100 setreuid 1 1 = x\n" ∷ [])
      (codes "1: pid" ∷ codes "1: call" ∷ codes "1: shape" ∷ codes "1: count" ∷ codes "1: argument 1"
      ∷ codes "1: argument 2" ∷ codes "1: result" ∷ []);
}
unfolding print_on_literals
faults_in_lines = search

-- ---- two lines
pub pairs_of_lines : record {
  -- the earlier one is told, be it a fault or an event that is no step; what is possible before it is printed
  the_earlier_fault_is_told : Replays (world_of_100 0) (codes "100 setuid 0 = 0\n100 setuid x = 0\nx\n") status.BadLog
      (root_line ∷ codes "1: 100 setuid 0 = 0" ∷ root_line ∷ codes "bad log line 2: argument 1" ∷ []);
  an_impossible_line_before_a_fault : Replays (world_of_100 0) (codes "100 setuid 0 = EPERM\nx\n") status.Impossible
      (root_line ∷ codes "impossible line 1: the rules give 0" ∷ []);
  a_fault_before_an_impossible_line : Replays (world_of_100 0) (codes "x\n100 setuid 0 = EPERM\n") status.BadLog
      (root_line ∷ codes "bad log line 1: pid" ∷ []);
  -- why an event is no step, in this order: no process, no space, a pid in use, another result
  two_impossible_lines : Replays (world_of_100 0) (codes "101 setns #1 = 0\n100 setns #1 = EPERM\n") status.Impossible
      (root_line ∷ codes "impossible line 1: no process" ∷ []);
}
unfolding print_on_literals
pairs_of_lines = search
