-- The files of a process that a log is followed on: its id maps, its setgroups word, its user namespace (user_namespaces(7);
-- which paths are followed is a choice), and what is written to them.
use Rattle.std.specs.Prelude.{ℕ, codes, ◌==◌, ◌||◌, ◌&&◌, Bool, true, false, not, bytes_eq, is_none, map, reverse, List}
use Rattle.std.specs.Prelude.{[], ◌∷◌, Option, Some, None}
use Rattle.std.specs.Prelude.{option_map, unwrap_or, if◌then◌else◌}
use Rattle.std.specs.List.{slice_split}
use Rattle.std.specs.Option.{option_or}
use Rattle.model_cred.specs.IdMap.{Extent}
use Rattle.model_strace.specs.Marks.{after_mark, before_mark}
use Rattle.cm_lines.specs.Lines.{lines_of}
use Rattle.model_text.specs.Cut.{tokens_of}
use Rattle.model_text.specs.Token.{number_token, pid_token, word_token}

-- A file that is followed: uid_map, gid_map, setgroups, ns/user.
pub data Followed : Type 0 where
  UidMap : Followed
  GidMap : Followed
  SetgroupsWord : Followed
  UserSpace : Followed

-- the file is a user namespace
abbrev pub is_space : Followed → Bool
is_space UserSpace = true
is_space _ = false

-- ---- paths
-- the names in a path, which slashes part: an absolute one begins with an empty name
abbrev pub path_names : List ℕ → List (List ℕ)
path_names path = slice_split (λ byte. byte == 47) path

-- the map file, or the word's, of that name
abbrev pub map_named : List ℕ → Option Followed
map_named name =
    if bytes_eq name (codes "uid_map") then Some UidMap
    else if bytes_eq name (codes "gid_map") then Some GidMap
    else if bytes_eq name (codes "setgroups") then Some SetgroupsWord else None

-- the user namespace, by a name after its folder's
abbrev pub space_named : List ℕ → List ℕ → Option Followed
space_named folder name = if bytes_eq folder (codes "ns") && bytes_eq name (codes "user") then Some UserSpace else None

-- the file of these names in a process's folder
abbrev pub file_of : List (List ℕ) → Option Followed
file_of (name ∷ []) = map_named name
file_of (folder ∷ name ∷ []) = space_named folder name
file_of _ = None

-- A file that a path names, and the process whose it is.
pub record Named : Type 0 where
  pub process : ℕ
  pub file : Followed

-- the file of a process, where both are told
abbrev pub named : Option ℕ → Option Followed → Option Named
named (Some process) (Some file) = Some (record { process = process; file = file })
named _ _ = None

-- the process that a name in /proc stands for, where that process opens it (proc(5)): a pid, or its own
abbrev pub process_named : ℕ → List ℕ → Option ℕ
process_named own name =
    if bytes_eq name (codes "self") || bytes_eq name (codes "thread-self") then Some own else pid_token name

-- a pid, or `self`
abbrev pub is_process : List ℕ → Bool
is_process name = bytes_eq name (codes "self") || not (is_none (pid_token name))

-- the file of a thread: task/PID/FILE in the folder of a process
abbrev pub thread_file : List ℕ → List (List ℕ) → Option Named
thread_file process (task ∷ thread ∷ names) =
    if is_process process && bytes_eq task (codes "task") then named (pid_token thread) (file_of names) else None
thread_file process _ = None

-- the file in a folder of /proc
abbrev pub folder_file : ℕ → List ℕ → List (List ℕ) → Option Named
folder_file own folder names = option_or (named (process_named own folder) (file_of names)) (thread_file folder names)

-- the file of the names of an absolute path
abbrev pub proc_file : ℕ → List (List ℕ) → Option Named
proc_file own (root ∷ proc ∷ folder ∷ names) =
    if bytes_eq root [] && bytes_eq proc (codes "proc") then folder_file own folder names else None
proc_file own _ = None

-- the file that an absolute path names, where that process opens it
abbrev pub file_at : ℕ → List ℕ → Option Named
file_at own path = proc_file own (path_names path)

-- the file that a relative path may name, by its names from the last one on
abbrev pub last_file : List (List ℕ) → Option Followed
last_file [] = None
last_file (name ∷ []) = map_named name
last_file (name ∷ folder ∷ names) = option_or (map_named name) (space_named folder name)

-- the file that a relative path may name, whatever it is relative to
abbrev pub relative_file : List ℕ → Option Followed
relative_file path = if is_none (after_mark (codes "/") path) then last_file (reverse (path_names path)) else None

-- an open, for writing or not, is followed: the user namespace however it is opened, the others for writing alone
abbrev pub is_followed : Bool → Followed → Bool
is_followed writes UserSpace = true
is_followed writes _ = writes

-- ---- what is written
-- the extent of a line's tokens: inside, outside, length
abbrev pub extent_of : List (Option ℕ) → Option Extent
extent_of (Some i ∷ Some o ∷ Some n ∷ []) = Some (record { inside = i; outside = o; length = n })
extent_of _ = None

-- one extent before others
abbrev pub extent_before : Option Extent → Option (List Extent) → Option (List Extent)
extent_before None extents = None
extent_before (Some e) extents = option_map (λ more. e ∷ more) extents

-- the extents of lines, each of three numbers that blanks part
abbrev pub extents_of : List (List ℕ) → Option (List Extent)
extents_of [] = Some []
extents_of (line ∷ lines) = extent_before (extent_of (map number_token (tokens_of line))) (extents_of lines)

-- the extents that a text written to a map file gives
abbrev pub written_extents : List ℕ → Option (List Extent)
written_extents text = extents_of (lines_of text)

-- the word that a text written to a setgroups file gives: "deny" where it is true, else "allow"; a LF may follow it
abbrev pub written_word : List ℕ → Option Bool
written_word text = word_token (unwrap_or (before_mark (codes "\n") text) text)
