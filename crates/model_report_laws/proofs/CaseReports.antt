-- What the worked cases of reports share: what a report says, worlds, and credential lines by the parts that change.
use Rattle.std.proofs.Common.{◌≡◌, ℕ, List, [], ◌∷◌, ◌++◌, cond, map, bytes_eq}
use Rattle.std.specs.Prelude.{codes, flat_map}
use Rattle.cm_base.specs.declared.status.Status.{Status}
use Rattle.model_cred.specs.World.{World}
use Rattle.model_report.specs.Checked.{Holds}
use Rattle.model_report.specs.Judged.{Judged}
use Rattle.model_report.specs.Replay.{Report, text_of}
use Rattle.model_report.specs.Report.{by_world, report}
use Rattle.model_report.specs.Task.{NoTask}
use Rattle.model_report.specs.Told.{Told, TellsYes}
use Rattle.model_text.proofs.PrintCases.{process_100}
use Rattle.model_text.proofs.ProcessCases.{of_row}
use Rattle.model_text.proofs.WorldCases.{world_with}
use Rattle.model_text.specs.WorldText.{Reads}

-- ---- what a report says
-- what is judged, where nothing is asked
abbrev pub none_judged : Judged
none_judged = record { verdict = TellsYes []; checked = Holds }

-- a verdict is judged, and what rows are found to be
abbrev pub judged : Told → Judged
judged x = record { verdict = x; checked = Holds }

-- lines, each with its LF
abbrev pub written : List (List ℕ) → List ℕ
written lines = flat_map (λ line. line ++ 10 ∷ []) lines

-- the report has this status, and its text is these lines
pub record Says (report : Report) (st : Status) (lines : List (List ℕ)) : Type 0 where
  pub status : report.status ≡ st
  pub text : text_of report.lines ≡ written lines

-- the world of process 100 alone, with this user id
abbrev pub world_of_100 : ℕ → World
world_of_100 uid = world_with (process_100 uid ∷ [])

-- the replay of a log in a world
abbrev pub replay_in : World → List ℕ → Report
replay_in w log = by_world NoTask none_judged (Reads w) log

-- it has this status and these lines
abbrev pub Replays : World → List ℕ → Status → List (List ℕ) → Type 0
Replays w log st lines = Says (replay_in w log) st lines

-- ---- whole commands
-- the words `replay w l`
abbrev pub replay_words : List (List ℕ)
replay_words = codes "replay" ∷ codes "w" ∷ codes "l" ∷ []

-- the words `audit w l`, a pid and a right
abbrev pub audit_words : List ℕ → List ℕ → List (List ℕ)
audit_words pid right = codes "audit" ∷ codes "w" ∷ codes "l" ∷ pid ∷ right ∷ []

-- the file w has the one text, and each other file has the other
abbrev pub files : List ℕ → List ℕ → List ℕ → List ℕ
files world log name = cond (bytes_eq name (codes "w")) world log

-- the replay of the texts of a world and a log has this status and these lines
abbrev pub TextReplays : List ℕ → List ℕ → Status → List (List ℕ) → Type 0
TextReplays world log st lines = Says (report replay_words (files world log) none_judged) st lines

-- the same of the world of process 100, whose row goes on with this text
abbrev pub RowReplays : List ℕ → List ℕ → Status → List (List ℕ) → Type 0
RowReplays row log st lines = TextReplays (of_row row) log st lines

-- an audit of that process for a right, with this verdict where it isn't refused
abbrev pub RowAudits : List ℕ → List ℕ → List ℕ → Told → Status → List (List ℕ) → Type 0
RowAudits row log right x st lines = Says (report (audit_words (codes "100") right) (files (of_row row) log) (judged x)) st lines

-- a world with three spaces: `box` in the initial one and owned by user 1000, `inner` in it and owned by its user 0, and
-- `other` beside it
abbrev pub three_spaces : List ℕ
three_spaces =
    codes "log = \"script\"\n[[space]]\nname = \"box\"\nparent = \"init\"\nowner = 1000\nuid_map = [[0, 100000, 65536]]\n"
    ++ codes "gid_map = [[0, 100000, 65536]]\n[[space]]\nname = \"inner\"\nparent = \"box\"\nowner = 100000\nuid_map = [[0, 1000, 1000]]\n"
    ++ codes "gid_map = [[0, 1000, 1000]]\n[[space]]\nname = \"other\"\nparent = \"init\"\nowner = 1000\nuid_map = [[0, 300000, 65536]]\n"
    ++ codes "gid_map = [[0, 300000, 65536]]\n"

-- ---- credential lines
-- the line of a process by its pid, the token of its space, its ids and its sets
abbrev pub line_of : List ℕ → List ℕ → List ℕ → List ℕ → List ℕ
line_of pid space ids sets = codes "> " ++ pid ++ codes " " ++ space ++ ids ++ sets

-- four user ids, with group ids 0 and no groups
abbrev pub ids_of : List ℕ → List ℕ
ids_of uids = codes " uid=" ++ uids ++ codes " gid=0,0,0,0 groups=-"

-- the inheritable, permitted, effective, bounding and ambient set, and the flags
abbrev pub sets_of : List ℕ → List ℕ → List ℕ → List ℕ → List ℕ → List ℕ → List ℕ
sets_of i p e b a flags =
    codes " inh=" ++ i ++ codes " prm=" ++ p ++ codes " eff=" ++ e ++ codes " bnd=" ++ b ++ codes " amb=" ++ a
    ++ codes " " ++ flags

-- all capabilities, and none
abbrev pub all : List ℕ
all = codes "000001ffffffffff"

abbrev pub none : List ℕ
none = codes "0000000000000000"

-- CAP_KILL (5), CAP_NET_BIND_SERVICE (10) and CAP_NET_RAW (13) alone
abbrev pub kill : List ℕ
kill = codes "0000000000000020"

abbrev pub net_bind : List ℕ
net_bind = codes "0000000000000400"

abbrev pub net_raw : List ℕ
net_raw = codes "0000000000002000"

-- no flags, and SECBIT_KEEP_CAPS alone
abbrev pub no_flags : List ℕ
no_flags = codes "sec=00 nnp=0"

abbrev pub keep_caps : List ℕ
keep_caps = codes "sec=10 nnp=0"

-- the sets of one with all capabilities, and of one without, in a full bounding set and without flags
abbrev pub all_sets : List ℕ
all_sets = sets_of none all all all none no_flags

abbrev pub no_sets : List ℕ
no_sets = sets_of none none none all none no_flags

-- the ids of user 1000
abbrev pub user_ids : List ℕ
user_ids = ids_of (codes "1000,1000,1000,1000")

-- root, and user 1000, in the initial space
abbrev pub root_at : List ℕ → List ℕ
root_at pid = line_of pid (codes "init") (ids_of (codes "0,0,0,0")) all_sets

abbrev pub user_at : List ℕ → List ℕ
user_at pid = line_of pid (codes "init") user_ids no_sets

-- process 100 in the initial space
abbrev pub of_100 : List ℕ → List ℕ → List ℕ
of_100 ids sets = line_of (codes "100") (codes "init") ids sets

-- process 100 as root, and as user 1000
abbrev pub root_line : List ℕ
root_line = root_at (codes "100")

abbrev pub user_line : List ℕ
user_line = user_at (codes "100")

-- a process in a space, with one user id
abbrev pub of_user : List ℕ → List ℕ → List ℕ → List ℕ → List ℕ
of_user pid space id sets = line_of pid space (ids_of (id ++ codes "," ++ id ++ codes "," ++ id ++ codes "," ++ id)) sets

-- ---- reports that are alike
-- each of the reports has this status, and their texts are these lines each
pub record AllSay (reports : List Report) (st : Status) (lines : List (List (List ℕ))) : Type 0 where
  pub statuses : map (λ report. report.status) reports ≡ map (λ _. st) reports
  pub texts : map (λ report. text_of report.lines) reports ≡ map written lines
