-- What an audit asks for: the text of a pid, and the text of a right (choice).
use Rattle.std.specs.Prelude.{ℕ, ◌+◌, ◌==◌, nat_lt, codes, bytes_eq, length, take, drop, position, List, Option, Some, None, if◌then◌else◌}
use Rattle.std.specs.Prelude.{option_and_then, option_map}
use Rattle.cm_base.specs.Limits.{id_count}
use Rattle.cm_base.specs.Names.{cap_of}
use Rattle.model_cred.specs.Process.{Process, State, process_at}
use Rattle.model_cred.specs.Right.{Right, Cap, Uid, Gid}
use Rattle.model_text.specs.SpaceToken.{space_of_token}
use Rattle.model_text.specs.Token.{number_token, pid_token}

-- What is asked: the text of a pid, and the text of a right.
pub record Query : Type 0 where
  pub pid : List ℕ
  pub right : List ℕ

-- what stands after these bytes, where the text begins with them
abbrev pub rest_after : List ℕ → List ℕ → Option (List ℕ)
rest_after front text = if bytes_eq (take (length front) text) front then Some (drop (length front) text) else None

-- the number, where it is an id
abbrev pub as_id : ℕ → Option ℕ
as_id n = if nat_lt n id_count then Some n else None

-- an id: a number of at most 4294967294
abbrev pub id_number : List ℕ → Option ℕ
id_number text = option_and_then as_id (number_token text)

-- a capability over a space, where both are there
abbrev pub cap_right : Option ℕ → Option ℕ → Option Right
cap_right (Some cap) (Some n) = Some (Cap cap n)
cap_right _ _ = None

-- the name of a capability and the token of a space, parted at the first `@`; `names` are those of the declared spaces
abbrev pub cap_parts : List (List ℕ) → Option ℕ → List ℕ → Option Right
cap_parts names None text = None
cap_parts names (Some at) text = cap_right (cap_of (take at text)) (space_of_token names (drop (at + 1) text))

-- the right that such a text is, parted at its first `@`
abbrev pub cap_text : List (List ℕ) → List ℕ → Option Right
cap_text names text = cap_parts names (position (λ byte. byte == 64) text) text

-- the right after `uid:`, `gid:` or `cap:`, and else none
abbrev pub right_by : List (List ℕ) → Option (List ℕ) → Option (List ℕ) → Option (List ℕ) → Option Right
right_by names (Some uid) gid cap = option_map Uid (id_number uid)
right_by names None (Some gid) cap = option_map Gid (id_number gid)
right_by names None None (Some cap) = cap_text names cap
right_by names None None None = None

-- a right: `uid:K`, `gid:K` or `cap:NAME@SPACE`
abbrev pub right_token : List (List ℕ) → List ℕ → Option Right
right_token names text = right_by names (rest_after (codes "uid:") text) (rest_after (codes "gid:") text) (rest_after (codes "cap:") text)

-- the process of an optional pid
abbrev pub process_of : State → Option ℕ → Option Process
process_of s None = None
process_of s (Some pid) = process_at s.processes pid

-- the live process whose pid the text is
abbrev pub asked_process : State → List ℕ → Option Process
asked_process s text = process_of s (pid_token text)
