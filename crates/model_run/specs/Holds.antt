-- Which rights a process holds.
use Rattle.std.specs.Prelude.{ℕ, ◌==◌, ◌||◌, Bool, false, Option, None, Some}
use Rattle.std.specs.List.{list_any}
use Rattle.model_cred.specs.Credential.{Credential}
use Rattle.model_cred.specs.Process.{Process, State, process_at}
use Rattle.model_cred.specs.Right.{Right, Cap, Uid, Gid}
use Rattle.model_cred.specs.Space.{Spaces}
use Rattle.model_rules.specs.Power.{has_over}

-- A process in the space `at` with that credential holds the right: the capability over the space (user_namespaces(7),
-- "Capabilities"), the effective user id, or the group id as its effective or a supplementary one (credentials(7)).
abbrev pub holds_right : Spaces → ℕ → Credential → Right → Bool
holds_right spaces at c (Cap cap n) = has_over spaces at c cap n
holds_right spaces at c (Uid id) = c.uid.effective == id
holds_right spaces at c (Gid id) = c.gid.effective == id || list_any (λ group. group == id) c.groups

-- an optional process holds the right
abbrev pub holds_for : Spaces → Option Process → Right → Bool
holds_for spaces None right = false
holds_for spaces (Some p) right = holds_right spaces p.space p.cred right

-- the process of that pid is alive and holds the right
abbrev pub process_holds : State → ℕ → Right → Bool
process_holds s pid right = holds_for s.spaces (process_at s.processes pid) right
