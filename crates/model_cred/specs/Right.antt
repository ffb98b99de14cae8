-- Rights that a process may hold.
use Rattle.std.specs.Prelude.{ℕ}

-- A capability over a space (user_namespaces(7), "Capabilities"); an effective user id; a group id, effective or
-- supplementary (credentials(7)). Ids are those that the initial space sees.
pub data Right : Type 0 where
  Cap : ℕ → ℕ → Right
  Uid : ℕ → Right
  Gid : ℕ → Right
