-- Where the pids of processes stand.
use Rattle.std.specs.Prelude.{ℕ, zero, suc, List, [], ◌∷◌}
use Rattle.model_cred.specs.Process.{Process}

-- the pid of a process
abbrev pub pid_of : Process → ℕ
pid_of p = p.pid

-- the pid at a place of the list, 0 past its end
abbrev pub pid_at : List Process → ℕ → ℕ
pid_at [] i = 0
pid_at (p ∷ processes) zero = p.pid
pid_at (p ∷ processes) (suc i) = pid_at processes i
