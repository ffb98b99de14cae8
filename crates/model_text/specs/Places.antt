-- Where the processes stand: so far in the initial space, which is the only one.
use Rattle.std.specs.Prelude.{◌≡◌, All}
use Rattle.model_cred.specs.Process.{State}
use Rattle.model_cred.specs.Space.{first_spaces}

-- The state has the initial space alone, and each process is in it.
pub record IsInitial (s : State) : Type 0 where
  pub spaces : s.spaces ≡ first_spaces
  pub processes : All (λ p. p.space ≡ 0) s.processes
