-- What a question keeps.
use Rattle.std.specs.Prelude.{◌≡◌, ℕ, All}
use Rattle.cm_plans.specs.Ways.{AreWays}
use Rattle.cm_plans.specs.declared.query.Query.{Query}
use Rattle.cm_state.specs.Right.{right_of}
use Rattle.cm_state.specs.declared.right.Right.{Right}
use Rattle.cm_declared.specs.declared.world.World.{World}
use Rattle.model_cred.specs.Process.{State}
use Rattle.model_cred.specs.Space.{IsTree, KeepsSpace}
use Rattle.model_plans.specs.Plan.{special_rows}
use Rattle.model_run.specs.Own.{filter_of}

-- What was worked out of the question is right, and its spaces are a tree and keep what spaces keep.
pub record IsReady (q : Query) : Type 0 where
  pub tree : IsTree q.spaces.now
  pub keeps : All KeepsSpace q.spaces.now
  pub ways : AreWays q.spaces.now (right_of q.right.now) q.ways.items
  pub special : q.special.items ≡ special_rows q.world.now.files.rows

-- the member of that pid is the one who moves
abbrev pub IsFor : Query → State → ℕ → Type 0
IsFor q s pid = q.may ≡ record { world = q.world.now.filter; own = filter_of s pid }

-- the question for another member
abbrev pub IsSameQuestion : Query → Query → Type 0
IsSameQuestion old new = new ≡ record old { may = new.may }

-- It is the question after that right in the state and world.
pub record IsAbout (q : Query) (w : World) (s : State) (right : Right) : Type 0 where
  pub of_world : q.world.now ≡ w
  pub of_spaces : q.spaces.now ≡ s.spaces
  pub of_right : q.right.now ≡ right
