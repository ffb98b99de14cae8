use Rattle.std.proofs.Common.{◌≡◌, ℕ, Bool, true, false, inl, inr, refl}
use Rattle.cm_base.specs.declared.res.Res.{Res}
use Rattle.cm_strace.proofs.told.bears.Goals as goal
use Rattle.model_cred.specs.Call.{Call}
use Rattle.model_strace.specs.Parts.{Parts}
use Rattle.model_strace.specs.Turn.{birth_call, done, gives}

-- of a birth that has no child nothing is known
childless : (pid : ℕ) (call : Call) (user : Bool) (answer : Res) (p : Parts) → call ≡ birth_call user
    → done pid call answer p ≡ gives p pid (birth_call user) answer
childless pid call true answer p is = rw is refl
childless pid call false answer p is = rw is refl

pub returns-in-Done : goal.returns-in-Done
returns-in-Done c = elim c.in-Done.is [
  | inl is ↦ rw is (childless c.args.pid _ c.args.user _ c.args.parts.now.known c.birth_call.ensures)
  | inr (inl is) ↦ rw is.1 (childless c.args.pid _ c.args.user _ c.args.parts.now.known c.birth_call.ensures)
  | inr (inr is) ↦ rw is.1 (childless c.args.pid _ c.args.user _ c.args.parts.now.known c.birth_call.ensures)
]
