-- What becomes of a call by what its caller's own filter says of it.
use Rattle.std.proofs.Common.{◌≡◌, ◌&&◌, not, Bool, true, false, if◌then◌else◌, ap}
use Rattle.cm_base.specs.declared.res.Res.{Res}
use Rattle.cm_machine.specs.Asking.{is_excluded, own_permitted, told_permitted, told_excluded}
use Rattle.model_cred.specs.Call.{Call}
use Rattle.model_cred.specs.Process.{Process, State}
use Rattle.model_cred.specs.World.{World}
use Rattle.model_run.specs.Outside.{comes_from_outside}
use Rattle.model_run.specs.Ruling.{Ruling, permitted_ruling, excluded_ruling, own}
use Rattle.model_run.specs.Step.{Outcome, Goes, told_call, told_child, told_rules}

module _ (w : World) (s : State) (p : Process) (call : Call) where
  -- what the rules give where the filter excludes the call or not
  abbrev given : Bool → Ruling → Ruling
  given excluded permitted = if excluded then excluded_ruling s else permitted

  -- what becomes of it with the result that is told
  abbrev told_if : Res → Bool → Outcome
  told_if told excluded =
      if not excluded && comes_from_outside call told then Goes s
      else told_rules told (given excluded (permitted_ruling w s p call (told_child told))) (given excluded (own_permitted w s p call))

  pub told_where_excluded : (told : Res) → is_excluded p call ≡ true → told_call w s p call told ≡ told_excluded s told
  told_where_excluded told is = ap (told_if told) is

  pub told_where_permitted : (told : Res) → is_excluded p call ≡ false → told_call w s p call told ≡ told_permitted w s p call told
  told_where_permitted told is = ap (told_if told) is

  pub own_where_excluded : is_excluded p call ≡ true → own w s p call ≡ excluded_ruling s
  own_where_excluded is = ap (λ (b : Bool). given b (own_permitted w s p call)) is

  pub own_where_permitted : is_excluded p call ≡ false → own w s p call ≡ own_permitted w s p call
  own_where_permitted is = ap (λ (b : Bool). given b (own_permitted w s p call)) is
