-- The machine's answer to what is drawn is the event of the drill, and leads where that leads; and nothing but memory keeps
-- it from an answer.
use Rattle.std.proofs.Common.{◌≡◌, ℕ, true, false, Some, None, is_some, refl, sym, ap, ◌∙◌}
use Rattle.std.proofs.lemmas.Option.{same_Some}
use Rattle.cm_base.specs.declared.res.Res.{Res}
use Rattle.cm_machine.specs.Outcomes.{IsNoAnswer, IsOwn}
use Rattle.cm_machine.specs.declared.error.StepError.{StepError}
use Rattle.cm_machine.specs.declared.error.StepError.TheVariants as error
use Rattle.model_cred.specs.Call.{Call}
use Rattle.model_cred.specs.Process.{State, is_alive, process_at}
use Rattle.model_cred.specs.World.{World}
use Rattle.model_drill.proofs.Ends.{ready_of}
use Rattle.model_drill.proofs.Turns.{asked_fine, asked_is}
use Rattle.model_drill.specs.DrillWorld.{drill_world}
use Rattle.model_drill.specs.Drill.{DrawnCall, Stand, asked_at, turn}
use Rattle.model_drill.specs.Laws.{IsDrillState}
use Rattle.model_run.specs.Ruling.{own}
use Rattle.model_run.specs.Step.{names_no_space}

module _ (at : Stand) (keeps : IsDrillState at.state) (pid : ℕ) (call : Call)
    (same_pid : pid ≡ (asked_at at).caller.pid) (same_call : call ≡ (asked_at at).call) where
  -- the caller that is drawn lives
  found : process_at at.state.processes pid ≡ Some (asked_at at).caller
  found = ap (process_at at.state.processes) same_pid ∙ (asked_is at (ready_of at.state keeps)).lives

  pub lives : is_alive at.state.processes pid ≡ true
  lives = ap is_some found

  -- and its call names no missing space
  pub named : names_no_space at.state.spaces call ≡ false
  named = ap (names_no_space at.state.spaces) same_call ∙ (asked_fine at (ready_of at.state keeps)).named

  pub turned : (w : World) (number : ℕ) (res : Res) (after : State) → w ≡ drill_world → number ≡ (asked_at at).number
      → IsOwn w at.state pid call res after
      → (record { pid = pid; call = call; res = res } ≡ (turn at).event) × (record { number = number; state = after } ≡ (turn at).after)
  unfolding turn
  turned w number res after world same_number is =
      let asked : DrawnCall = asked_at at in
      let it : is.caller ≡ asked.caller = same_Some is.caller asked.caller (sym is.lives ∙ found) in
      let answer : res ≡ (own drill_world at.state asked.caller asked.call).res = is.answers ∙ rw (world, it, same_call) in
      let leads : after ≡ (own drill_world at.state asked.caller asked.call).state = is.leads ∙ rw (world, it, same_call) in
      (rw (same_pid, same_call, answer), rw (same_number, leads))

-- nothing but memory keeps the machine from an answer to a process that lives, which names no missing space
pub only_memory : (s : State) (pid : ℕ) (call : Call) (e : StepError) → IsNoAnswer e
    → (e ≡ error.NoProcess → process_at s.processes pid ≡ None)
    → (e ≡ error.NoSpace → (is_alive s.processes pid ≡ true) × (names_no_space s.spaces call ≡ true))
    → is_alive s.processes pid ≡ true → names_no_space s.spaces call ≡ false → e ≡ error.NoMemory
only_memory s pid call error.NoProcess is dead unnamed lives named =
    absurd (let never : true ≡ false = sym lives ∙ ap is_some (dead refl) in cc)
only_memory s pid call error.NoSpace is dead unnamed lives named = absurd (let never : true ≡ false = sym (unnamed refl).1 ∙ named in cc)
only_memory s pid call error.NoMemory is dead unnamed lives named = refl
only_memory s pid call _ is dead unnamed lives named = absurd is
