use Rattle.std.proofs.Common.{◌≡◌, ℕ, Bool, true, false, List, [], ◌∷◌, ◌++◌, cond, refl}
use Rattle.cm_base.specs.declared.res.Res.{Res}
use Rattle.cm_state.specs.Call.{call_of}
use Rattle.cm_strace.proofs.Resumed.{after_without}
use Rattle.cm_strace.proofs.acts.conclude.Goals as goal
use Rattle.model_cred.specs.Call.{Call}
use Rattle.model_strace.specs.After.{Goes, preceded}
use Rattle.model_strace.specs.Lines.{given_at}
use Rattle.model_strace.specs.Parts.{Parts, without_kept}
use Rattle.model_strace.specs.Turn.{after_call, done}
use Rattle.model_text.specs.Reading.{Placed}

-- the event of a call, and what is known after it, whether it was resumed or not
call_given : (resumed : Bool) (line pid : ℕ) (call : Call) (answer : Res) (old events : List Placed) (start changed made : Parts)
    → changed ≡ after_call pid call answer start → made ≡ cond resumed (without_kept pid changed) changed
    → events ≡ old ++ record { line = line; event = record { pid = pid; call = call; res = answer } } ∷ []
    → Goes events (record { parts = made; born = [] })
    ≡ preceded old (given_at line (done pid call answer (cond resumed (without_kept pid start) start)))
call_given true line pid call answer old events start changed made first second third =
    rw (third, second, first, after_without pid pid call answer start) refl
call_given false line pid call answer old events start changed made first second third = rw (third, second, first) refl

pub returns-in_ok-forget-in-Does-clause-given : goal.returns-in_ok-forget-in-Does-clause-given
returns-in_ok-forget-in-Does-clause-given c =
    rw c.in-Does.is
    (call_given c.args.origin.resumed c.args.origin.line c.args.origin.pid
    (call_of c.in-Does.call) c.in-Does.answer c.args.events.now.items _
    c.args.parts.now.known _ _ c.in_ok-change-in-Does.ensures.changed c.in_ok-forget-in-Does.ensures.changed
    (rw c.reserve.ensures.items at c.put_event.ensures))
