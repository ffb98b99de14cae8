use Rattle.std.proofs.Common.{◌≡◌, List, [], ◌∷◌, ap, ◌∙◌, ◌++◌, Err, subst}
use Rattle.cm_base.specs.declared.status.Status.TheVariants as status
use Rattle.cm_replay.proofs.Events.{refused}
use Rattle.cm_replay.proofs.replay.take_event.Goals as goal
use Rattle.cm_replay.specs.Replay.{EndsWith, event_lines}
use Rattle.cm_report.specs.Reason.{reason_of}
use Rattle.cm_declared.specs.World.{world_of}
use Rattle.model_report.specs.Replay.{ReportLine, Plain, impossible_text, text_of}
use Rattle.model_run.specs.Step.{outcome}
use Rattle.model_text.specs.Reading.{Placed}

pub returns-in_ok-put_impossible-in-Err-clause-turn : goal.returns-in_ok-put_impossible-in-Err-clause-turn
returns-in_ok-put_impossible-in-Err-clause-turn c =
    let w = world_of c.args.w.now in
    let e : Placed = record { line = c.event.inside.line; event = c.event.inside.event } in
    let says = c.in-Err.ensures in
    let is = refused w e c.in-Err.why (outcome w c.args.replay.now.machine.state e.event)
    c.in_ok-put_impossible-in-Err.ensures.refusal
    (λ same. says.no_process (ap Err same)) (λ same. says.no_space (ap Err same))
    (λ same. says.pid_in_use (ap Err same)) (λ res same. says.wrong res (ap Err same)) in
    subst (λ (p : Placed). EndsWith w p status.Impossible (outcome w c.args.replay.now.machine.state p.event)) c.event.view_is is.ends

pub returns-in_ok-put_impossible-in-Err-clause-lines : goal.returns-in_ok-put_impossible-in-Err-clause-lines
returns-in_ok-put_impossible-in-Err-clause-lines c =
    let w = world_of c.args.w.now in
    let e : Placed = record { line = c.event.inside.line; event = c.event.inside.event } in
    let says = c.in-Err.ensures in
    let is = refused w e c.in-Err.why (outcome w c.args.replay.now.machine.state e.event)
    c.in_ok-put_impossible-in-Err.ensures.refusal
    (λ same. says.no_process (ap Err same)) (λ same. says.no_space (ap Err same))
    (λ same. says.pid_in_use (ap Err same)) (λ res same. says.wrong res (ap Err same)) in
    let lines = subst (λ (p : Placed).
    Plain (impossible_text c.event.inside.line (reason_of c.in-Err.why)) ∷ []
    ≡ event_lines c.args.replay.now.shows w p (outcome w c.args.replay.now.machine.state p.event)) c.event.view_is (is.lines c.args.replay.now.shows) in
    c.in_ok-put_impossible-in-Err.ensures.line ∙ ap (λ (ls : List ReportLine). c.args.text.now.items ++ text_of ls) lines
