use Rattle.std.proofs.Common.{◌≡◌, ◌++◌, sym, ap, subst, refl, None, Option}
use Rattle.cm_base.specs.Outcome.{OrNoMemory}
use Rattle.cm_declared.specs.World.{world_of}
use Rattle.cm_report.proofs.ReportText.{closed}
use Rattle.cm_state.proofs.Places.{process_found}
use Rattle.cm_report.proofs.steps.put_living.Goals as goal
use Rattle.model_cred.specs.Process.{Process, State}
use Rattle.model_report.specs.Replay.{Credentials, credentials_if, text_of}
use Rattle.model_text.specs.Print.{credential_line, place_text}

pub returns-in-Some-clause-text : goal.returns-in-Some-clause-text
unfolding credential_line place_text
returns-in-Some-clause-text c =
    let w = world_of c.args.w.now in
    let found = process_found c.args.state.now c.state.inside.procs c.items-procs.result.now c.in-Some.at c.args.pid c.index-procs-at.result
    c.items-procs.ensures (ap (λ (s : State). s.processes) c.state.view_is) c.in-Some.ensures.found.0 c.in-Some.ensures.found.1
    c.index-procs-at.is in
    subst (λ (p : Option Process). OrNoMemory c.put.result (λ _. c.put.new.text.items ≡ c.args.text.now.items ++ text_of (credentials_if w p))) (sym found)
    (rw (sym c.p.view_is, sym c.deref.ensures)
    (closed _ _ _ _
    (Credentials w (record {
      pid = c.p.inside.pid;
      forebear = None;
      space = c.p.inside.space.0;
      cred = c.deref.result.now;
      filter = c.p.inside.filter;
    }))
    c.put.ensures.text refl))
