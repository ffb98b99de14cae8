use Rattle.std.proofs.Common.{sym, refl, None}
use Rattle.cm_report.proofs.ReportText.{closed}
use Rattle.cm_report.proofs.steps.put_process.Goals as goal
use Rattle.cm_declared.specs.World.{world_of}
use Rattle.model_report.specs.Replay.{Credentials}
use Rattle.model_text.specs.Print.{credential_line, place_text}

pub returns : goal.returns
unfolding credential_line place_text
returns c =
    rw (sym c.p.view_is, sym c.deref.ensures)
    (closed _ _ _ _
    (Credentials (world_of c.args.w.now)
    (record {
      pid = c.p.inside.pid;
      forebear = None;
      space = c.p.inside.space.0;
      cred = c.deref.result.now;
      filter = c.p.inside.filter;
    }))
    c.put_credential_line.ensures refl)
