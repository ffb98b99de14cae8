use Rattle.std.proofs.Common.{◌≡◌, ◌++◌, ◌∙◌, ℕ, ap}
use Rattle.std.proofs.lemmas.Result.{IfOk-equal}
use Rattle.cm_cli.proofs.RunText.{run_written}
use Rattle.cm_cli.proofs.answers.put_run.Goals as goal
use Rattle.cm_declared.specs.World.{world_of}
use Rattle.model_report.specs.Answer.{run_lines}
use Rattle.model_report.specs.Replay.{text_of}

pub returns : goal.returns
returns c =
    let holder : c.from.result ≡ c.args.holder = cc in
    IfOk-equal _ _ _ _ c.put_numbered-2.ensures
    (run_written (world_of c.args.w.now) c.args.text.now.items c.put_numbered.new.text.items c.put_calls.new.text.items
    c.from.result c.args.run.now
    c.in_ok-put_numbered.ensures c.in_ok-put_calls.ensures
    ∙ ap (λ (pid : ℕ). c.args.text.now.items ++ text_of
    (run_lines (world_of c.args.w.now) (record { run = c.args.run.now; holder = pid }))) holder)
