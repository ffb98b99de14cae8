use Rattle.std.proofs.Common.{◌≡◌, ◌∙◌, ℕ, List, [], ◌++◌, sym, ap, subst, append-nil}
use Rattle.std.proofs.lemmas.Result.{IfOk-equal}
use Rattle.cm_base.specs.declared.res.Res.{Res}
use Rattle.cm_base.specs.declared.res.Res.TheVariants.{Child}
use Rattle.cm_declared.specs.World.{world_of}
use Rattle.cm_report.proofs.StepText.{no_child, step_put}
use Rattle.cm_report.proofs.steps.put_step.Goals as goal
use Rattle.model_cred.specs.Call.{Event}
use Rattle.model_cred.specs.Process.{process_at}
use Rattle.model_report.specs.Replay.{ReportLine, child_lines, credentials_if, text_of}

pub put_living-requires : goal.put_living-requires
put_living-requires c = record { keeps = c.in_ok-put_number.ensures.keeps c.args.w.now.names c.requires.keeps }

pub returns-in-Child-clause-text : goal.returns-in-Child-clause-text
returns-in-Child-clause-text c =
    let w = world_of c.args.w.now in
    let s = c.args.state.now in
    let event = c.event.inside.event in
    let four = c.put_living.new.text.items in
    let pid : c.e.inside.pid ≡ event.pid = ap (λ (event : Event). event.pid) c.e.view_is in
    let res : Child c.in-Child.pid ≡ event.res = sym c.in-Child.is ∙ ap (λ (event : Event). event.res) c.e.view_is in
    let living = subst (λ (n : ℕ). four ≡ c.put.new.text.items ++ text_of (credentials_if w (process_at s.processes n))) pid
    c.in_ok-put_living.ensures.text in
    rw (sym c.event.view_is)
    (IfOk-equal _ _ _ _ c.put_living-in-Child.ensures.text
    (ap (λ (r : Res). four ++ text_of (child_lines w s r)) res
    ∙ step_put w s (record { line = c.event.inside.line; event = event }) _ _ _ _ four c.in_ok-put_number.ensures.text c.in_ok-put_event.ensures
    c.in_ok-put.ensures living))

pub returns-in_default-clause-text : goal.returns-in_default-clause-text
returns-in_default-clause-text c =
    let w = world_of c.args.w.now in
    let s = c.args.state.now in
    let event = c.event.inside.event in
    let four = c.put_living.new.text.items in
    let pid : c.e.inside.pid ≡ event.pid = ap (λ (event : Event). event.pid) c.e.view_is in
    let none : child_lines w s event.res ≡ [] = ap (λ (event : Event). child_lines w s event.res) (sym c.e.view_is)
    ∙ no_child w s c.e.inside.res c.in_default.not-Child in
    let living = subst (λ (n : ℕ). four ≡ c.put.new.text.items ++ text_of (credentials_if w (process_at s.processes n))) pid
    c.in_ok-put_living.ensures.text in
    rw (sym c.event.view_is)
    (sym (append-nil four)
    ∙ ap (λ (lines : List ReportLine). four ++ text_of lines) (sym none)
    ∙ step_put w s (record { line = c.event.inside.line; event = event }) _ _ _ _ four c.in_ok-put_number.ensures.text c.in_ok-put_event.ensures
    c.in_ok-put.ensures living)
