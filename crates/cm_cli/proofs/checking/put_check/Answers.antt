use Rattle.std.proofs.Common.{◌≡◌, length, Ok, IfOk, ap, subst}
use Rattle.cm_cli.proofs.Certified.{checked_put, is_checked}
use Rattle.cm_cli.proofs.checking.put_check.Goals as goal
use Rattle.cm_cli.specs.Checking.{checked_of}
use Rattle.cm_cli.specs.Put.{IsPut}
use Rattle.cm_declared.specs.World.{world_of}
use Rattle.cm_machine.specs.declared.machine.Machine.{Machine}
use Rattle.cm_state.specs.Right.{right_of}
use Rattle.model_cert.specs.Document.{certificate}
use Rattle.model_cred.specs.Space.{Spaces}
use Rattle.model_report.specs.Answer.{checked_report}

pub returns-in-Ok-clause-report : goal.returns-in-Ok-clause-report
returns-in-Ok-clause-report c = λ checked gives.
    let w = world_of c.args.w.now in
    let s = c.args.m.now.state in
    let members = c.args.question.now.members.items in
    let right = right_of c.args.question.now.right in
    let spaces = ap (λ (m : Machine). m.state.spaces) c.m.view_is in
    let reads : certificate (length s.spaces) c.args.bytes.now ≡ Ok c.in-Ok.bounds
    = subst (λ (here : Spaces). certificate (length here) c.args.bytes.now ≡ Ok c.in-Ok.bounds) spaces
    (rw c.count.ensures at c.in-Ok.ensures.read) in
    let found = rw c.deref.ensures.value at c.check-checked.ensures in
    let is = is_checked w s members right c.in-Ok.bounds c.check-checked.result found.not_start found.not_closed
    found.meets found.holds in
    let put = subst (λ (here : Spaces). IfOk c.put_checked.result
    (λ st. IsPut (checked_report w here (checked_of c.check-checked.result))
    c.args.text.now.items c.put_checked.new.text.items st)) spaces c.put_checked.ensures.report in
    checked_put c.put_checked.result w s members right c.in-Ok.bounds c.check-checked.result checked
    (certificate (length s.spaces) c.args.bytes.now)
    c.args.text.now.items c.put_checked.new.text.items reads is (gives c.in-Ok.bounds reads) put
