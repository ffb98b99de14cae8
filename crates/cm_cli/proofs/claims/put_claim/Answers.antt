use Rattle.std.proofs.Common.{◌∙◌, ℕ, Err, IfSome, Ok, ap, subst}
use Rattle.std.proofs.lemmas.Option.{IfSome_then}
use Rattle.std.proofs.lemmas.Result.{err_from_is_err_and}
use Rattle.cm_base.specs.declared.limited.Limited.{Limited}
use Rattle.cm_cli.proofs.Asked.{refused_put, refused_so}
use Rattle.cm_cli.proofs.Claiming.{claim_past, claim_put, unread_put}
use Rattle.cm_cli.proofs.FileReads.{claim_file}
use Rattle.cm_cli.proofs.claims.put_claim.Goals as goal
use Rattle.cm_cli.specs.Asking.{refusal_report}
use Rattle.cm_cli.specs.Query.{limit_of, query_view, task_by}
use Rattle.cm_cli.specs.Reading.{IsFileRead}
use Rattle.cm_cli.specs.declared.reading.Unread.{Unread}
use Rattle.cm_declared.specs.World.{world_of}
use Rattle.cm_io.specs.Shelf.{bytes_at}
use Rattle.cm_replay.proofs.Held.{always}
use Rattle.model_report.specs.Answer.{query_answer}

-- the query is refused
pub returns-in-Err-clause-report : goal.returns-in-Err-clause-report
returns-in-Err-clause-report g c =
    let q = query_view c.args.claim.query in
    always (g.H.Shelf.held c.args.shelf.now) (λ files j gives.
    refused_put {E = ℕ} (Ok c.in_ok-put_refusal-in-Err.field-0) (refusal_report c.in-Err.why) _ c.args.text.now.items
    c.put_refusal.new.text.items c.in_ok-put_refusal-in-Err.ensures.report
    (refused_so (refusal_report c.in-Err.why) _ c.in-Err.ensures.refused _
    (λ r is. is (task_by c.args.claim.kind q (bytes_at files c.args.claim.file.now)) j)))

-- the file isn't read
pub returns-in-Err-read_file-clause-report : goal.returns-in-Err-read_file-clause-report
returns-in-Err-read_file-clause-report g c =
    let q = query_view c.args.claim.query in
    let w = world_of c.args.w.now in
    let s = c.args.machine.state in
    let read = subst (λ (l : Limited). IfSome (g.H.Shelf.held c.args.shelf.now)
    (λ files. IsFileRead l (Err c.in-Err-read_file.why) (bytes_at files c.args.claim.file.now)))
    c.limit.ensures c.in-Err-read_file.ensures.read in
    IfSome_then (g.H.Shelf.held c.args.shelf.now) read (λ files why j gives.
    unread_put c.put_unread.result c.in-Err-read_file.why (limit_of c.args.claim.kind)
    (bytes_at files c.args.claim.file.now) c.args.text.now.items
    c.put_unread.new.text.items (query_answer
    (task_by c.args.claim.kind q (bytes_at files c.args.claim.file.now)) j w s q)
    c.put_unread.ensures.past c.put_unread.ensures.told why
    (claim_past q w s c.in-Ok.question c.in-Ok.ensures.asked c.args.claim.kind
    (bytes_at files c.args.claim.file.now) j))

pub returns-in-Err-read_file-clause-files : goal.returns-in-Err-read_file-clause-files
returns-in-Err-read_file-clause-files g c =
    claim_file _ _ c.args.claim.file.now _ _ _ _ c.limit.ensures c.in-Err-read_file.ensures.file
    (λ is. c.put_unread.ensures.fault.1 (cc)) (λ is. ap (λ (e : Unread). Err e) (c.put_unread.ensures.fault.0 is))

-- or it is
pub returns-in_ok-put_claimed-in-Ok-read_file-clause-report : goal.returns-in_ok-put_claimed-in-Ok-read_file-clause-report
returns-in_ok-put_claimed-in-Ok-read_file-clause-report g c =
    let q = query_view c.args.claim.query in
    IfSome_then (g.H.Shelf.held c.args.shelf.now) c.in-Ok-read_file.ensures.read (λ files read j gives.
    claim_put q (world_of c.args.w.now) c.args.machine.state c.in-Ok.question c.in-Ok.ensures.asked c.args.claim.kind
    c.deref.result.now
    (bytes_at files c.args.claim.file.now) j c.args.text.now.items c.put_claimed.new.text.items
    c.in_ok-put_claimed-in-Ok-read_file.field-0
    (c.deref.ensures.value ∙ read.1) gives
    (c.in_ok-put_claimed-in-Ok-read_file.ensures.report q c.in-Ok.ensures.asked j))

pub returns-in_ok-put_claimed-in-Ok-read_file-clause-files : goal.returns-in_ok-put_claimed-in-Ok-read_file-clause-files
returns-in_ok-put_claimed-in-Ok-read_file-clause-files g c =
    claim_file _ _ c.args.claim.file.now _ _ _ _ c.limit.ensures c.in-Ok-read_file.ensures.file (λ is. absurd (cc))
    (λ is. absurd (cc))

pub returns-in_err-put_claimed-in-Ok-read_file-clause-files : goal.returns-in_err-put_claimed-in-Ok-read_file-clause-files
returns-in_err-put_claimed-in-Ok-read_file-clause-files g c =
    let p = err_from_is_err_and c.from_residual-in_err-put_claimed-in-Ok-read_file.result
    c.from_residual-in_err-put_claimed-in-Ok-read_file.ensures.1 in
    rw (p.1, p.2) (claim_file _ _ c.args.claim.file.now _ _ _ _ c.limit.ensures c.in-Ok-read_file.ensures.file
    (λ is. absurd (cc)) (λ is. absurd (cc)))
