use Rattle.std.proofs.Common.{[], refl, sym, append-nil}
use Rattle.std.proofs.lemmas.Result.{err_from_is_err_and}
use Rattle.std.proofs.lemmas.Option.{IfSome_then}
use Rattle.cm_cli.proofs.FileReads.{none_of}
use Rattle.cm_cli.proofs.Auditing.{claim_put}
use Rattle.cm_cli.proofs.answer.put_answer.Goals as goal
use Rattle.cm_cli.specs.Query.{query_view}
use Rattle.cm_declared.specs.World.{world_of}
use Rattle.cm_io.specs.Shelf.{bytes_at}
use Rattle.cm_replay.proofs.Held.{always}

pub returns-in-Nothing : goal.returns-in-Nothing
returns-in-Nothing g c =
    rw c.in-Nothing.is (record {
      report = always (g.H.Shelf.held c.args.shelf.now)
          (λ files j gives. record { status = refl; text = sym (append-nil _) });
      answers = tt;
      not_write_fault = λ is. cc;
      stands = λ is. absurd (cc);
      waits = λ _ n. refl;
      files = none_of [] _ _ (λ is. cc) tt;
    })

pub returns-in_ok-put_verdict-in-Judge : goal.returns-in_ok-put_verdict-in-Judge
returns-in_ok-put_verdict-in-Judge g c =
    rw c.in-Judge.is (record {
      report = always (g.H.Shelf.held c.args.shelf.now)
          (λ files j gives. c.in_ok-put_verdict-in-Judge.ensures.report j gives);
      answers = c.in_ok-put_verdict-in-Judge.ensures.answers;
      not_write_fault = λ is. cc;
      stands = λ is. absurd (cc);
      waits = λ _ n. refl;
      files = none_of [] _ _ (λ is. cc) tt;
    })

pub returns-in_err-put_verdict-in-Judge : goal.returns-in_err-put_verdict-in-Judge
returns-in_err-put_verdict-in-Judge g c =
    let p = err_from_is_err_and c.from_residual.result c.from_residual.ensures.1 in
    rw (c.in-Judge.is, p.1, p.2) (record {
      report = always (g.H.Shelf.held c.args.shelf.now) (λ files j gives. tt);
      answers = tt;
      not_write_fault = λ is. cc;
      stands = λ is. absurd (cc);
      waits = λ _ n. refl;
      files = none_of [] _ _ (λ is. cc) tt;
    })

pub returns-in-Claims : goal.returns-in-Claims
returns-in-Claims g c =
    let claim = c.in-Claims.claim in
    let w = world_of c.args.w.now in
    rw c.in-Claims.is (record {
      report = IfSome_then (g.H.Shelf.held c.args.shelf.now) c.put_claim.ensures.report (λ files put j gives.
          claim_put claim.kind (query_view claim.query)
          (bytes_at files claim.file.now) j w c.args.machine.state c.put_claim.result _ _ (put j gives));
      answers = c.put_claim.ensures.answers;
      not_write_fault = c.put_claim.ensures.not_write_fault;
      stands = c.put_claim.ensures.stands;
      waits = c.put_claim.ensures.waits;
      files = c.put_claim.ensures.files;
    })
