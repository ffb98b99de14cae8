use Rattle.std.proofs.Common.{refl}
use Rattle.cm_cli.proofs.Auditing.{undecided_put}
use Rattle.cm_cli.proofs.answer.put_told.Goals as goal
use Rattle.cm_declared.specs.World.{world_of}
use Rattle.cm_maker.specs.Sweeping.{blame_told}

pub returns-in_ok-put_yes-in-Yes-clause-report : goal.returns-in_ok-put_yes-in-Yes-clause-report
returns-in_ok-put_yes-in-Yes-clause-report c = rw c.in-Yes.is
    (record { status = refl; text = c.in_ok-put_yes-in-Yes.ensures })

pub returns-in_ok-put_run-in-No-clause-report : goal.returns-in_ok-put_run-in-No-clause-report
returns-in_ok-put_run-in-No-clause-report c = rw c.in-No.is
    (record { status = refl; text = rw c.deref.ensures.value at c.in_ok-put_run-in-No.ensures })

pub returns-in_ok-put_certificate-in-Undecided-clause-report : goal.returns-in_ok-put_certificate-in-Undecided-clause-report
returns-in_ok-put_certificate-in-Undecided-clause-report c =
    rw c.in-Undecided.is (record {
      status = refl;
      text = undecided_put (world_of c.args.w.now) c.args.spaces.now
          (blame_told c.in-Undecided.rule c.in-Undecided.row) _ _ _ _
          c.in_ok-put_undecided-in-Undecided.ensures c.in_ok-put_certificate-in-Undecided.ensures;
    })
