use Rattle.std.proofs.Common.{sym, ap, subst, ◌∙◌}
use Rattle.std.proofs.lemmas.Bool.{not-true}
use Rattle.cm_plans.proofs.Refusing.{raise_stays, zero_stays, sought_stays, group_stays}
use Rattle.cm_plans.proofs.barred.is_barred_at.Goals as goal
use Rattle.cm_plans.specs.Becomes.{StaysAt, may_be}
use Rattle.cm_plans.specs.Moves.{setting, move_of}
use Rattle.cm_plans.specs.declared.moves.Move.{Move}
use Rattle.cm_plans.specs.declared.ways.Way.{Way}
use Rattle.model_cred.specs.Credential.{Credential}
use Rattle.model_cred.specs.Space.{Space}
use Rattle.model_plans.specs.Move.{Seat}
use Rattle.model_rules.specs.SetId.{has_setuid, has_setgid}
use Rattle.model_rules.specs.Zero.{zero_of}

pub returns-in-Raise : goal.returns-in-Raise
returns-in-Raise c is =
    let q = setting c.args.q.now in
    let seat : Seat = record { space = c.args.at.0; cred = c.args.c.now } in
    subst (λ (m : Move). StaysAt q seat (move_of m)) (sym c.in-Raise.is) (raise_stays q seat (sym c.is_raised.ensures ∙ is))

pub returns-in-BecomeZero : goal.returns-in-BecomeZero
returns-in-BecomeZero c is =
    let q = setting c.args.q.now in
    let cred : Credential = c.args.c.now in
    let seat : Seat = record { space = c.args.at.0; cred = cred } in
    subst (λ (m : Move). StaysAt q seat (move_of m)) (sym c.in-BecomeZero.is) (zero_stays q seat c.requires.ready.keeps
    (ap (λ (s : Space). may_be (has_setuid cred) cred.uid (zero_of s)) (sym c.standing.ensures)
    ∙ ap (may_be (has_setuid cred) cred.uid) (sym c.zero.ensures.image) ∙ sym c.may_be_user.ensures ∙ not-true _ is))

pub returns-in-BecomeSought : goal.returns-in-BecomeSought
returns-in-BecomeSought c is =
    let q = setting c.args.q.now in
    let cred : Credential = c.args.c.now in
    let seat : Seat = record { space = c.args.at.0; cred = cred } in
    subst (λ (m : Move). StaysAt q seat (move_of m)) (sym c.in-BecomeSought.is) (sought_stays q seat c.requires.ready.keeps
    (ap (λ (way : Way). may_be (has_setuid cred) cred.uid way.sought) (sym c.way.ensures)
    ∙ sym c.may_be_user-in-BecomeSought.ensures ∙ not-true _ is))

pub returns-in-BecomeGroup : goal.returns-in-BecomeGroup
returns-in-BecomeGroup c is =
    let q = setting c.args.q.now in
    let cred : Credential = c.args.c.now in
    let seat : Seat = record { space = c.args.at.0; cred = cred } in
    subst (λ (m : Move). StaysAt q seat (move_of m)) (sym c.in-BecomeGroup.is) (group_stays q seat c.requires.ready.keeps
    (ap (may_be (has_setgid cred) cred.gid) (sym c.sought_group.ensures) ∙ sym c.may_be_group.ensures ∙ not-true _ is))
