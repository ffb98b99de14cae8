use Rattle.cm_audit.proofs.Clauses as clauses
use Rattle.cm_audit.proofs.auditing.audit.Goals as goal
use Rattle.cm_state.specs.Right.{right_of}
use Rattle.cm_declared.specs.World.{world_of}
use Rattle.model_box.proofs.Worlds.{files_fit}
use Rattle.model_plans.proofs.Holders.{family_ascends}
use Rattle.model_plans.specs.Firsts.{FamilyAscends}
use Rattle.model_run.specs.Family.{family}

pub returns-clause-no : goal.returns-clause-no
returns-clause-no c =
    let is = rw (c.in_ok-question.ensures.right, c.in_ok-question.ensures.members) at c.in_ok-judge.ensures in
    clauses.no (world_of c.args.w.now) c.args.m.now.state (family c.args.m.now.state c.args.root) (right_of c.args.right.now) _ is

pub returns-clause-run : goal.returns-clause-run
unfolding FamilyAscends
returns-clause-run c =
    let is = rw (c.in_ok-question.ensures.right, c.in_ok-question.ensures.members) at c.in_ok-judge.ensures in
    clauses.run (world_of c.args.w.now) c.args.m.now.state (family c.args.m.now.state c.args.root) (right_of c.args.right.now) _ is
    (family_ascends c.args.m.now.state c.args.root c.see_state.ensures.ascends)

pub returns-clause-never_held : goal.returns-clause-never_held
returns-clause-never_held c =
    let w = world_of c.args.w.now in
    let s = c.args.m.now.state in
    let is = rw (c.in_ok-question.ensures.right, c.in_ok-question.ensures.members) at c.in_ok-judge.ensures in
    clauses.never_held w s (family s c.args.root) (right_of c.args.right.now) c.see_state.ensures
    (files_fit w.files s.spaces c.see_files.ensures c.requires.mounts) c.in_ok-question.ensures.stands _ is

pub returns-clause-yes : goal.returns-clause-yes
returns-clause-yes c =
    let w = world_of c.args.w.now in
    let s = c.args.m.now.state in
    let is = rw (c.in_ok-question.ensures.right, c.in_ok-question.ensures.members) at c.in_ok-judge.ensures in
    clauses.yes w s (family s c.args.root) (right_of c.args.right.now) c.see_state.ensures
    (files_fit w.files s.spaces c.see_files.ensures c.requires.mounts) c.in_ok-question.ensures.stands _ is

pub returns-clause-undecided : goal.returns-clause-undecided
returns-clause-undecided c =
    let w = world_of c.args.w.now in
    let s = c.args.m.now.state in
    let is = rw (c.in_ok-question.ensures.right, c.in_ok-question.ensures.members) at c.in_ok-judge.ensures in
    clauses.undecided w s (family s c.args.root) (right_of c.args.right.now) c.see_state.ensures
    (files_fit w.files s.spaces c.see_files.ensures c.requires.mounts) c.in_ok-question.ensures.stands _ is

pub returns-clause-settled : goal.returns-clause-settled
returns-clause-settled c =
    let w = world_of c.args.w.now in
    let s = c.args.m.now.state in
    let is = rw (c.in_ok-question.ensures.right, c.in_ok-question.ensures.members) at c.in_ok-judge.ensures in
    clauses.settled w s (family s c.args.root) (right_of c.args.right.now) c.see_state.ensures
    (files_fit w.files s.spaces c.see_files.ensures c.requires.mounts) c.in_ok-question.ensures.stands _ is

pub returns-clause-below : goal.returns-clause-below
returns-clause-below c =
    let w = world_of c.args.w.now in
    let s = c.args.m.now.state in
    let is = rw (c.in_ok-question.ensures.right, c.in_ok-question.ensures.members) at c.in_ok-judge.ensures in
    clauses.below w s (family s c.args.root) (right_of c.args.right.now) c.see_state.ensures
    (files_fit w.files s.spaces c.see_files.ensures c.requires.mounts) c.in_ok-question.ensures.stands _ is
