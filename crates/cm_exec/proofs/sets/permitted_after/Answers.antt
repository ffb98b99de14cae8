use Rattle.std.proofs.Common.{◌≡◌, true, ap, subst, sym}
use Rattle.cm_base.specs.CapSet.{is_within}
use Rattle.cm_exec.proofs.AmbientKept.{within_gained, within_cut}
use Rattle.cm_exec.proofs.sets.permitted_after.Goals as goal
use Rattle.model_cred.specs.Credential.{Credential}

pub returns-then-c-clause-ambient : goal.returns-then-c-clause-ambient
returns-then-c-clause-ambient c =
    let within : is_within c.args.ambient c.c.inside.prm ≡ true =
    subst (λ p. is_within c.args.ambient p ≡ true) (sym (ap (λ (d : Credential). d.permitted) c.c.view_is)) c.requires in
    within_cut c.args.ambient _ _ c.c.inside.prm _ c.meet-then-c.ensures c.union-gained.ensures within

pub returns-else-c-clause-ambient : goal.returns-else-c-clause-ambient
returns-else-c-clause-ambient c = within_gained c.args.ambient _ _ c.union-gained.ensures
