use Rattle.std.proofs.Common.{ap, not, subst, ◌∙◌, ℕ, List}
use Rattle.model_cred.specs.Credential.{Credential, FourIds}
use Rattle.cm_idset.specs.Held.{Held}
use Rattle.cm_sets.specs.Sets.{AreSame}
use Rattle.model_rules.specs.Securebits.{has_flag, lock_of, noroot}
use Rattle.cm_box.proofs.MemberIds.{Among, OneOfThree, cred_row, flag_told, one_at}
use Rattle.cm_box.proofs.start.cred_row.Goals as goal

pub returns : goal.returns
returns c =
    cred_row _ c.args.cred.now (record {
      uids = subst (λ (ids : FourIds). AreSame (Held c.in_ok-u.u) (OneOfThree ids)) c.user_ids.ensures
          c.in_ok-u.ensures;
      effective_uids = one_at c.in_ok-eu.eu c.number.result c.args.cred.now.uid.effective
          (c.number.ensures.value ∙ ap (λ (m : Credential). m.uid.effective) c.cred.view_is) c.in_ok-eu.ensures.members;
      fs_uids = one_at c.in_ok-fu.fu c.number-2.result c.args.cred.now.uid.fs
          (c.number-2.ensures.value ∙ ap (λ (m : Credential). m.uid.fs) c.cred.view_is) c.in_ok-fu.ensures.members;
      gids = subst (λ (ids : FourIds). AreSame (Held c.in_ok-g.g) (OneOfThree ids)) c.group_ids.ensures
          c.in_ok-g.ensures;
      effective_gids = one_at c.in_ok-eg.eg c.number-3.result c.args.cred.now.gid.effective
          (c.number-3.ensures.value ∙ ap (λ (m : Credential). m.gid.effective) c.cred.view_is) c.in_ok-eg.ensures.members;
      fs_gids = one_at c.in_ok-fg.fg c.number-4.result c.args.cred.now.gid.fs
          (c.number-4.ensures.value ∙ ap (λ (m : Credential). m.gid.fs) c.cred.view_is) c.in_ok-fg.ensures.members;
      groups = subst (λ (list : List ℕ). AreSame (Held c.in_ok-s.s) (Among list))
          (c.items.ensures ∙ ap (λ (m : Credential). m.groups) c.cred.view_is) c.in_ok-s.ensures;
      mapped_uids = c.empty.ensures;
      mapped_gids = c.empty-2.ensures;
      permitted = ap (λ (m : Credential). m.permitted) c.cred.view_is;
      inheritable = ap (λ (m : Credential). m.inheritable) c.cred.view_is;
      bounding = ap (λ (m : Credential). m.bounding) c.cred.view_is;
      no_new_privs = ap (λ (m : Credential). m.no_new_privs) c.cred.view_is;
      root_counts = ap not (flag_told _ _ c.has.ensures) ∙ ap (λ (m : Credential). not (has_flag m noroot)) c.cred.view_is;
      lock_clear = ap not (flag_told _ _ c.has-2.ensures) ∙ ap (λ (m : Credential). not (has_flag m (lock_of noroot)))
          c.cred.view_is;
    })
