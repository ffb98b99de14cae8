use Rattle.std.proofs.Common.{◌≡◌, sym, ◌∙◌, ap, List, ℕ}
use Rattle.cm_base.specs.declared.res.Res.{Res}
use Rattle.cm_machine.proofs.Groups.{moved_cred, regrouped}
use Rattle.cm_machine.proofs.ruling.ask_groups.Goals as goal
use Rattle.cm_machine.specs.Asking.{groups_change}
use Rattle.model_cred.specs.Credential.{Credential}

pub returns-in-Ok-clause-cred : goal.returns-in-Ok-clause-cred
returns-in-Ok-clause-cred c =
    let old : c.replace-old.result ≡ c.args.c.now.groups = c.replace-old.ensures.value ∙ ap (λ (k : Credential). k.groups) c.c.view_is in
    moved_cred c.args.s.now c.args.c.now _ c.set_groups.new.c c.regrouped.new.c c.replace-old.new.dest c.args.ids.now c.in-Ok.res (record {
      out = ap (λ (k : Credential). regrouped k c.replace-old.new.dest) c.c.view_is;
      answers = c.in-Ok.ensures.res;
      leaves = c.in-Ok.ensures.cred;
      done = c.regrouped.ensures.done;
      back = λ other. c.regrouped.ensures.back other ∙ ap (λ (groups : List ℕ). regrouped c.set_groups.new.c groups) old;
    })

pub returns-in-Ok-clause-change : goal.returns-in-Ok-clause-change
returns-in-Ok-clause-change c =
    let old : c.replace-old.result ≡ c.args.c.now.groups = c.replace-old.ensures.value ∙ ap (λ (k : Credential). k.groups) c.c.view_is in
    c.regrouped.ensures.change ∙ ap (groups_change c.in-Ok.res) old ∙ ap (λ (r : Res). groups_change r c.args.c.now.groups) (sym c.regrouped.ensures.res)
