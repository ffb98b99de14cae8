use Rattle.std.proofs.Common.{◌≡◌, ◌∙◌, None, ap}
use Rattle.cm_credentials.proofs.LineText.{line_put}
use Rattle.cm_credentials.proofs.kept.KeptLine.put.Goals as goal
use Rattle.cm_filter.specs.Filters.{no_filter}
use Rattle.model_cred.specs.Credential.{Credential}

pub returns-clause-text : goal.returns-clause-text
returns-clause-text c =
    let groups : c.items.result.now ≡ c.args.cred.now.groups = c.items.ensures ∙ ap (λ (d : Credential). d.groups) c.cred.view_is in
    line_put _ c.args.w.now.names (record { pid = c.args.pid; forebear = None; space = c.args.space.0; cred = c.args.cred.now; filter = no_filter })
    _ _ _ _ _ _ _ _ _ c.in_ok-put.ensures.text c.in_ok-put-2.ensures c.in_ok-put-3.ensures c.in_ok-put-4.ensures.text c.put-5.ensures
    c.user_ids-ids.ensures c.group_ids-ids.ensures groups
