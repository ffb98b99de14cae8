use Rattle.std.proofs.Common.{◌≡◌, ◌∙◌}
use Rattle.cm_credentials.proofs.two_shown.TwoShown.put.Goals as goal

pub returns : goal.returns
returns g c =
    let same : c.put-2.new.text.items ≡ c.args.text.now.items =
    c.in_ok-put-2.ensures.other c.if-branch-2.false ∙ c.in_ok-put.ensures.other c.if-branch.false in
    rw same at c.write.ensures
