use Rattle.std.proofs.Common.{ap, refl, ◌∙◌}
use Rattle.cm_confirm.proofs.Ascending.{found_says, search_finds}
use Rattle.cm_confirm.proofs.members.Members.has.Goals as goal
use Rattle.model_run.specs.Later.{is_member}

pub returns : goal.returns
returns c =
    let pids = c.self.inside.pids.items in
    let position = rw c.deref.ensures.value at c.binary_search.ensures.position in
    let finds = search_finds pids c.args.pid c.binary_search.result c.binary_search.result refl c.self.invariant position in
    c.is_ok.ensures.value ∙ found_says pids c.args.pid c.binary_search.result finds ∙ ap (λ ps. is_member ps c.args.pid) c.self.view_is
