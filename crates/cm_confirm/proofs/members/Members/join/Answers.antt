use Rattle.std.proofs.Common.{◌≡◌, ◌∷◌, ℕ, List, Result, ap, refl, subst, sym, ◌∙◌}
use Rattle.std.specs.Result.{is_ok}
use Rattle.cm_confirm.proofs.Ascending.{ascends_there, found_says, joined_again, joined_ascend, joined_members, search_finds}
use Rattle.cm_confirm.proofs.members.Members.join.Goals as goal
use Rattle.model_plans.specs.Firsts.{PidsAscend}
use Rattle.model_run.specs.Later.{is_member}

pub invariant_of-self-in-Err : goal.invariant_of-self-in-Err
invariant_of-self-in-Err c =
    let pids = c.self.inside.pids.items in
    let position = rw c.deref.ensures.value at c.binary_search.ensures.position in
    let found = search_finds pids c.args.pid _ _ c.in-Err.is c.self.invariant position in
    ∣ subst PidsAscend (sym c.in_ok-insert-in-Err.ensures.items) (joined_ascend pids c.in-Err.at c.args.pid
    (ascends_there pids c.self.invariant) found) ∣₁

pub returns-in-Ok : goal.returns-in-Ok
returns-in-Ok c =
    let pids = c.self.inside.pids.items in
    let position = rw c.deref.ensures.value at c.binary_search.ensures.position in
    let finds = search_finds pids c.args.pid c.binary_search.result c.binary_search.result refl c.self.invariant position in
    let is = sym (found_says pids c.args.pid c.binary_search.result finds) ∙ ap (λ (r : Result ℕ ℕ). is_ok r) c.in-Ok.is in
    λ other. subst (λ (ps : List ℕ). is_member ps other ≡ is_member (c.args.pid ∷ ps) other) c.self.view_is
    (joined_again pids c.args.pid other is)

pub returns-in_ok-insert-in-Err : goal.returns-in_ok-insert-in-Err
returns-in_ok-insert-in-Err c =
    let pids = c.self.inside.pids.items in
    let position = rw c.deref.ensures.value at c.binary_search.ensures.position in
    let found = search_finds pids c.args.pid _ _ c.in-Err.is c.self.invariant position in
    λ other. ap (λ (ps : List ℕ). is_member ps other) c.in_ok-insert-in-Err.ensures.items
    ∙ joined_members pids c.in-Err.at c.args.pid other found.0
    ∙ ap (λ (ps : List ℕ). is_member (c.args.pid ∷ ps) other) c.self.view_is
