use Rattle.std.proofs.Common.{◌≡◌, ℕ, List, filter, ap, subst, sym, ◌∙◌}
use Rattle.cm_confirm.proofs.Ascending.{ascends_there, left_is, none_is, none_leaves, other_than, search_finds}
use Rattle.cm_confirm.proofs.members.Members.leave.Goals as goal
use Rattle.model_plans.proofs.Holders.{filter_ascends}
use Rattle.model_plans.specs.Firsts.{PidsAscend}
use Rattle.model_run.specs.Later.{is_member}

pub invariant_of-self : goal.invariant_of-self
invariant_of-self c =
    let pids = c.self.inside.pids.items in
    let position = rw c.deref.ensures.value at c.binary_search.ensures.position in
    let found = search_finds pids c.args.pid _ _ c.in-Ok.is c.self.invariant position in
    let rest = c.remove.ensures.items ∙ left_is pids c.in-Ok.at c.args.pid (ascends_there pids c.self.invariant) found.0 found.1 in
    ∣ subst PidsAscend (sym rest) (filter_ascends (other_than c.args.pid) pids (ascends_there pids c.self.invariant)) ∣₁

pub returns-in-Ok : goal.returns-in-Ok
returns-in-Ok c =
    let pids = c.self.inside.pids.items in
    let position = rw c.deref.ensures.value at c.binary_search.ensures.position in
    let found = search_finds pids c.args.pid _ _ c.in-Ok.is c.self.invariant position in
    let rest = c.remove.ensures.items ∙ left_is pids c.in-Ok.at c.args.pid (ascends_there pids c.self.invariant) found.0 found.1 in
    λ other. ap (λ (ps : List ℕ). is_member ps other) (rest ∙ ap (λ (ps : List ℕ). filter (other_than c.args.pid) ps) c.self.view_is)

pub returns-in_default : goal.returns-in_default
returns-in_default c =
    let pids = c.self.inside.pids.items in
    let position = rw c.deref.ensures.value at c.binary_search.ensures.position in
    let found = search_finds pids c.args.pid _ _ c.in_default.is c.self.invariant position in
    let same = none_leaves pids c.args.pid (none_is pids c.args.pid c.in_default.field-0 found) in
    λ other. ap (λ (ps : List ℕ). is_member ps other) (sym (subst (λ (ps : List ℕ). filter (other_than c.args.pid) ps ≡ ps) c.self.view_is same))
