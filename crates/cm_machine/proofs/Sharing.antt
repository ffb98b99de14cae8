-- What the filters of several processes have in common, one process after the other.
use Rattle.std.proofs.Common.{◌≡◌, ℕ, ◌+◌, ◌<◌, ◌≤◌, List, [], ◌∷◌, drop, get_or, length, refl, sym, ap, ◌∙◌}
use Rattle.std.proofs.lemmas.List.{drop_all, drop_more}
use Rattle.std.proofs.lemmas.Nat.{and_assoc, and_comm}
use Rattle.cm_filter.specs.Filters.{Filter, both, every_kind}
use Rattle.model_cred.specs.Process.{State}
use Rattle.model_run.specs.Own.{filter_of, shared_filter}

-- nothing but kinds is shared
pub all_share : (s : State) (members : List ℕ) → both every_kind (shared_filter s members) ≡ shared_filter s members
all_share s [] = refl
all_share s (m ∷ members) =
    let rest : Filter = shared_filter s members in
    sym (and_assoc rest every_kind (filter_of s m))
    ∙ ap (λ (f : Filter). both f rest) (and_comm every_kind (filter_of s m))
    ∙ and_assoc rest (filter_of s m) every_kind
    ∙ ap (both (filter_of s m)) (all_share s members)

-- one process more
pub share_next : (s : State) (members : List ℕ) (i pid : ℕ) (shared : Filter) → i < length members → pid ≡ get_or members i pid
    → both (both shared (filter_of s pid)) (shared_filter s (drop (i + 1) members))
    ≡ both shared (shared_filter s (drop i members))
share_next s members i pid shared low is =
    let left : drop i members ≡ pid ∷ drop (i + 1) members
    = drop_more members i pid low ∙ ap (λ (head : ℕ). head ∷ drop (i + 1) members) (sym is) in
    and_assoc (shared_filter s (drop (i + 1) members)) shared (filter_of s pid)
    ∙ ap (λ (pids : List ℕ). both shared (shared_filter s pids)) (sym left)

-- and what is shared then are kinds still
pub still_kinds : (shared f : Filter) → both shared every_kind ≡ shared → both (both shared f) every_kind ≡ both shared f
still_kinds shared f is =
    and_assoc every_kind shared f
    ∙ ap (both shared) (and_comm f every_kind)
    ∙ sym (and_assoc f shared every_kind)
    ∙ ap (λ (kinds : Filter). both kinds f) is

-- after all processes it is what all share
pub shared_all : (s : State) (members : List ℕ) (i : ℕ) (shared : Filter) → length members ≤ i → both shared every_kind ≡ shared
    → both shared (shared_filter s (drop i members)) ≡ shared_filter s members → shared ≡ shared_filter s members
shared_all s members i shared past kinds all =
    sym kinds ∙ ap (λ (left : List ℕ). both shared (shared_filter s left)) (sym (drop_all i members past)) ∙ all
